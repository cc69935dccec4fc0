pub mod Half
pub mod Ends
pub mod SystemLaws
pub mod Ahead
pub mod AheadLaws
