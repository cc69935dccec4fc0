pub mod RunLaws
pub mod EdgeLaws
pub mod ByteLaws
