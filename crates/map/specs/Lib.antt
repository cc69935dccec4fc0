pub mod Map
pub mod Format
pub mod Reading
pub mod Meaning
pub mod Spans
pub mod ReadingLaws
pub mod TextLaws
pub mod CutLaws
