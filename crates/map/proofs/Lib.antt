pub mod MapLaws
pub mod AcceptLaws
pub mod SpanLaws
pub mod LoadLaws
