pub mod ShortestLaws
pub mod SearchLaws
pub mod LimitLaws
pub mod CutLaws
