pub mod Domain
pub mod HalfLaws
