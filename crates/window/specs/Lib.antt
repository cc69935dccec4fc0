pub mod Lines
pub mod Window
pub mod Reports
pub mod RiseLaws
