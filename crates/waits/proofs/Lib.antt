pub mod DueLaws
