pub mod WriteRead
