pub mod Select
pub mod Search
