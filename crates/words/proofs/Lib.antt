pub mod Low
pub mod Loaded
pub mod Ones
