pub mod Byte
pub mod Part
pub mod Between
