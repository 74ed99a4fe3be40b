pub mod Numbers
pub mod Decoded
