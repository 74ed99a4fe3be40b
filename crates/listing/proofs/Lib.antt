pub mod Digits
pub mod Eight
pub mod Turned
pub mod Parens
pub mod Onward
pub mod Writing
