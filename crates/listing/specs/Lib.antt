pub mod Room
pub mod Bit
pub mod Text
pub mod Left
