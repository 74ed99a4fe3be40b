pub mod Lowest
pub mod Part
pub mod Quick
pub mod Stretch
