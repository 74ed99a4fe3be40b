pub mod Building
pub mod Popping
pub mod Turning
pub mod Writing
