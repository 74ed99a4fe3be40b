pub mod Fills
pub mod Laid
pub mod Reads
