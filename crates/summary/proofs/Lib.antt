pub mod Sizes
pub mod Slots
pub mod Reading
pub mod Growing
pub mod Filled
