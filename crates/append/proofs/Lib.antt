pub mod Appending
pub mod Drawers
