pub mod Appends
pub mod Drawers
