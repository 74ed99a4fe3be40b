pub mod Fillers
pub mod Seek
pub mod Found
pub mod Seen
pub mod FromClosing
pub mod Answered
pub mod Says
