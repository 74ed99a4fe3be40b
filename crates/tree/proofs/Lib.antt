pub mod Nodes
pub mod Beside
pub mod Climbing
pub mod Meeting
pub mod Down
