pub mod Tree
pub mod Spine
pub mod Pushed
pub mod Ordered
pub mod Written
pub mod Parse
pub mod StandInTree
pub mod Agree
