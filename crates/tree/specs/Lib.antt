pub mod Tree
pub mod Keys
