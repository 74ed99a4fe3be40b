pub mod Made
pub mod Windows
