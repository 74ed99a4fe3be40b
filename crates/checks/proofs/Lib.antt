pub mod Balance
pub mod Last
pub mod Through
pub mod Says
