pub mod Rows
pub mod Scan
