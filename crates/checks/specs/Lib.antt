pub mod Inside
pub mod Record
