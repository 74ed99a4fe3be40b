pub mod Cells
pub mod Row
pub mod Laws
pub mod Masks
