-- Document 01, section by section. What stands here is what a reader has to believe.
pub mod Column
pub mod Shape
pub mod Excess
pub mod StandIn
pub mod Bytes
pub mod Refusal
pub mod Order
pub mod Drawer
pub mod Listing
pub mod Summary
pub mod Window
