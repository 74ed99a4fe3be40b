-- `Builds` is the contract of `build`. The others are said between its parts, and no caller meets them.
pub mod Builds
pub mod Body
pub mod Stack
pub mod Writes
