-- The number that a C program gets for what an entry point says, and the contracts that speak through it.
pub mod Coded
pub mod Exports
pub mod Decoded
