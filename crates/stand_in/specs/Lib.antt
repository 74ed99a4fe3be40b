pub mod StandsIn
pub mod Walk
