pub mod Shaped
pub mod Heads
pub mod Step
pub mod Walk
pub mod Whole
