pub mod Labels
pub mod Copies
pub mod Leaves
