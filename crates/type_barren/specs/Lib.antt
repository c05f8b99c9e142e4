-- Flags, and the marking of names that have a forest.
pub mod Flags
pub mod Marks
