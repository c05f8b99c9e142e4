-- What a block says of itself, and stores in place.
pub mod Blocks
