pub mod Stores
pub mod Found
pub mod Xor
