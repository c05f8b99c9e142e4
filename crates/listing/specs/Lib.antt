pub mod Lists
pub mod Adds
