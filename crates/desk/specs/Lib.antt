pub mod Said
pub mod Load
pub mod Ends
pub mod Checking
pub mod Applying
