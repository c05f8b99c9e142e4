pub mod ByKind
pub mod Once
pub mod Pass
pub mod Said
pub mod Loops
