-- What stores of words leave in bytes, and what reads past the end give.
pub mod Puts
pub mod Reads
