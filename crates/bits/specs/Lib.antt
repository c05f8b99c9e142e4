-- Binary digits, the sets of places that they make up, and counts of them.
pub mod Digits
pub mod Sets
pub mod Counts
