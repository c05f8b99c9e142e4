-- One user for each row, ties point by point, and that the lowest of them is the sheet's.
pub mod Users
pub mod Points
pub mod Sound
