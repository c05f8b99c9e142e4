-- What the layout of a sheet and the rows read by it stand for.
pub mod Whole
pub mod Laid
pub mod Counts
pub mod Table
pub mod Forms
