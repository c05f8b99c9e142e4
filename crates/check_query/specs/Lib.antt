-- How a check types queries.
pub mod Infer
pub mod Questions
