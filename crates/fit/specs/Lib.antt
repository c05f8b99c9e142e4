-- What the walk of a forest by next sets says, and the answers' names.
pub mod Fitting
pub mod Answers
