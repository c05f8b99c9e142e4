-- A forest by its first tree, the rows that it is counted in, and the rows that it is written as.
pub mod Trees
pub mod Count
pub mod Replaced
pub mod Written
-- What becomes of a result.
pub mod Hands
