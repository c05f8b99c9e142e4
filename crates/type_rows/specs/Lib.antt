-- Types as a check keeps them, and what its evaluators promise.
pub mod Grown
pub mod Finds
-- Types worked through part by part.
pub mod Parts
pub mod Both
pub mod Picked
-- What it is to write a type out, and the laws of the loop that does.
pub mod Writing
