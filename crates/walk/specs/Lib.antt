-- The purse, the scope and Shape's test of it, the loop of for and iter, and what an answer of a walk has to be.
pub mod Purse
pub mod Concern
pub mod Scope
pub mod Fits
pub mod Meets
pub mod Loop
