-- Inclusion of types: the answer, what settles it for (), text and bool, and what needs no table of the found type.
pub mod Answers
pub mod Sums
pub mod Plain
pub mod Short
-- Whether a type written out lies within a type of the sheet: pairs of places that are reached, the rounds of the walk, and what they settle.
pub mod Match
pub mod Matched
pub mod Run
pub mod Lies
pub mod Steps
