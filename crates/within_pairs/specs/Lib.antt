-- The pairs of places that one tree can reach.
pub mod Reach
-- Pending and done pairs, and what it is for two points to go together.
pub mod Queue
pub mod Meet
-- The two sides as the code lends them.
pub mod Sides
-- A row that says a label.
pub mod Said
