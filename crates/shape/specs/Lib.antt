-- The tests that are made before the scope is judged.
pub mod Tables
