-- The tables of first and next sets, and how they are filled row by row.
pub mod Tables
pub mod Firsts
pub mod Behind
pub mod Sheets
