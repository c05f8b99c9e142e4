-- Which rows of a sheet are declared types or contents, and flags that say so.
pub mod Roots
