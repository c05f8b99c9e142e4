pub mod Plain
pub mod Asked
