-- What the functions over lent rows ask and give, and the laws of such rows.
pub mod Rows
pub mod Table
pub mod Asks
pub mod Each
