-- What a query asks and gives.
pub mod Ask
