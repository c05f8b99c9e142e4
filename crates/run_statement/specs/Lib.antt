-- What a statement asks and gives.
pub mod Edit
