-- What the code's enums stand for.
pub mod Told
pub mod Each
