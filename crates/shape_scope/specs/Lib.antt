-- Scopes as words, their places, and what each row hands to its parts.
pub mod Scopes
pub mod Held
pub mod Places
pub mod Hands
