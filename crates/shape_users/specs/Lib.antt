-- What a tally of users holds.
pub mod Tally
