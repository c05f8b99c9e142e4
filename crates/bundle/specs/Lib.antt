-- What the reader and the writer promise, what each answer of the reader says, and the round trip of the two.
pub mod Calls
pub mod Reads
pub mod RoundTrip
