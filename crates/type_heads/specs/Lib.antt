-- Heads by number, the places of each head, and whether none has two.
pub mod Heads
pub mod Classes
pub mod Apart
-- The kin of places, and that it says which have one head.
pub mod Kin
pub mod Heading
