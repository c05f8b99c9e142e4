-- The sheet's tables, made once.
pub mod Lent
-- The points of types; the type written out stands behind the sheet's rows, and its sets are moved up with it.
pub mod Points
pub mod Joined
pub mod Lifted
pub mod Sides
