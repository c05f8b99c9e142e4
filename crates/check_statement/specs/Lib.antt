-- How a check types statements, bodies and a whole script.
pub mod Typing
pub mod Calls
pub mod Bodies
