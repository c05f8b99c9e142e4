-- The theorems: walks and figures, what passed by the rule before, replies and figures, soundness, steadiness, one result, and one for
-- every input, wrong programs refuted, round trips, and the worked examples.
pub mod Worked
pub mod ExactCheck
pub mod Before
pub mod Single
pub mod Asked
pub mod Answered
pub mod Refuted
pub mod ReadBack
pub mod ExactRun
pub mod Replies
pub mod Steady
pub mod Split
pub mod Desks
pub mod Trip
pub mod Places
pub mod Parts
pub mod Faults
pub mod Sound
pub mod Within
