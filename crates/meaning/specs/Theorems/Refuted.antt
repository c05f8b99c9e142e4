-- Document 01, "How much is promised" and "Slips to shut out": whatever meets a call's promise is none of the wrong programs named there, nor of those of docs/WRONG-PROGRAMS.md.
-- Each theorem takes any function of a call's inputs whose reply meets the promise on every input, and a wrong program as a property of such functions, and shows that it has it not.
-- A closed sheet is the witness: its reply is computed, and a second reply of the same call is equal to it (Single).
-- `tools/weaken` tries each the other way round: a promise weakened so that the wrong program meets it no longer gives the theorem.
pub mod Calls
pub mod Run
pub mod Check
pub mod Fit
pub mod Apply
pub mod Bundle
