-- `desk::halted` meets its contract: the units are what the purse no longer holds.
use Rattle.std.proofs.Common.{refl, subst}
use Rattle.meaning.specs.Sheet.{script_of, sheet_of}
use Rattle.meaning.specs.Check.{check_walk}
use Rattle.type_rows.specs.Finds.{Halted}
use Rattle.desk.specs.Checking.{halt_fuel, halt_depth, halt_wide, halt_mismatch, halt_outside}
use Rattle.desk.proofs.halted.Goals as goal

pub returns-in-Fuel : goal.returns-in-Fuel
returns-in-Fuel c = λ s lent b e h. halt_fuel b e (subst (Halted (check_walk (script_of s)) s (sheet_of s).check_fuel) c.in-Fuel.is h) refl

pub returns-in-Depth : goal.returns-in-Depth
returns-in-Depth c = λ s lent b e h. halt_depth b e c.spent.ensures (subst (Halted (check_walk (script_of s)) s (sheet_of s).check_fuel) c.in-Depth.is h)

pub returns-in-Wide : goal.returns-in-Wide
returns-in-Wide c = λ s lent b e h. halt_wide b e c.spent-in-Wide.ensures (subst (Halted (check_walk (script_of s)) s (sheet_of s).check_fuel) c.in-Wide.is h)

pub returns-in-Mismatch : goal.returns-in-Mismatch
returns-in-Mismatch c = λ s lent b e h. halt_mismatch b e c.spent-in-Mismatch.ensures (subst (Halted (check_walk (script_of s)) s (sheet_of s).check_fuel) c.in-Mismatch.is h)

pub returns-in-Outside : goal.returns-in-Outside
returns-in-Outside c = λ s lent b e h. halt_outside b e c.spent-in-Outside.ensures (subst (Halted (check_walk (script_of s)) s (sheet_of s).check_fuel) c.in-Outside.is h)
