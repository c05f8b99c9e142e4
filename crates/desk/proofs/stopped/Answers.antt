-- `desk::stopped` meets its contract: the units are what the purse no longer holds.
use Rattle.std.proofs.Common.{refl, subst}
use Rattle.meaning.specs.Sheet.{sheet_of}
use Rattle.meaning.specs.Run.{run_walk}
use Rattle.walk.specs.Meets.{Stopped}
use Rattle.desk.specs.Ends.{stop_fuel, stop_depth, stop_stuck}
use Rattle.desk.proofs.stopped.Goals as goal

pub returns-in-Fuel : goal.returns-in-Fuel
returns-in-Fuel c = λ s lent result b e h. stop_fuel b result e (subst (Stopped (run_walk (sheet_of s)) (sheet_of s).run_fuel) c.in-Fuel.is h) refl

pub returns-in-Depth : goal.returns-in-Depth
returns-in-Depth c = λ s lent result b e h. stop_depth b result e (subst (Stopped (run_walk (sheet_of s)) (sheet_of s).run_fuel) c.in-Depth.is h) c.spent.ensures

pub returns-in-Stuck : goal.returns-in-Stuck
returns-in-Stuck c = λ s lent result b e h. stop_stuck b result e (subst (Stopped (run_walk (sheet_of s)) (sheet_of s).run_fuel) c.in-Stuck.is h) c.spent-in-Stuck.ensures
