use Rattle.std.specs.Prelude.{Bool, ◌≡◌, cond}
use Rattle.fit.specs.Fitting.{Walking}
use Rattle.fit.proofs.+trees.Given as goal

abbrev pub decreases-trees : goal.decreases-trees
decreases-trees l = l.r

abbrev pub invariant-loop-r : goal.invariant-loop-r
invariant-loop-r l = record { fresh : Bool; walking : Walking l.s l.parent l.r-2 l.k l.r fresh l.set; point : l.sets ≡ cond fresh l.tables.first l.next }

abbrev pub decreases-loop-r : goal.decreases-loop-r
decreases-loop-r l = l.r
