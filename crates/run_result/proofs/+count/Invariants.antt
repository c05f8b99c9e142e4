use Rattle.run_result.specs.Count.{Counting}
use Rattle.run_result.proofs.+count.Given as goal

abbrev pub decreases-count : goal.decreases-count
decreases-count l = l.root

abbrev pub invariant-loop-r : goal.invariant-loop-r
invariant-loop-r l = Counting l.work l.root l.n l.room l.r l.k

abbrev pub decreases-loop-r : goal.decreases-loop-r
decreases-loop-r l = l.r
