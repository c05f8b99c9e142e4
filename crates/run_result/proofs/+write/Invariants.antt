use Rattle.run_result.specs.Written.{Writing}
use Rattle.run_result.proofs.+write.Given as goal

abbrev pub decreases-write : goal.decreases-write
decreases-write l = l.root

abbrev pub invariant-loop-r : goal.invariant-loop-r
invariant-loop-r l = Writing l.work l.root l.last l.initial.res l.r l.own l.res

abbrev pub decreases-loop-r : goal.decreases-loop-r
decreases-loop-r l = l.r
