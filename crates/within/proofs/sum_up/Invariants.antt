-- `within::sum_up` meets its contract. The loop's invariant: the rows below i have their sums.
use Rattle.within.specs.Answers.{plain_kind}
use Rattle.within.specs.Plain.{Summed}
use Rattle.within.proofs.sum_up.Given as goal

abbrev pub invariant-loop-i : goal.invariant-loop-i
invariant-loop-i l = Summed l.own.bytes (plain_kind l.wanted) l.sums l.i
