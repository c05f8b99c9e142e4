-- `check_statement::check` meets its contract. The loop's invariant: the first c procedures are typed, and the walk leads to what is left of it.
use Rattle.check_statement.specs.Bodies.{Checking}
use Rattle.check_statement.proofs.check.Given as goal

abbrev pub invariant-loop-c : goal.invariant-loop-c
invariant-loop-c l = Checking l.s l.initial.left.purse.left l.initial.work l.work l.c l.left.used l.left.purse.left
