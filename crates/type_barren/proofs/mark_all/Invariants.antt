-- `type_barren::mark_all` meets its contract. The loop's invariant: the names below x have been looked at.
use Rattle.type_barren.specs.Marks.{Rounding}
use Rattle.type_barren.proofs.mark_all.Given as goal

abbrev pub invariant-loop-x : goal.invariant-loop-x
invariant-loop-x l = Rounding l.s l.initial.marked l.marked l.x
