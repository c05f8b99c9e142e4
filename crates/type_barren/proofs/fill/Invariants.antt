-- `type_barren::fill` meets its contract. The loop's invariant: the rows below i are filled in.
use Rattle.type_barren.specs.Flags.{flag}
use Rattle.type_barren.specs.Marks.{Filled}
use Rattle.type_barren.proofs.fill.Given as goal

abbrev pub invariant-loop-i : goal.invariant-loop-i
invariant-loop-i l = Filled l.s (flag l.marked) l.full l.i
