-- `type_heads::classes` meets its contract. The loop's invariant: the first i rows are in their classes.
use Rattle.type_heads.specs.Classes.{Classed}
use Rattle.type_heads.proofs.classes.Given as goal

abbrev pub invariant-loop-i : goal.invariant-loop-i
invariant-loop-i l = Classed l.s l.class l.same l.i
