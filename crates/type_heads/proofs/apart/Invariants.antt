-- `type_heads::apart` meets its contract. The loop's invariant: the first i rows are apart, and the flags are those of their heads.
use Rattle.type_heads.specs.Apart.{Seen}
use Rattle.type_heads.proofs.apart.Given as goal

abbrev pub invariant-loop-i : goal.invariant-loop-i
invariant-loop-i l = Seen l.s l.seen l.i
