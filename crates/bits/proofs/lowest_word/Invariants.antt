-- `bits::lowest_word` meets its contract. The loop's invariant: no place of the words passed is in both (proofs/Found.antt).
use Prim.Native.Nat.{◌*◌}
use Rattle.bits.proofs.Found.{Clear}
use Rattle.bits.proofs.lowest_word.Given as goal

abbrev pub invariant-loop-w : goal.invariant-loop-w
invariant-loop-w l = Clear l.t l.k l.u l.j (64 * l.first) (64 * l.w)
