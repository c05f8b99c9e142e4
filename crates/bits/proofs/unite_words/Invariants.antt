-- `bits::unite_words` meets its contract. The loop's invariant: the first w words are united (proofs/Stores.antt).
use Rattle.bits.proofs.Stores.{UnitedTo}
use Rattle.bits.proofs.unite_words.Given as goal

abbrev pub invariant-loop-w : goal.invariant-loop-w
invariant-loop-w l = UnitedTo l.w l.initial.t l.t l.k l.words 0
