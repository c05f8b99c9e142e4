-- `bits::unite_in` meets its contract: the words that it hands over are those of set j (proofs/Stores.antt).
use Prim.Native.Nat.{◌+◌, ◌-◌, ◌*◌}
use native.Mathlib.Omega.{arith}
use Rattle.bits.proofs.Stores.{united_words}
use Rattle.bits.proofs.unite_in.Goals as goal

pub returns : goal.returns
returns c = united_words {n = 9 * c.args.j + 9 - 9 * c.args.j} _ c.copy_from_slice.ensures.after (omega arith) c.unite_words.ensures
