-- `bits::unite` meets its contract: the words that it hands over are those of set j (proofs/Stores.antt).
use mathlib.Core.Path.{refl}
use native.Mathlib.Omega.{arith}
use Rattle.bits.proofs.Stores.{united_words}
use Rattle.bits.proofs.unite.Goals as goal

pub returns : goal.returns
returns c = united_words _ refl (omega arith) c.unite_words.ensures
