-- `bits::has` meets its contract: it reads the digit that the definition names.
use Rattle.bits.specs.Sets.{in_set}
use mathlib.Core.Path.{refl}
use Rattle.bits.proofs.has.Goals as goal

pub returns : goal.returns
unfolding in_set
returns c = refl
