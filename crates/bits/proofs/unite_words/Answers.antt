use mathlib.Core.Path.{ap, sym}
use native.Mathlib.Nat.{zero-add}
use native.Mathlib.Omega.{arith}
use lib.ListN.{get_or}
use Rattle.bits.proofs.Stores.{united_more}
use Rattle.bits.proofs.unite_words.Goals as goal

pub loop-w-preserved : goal.loop-w-preserved
loop-w-preserved c = united_more c.told-t c.requires.0 (omega arith) c.loop-w.invariant (get_or c.args.words.now c.loop-w.w 0) (ap (λ i. get_or c.args.words.now i 0) (sym (zero-add c.loop-w.w)))
