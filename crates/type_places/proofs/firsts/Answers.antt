use native.Mathlib.Omega.{arith}
use Rattle.type_places.specs.Firsts.{nulls_low, firsts_low, tables}
use Rattle.type_places.proofs.firsts.Goals as goal

pub loop-i-init : goal.loop-i-init
loop-i-init c = (
  nulls_low c.requires.rows c.args.null.now c.args.low c.told-null c.requires.low_le_n.1,
  firsts_low c.requires.rows c.args.first.now c.requires.clear c.args.low (λ i a b. (c.requires.low_le_n.1 i a b).0),
)

pub returns : goal.returns
returns c = tables c.requires.rows (omega arith) c.loop-i.invariant.0 c.loop-i.invariant.1
