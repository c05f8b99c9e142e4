-- `bits::remove` meets its contract: exclusive or with its digit takes a place out (proofs/Xor.antt).
use Rattle.bits.proofs.Xor.{removed}
use Rattle.bits.proofs.remove.Goals as goal

pub returns : goal.returns
returns c = removed c.args.t.now c.args.k c.args.i c.told-t c.requires.k_bound.0 c.requires.k_bound.1 c.requires.i_value c.power.result c.power.ensures
