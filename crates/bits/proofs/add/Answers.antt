-- `bits::add` meets its contract: or with one digit adds one place (proofs/Stores.antt).
use Rattle.bits.proofs.Stores.{added}
use Rattle.bits.proofs.add.Goals as goal

pub returns : goal.returns
returns c = added c.args.t.now c.args.k c.args.i c.told-t c.requires.0 c.requires.1 c.power.result c.power.ensures
