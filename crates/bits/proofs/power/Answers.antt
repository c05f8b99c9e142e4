-- `bits::power` meets its contract: no digit is lost, since the shift is below 64.
use Rattle.bits.specs.Digits.{one_bit}
use Rattle.bits.proofs.power.Goals as goal

pub returns : goal.returns
returns c = one_bit c.args.k c.requires
