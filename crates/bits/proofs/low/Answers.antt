-- `bits::low` meets its contract: there are at most 64 trailing zeros, so the cast loses nothing.
use Rattle.std.proofs.Common.{rules}
use native.Mathlib.Omega.{arith}
use lib.Count.{trailing_le}
use Rattle.bits.proofs.low.Goals as goal

pub overflow_cast-result : goal.overflow_cast-result
overflow_cast-result c = omega (arith, trailing_le 64 c.args.x)

pub returns : goal.returns
returns c = (search rules, trailing_le 64 c.args.x)
