-- `bits::ones_of` meets its contract: a word of 64 digits has at most 64 ones, so the cast loses nothing.
use Rattle.std.proofs.Common.{rules}
use native.Mathlib.Omega.{arith}
use lib.Count.{ones-le}
use Rattle.bits.proofs.ones_of.Goals as goal

pub overflow_cast-result : goal.overflow_cast-result
overflow_cast-result c = omega (arith, ones-le 64 c.args.x c.ranges.x.fits)

pub returns : goal.returns
returns c = (search rules, ones-le 64 c.args.x c.ranges.x.fits)
