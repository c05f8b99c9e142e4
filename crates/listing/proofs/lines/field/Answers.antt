-- `listing::lines::field` meets its contract: a space, then the digits.
use native.Mathlib.Omega.{arith}
use mathlib.Core.Path.{◌∙◌}
use Rattle.listing.specs.Adds.{adds_then, few_digits}
use Rattle.listing.proofs.lines.field.Goals as goal

pub put-mid-requires : goal.put-mid-requires
put-mid-requires c = omega (arith, c.requires)

pub number-requires : goal.number-requires
number-requires c = omega (arith, c.requires, c.put-mid.ensures.adds.ends, c.put-mid.auto.out)

pub shape_of-out : goal.shape_of-out
shape_of-out c = c.number.auto.out ∙ c.put-mid.auto.out

pub returns : goal.returns
returns c = record { adds = adds_then c.put-mid.ensures.adds c.number.ensures.adds; few = omega (arith, c.put-mid.ensures.adds.ends, c.number.ensures.adds.ends, few_digits 8 c.args.n) }
