-- A number: its last digit, behind the digits of its tenth.
use native.Mathlib.Omega.{arith}
use Prim.Native.Nat.{◌-◌, ◌/◌}
use mathlib.Core.Path.{◌∙◌}
use Rattle.listing.specs.Adds.{few_digits, adds_last, adds_short, adds_more}
use Rattle.listing.proofs.lines.+number.Goals as goal

pub put-requires : goal.put-requires
put-requires t c = omega (arith, c.requires)

pub shape_of-out-then-k-eq0 : goal.shape_of-out-then-k-eq0
shape_of-out-then-k-eq0 t c = c.put.auto.out

pub returns-then-k-eq0 : goal.returns-then-k-eq0
returns-then-k-eq0 t c = record { adds = adds_last c.args.k c.args.n _ c.digit.ensures c.if-k-eq0.true c.put.ensures.adds }

pub put-requires-then-n-lt10 : goal.put-requires-then-n-lt10
put-requires-then-n-lt10 t c = omega (arith, c.requires)

pub shape_of-out-then-n-lt10 : goal.shape_of-out-then-n-lt10
shape_of-out-then-n-lt10 t c = c.put-then-n-lt10.auto.out

pub returns-then-n-lt10 : goal.returns-then-n-lt10
returns-then-n-lt10 t c = record { adds = adds_short c.args.k c.args.n _ c.digit-then-n-lt10.ensures c.if-n-lt10.true c.put-then-n-lt10.ensures.adds }

pub overflow_sub-k : goal.overflow_sub-k
overflow_sub-k t c = omega (arith, c.if-k-eq0.false)

pub number-mid-requires : goal.number-mid-requires
number-mid-requires t c = (omega (arith, c.if-k-eq0.false), omega (arith, c.requires, c.if-k-eq0.false))

pub put-requires-2 : goal.put-requires-2
put-requires-2 t c = omega (arith, c.requires, c.if-k-eq0.false, c.number-mid.auto.out, c.number-mid.ensures.adds.ends, few_digits (c.args.k - 1) (c.args.n / 10))

pub shape_of-out : goal.shape_of-out
shape_of-out t c = c.put-2.auto.out ∙ c.number-mid.auto.out

pub returns : goal.returns
returns t c = record { adds = adds_more c.args.k c.args.n _ c.digit-2.ensures (omega (arith, c.if-k-eq0.false)) (omega (arith, c.if-n-lt10.false)) c.number-mid.ensures.adds c.put-2.ensures.adds }
