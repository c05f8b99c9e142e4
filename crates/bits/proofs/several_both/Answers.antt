use Rattle.std.proofs.Common.{rules}
use native.Mathlib.Omega.{arith}
use mathlib.Core.Path.{◌≡◌, sym, ap, ◌∙◌}
use Prim.Native.Nat.{◌+◌, ◌*◌}
use lib.Dec.{leb}
use Rattle.bits.proofs.Found.{count_none, count_word}
use Rattle.bits.specs.Counts.{count_to}
use Rattle.bits.specs.Sets.{in_both}
use Rattle.bits.proofs.several_both.Goals as goal

pub loop-w-init : goal.loop-w-init
loop-w-init c = (sym (count_none c.args.t.now c.args.k c.args.u.now c.args.j), search rules)

pub loop-w-preserved : goal.loop-w-preserved
loop-w-preserved c = (omega (arith, count_word c.args.t.now c.args.k c.args.u.now c.args.j c.loop-w.w c.both.result c.both.ensures c.both.type_inv, c.ones_of-n.ensures, c.loop-w.invariant.0), omega (arith, c.ones_of-n.ensures, c.loop-w.invariant.1))

pub returns : goal.returns
returns c = let e : c.loop-w.w ≡ 9 = omega arith in ap (leb 2) (c.loop-w.invariant.0 ∙ ap (λ w. count_to (in_both c.args.t.now c.args.k c.args.u.now c.args.j) (64 * w)) e)
