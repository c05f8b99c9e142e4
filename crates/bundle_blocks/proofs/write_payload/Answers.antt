-- `bundle_blocks::write_payload` meets its contract: the bytes that are left of the sheet, and 0 behind them.
use mathlib.Core.Path.{◌≡◌, ap, ◌∙◌}
use Prim.Native.Nat.{ℕ, ◌+◌, ◌-◌, ◌*◌}
use native.Mathlib.Omega.{arith}
use lib.ListN.{length, take, drop, replicate, length-drop}
use lib.Seq.{length-take-le}
use Rattle.bundle_blocks.proofs.Writing.{stored_is, rest_is}
use Rattle.bundle_blocks.proofs.write_payload.Goals as goal

pub returns : goal.returns
returns c =
    let at = 512 * c.args.k + 2 in
    let left = rest_is c.args.sheet.now (508 * c.args.k) c.min.result (omega arith) in
    let long = ap length left in
    let few : at + 508 - at ≡ 508 = omega arith in
    stored_is c.args.out.now at 508 c.min-n.result (drop (508 * c.args.k) c.args.sheet.now) (omega arith) (omega arith) (omega arith) (λ l. omega arith)
    {i = at + 508 - at} {j = at + c.min-n.result - at} few (omega arith)
    (c.fill.ensures.after (λ y e. e) ∙ ap (λ (n : ℕ). replicate n 0) (length-take-le (at + 508 - at) (drop at c.args.out.now) (omega (arith, length-drop at c.args.out.now)) ∙ few))
    (c.copy_from_slice.ensures.after ∙ ap (take c.min-n.result) left)
