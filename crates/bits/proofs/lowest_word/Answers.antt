use mathlib.Core.Path.{◌≡◌, sym, ◌∙◌}
use lib.Count.{count_trailing_zeros}
use mathlib.Core.Logic.{inl, inr}
use native.Mathlib.Nat.{div-one, eq-zero-or-pos}
use native.Mathlib.Omega.{arith}
use Prim.Native.Nat.{ℕ, ◌<◌, ◌-◌, ◌*◌, ◌+◌, ◌/◌, ◌^◌}
use Rattle.bits.proofs.Found.{clear_word, found_here, nothing_left, search_on, common}
use Rattle.bits.proofs.lowest_word.Goals as goal

pub loop-w-init : goal.loop-w-init
loop-w-init c = λ x l g. absurd (omega arith)

pub returns-then-x-ne0 : goal.returns-then-x-ne0
returns-then-x-ne0 c =
    let a = c.args in
    let w = c.loop-w.w in
    let x = c.both-x.result in
    let word : ℕ = common a.t.now a.k a.u.now a.j w in
    let whole : x ≡ word / 2 ^ 0 = c.both-x.ensures ∙ sym (div-one word) in
    let fits : word < 2 ^ 64 = omega (arith, c.both-x.ensures, c.both-x.type_inv) in
    rw c.low.ensures.0 (search_on a.t.now a.k a.u.now a.j (64 * a.first) (64 * w) (64 * w + count_trailing_zeros 64 x) (omega arith) c.loop-w.invariant
    (found_here a.t.now a.k a.u.now a.j (64 * w) w 0 x c.loop-w-test.true (omega arith) (omega arith) fits whole (omega arith) c.both-x.type_inv))

pub loop-w-preserved : goal.loop-w-preserved
loop-w-preserved c =
    let a = c.args in
    let w = c.loop-w.w in
    let word : ℕ = common a.t.now a.k a.u.now a.j w in
    λ x l g. elim (eq-zero-or-pos (64 * w - x)) [
      | inl e ↦ clear_word a.t.now a.k a.u.now a.j (64 * w) w 0 c.both-x.result (omega arith) (c.both-x.ensures ∙ sym (div-one word)) (omega arith) x (omega arith) g
      | inr e ↦ c.loop-w.invariant x l (omega arith)
    ]

pub returns : goal.returns
returns c = nothing_left c.args.t.now c.args.k c.args.u.now c.args.j (64 * c.args.first) (λ x l g. c.loop-w.invariant x l (omega arith))
