-- `bits::lowest_both` meets its contract: the first word from its digit on, and then the later words (proofs/Found.antt).
use mathlib.Core.Path.{◌≡◌, ap}
use native.Mathlib.Nat.{div-le_self}
use native.Mathlib.Omega.{arith}
use Prim.Native.Nat.{ℕ, ◌≤◌, ◌<◌, ◌*◌, ◌+◌, ◌/◌, ◌%◌, ◌^◌}
use Rattle.bits.proofs.Found.{nothing_past, clear_word, found_here, search_on, common}
use Rattle.bits.proofs.lowest_both.Goals as goal

pub returns-then-w-ge9 : goal.returns-then-w-ge9
returns-then-w-ge9 c = nothing_past c.args.t.now c.args.k c.args.u.now c.args.j c.args.from (omega arith)

pub returns-then-x-ne0 : goal.returns-then-x-ne0
returns-then-x-ne0 c =
    let a = c.args in
    let w = c.args.from / 64 in
    let d = c.args.from % 64 in
    let x = c.both.result / 2 ^ d in
    let word : ℕ = common a.t.now a.k a.u.now a.j w in
    let part : x ≡ word / 2 ^ d = ap (λ (y : ℕ). y / 2 ^ d) c.both.ensures in
    let fits : word < 2 ^ 64 = omega (arith, c.both.ensures, c.both.type_inv) in
    let less : x ≤ c.both.result = div-le_self c.both.result (2 ^ d) in
    rw c.low.ensures.0 (found_here a.t.now a.k a.u.now a.j a.from w d x c.if-w-ge9.false (omega arith) (omega arith) fits part (omega arith) (omega (arith, c.both.type_inv)))

pub returns : goal.returns
returns c =
    let a = c.args in
    let w = c.args.from / 64 in
    let d = c.args.from % 64 in
    search_on a.t.now a.k a.u.now a.j a.from (64 * (w + 1)) c.lowest_word.result (omega arith)
    (clear_word a.t.now a.k a.u.now a.j a.from w d (c.both.result / 2 ^ d) (omega arith) (ap (λ (y : ℕ). y / 2 ^ d) c.both.ensures) (omega arith))
    c.lowest_word.ensures
