-- Exclusive or with the digit of a member takes a place out of a set.
use Prim.Native.Nat.{ℕ, zero, suc, ◌+◌, ◌*◌, ◌/◌, ◌%◌, ◌^◌, ◌≤◌, ◌<◌}
use mathlib.Core.Path.{◌≡◌, refl, ap, ◌∙◌}
use mathlib.Core.Bool.{true}
use mathlib.Core.List.{List}
use native.Mathlib.Nat.{mod-lt, zero-lt-suc}
use native.Mathlib.Decide.{ℕ_discrete}
use native.Mathlib.Omega.{arith}
use lib.Dec.{eqb}
use lib.ListN.{length, get_or, set, length-set}
use lib.Seq.{get_or-set_same, get_or-set_other}
use lib.Bits.{bit_xor, differ, xor_step}
use borrow.Author.Tests.{eqb-true}
use Rattle.bits.specs.Digits.{bit, bit_lt, bit_low, bit_suc, bit_pow_same, bit_pow_other}
use Rattle.bits.specs.Sets.{in_set, Removed}

-- ---- exclusive or, digit by digit

differ_small : (a b : ℕ) → a < 2 → b < 2 → differ a b < 2
differ_small zero zero p q = omega arith
differ_small zero (suc zero) p q = omega arith
differ_small (suc zero) zero p q = omega arith
differ_small (suc zero) (suc zero) p q = omega arith
differ_small (suc (suc a)) b p q = absurd (omega arith)
differ_small zero (suc (suc b)) p q = absurd (omega arith)
differ_small (suc zero) (suc (suc b)) p q = absurd (omega arith)

differ_zero : (a : ℕ) → a < 2 → differ a 0 ≡ a
differ_zero zero h = refl
differ_zero (suc zero) h = refl
differ_zero (suc (suc a)) h = absurd (omega arith)

low : (q a : ℕ) → a < 2 → (q * 2 + a) % 2 ≡ a
low q a h = omega arith

high : (q a : ℕ) → a < 2 → (q * 2 + a) / 2 ≡ q
high q a h = omega arith

bit-bit_xor : (x y d : ℕ) → bit (bit_xor x y) d ≡ differ (bit x d) (bit y d)
bit-bit_xor x y zero =
    let small = differ_small (x % 2) (y % 2) (mod-lt x (zero-lt-suc 1)) (mod-lt y (zero-lt-suc 1)) in
    bit_low (bit_xor x y) ∙ ap (λ (z : ℕ). z % 2) (xor_step x y) ∙ low (bit_xor (x / 2) (y / 2)) (differ (x % 2) (y % 2)) small ∙ rw (bit_low x, bit_low y)
bit-bit_xor x y (suc d) =
    let small = differ_small (x % 2) (y % 2) (mod-lt x (zero-lt-suc 1)) (mod-lt y (zero-lt-suc 1)) in
    let half : bit_xor x y / 2 ≡ bit_xor (x / 2) (y / 2) = ap (λ (z : ℕ). z / 2) (xor_step x y) ∙ high (bit_xor (x / 2) (y / 2)) (differ (x % 2) (y % 2)) small in
    bit_suc (bit_xor x y) d ∙ ap (λ (z : ℕ). bit z d) half ∙ bit-bit_xor (x / 2) (y / 2) d ∙ rw (bit_suc x d, bit_suc y d)

-- ---- the store

module _ (t : List ℕ) (k i : ℕ) (l : length t ≡ 4617) (lk : k ≤ 512) (li : i < 576) (m : in_set t k i ≡ true) where
  pub removed : (p : ℕ) → p ≡ 2 ^ (i % 64) → Removed t (set t (9 * k + i / 64) (bit_xor (get_or t (9 * k + i / 64) 0) p)) k i
  unfolding in_set
  removed p e = rw e (record {
    size = length-set t n v;
    here = ap (λ (w : ℕ). eqb (bit w (i % 64)) 1) (get_or-set_same t n v 0 (omega arith)) ∙ ap (λ (d : ℕ). eqb d 1) gone;
    into = λ x d lx. elim (ℕ_discrete (x / 64) (i / 64)) [
      | yes q ↦ rw q (ap (λ (w : ℕ). eqb (bit w (x % 64)) 1) (get_or-set_same t n v 0 (omega arith)) ∙ ap (λ (d : ℕ). eqb d 1) (stays x (λ g. d (omega arith))))
      | no q ↦ ap (λ (w : ℕ). eqb (bit w (x % 64)) 1) (get_or-set_other t n (9 * k + x / 64) v 0 (λ g. q (omega arith)))
    ];
    others = λ h x d lx. ap (λ (w : ℕ). eqb (bit w (x % 64)) 1) (get_or-set_other t n (9 * h + x / 64) v 0 (λ g. d (omega arith)));
  })
    where
      n : ℕ
      n = 9 * k + i / 64

      v : ℕ
      v = bit_xor (get_or t n 0) (2 ^ (i % 64))

      one : bit (get_or t n 0) (i % 64) ≡ 1
      one = eqb-true (bit (get_or t n 0) (i % 64)) 1 m

      gone : bit v (i % 64) ≡ 0
      gone = bit-bit_xor (get_or t n 0) (2 ^ (i % 64)) (i % 64) ∙ rw (one, bit_pow_same (i % 64))

      stays : (x : ℕ) → (i % 64 ≡ x % 64 → ⊥) → bit v (x % 64) ≡ bit (get_or t n 0) (x % 64)
      stays x d = bit-bit_xor (get_or t n 0) (2 ^ (i % 64)) (x % 64) ∙ rw (bit_pow_other (i % 64) (x % 64) d) (differ_zero (bit (get_or t n 0) (x % 64)) (bit_lt (get_or t n 0) (x % 64)))
