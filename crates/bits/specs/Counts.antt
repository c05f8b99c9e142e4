-- How many numbers below n pass a test, and what callers read off such a count: below 2, two that pass are one; from 2 on, there are two.
use Rattle.std.specs.Prelude.{◌≡◌, List, Bool}
use Rattle.std.proofs.Math.Path.{refl}
use Rattle.std.proofs.Math.Bool.{true, false}
use Rattle.std.proofs.Math.Logic.{inl, inr}
use Prim.Native.Nat.{ℕ, zero, suc, ◌+◌, ◌-◌, ◌≤◌, ◌<◌}
use Rattle.std.proofs.Common.{not-suc-le-zero, eq-or-lt_of_le, le_of_suc-le-suc, eq-zero-or-pos}
use Rattle.std.proofs.Math.Decide.{ℕ_discrete}
use native.Mathlib.Omega.{arith}
use Rattle.bits.specs.Sets.{in_both, LowestBoth}

abbrev pub one_if : Bool → ℕ
one_if true = 1
one_if false = 0

-- how many numbers below n pass the test f
unfoldable pub count_to : (ℕ → Bool) → ℕ → ℕ
count_to f zero = 0
count_to f (suc n) = count_to f n + one_if (f n)

module _ (f : ℕ → Bool) where
  -- nothing passes below n
  none_counted : (n : ℕ) → ((x : ℕ) → x < n → f x ≡ false) → count_to f n ≡ 0
  unfolding count_to
  none_counted zero h = refl
  none_counted (suc n) h = let r = none_counted n (λ x l. h x (omega arith)) in let e : one_if (f n) ≡ 0 = rw (h n (omega arith)) in omega arith

  -- what passes is counted
  some_counted : (n x : ℕ) → x < n → f x ≡ true → 1 ≤ count_to f n
  unfolding count_to
  some_counted zero x h e = absurd (not-suc-le-zero h)
  some_counted (suc n) x h e = elim (eq-or-lt_of_le (le_of_suc-le-suc h)) [
    | inl q ↦ (let one : one_if (f n) ≡ 1 = rw (← q, e) in omega arith)
    | inr q ↦ (let r = some_counted n x q e in omega arith)
  ]

  -- up to a greater number no fewer are counted
  pub count_more : (n : ℕ) {m : ℕ} → m ≤ n → count_to f m ≤ count_to f n
  unfolding count_to
  count_more zero {m} h = let e : m ≡ 0 = omega arith in rw e (omega arith)
  count_more (suc n) {m} h = elim (eq-or-lt_of_le h) [
    | inl q ↦ rw q (omega arith)
    | inr q ↦ (let r = count_more n {m = m} (le_of_suc-le-suc q) in omega arith)
  ]

  -- below 2, two that pass are one
  pub count_single : (n : ℕ) → count_to f n < 2 → (x y : ℕ) → x < n → y < n → f x ≡ true → f y ≡ true → x ≡ y
  unfolding count_to
  count_single zero h x y p q e g = absurd (not-suc-le-zero p)
  count_single (suc n) h x y p q e g = elim (eq-or-lt_of_le (le_of_suc-le-suc p)) [
    | inl a ↦ elim (eq-or-lt_of_le (le_of_suc-le-suc q)) [
      | inl b ↦ omega arith
      | inr b ↦ (let r = some_counted n y b g in let one : one_if (f n) ≡ 1 = rw (← a, e) in absurd (omega arith))
    ]
    | inr a ↦ elim (eq-or-lt_of_le (le_of_suc-le-suc q)) [
      | inl b ↦ (let r = some_counted n x a e in let one : one_if (f n) ≡ 1 = rw (← b, g) in absurd (omega arith))
      | inr b ↦ count_single n (omega arith) x y a b e g
    ]
  ]

  -- where at most one number may pass, at most one is counted
  one_counted : (a n : ℕ) → ((x : ℕ) → x < n → (x ≡ a → ⊥) → f x ≡ false) → count_to f n ≤ 1
  unfolding count_to
  one_counted a zero h = omega arith
  one_counted a (suc n) h = elim (ℕ_discrete n a) [
    | yes q ↦ (let r = none_counted n (λ x l. h x (omega arith) (λ e. omega arith)) in let one = at_most (f n) in omega arith)
    | no q ↦ (let r = one_counted a n (λ x l d. h x (omega arith) d) in let e : one_if (f n) ≡ 0 = rw (h n (omega arith) q) in omega arith)
  ]
    where
      at_most : (b : Bool) → one_if b ≤ 1
      at_most true = omega arith
      at_most false = omega arith

module _ {t : List ℕ} {k : ℕ} {u : List ℕ} {j a : ℕ} (first : LowestBoth t k u j 0 a) where
  none_found : a ≡ 576 → count_to (in_both t k u j) 576 ≡ 0
  none_found e = none_counted (in_both t k u j) 576 (λ x h. first.below x (omega arith) (omega arith))

  -- where some place is in both, the lowest is found
  pub count_some : 1 ≤ count_to (in_both t k u j) 576 → a < 576
  count_some h = elim (eq-or-lt_of_le first.within) [
    | inl e ↦ absurd (let z = none_found e in omega arith)
    | inr l ↦ l
  ]

  -- where two places are in both, the lowest and the next lowest are found
  pub count_two : {b : ℕ} → LowestBoth t k u j (a + 1) b → 2 ≤ count_to (in_both t k u j) 576 → (a < b) × (b < 576)
  count_two {b} next h = elim (eq-or-lt_of_le next.within) [
    | inl e ↦ absurd (let z = one_counted (in_both t k u j) a 576 (λ x l d. here x l d e) in omega arith)
    | inr l ↦ (let o = next.onward l in omega arith, l)
  ]
    where
      here : (x : ℕ) → x < 576 → (x ≡ a → ⊥) → b ≡ 576 → in_both t k u j x ≡ false
      here x l d e = elim (eq-zero-or-pos (a - x)) [
        | inl q ↦ next.below x (omega arith) (omega arith)
        | inr q ↦ first.below x (omega arith) (omega arith)
      ]
