-- What `every`, `some`, `total` and `in_table` say of the rows 1 to n.
use Prim.Native.Nat.{ℕ, zero, suc, ◌+◌, ◌≤◌, ◌<◌}
use Rattle.std.specs.Prelude.{◌≡◌, Bool, true, leb}
use Rattle.std.proofs.Math.Path.{refl}
use Rattle.std.proofs.lemmas.Bool.{false≢true}
use Rattle.std.proofs.Math.Logic.{inl, inr}
use Rattle.std.proofs.Math.Decide.{dec_lt}
use Rattle.std.proofs.Common.{eq-or-lt_of_le, eq-zero-or-pos, le_of_suc-le-suc, leb-true, le-leb}
use native.Mathlib.Omega.{arith}
use Rattle.meaning.specs.Tests.{every, some, total, in_table}
use Rattle.meaning.specs.Laws.Bools.{or_left, or_right, or_cases, and_left, and_right, and_both}

pub in_table_lem : (n r : ℕ) → 1 ≤ r → r ≤ n → in_table n r ≡ true
in_table_lem n r p q = and_both (leb 1 r) (leb r n) (le-leb 1 r p) (le-leb r n q)

pub table_low : (n r : ℕ) → in_table n r ≡ true → 1 ≤ r
table_low n r e = leb-true 1 r (and_left (leb 1 r) (leb r n) e)

pub table_high : (n r : ℕ) → in_table n r ≡ true → r ≤ n
table_high n r e = leb-true r n (and_right (leb 1 r) (leb r n) e)

module _ (test : ℕ → Bool) where
  pub every_at : (n : ℕ) → every test n ≡ true → (r : ℕ) → 1 ≤ r → r ≤ n → test r ≡ true
  unfolding every
  every_at zero e r p q = absurd (omega arith)
  every_at (suc n) e r p q = elim (eq-or-lt_of_le q) [
    | inl h ↦ rw h (and_right (every test n) (test (suc n)) e)
    | inr h ↦ every_at n (and_left (every test n) (test (suc n)) e) r p (le_of_suc-le-suc h)
  ]

  pub every_all : (n : ℕ) → ((r : ℕ) → 1 ≤ r → r ≤ n → test r ≡ true) → every test n ≡ true
  unfolding every
  every_all zero h = refl
  every_all (suc n) h = and_both (every test n) (test (suc n)) (every_all n (λ r p q. h r p (omega arith))) (h (suc n) (omega arith) (omega arith))

  pub some_at : (n r : ℕ) → 1 ≤ r → r ≤ n → test r ≡ true → some test n ≡ true
  unfolding some
  some_at zero r p q e = absurd (omega arith)
  some_at (suc n) r p q e = elim (eq-or-lt_of_le q) [
    | inl h ↦ or_right (some test n) (rw h at e)
    | inr h ↦ or_left (test (suc n)) (some_at n r p (le_of_suc-le-suc h) e)
  ]

  pub some_of : (n : ℕ) → some test n ≡ true → (r : ℕ) × (1 ≤ r) × (r ≤ n) × (test r ≡ true)
  unfolding some
  some_of zero e = absurd (false≢true e)
  some_of (suc n) e = elim (or_cases (some test n) (test (suc n)) e) [
    | inl h ↦ (let x = some_of n h in (x.0, x.1, omega (arith, x.2), x.3))
    | inr h ↦ (suc n, omega arith, omega arith, h)
  ]

module _ (amount : ℕ → ℕ) where
  pub total_at : (n r : ℕ) → 1 ≤ r → r ≤ n → amount r ≤ total amount n
  unfolding total
  total_at zero r p q = absurd (omega arith)
  total_at (suc n) r p q = elim (eq-or-lt_of_le q) [
    | inl h ↦ rw h (omega arith)
    | inr h ↦ (let x = total_at n r p (le_of_suc-le-suc h) in omega arith)
  ]

  -- two rows of a sum
  pub total_two : (n r k : ℕ) → 1 ≤ r → r < k → k ≤ n → amount r + amount k ≤ total amount n
  unfolding total
  total_two zero r k p l q = absurd (omega arith)
  total_two (suc n) r k p l q = elim (eq-or-lt_of_le q) [
    | inl h ↦ rw h (let x = total_at n r p (omega arith) in omega arith)
    | inr h ↦ (let x = total_two n r k p l (le_of_suc-le-suc h) in omega arith)
  ]

  -- in either order
  pub total_both : (n r k : ℕ) → 1 ≤ r → r ≤ n → 1 ≤ k → k ≤ n → (r ≡ k → ⊥) → amount r + amount k ≤ total amount n
  total_both n r k p q l m d = elim (dec_lt r k) [
    | yes h ↦ total_two n r k p h m
    | no h ↦ (let x = total_two n k r l (omega arith) q in omega arith)
  ]

  -- a sum that is not 0 has a row that is not
  pub total_some : (n : ℕ) → 1 ≤ total amount n → (r : ℕ) × (1 ≤ r) × (r ≤ n) × (1 ≤ amount r)
  unfolding total
  total_some zero h = absurd (omega arith)
  total_some (suc n) h = elim (eq-zero-or-pos (amount (suc n))) [
    | inl e ↦ (let x = total_some n (omega arith) in (x.0, x.1, omega (arith, x.2), x.3))
    | inr p ↦ (suc n, omega arith, omega arith, p)
  ]
