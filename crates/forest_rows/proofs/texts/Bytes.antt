-- Bytes of the pool, compared one after another.
use Prim.Native.Nat.{ℕ, zero, suc, ◌+◌, ◌*◌, ◌-◌, ◌≤◌, ◌<◌}
use native.Mathlib.Omega.{arith}
use mathlib.Core.Path.{◌≡◌, refl, ap, ◌∙◌}
use mathlib.Core.Bool.{Bool, true, false, ◌&&◌}
use mathlib.Core.List.{List}
use borrow.Author.Tests.{eq-eqb, ne_eqb}
use lib.Dec.{eqb}
use lib.ListN.{get_or}
use Rattle.meaning.specs.Sheet.{grove_of, pool_at}
use Rattle.meaning.specs.Forest.{bytes_from, equal_bytes}
use Rattle.meaning.specs.Laws.Bools.{no_right}

abbrev pub pool : List ℕ → ℕ → ℕ
pool s = (grove_of s).byte

-- a byte of the pool, where it begins
pub pool_byte : (s : List ℕ) (i j : ℕ) {at : ℕ} → at ≡ 2 * pool_at s → j ≡ at + i → get_or s j 0 ≡ pool s i
unfolding grove_of
pool_byte s i j h e = ap (λ (k : ℕ). get_or s k 0) (e ∙ ap (λ (k : ℕ). k + i) h)

module _ (byte : ℕ → ℕ) where
  -- as many bytes, or not the same
  pub other_size : (o p n m : ℕ) → (n ≡ m → ⊥) → equal_bytes (bytes_from byte o n) (bytes_from byte p m) ≡ false
  unfolding equal_bytes bytes_from
  other_size o p zero zero h = absurd (h refl)
  other_size o p zero (suc m) h = refl
  other_size o p (suc n) zero h = refl
  other_size o p (suc n) (suc m) h = no_right (eqb (byte o) (byte p)) (other_size (suc o) (suc p) n m (λ e. h (ap suc e)))

  -- what is still to be compared, i bytes on
  abbrev pub rest : ℕ → ℕ → ℕ → ℕ → Bool
  rest o p n i = equal_bytes (bytes_from byte (o + i) (n - i)) (bytes_from byte (p + i) (n - i))

  rest_step : (o p n i : ℕ) → i < n → rest o p n i ≡ eqb (byte (o + i)) (byte (p + i)) && rest o p n (i + 1)
  unfolding equal_bytes bytes_from
  rest_step o p n i h =
      let k : n - i ≡ suc (n - (i + 1)) = omega arith in
      let a : suc (o + i) ≡ o + (i + 1) = omega arith in
      let b : suc (p + i) ≡ p + (i + 1) = omega arith in
      ap (λ (j : ℕ). equal_bytes (bytes_from byte (o + i) j) (bytes_from byte (p + i) j)) k
      ∙ ap (λ (x : ℕ). eqb (byte (o + i)) (byte (p + i)) && equal_bytes (bytes_from byte x (n - (i + 1))) (bytes_from byte (suc (p + i)) (n - (i + 1)))) a
      ∙ ap (λ (x : ℕ). eqb (byte (o + i)) (byte (p + i)) && equal_bytes (bytes_from byte (o + (i + 1)) (n - (i + 1))) (bytes_from byte x (n - (i + 1)))) b

  pub rest_start : (o p n : ℕ) → equal_bytes (bytes_from byte o n) (bytes_from byte p n) ≡ rest o p n 0
  rest_start o p n =
      let a : o ≡ o + 0 = omega arith in
      let b : p ≡ p + 0 = omega arith in
      let c : n ≡ n - 0 = omega arith in
      ap (λ (x : ℕ). equal_bytes (bytes_from byte x n) (bytes_from byte p n)) a
      ∙ ap (λ (x : ℕ). equal_bytes (bytes_from byte (o + 0) n) (bytes_from byte x n)) b
      ∙ ap (λ (x : ℕ). equal_bytes (bytes_from byte (o + 0) x) (bytes_from byte (p + 0) x)) c

  pub rest_more : (o p n i : ℕ) → i < n → byte (o + i) ≡ byte (p + i) → rest o p n i ≡ rest o p n (i + 1)
  rest_more o p n i h e = rest_step o p n i h ∙ ap (λ (b : Bool). b && rest o p n (i + 1)) (eq-eqb (byte (o + i)) (byte (p + i)) e)

  pub rest_other : (o p n i : ℕ) → i < n → (byte (o + i) ≡ byte (p + i) → ⊥) → rest o p n i ≡ false
  rest_other o p n i h e = rest_step o p n i h ∙ ap (λ (b : Bool). b && rest o p n (i + 1)) (ne_eqb (byte (o + i)) (byte (p + i)) e)

  pub rest_none : (o p n i : ℕ) → n ≤ i → rest o p n i ≡ true
  unfolding equal_bytes bytes_from
  rest_none o p n i h =
      let k : n - i ≡ 0 = omega arith in
      ap (λ (j : ℕ). equal_bytes (bytes_from byte (o + i) j) (bytes_from byte (p + i) j)) k
