-- The binary digits of a number, and what or, and, a shift to the right, trailing zeros and the count of ones do to them.
use Rattle.std.specs.Prelude.{◌≡◌, refl, ◌&&◌, ◌||◌, ℕ, zero, suc, ◌+◌, ◌*◌, ◌/◌, ◌%◌, ◌^◌, ◌≤◌, ◌<◌, max, min, eqb}
use Rattle.std.proofs.Common.{ap, ◌∙◌, suc-le-suc, div-one, mod-lt, pow-suc, mul_comm, mul-div_cancel, zero-lt-suc, one-mul, not-suc-le-zero}
use Rattle.std.proofs.Common.{le_of_suc-le-suc, arith, lit<, pow_pos, pow-add, shl_exact}
use Rattle.std.proofs.Math.Nat.{zero-div, div_self, div-div-eq-div-mul, mul-mod_left}
use Rattle.std.proofs.Math.Arith.{lt-one}
use Rattle.std.specs.Int.Bits.{bit_or, bit_and, or_step, and_step}
use Rattle.std.proofs.lemmas.Nat.{or_shr, and_shr}
use Rattle.std.specs.Int.Count.{count_trailing_zeros, under, ones, ones_step}

-- digit d of x
abbrev pub bit : ℕ → ℕ → ℕ
bit x d = x / 2 ^ d % 2

pub bit_lt : (x d : ℕ) → bit x d < 2
bit_lt x d = mod-lt (x / 2 ^ d) (zero-lt-suc 1)

pub bit_low : (x : ℕ) → bit x 0 ≡ x % 2
bit_low x = rw (div-one x)

pub bit_suc : (x d : ℕ) → bit x (suc d) ≡ bit (x / 2) d
bit_suc x d = rw (pow-suc 2 d, mul_comm (2 ^ d) 2, ← div-div-eq-div-mul x 2 (2 ^ d))

pub bit_none : (d : ℕ) → bit 0 d ≡ 0
bit_none d = rw (zero-div (2 ^ d))

-- the digits from digit d on
pub bit_from : (x d e : ℕ) → bit (x / 2 ^ d) e ≡ bit x (d + e)
bit_from x d e = rw (pow-add 2 d e, ← div-div-eq-div-mul x (2 ^ d) (2 ^ e))

-- a number below 2 to the n has no digit 1 from n on
pub bit_past : (n x d : ℕ) → x < 2 ^ n → n ≤ d → bit x d ≡ 0
bit_past zero x d h l = ap (λ (y : ℕ). bit y d) (lt-one h) ∙ bit_none d
bit_past (suc n) x zero h l = absurd (not-suc-le-zero l)
bit_past (suc n) x (suc d) h l = bit_suc x d ∙ bit_past n (x / 2) d (omega (arith, pow-suc 2 n)) (le_of_suc-le-suc l)

-- ---- or and and, digit by digit

low_max : (q a b : ℕ) → (q * 2 + max (a % 2) (b % 2)) % 2 ≡ max (a % 2) (b % 2)
low_max q a b = omega arith

pub bit-bit_or : (x y d : ℕ) → bit (bit_or x y) d ≡ max (bit x d) (bit y d)
bit-bit_or x y d = rw (or_shr x y d, or_step (x / 2 ^ d) (y / 2 ^ d)) (low_max (bit_or (x / 2 ^ d / 2) (y / 2 ^ d / 2)) (x / 2 ^ d) (y / 2 ^ d))

low_min : (q a b : ℕ) → (q * 2 + min (a % 2) (b % 2)) % 2 ≡ min (a % 2) (b % 2)
low_min q a b = omega arith

pub bit-bit_and : (x y d : ℕ) → bit (bit_and x y) d ≡ min (bit x d) (bit y d)
bit-bit_and x y d = rw (and_shr x y d, and_step (x / 2 ^ d) (y / 2 ^ d)) (low_min (bit_and (x / 2 ^ d / 2) (y / 2 ^ d / 2)) (x / 2 ^ d) (y / 2 ^ d))

-- the same as tests
test_max : (a b : ℕ) → a < 2 → b < 2 → eqb (max a b) 1 ≡ eqb a 1 || eqb b 1
test_max zero zero p q = refl
test_max zero (suc zero) p q = refl
test_max (suc zero) zero p q = refl
test_max (suc zero) (suc zero) p q = refl
test_max (suc (suc a)) b p q = absurd (omega arith)
test_max zero (suc (suc b)) p q = absurd (omega arith)
test_max (suc zero) (suc (suc b)) p q = absurd (omega arith)

test_min : (a b : ℕ) → a < 2 → b < 2 → eqb (min a b) 1 ≡ eqb a 1 && eqb b 1
test_min zero zero p q = refl
test_min zero (suc zero) p q = refl
test_min (suc zero) zero p q = refl
test_min (suc zero) (suc zero) p q = refl
test_min (suc (suc a)) b p q = absurd (omega arith)
test_min zero (suc (suc b)) p q = absurd (omega arith)
test_min (suc zero) (suc (suc b)) p q = absurd (omega arith)

pub test_or : (x y d : ℕ) → eqb (bit (bit_or x y) d) 1 ≡ eqb (bit x d) 1 || eqb (bit y d) 1
test_or x y d = ap (λ (z : ℕ). eqb z 1) (bit-bit_or x y d) ∙ test_max (bit x d) (bit y d) (bit_lt x d) (bit_lt y d)

pub test_and : (x y d : ℕ) → eqb (bit (bit_and x y) d) 1 ≡ eqb (bit x d) 1 && eqb (bit y d) 1
test_and x y d = ap (λ (z : ℕ). eqb z 1) (bit-bit_and x y d) ∙ test_min (bit x d) (bit y d) (bit_lt x d) (bit_lt y d)

-- ---- one digit

-- `1 << d` as the machine has it
pub one_bit : (d : ℕ) → d < 64 → 1 * 2 ^ d % 18446744073709551616 ≡ 2 ^ d
one_bit d h = shl_exact {a = 1} 1 d 64 (lit< tt) (omega arith) ∙ one-mul (2 ^ d)

pub bit_pow_same : (d : ℕ) → bit (2 ^ d) d ≡ 1
bit_pow_same d = rw (div_self (pow_pos d))

pub bit_pow_other : (d e : ℕ) → (d ≡ e → ⊥) → bit (2 ^ d) e ≡ 0
bit_pow_other zero zero h = absurd (h refl)
bit_pow_other (suc d) zero h = bit_low (2 ^ suc d) ∙ ap (λ (x : ℕ). x % 2) (pow-suc 2 d) ∙ mul-mod_left (2 ^ d) 2
bit_pow_other zero (suc e) h = bit_suc 1 e ∙ bit_none e
bit_pow_other (suc d) (suc e) h =
    bit_suc (2 ^ suc d) e ∙ ap (λ (x : ℕ). bit (x / 2) e) (pow-suc 2 d) ∙ ap (λ (x : ℕ). bit x e) (mul-div_cancel (2 ^ d) (zero-lt-suc 1))
    ∙ bit_pow_other d e (λ q. h (ap suc q))

-- ---- trailing zeros: no digit 1 below them, a digit 1 after them, if there is one at all

pub trail_below : (n x d : ℕ) → d < count_trailing_zeros n x → bit x d ≡ 0
unfolding count_trailing_zeros
trail_below zero x d h = absurd (not-suc-le-zero h)
trail_below (suc n) x d h = go (x % 2) refl (λ i. trail_below n (x / 2) i) d h
  where
    go : (l : ℕ) → x % 2 ≡ l → ((i : ℕ) → i < count_trailing_zeros n (x / 2) → bit (x / 2) i ≡ 0) → (d : ℕ) → d < under l (count_trailing_zeros n (x / 2)) → bit x d ≡ 0
    go zero e r zero h = bit_low x ∙ e
    go zero e r (suc d) h = bit_suc x d ∙ r d (le_of_suc-le-suc h)
    go (suc l) e r d h = absurd (not-suc-le-zero h)

pub trail_at : (n x : ℕ) → count_trailing_zeros n x < n → bit x (count_trailing_zeros n x) ≡ 1
unfolding count_trailing_zeros
trail_at zero x h = absurd (not-suc-le-zero h)
trail_at (suc n) x h = go (x % 2) refl (λ l. trail_at n (x / 2) l) h
  where
    go : (l : ℕ) → x % 2 ≡ l → (count_trailing_zeros n (x / 2) < n → bit (x / 2) (count_trailing_zeros n (x / 2)) ≡ 1)
        → under l (count_trailing_zeros n (x / 2)) < suc n → bit x (under l (count_trailing_zeros n (x / 2))) ≡ 1
    go zero e r h = bit_suc x (count_trailing_zeros n (x / 2)) ∙ r (le_of_suc-le-suc h)
    go (suc l) e r h = bit_low x ∙ omega arith

pub trail_found : (n x : ℕ) → 0 < x → x < 2 ^ n → count_trailing_zeros n x < n
unfolding count_trailing_zeros
trail_found zero x p h = absurd (omega arith)
trail_found (suc n) x p h = go (x % 2) refl (λ q. trail_found n (x / 2) q (omega (arith, pow-suc 2 n)))
  where
    go : (l : ℕ) → x % 2 ≡ l → (0 < x / 2 → count_trailing_zeros n (x / 2) < n) → under l (count_trailing_zeros n (x / 2)) < suc n
    go zero e r = suc-le-suc (r (omega arith))
    go (suc l) e r = zero-lt-suc n

-- ---- the count of ones is the sum of the digits

unfoldable pub digit_sum : ℕ → ℕ → ℕ
digit_sum x zero = 0
digit_sum x (suc n) = digit_sum x n + bit x n

digit_sum_step : (x n : ℕ) → digit_sum x (suc n) ≡ x % 2 + digit_sum (x / 2) n
unfolding digit_sum
digit_sum_step x zero = let e = bit_low x in omega arith
digit_sum_step x (suc n) = let h = digit_sum_step x n in let e = bit_suc x n in omega arith

ones_zero : ones 0 ≡ 0
unfolding ones
ones_zero = refl

pub ones_sum : (n x : ℕ) → x < 2 ^ n → ones x ≡ digit_sum x n
unfolding digit_sum
ones_sum zero x h = ap ones (lt-one h) ∙ ones_zero
ones_sum (suc n) x h = let r = ones_sum n (x / 2) (omega (arith, pow-suc 2 n)) in let s = digit_sum_step x n in let t = ones_step x in omega arith
