-- Laws of the two-valued tests: `◌&&◌` and `◌||◌` taken apart and put together. And what follows where two things that differ are said to be equal.
use Rattle.std.specs.Prelude.{ℕ, ◌≡◌, refl, Bool, true, false, ◌&&◌, ◌||◌, ◌⊎◌}
use Rattle.std.proofs.lemmas.Bool.{false≢true}
use Rattle.std.proofs.Common.{inl, inr, arith}

-- anything
pub never : {A : Type 0} → ◌≡◌ {A = ℕ} 0 1 → A
never e = absurd (omega arith)

pub or_left : {a : Bool} (b : Bool) → a ≡ true → a || b ≡ true
or_left b e = rw e

pub or_right : (a : Bool) {b : Bool} → b ≡ true → a || b ≡ true
or_right true e = refl
or_right false e = e

pub or_cases : (a b : Bool) → a || b ≡ true → (a ≡ true) ⊎ (b ≡ true)
or_cases true b e = inl refl
or_cases false b e = inr e

pub and_left : (a b : Bool) → a && b ≡ true → a ≡ true
and_left true b e = refl
and_left false b e = absurd (false≢true e)

pub and_right : (a b : Bool) → a && b ≡ true → b ≡ true
and_right true b e = e
and_right false b e = absurd (false≢true e)

pub and_both : (a b : Bool) → a ≡ true → b ≡ true → a && b ≡ true
and_both a b p q = rw (p, q)

pub no_left : {a : Bool} (b : Bool) → a ≡ false → a && b ≡ false
no_left b e = rw e

pub no_right : (a : Bool) {b : Bool} → b ≡ false → a && b ≡ false
no_right true e = e
no_right false e = refl

pub and_false : (a : Bool) → a && false ≡ false
and_false a = no_right a refl

pub or_false : (a : Bool) → a || false ≡ a
or_false true = refl
or_false false = refl

pub or_or : (a b c : Bool) → a || b || c ≡ a || (b || c)
or_or true b c = refl
or_or false b c = refl

-- a test is passed or not, with its equation
pub either : (a : Bool) → (a ≡ true) ⊎ (a ≡ false)
either true = inl refl
either false = inr refl

pub not_both : {a : Bool} → a ≡ true → a ≡ false → ⊥
not_both {a} p q = false≢true (cc)
