-- How a tally grows: one row after another, and a loop over the rows 1 to n. Sums are cut at 2, so that what is cut early is cut all the same.
use mathlib.Core.Path.{◌≡◌, refl, ap, subst, ◌∙◌}
use mathlib.Core.Bool.{Bool, true, false}
use mathlib.Core.List.{List}
use Prim.Native.Nat.{ℕ, zero, suc, ◌+◌, ◌≤◌, min}
use native.Mathlib.Numerals.{add-one}
use native.Mathlib.Omega.{arith}
use lib.Dec.{eqb}
use borrow.Author.Tests.{eqb-true, eqb-false, eq-eqb, ne_eqb}
use lib.ListN.{get_or, replicate, length-replicate, get_or-replicate}
use Rattle.meaning.specs.Tests.{every, total}
use Rattle.meaning.specs.Sheet.{Cells}
use Rattle.meaning.specs.Shape.{hits}
use Rattle.meaning.specs.Shape as meaning
use Rattle.shape_users.specs.Tally.{UpToTwo, Added, nothing}

cut : (a b c : ℕ) → min 2 (min 2 (a + b) + c) ≡ min 2 (a + (b + c))
cut a b c = omega arith

pub then : {a b c : List ℕ} {G H : ℕ → ℕ} → Added a b G → Added b c H → Added a c (λ r. G r + H r)
then {a} {b} {c} {G} {H} A B = record {
  tally = B.tally;
  counts = λ r h. B.counts r h ∙ ap (λ x. min 2 (x + H r)) (A.counts r h) ∙ cut (get_or a r 0) (G r) (H r);
}

-- ---- the words of a row, by what its kind says
pub by_row : (which : meaning.Use → Bool) (g : Cells → meaning.Uses) {a b : List ℕ} {x y : Cells} {u : meaning.Uses}
    → Added a b (λ r. hits which r u x) → u ≡ g x → x ≡ y → Added a b (λ r. hits which r (g y) y)
by_row which g {a} {b} {x} {y} {u} A e d =
    subst (λ z. Added a b (λ r. hits which r (g z) z)) d (subst (λ v. Added a b (λ r. hits which r v x)) e A)

-- ---- the tally of nothing
abbrev pub no_users : List ℕ
no_users = replicate 2049 0

pub zero_at : (r : ℕ) → r ≤ 2048 → get_or no_users r 0 ≡ 0
zero_at r h = get_or-replicate 2049 r 0 0 (omega arith)

pub fresh : UpToTwo no_users
fresh = record { size = length-replicate {A = ℕ} 2049 0; small = λ r h. omega (arith, zero_at r h) }

-- ---- one row after another
pub turn : (amount : ℕ → ℕ → ℕ) (i : ℕ) {old t u : List ℕ} → Added old t (λ r. total (amount r) i) → Added t u (λ r. amount r (i + 1))
    → Added old u (λ r. total (amount r) (i + 1))
unfolding total
turn amount i A B = simp add-one (then A (simp add-one at B))

pub start : (amount : ℕ → ℕ → ℕ) {t : List ℕ} → UpToTwo t → Added t t (λ r. total (amount r) 0)
unfolding total
start amount T = nothing T

-- ---- what was counted from nothing is the number of users

every_same : (f g : ℕ → Bool) (n : ℕ) → ((r : ℕ) → r ≤ n → f r ≡ g r) → every f n ≡ every g n
unfolding every
every_same f g zero e = refl
every_same f g (suc n) e = rw (every_same f g n (λ r h. e r (omega arith)), e (suc n) (omega arith))

-- a count cut at 2 is 1 if the whole count is
cut_one : (x u : ℕ) → x ≡ min 2 u → eqb x 1 ≡ eqb u 1
cut_one x u e = go (eqb u 1) refl
  where
    go : (b : Bool) → eqb u 1 ≡ b → eqb x 1 ≡ b
    go true d = let h = eqb-true u 1 d in eq-eqb x 1 (omega arith)
    go false d = let h = eqb-false u 1 d in ne_eqb x 1 (λ c. h (omega arith))

pub each_once : (users : ℕ → ℕ) {n m : ℕ} {old t : List ℕ} {G : ℕ → ℕ} {x : Bool} → n ≤ 2048 → old ≡ no_users → Added old t G → ((r : ℕ) → G r ≡ users r)
    → m ≡ n → x ≡ every (λ i. eqb (get_or t i 0) 1) m → x ≡ every (λ i. eqb (users i) 1) n
each_once users {n} {m} {old} {t} {G} {x} l z A e k d =
    d ∙ rw k (every_same (λ i. eqb (get_or t i 0) 1) (λ i. eqb (users i) 1) n (λ r h. cut_one (get_or t r 0) (users r) (same r h)))
  where
    same : (r : ℕ) → r ≤ n → get_or t r 0 ≡ min 2 (users r)
    same r h = let c = A.counts r (omega arith) in let o = ap (λ b. get_or b r 0) z ∙ zero_at r (omega arith) in let w = e r in omega arith
