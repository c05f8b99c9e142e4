-- A loop over the rows 1 to n that stops at the first that fails: what holds after i turns, and what it answers.
use Rattle.std.specs.Prelude.{◌≡◌, Bool, false, not, ℕ, suc, ◌+◌, ◌≤◌, ◌<◌}
use Rattle.std.proofs.Math.Path.{refl}
use Rattle.std.proofs.Common.{sym, ◌∙◌, arith}
use Rattle.std.proofs.Math.Bool.{true}
use Rattle.std.proofs.Math.Numerals.{add-one}
use borrow.Author.Tests.{not-true, not-false}
use Rattle.meaning.specs.Tests.{every}
use Rattle.meaning.specs.Laws.Tests.{every_at}
use Rattle.meaning.specs.Laws.Bools.{not_both, and_both}

module _ (test : ℕ → Bool) (n : ℕ) where
  -- the rows 1 to i pass
  pub record Passed (i : ℕ) : Type 0 where
    pub within : i ≤ n
    pub all : every test i ≡ true

  pub none_yet : Passed 0
  unfolding every
  none_yet = record { within = omega arith; all = refl }

  pub one_more : (i : ℕ) {r : Bool} → Passed i → i < n → r ≡ test (i + 1) → not r ≡ false → Passed (i + 1)
  unfolding every
  one_more i {r} P l e t =
      let here : test (suc i) ≡ true = rw add-one at (sym e ∙ not-false r t) in
      record { within = omega arith; all = rw add-one (and_both (every test i) (test (suc i)) P.all here) }

  pub fails : (i : ℕ) {r : Bool} → i < n → r ≡ test (i + 1) → not r ≡ true → every test n ≡ false
  fails i {r} l e t = go (every test n) refl
    where
      go : (b : Bool) → every test n ≡ b → b ≡ false
      go false h = refl
      go true h = absurd (not_both (every_at test n h (i + 1) (omega arith) (omega arith)) (sym e ∙ not-true r t))

  pub passes : (i : ℕ) → Passed i → n ≤ i → every test n ≡ true
  passes i P h = let e : i ≡ n = omega (arith, P.within) in rw e at P.all
