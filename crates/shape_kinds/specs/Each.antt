-- A chain over the rows 1 to n, `(1..n + 1).all(..)`: where its closure is the test of a row, it answers whether every row passes.
use Rattle.std.specs.Prelude.{List, ◌≡◌, refl, Bool, true, false, ◌&&◌, ℕ, zero, suc, ◌+◌, ◌-◌, ◌<◌, Option}
use Rattle.std.proofs.Common.{sym, ◌∙◌, ap, arith, add-zero, zero-add}
use Rattle.std.proofs.Math.Bool.{and_assoc, and-true}
use Rattle.std.proofs.Math.Numerals.{add-one}
use Rattle.std.proofs.lemmas.Iterator.{YieldsList-from_range}
use Rattle.std.proofs.lemmas.Iterator.Search.{all_from_yields_List}
use Rattle.std.specs.Fn.{Called}
use Rattle.std.specs.Iterator.{YieldsThen}
use Rattle.std.specs.List.{FoldsTo, list_all, range_with_len}
use Rattle.std.specs.Option.{MatchOption}
use Rattle.std.specs.declared.ops.Range.{Range}
use denote.Param.Members.{Mut}
use Rattle.meaning.specs.Tests.{every}

-- one step of `a..b` over numbers
abbrev pub turns : Range ℕ → Option ℕ → Range ℕ → Type 0
turns s r t = (t.end ≡ s.end) × MatchOption r ((s.end - s.start ≡ 0) × (t.start ≡ s.start)) (λ x. (0 < s.end - s.start) × (x ≡ s.start) × (t.start ≡ s.start + 1))

-- the rows 1 to k first, and then the next n
split : (test : ℕ → Bool) (n k : ℕ) → every test (k + n) ≡ every test k && list_all test (range_with_len (k + 1) n)
unfolding every
split test zero k = simp (add-zero, and-true)
split test (suc n) k =
    let e : k + suc n ≡ suc k + n = omega arith in
    ap (every test) e ∙ split test n (suc k) ∙ simp add-one (and_assoc (every test k) (test (suc k)) (list_all test (range_with_len (suc (suc k)) n)))

module _ {F : Type 0} {g : Mut F (ℕ × Unit {0}) Bool} (test : ℕ → Bool) (n : ℕ) {s : Range ℕ} (u : Range ℕ) (f : F) (r : Bool) where
  pub each_row : s ≡ record { start = 1; end = n + 1 }
      → ((xs : List ℕ) × (o : Option ℕ) × (j : F) × YieldsThen turns s xs o u × FoldsTo (λ p x q. Called g p (x, tt) true q) f xs j
      × MatchOption o (r ≡ true) (λ x. (r ≡ false) × ((h : F) × Called g j (x, tt) false h)))
      → ((x : ℕ) (b : Bool) (q : F) → Called g f (x, tt) b q → (q ≡ f) × (b ≡ test x)) → r ≡ every test n
  unfolding every
  each_row e ran calls =
      all_from_yields_List {steps = turns} {s = s} test u f r ran (YieldsList-from_range 1 (n + 1) n e (omega arith)) calls ∙ sym (simp zero-add at (split test n 0))
