-- `type_ties::lower` meets its contract: the derived order is by the row, then by the rival.
use Rattle.std.proofs.Common.{◌≡◌, true, false, arith, inl, inr}
use Rattle.std.proofs.lemmas.Grind.{common_steps}
use Rattle.std.specs.Ordering.{is_lt}
use Rattle.meaning.specs.Laws.Bools.{either}
use Rattle.type_ties.specs.Points.{Before, found_first, best_first}
use Rattle.type_ties.specs.declared.Tied.{Tied}
use Rattle.type_ties.specs.contracts.TiedOrd.TheImpl.{cmp-value}
use Rattle.type_ties.proofs.lower.Goals as goal

before : (a b : Tied) → is_lt (cmp-value.it a b) ≡ true → Before a b
before a b h = grind (arith, common_steps)

not_before : (a b : Tied) → is_lt (cmp-value.it a b) ≡ false → Before a b → ⊥
not_before a b h = grind (arith, common_steps)

pub returns-in-Some-Some : goal.returns-in-Some-Some
returns-in-Some-Some c = let old = c.in-Some-Some.old in let new = c.in-Some-Some.new in elim (either (is_lt (cmp-value.it new old))) [
  | inl z ↦ (let e : c.min.result ≡ new = rw z at c.min.ensures in found_first c.in-Some-Some.is-0 c.in-Some-Some.is-1 (before new old z) (rw (e, c.in-Some-Some.is-1)))
  | inr z ↦ (let e : c.min.result ≡ old = rw z at c.min.ensures in best_first c.in-Some-Some.is-0 c.in-Some-Some.is-1 (not_before new old z) (rw (e, c.in-Some-Some.is-0)))
]
