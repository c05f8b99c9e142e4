-- Two passes over a table of type rows, first bottom up and then top down, leave sets that are wired: what each row asks of its parts' sets is enough. By induction on rows.
use Rattle.std.specs.Prelude.{ℕ, zero, suc, ◌≤◌, ◌<◌, ◌≡◌, Bool, true, false, ◌&&◌, ◌||◌, eqb}
use Rattle.std.proofs.Common.{◌∙◌}
use native.Mathlib.Omega.{arith}
use Rattle.meaning.specs.Kinds.{TypeRow}
use Rattle.meaning.specs.Places.{Model, model_form, model_at, Set, nullable, first}
use Rattle.meaning.specs.Laws.Wired.{Wired, starting, turning}
use Rattle.meaning.specs.Laws.Apart.{Low, model_at_row}

-- what the passes leave at each row: may it be empty, what may stand first in it, what may stand behind it
module _ (null : ℕ → Bool) (fst behind : ℕ → Set) where
  pub record Leaf (i : ℕ) (e : Bool) (s : Set) : Type 0 where
    pub null_is : null i ≡ e
    pub first_is : (b : ℕ) → fst i b ≡ s b

  -- bottom up
  unfoldable pub Up : TypeRow → ℕ → Type 0
  Up TypeRow.none i = Leaf i true (λ b. false)
  Up TypeRow.empty i = Leaf i true (λ b. false)
  Up TypeRow.text i = Leaf i false (λ b. eqb i b)
  Up TypeRow.bool i = Leaf i false (λ b. eqb i b)
  Up (TypeRow.label n q) i = Leaf i false (λ b. eqb i b)
  Up (TypeRow.seq p q) i = Leaf i (null p && null q) (λ b. fst p b || null p && fst q b)
  Up (TypeRow.choice p q) i = Leaf i (null p || null q) (λ b. fst p b || fst q b)
  Up (TypeRow.star p) i = Leaf i true (λ b. fst p b)
  Up (TypeRow.name x) i = Leaf i false (λ b. eqb i b)

  -- top down
  unfoldable pub Down : TypeRow → ℕ → Type 0
  Down TypeRow.none i = Unit {0}
  Down TypeRow.empty i = Unit {0}
  Down TypeRow.text i = Unit {0}
  Down TypeRow.bool i = Unit {0}
  Down (TypeRow.label n q) i = Unit {0}
  Down (TypeRow.seq p q) i = ((b : ℕ) → behind p b ≡ fst q b || null q && behind i b) × ((b : ℕ) → behind q b ≡ behind i b)
  Down (TypeRow.choice p q) i = ((b : ℕ) → behind p b ≡ behind i b) × ((b : ℕ) → behind q b ≡ behind i b)
  Down (TypeRow.star p) i = (b : ℕ) → behind p b ≡ fst p b || behind i b
  Down (TypeRow.name x) i = Unit {0}

  -- the sets of a row are those of its model
  pub record Right (i : ℕ) (m : Model) : Type 0 where
    pub null_right : null i ≡ nullable m
    pub first_right : (b : ℕ) → fst i b ≡ first m b

  right_row : (t : TypeRow) (i : ℕ) (at : ℕ → Model) → Low t i → Up t i → ((j : ℕ) → j < i → Right j (at j)) → Right i (model_form t i at)
  unfolding Low Up model_form nullable first
  right_row TypeRow.none i at l u h = record { null_right = u.null_is; first_right = u.first_is }
  right_row TypeRow.empty i at l u h = record { null_right = u.null_is; first_right = u.first_is }
  right_row TypeRow.text i at l u h = record { null_right = u.null_is; first_right = u.first_is }
  right_row TypeRow.bool i at l u h = record { null_right = u.null_is; first_right = u.first_is }
  right_row (TypeRow.label n q) i at l u h = record { null_right = u.null_is; first_right = u.first_is }
  right_row (TypeRow.seq p q) i at l u h = let x = h p l.0 in let y = h q l.1 in record {
    null_right = cc;
    first_right = λ b. u.first_is b ∙ rw (x.first_right b, x.null_right, y.first_right b);
  }
  right_row (TypeRow.choice p q) i at l u h = let x = h p l.0 in let y = h q l.1 in record {
    null_right = cc;
    first_right = λ b. u.first_is b ∙ rw (x.first_right b, y.first_right b);
  }
  right_row (TypeRow.star p) i at l u h = record { null_right = u.null_is; first_right = λ b. u.first_is b ∙ (h p l).first_right b }
  right_row (TypeRow.name x) i at l u h = record { null_right = u.null_is; first_right = u.first_is }

  wired_row : (t : TypeRow) (i : ℕ) (at : ℕ → Model) (k : Set) → Low t i → Down t i → ((j : ℕ) → j < i → Right j (at j))
      → ((j : ℕ) → j < i → (k : Set) → ((b : ℕ) → behind j b ≡ k b) → Wired behind (at j) k) → ((b : ℕ) → behind i b ≡ k b) → Wired behind (model_form t i at) k
  unfolding Low Down model_form Wired
  wired_row TypeRow.none i at k l d h w e = tt
  wired_row TypeRow.empty i at k l d h w e = tt
  wired_row TypeRow.text i at k l d h w e = (l, e)
  wired_row TypeRow.bool i at k l d h w e = (l, e)
  wired_row (TypeRow.label n q) i at k l d h w e = (omega arith, e)
  wired_row (TypeRow.seq p q) i at k l d h w e = let y = h q l.1 in (
    w p l.0 (starting (at q) k) (λ b. d.0 b ∙ rw (y.first_right b, y.null_right, e b)),
    w q l.1 k (λ b. d.1 b ∙ e b),
  )
  wired_row (TypeRow.choice p q) i at k l d h w e = (w p l.0 k (λ b. d.0 b ∙ e b), w q l.1 k (λ b. d.1 b ∙ e b))
  wired_row (TypeRow.star p) i at k l d h w e = w p l (turning (at p) k) (λ b. d b ∙ rw ((h p l).first_right b, e b))
  wired_row (TypeRow.name x) i at k l d h w e = (l, e)

  -- rows up to n have been passed
  module _ (form : ℕ → TypeRow) (low : (i : ℕ) → Low (form i) i) (n : ℕ) (up : (i : ℕ) → i ≤ n → Up (form i) i) where
    right_below : (d r : ℕ) → r < d → r ≤ n → Right r (model_at form r)
    right_below zero r l p = absurd (omega arith)
    right_below (suc d) r l p = rw (model_at_row form low r) (right_row (form r) r (model_at form) (low r) (up r p) (λ j q. right_below d j (omega arith) (omega arith)))

    pub passed_right : (r : ℕ) → r ≤ n → Right r (model_at form r)
    passed_right r p = right_below (suc r) r (omega arith) p

    module _ (down : (i : ℕ) → i ≤ n → Down (form i) i) where
      wired_below : (d r : ℕ) → r < d → r ≤ n → (k : Set) → ((b : ℕ) → behind r b ≡ k b) → Wired behind (model_at form r) k
      wired_below zero r l p k e = absurd (omega arith)
      wired_below (suc d) r l p k e = rw (model_at_row form low r) (wired_row (form r) r (model_at form) k (low r) (down r p)
          (λ j q. passed_right j (omega arith)) (λ j q k. wired_below d j (omega arith) (omega arith) k) e)

      -- where k stands behind the row, the table of what stands behind each row is wired for its model
      pub passed_wired : (r : ℕ) → r ≤ n → (k : Set) → ((b : ℕ) → behind r b ≡ k b) → Wired behind (model_at form r) k
      passed_wired r p = wired_below (suc r) r (omega arith) p
