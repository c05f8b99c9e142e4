-- Laws of the forest at a row: where rows refer to lower rows only, the row's own number is steps enough, and only the rows up to it are looked at.
use Prim.Native.Nat.{ℕ, zero, suc, ◌≤◌, ◌<◌}
use Rattle.std.specs.Prelude.{◌≡◌, Bool, true, false, [], ◌∷◌, get_or}
use Rattle.std.proofs.Math.Path.{refl}
use Rattle.std.proofs.lemmas.Bool.{false≢true}
use Rattle.std.proofs.Common.{arith}
use Rattle.meaning.specs.Tests.{in_table}
use Rattle.meaning.specs.Sheet.{Cells}
use Rattle.meaning.specs.Forest.{Tree, Forest, nil, cons, text_at, tree_form, forest, forest_at}
use Rattle.meaning.specs.Laws.Bools.{not_both}
use Rattle.meaning.specs.Laws.Tests.{table_high}

-- row r refers to lower rows only; texts and bools, kinds 1 to 3, have no child
pub record LowRow (c : Cells) (r : ℕ) : Type 0 where
  pub child : in_table 3 c.kind ≡ false → c.q < r
  pub next : c.r < r

abbrev pub LowRows : (ℕ → Cells) → ℕ → Type 0
LowRows row n = (r : ℕ) → 1 ≤ r → r ≤ n → LowRow (row r) r

-- the rows 1 to n are the same
abbrev pub SameRows : (ℕ → Cells) → (ℕ → Cells) → ℕ → Type 0
SameRows row row' n = (r : ℕ) → 1 ≤ r → r ≤ n → row r ≡ row' r

module _ (byte : ℕ → ℕ) where
  childless_kind : (p q k : ℕ) (f g : Forest) → in_table 3 k ≡ true
      → get_or (Tree.node p f ∷ Tree.text (text_at byte p q) ∷ Tree.bool false ∷ Tree.bool true ∷ []) k (Tree.node p f)
      ≡ get_or (Tree.node p g ∷ Tree.text (text_at byte p q) ∷ Tree.bool false ∷ Tree.bool true ∷ []) k (Tree.node p g)
  childless_kind p q zero f g e = absurd (false≢true e)
  childless_kind p q (suc zero) f g e = refl
  childless_kind p q (suc (suc zero)) f g e = refl
  childless_kind p q (suc (suc (suc zero))) f g e = refl
  childless_kind p q (suc (suc (suc (suc k)))) f g e = absurd (omega (arith, table_high 3 (suc (suc (suc (suc k)))) e))

  node_kind : (p q k : ℕ) (f : Forest) → in_table 3 k ≡ false
      → get_or (Tree.node p f ∷ Tree.text (text_at byte p q) ∷ Tree.bool false ∷ Tree.bool true ∷ []) k (Tree.node p f) ≡ Tree.node p f
  node_kind p q zero f e = refl
  node_kind p q (suc zero) f e = absurd (not_both refl e)
  node_kind p q (suc (suc zero)) f e = absurd (not_both refl e)
  node_kind p q (suc (suc (suc zero))) f e = absurd (not_both refl e)
  node_kind p q (suc (suc (suc (suc k)))) f e = refl

  -- a row of any kind but 1 to 3 is a labelled tree
  pub node_form : (c : Cells) (f : Forest) → in_table 3 c.kind ≡ false → tree_form byte c f ≡ Tree.node c.p f
  node_form c f e = node_kind c.p c.q c.kind f e

  -- a text or a bool is the same whatever its child would be; the others go by their child
  pub tree_same : (c : Cells) (f g : Forest) → (in_table 3 c.kind ≡ false → f ≡ g) → tree_form byte c f ≡ tree_form byte c g
  tree_same c f g h = go (in_table 3 c.kind) refl
    where
      go : (t : Bool) → in_table 3 c.kind ≡ t → tree_form byte c f ≡ tree_form byte c g
      go true e = childless_kind c.p c.q c.kind f g e
      go false e = rw (h e)

  pub forest_same : (row row' : ℕ → Cells) (n : ℕ) → LowRows row n → SameRows row row' n → (k j r : ℕ) → r ≤ n → r ≤ k → r ≤ j → forest byte row k r ≡ forest byte row' j r
  unfolding forest
  forest_same row row' n low same zero zero zero l p q = refl
  forest_same row row' n low same zero (suc j) zero l p q = refl
  forest_same row row' n low same zero j (suc r) l p q = absurd (omega arith)
  forest_same row row' n low same (suc k) zero zero l p q = refl
  forest_same row row' n low same (suc k) (suc j) zero l p q = refl
  forest_same row row' n low same (suc k) zero (suc r) l p q = absurd (omega arith)
  forest_same row row' n low same (suc k) (suc j) (suc r) l p q =
      let here = same (suc r) (omega arith) l in
      let lower = low (suc r) (omega arith) l in
      let next = lower.next in
      let tree = tree_same (row (suc r)) (forest byte row k (row (suc r)).q) (forest byte row' j (row (suc r)).q) (λ e.
      let child = lower.child e in
      forest_same row row' n low same k j (row (suc r)).q (omega arith) (omega arith) (omega arith)) in
      rw (← here, tree, forest_same row row' n low same k j (row (suc r)).r (omega arith) (omega arith) (omega arith))

  -- as many steps as the row's number are enough
  pub forest_enough : (row : ℕ → Cells) (k r : ℕ) → LowRows row r → r ≤ k → forest byte row k r ≡ forest_at byte row r
  unfolding forest_at
  forest_enough row k r low l = forest_same row row r low (λ i p q. refl) k r r (omega arith) l (omega arith)

  -- the forest at row r goes by the rows 1 to r
  pub forest_at_same : (row row' : ℕ → Cells) (r : ℕ) → LowRows row r → SameRows row row' r → forest_at byte row r ≡ forest_at byte row' r
  unfolding forest_at
  forest_at_same row row' r low same = forest_same row row' r low same r r r (omega arith) (omega arith) (omega arith)

  pub forest_at_zero : (row : ℕ → Cells) → forest_at byte row 0 ≡ nil
  unfolding forest_at forest
  forest_at_zero row = refl

  pub forest_at_suc : (row : ℕ → Cells) (r : ℕ) → LowRows row (suc r)
      → forest_at byte row (suc r) ≡ cons (tree_form byte (row (suc r)) (forest_at byte row (row (suc r)).q)) (forest_at byte row (row (suc r)).r)
  unfolding forest_at forest
  forest_at_suc row r low =
      let lower = low (suc r) (omega arith) (omega arith) in
      let next = lower.next in
      let tree = tree_same (row (suc r)) (forest byte row r (row (suc r)).q) (forest_at byte row (row (suc r)).q) (λ e.
      let child = lower.child e in
      forest_enough row r (row (suc r)).q (λ i p q. low i p (omega arith)) (omega arith)) in
      rw (tree, forest_enough row r (row (suc r)).r (λ i p q. low i p (omega arith)) (omega arith))
