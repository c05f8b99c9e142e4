-- What the forest rows of a shaped sheet are: each is a tree with lower rows for its child and its next. Read off the tests of Shape.
use Rattle.std.specs.Prelude.{ℕ, zero, suc, ◌≤◌, ◌<◌, ◌≡◌, refl, true, false, List, ◌⊎◌}
use Rattle.std.proofs.lemmas.Bool.{false≢true}
use Rattle.std.proofs.Common.{inl, inr, arith, leb-true, ltb-true}
use Rattle.meaning.specs.Tests.{in_table}
use Rattle.meaning.specs.Sheet.{Cells, Grove, Sheet, grove_of, sheet_of}
use Rattle.meaning.specs.Forest.{Tree, Forest, tree_form}
use Rattle.meaning.specs.Places.{head_at, content_at, start, Fits, Admits}
use Rattle.meaning.specs.Faults.{tree_head}
use Rattle.meaning.specs.Shape.{shapely, forest_uses, word_ok, words_ok}
use Rattle.meaning.specs.Laws.Bools.{and_left, and_right, not_both}
use Rattle.meaning.specs.Laws.Tests.{in_table_lem, table_high}
use Rattle.meaning.specs.Laws.Rows.{LowRow, LowRows}
use Rattle.meaning.specs.Laws.Shaped.{cells, rows_say, roots, rows_pass, roots_pass}

pub data Sort (c : Cells) (r : ℕ) : Type 0 where
  a_text : c.kind ≡ 1 → Sort c r
  a_bool : (c.kind ≡ 2) ⊎ (c.kind ≡ 3) → Sort c r
  a_node : c.kind ≡ 4 → c.p ≤ 1023 → c.q < r → Sort c r

pub record TreeRow (c : Cells) (r : ℕ) : Type 0 where
  pub sort : Sort c r
  pub next : c.r < r

tree_kind : (s : Sheet) (k p q x r : ℕ) → in_table 4 k ≡ true → words_ok s (forest_uses (cells k p q x)) r (cells k p q x) ≡ true → TreeRow (cells k p q x) r
unfolding word_ok
tree_kind s zero p q x r t h = absurd (false≢true t)
tree_kind s (suc zero) p q x r t h = record { sort = a_text refl; next = ltb-true x r (search (and_left, and_right)) }
tree_kind s (suc (suc zero)) p q x r t h = record { sort = a_bool (inl refl); next = ltb-true x r (search (and_left, and_right)) }
tree_kind s (suc (suc (suc zero))) p q x r t h = record { sort = a_bool (inr refl); next = ltb-true x r (search (and_left, and_right)) }
tree_kind s (suc (suc (suc (suc zero)))) p q x r t h = record {
  sort = a_node refl (leb-true p 1023 (search (and_left, and_right))) (ltb-true q r (search (and_left, and_right)));
  next = ltb-true x r (search (and_left, and_right));
}
tree_kind s (suc (suc (suc (suc (suc k))))) p q x r t h = absurd (omega (arith, table_high 4 (suc (suc (suc (suc (suc k))))) t))

low_row : (c : Cells) (r : ℕ) → TreeRow c r → LowRow c r
low_row c r x = record { child = λ h. go x.sort h; next = x.next }
  where
    go : Sort c r → in_table 3 c.kind ≡ false → c.q < r
    go (a_text e) h = absurd (not_both (in_table_lem 3 c.kind (omega arith) (omega arith)) h)
    go (a_bool (inl e)) h = absurd (not_both (in_table_lem 3 c.kind (omega arith) (omega arith)) h)
    go (a_bool (inr e)) h = absurd (not_both (in_table_lem 3 c.kind (omega arith) (omega arith)) h)
    go (a_node e p q) h = q

module _ (s : List ℕ) (e : shapely s ≡ true) where
  abbrev G : Grove
  G = grove_of s

  pub root_row : G.root ≤ G.rows
  unfolding sheet_of
  root_row = (roots (sheet_of s) (roots_pass s e)).forest

  pub tree_row_lem : (r : ℕ) → 1 ≤ r → r ≤ G.rows → TreeRow (G.row r) r
  unfolding sheet_of
  tree_row_lem r p q =
      let c = G.row r in
      let h = rows_say (sheet_of s) r (rows_pass s e) (in_table_lem G.rows r p q) in
      tree_kind (sheet_of s) c.kind c.p c.q c.r r (and_left (in_table 4 c.kind) _ h) (and_right (in_table 4 c.kind) _ h)

  pub low_rows : (n : ℕ) → n ≤ G.rows → LowRows G.row n
  low_rows n l r p q = low_row (G.row r) r (tree_row_lem r p (omega arith))

  pub grove_low : LowRows G.row G.rows
  grove_low = low_rows G.rows (omega arith)

-- a tree fits a place exactly if they have one head and its children are of the place's content
module _ (byte : ℕ → ℕ) (c : Cells) (r : ℕ) (f : Forest) (row : ℕ → Cells) (name_row : ℕ → ℕ) (b : ℕ) where
  abbrev tree : Tree
  tree = tree_form byte c f

  abbrev Filled : Type 0
  Filled = Admits row name_row f (content_at row name_row b) (start (content_at row name_row b))

  pub fits_head : Sort c r → Fits row name_row tree b → head_at row name_row b ≡ tree_head tree
  unfolding Fits
  fits_head (a_text e) = rw e (λ x. x)
  fits_head (a_bool (inl e)) = rw e (λ x. x)
  fits_head (a_bool (inr e)) = rw e (λ x. x)
  fits_head (a_node e p q) = rw e (λ x. x.0)

  pub fits_inside : Sort c r → Fits row name_row tree b → c.kind ≡ 4 → Filled
  unfolding Fits
  fits_inside (a_text e) = λ x k. absurd (omega arith)
  fits_inside (a_bool (inl e)) = λ x k. absurd (omega arith)
  fits_inside (a_bool (inr e)) = λ x k. absurd (omega arith)
  fits_inside (a_node e p q) = rw e (λ x k. x.1)

  pub head_fits : Sort c r → head_at row name_row b ≡ tree_head tree → (c.kind ≡ 4 → Filled) → Fits row name_row tree b
  unfolding Fits
  head_fits (a_text e) = rw e (λ x y. x)
  head_fits (a_bool (inl e)) = rw e (λ x y. x)
  head_fits (a_bool (inr e)) = rw e (λ x y. x)
  head_fits (a_node e p q) = rw e (λ x y. (x, y refl))
