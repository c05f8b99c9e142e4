-- The forest at a row, by its first tree: its rows are those of the rest, those of that tree's children, and the tree's own.
use Prim.Native.Nat.{ℕ, zero, suc, ◌+◌, ◌<◌}
use Rattle.std.specs.Prelude.{◌≡◌, Bool, true, false, cond, List, [], ◌∷◌, ◌++◌, get_or}
use Rattle.std.proofs.Math.Path.{refl, ap}
use Rattle.std.proofs.Common.{sym, ◌∙◌, arith}
use Rattle.meaning.specs.Tests.{in_table}
use Rattle.meaning.specs.Sheet.{Cells}
use Rattle.meaning.specs.Forest.{Forest, nil, cons, tree_form, forest_at, tree_size, forest_size, root_after, tree_rows, forest_rows}
use Rattle.meaning.specs.Laws.Bools.{not_both}
use Rattle.meaning.specs.Laws.Rows.{LowRows, tree_same, forest_at_zero, forest_at_suc}
use Rattle.meaning.specs.Theorems.ReadBack.{lent_row}
use Rattle.forest_rows.specs.Rows.{Readable}
use Rattle.forest_rows.specs.Table.{read_next, read_child, read_forest, forest_none}

-- the forest at row r of lent rows; how many rows it takes; and its rows, behind n others
abbrev pub lent_forest : (ℕ → ℕ) → List ℕ → ℕ → Forest
lent_forest byte work r = forest_at byte (lent_row work) r

abbrev pub size_at : (ℕ → ℕ) → List ℕ → ℕ → ℕ
size_at byte work r = forest_size (lent_forest byte work r)

abbrev pub rows_at : (ℕ → ℕ) → List ℕ → ℕ → ℕ → List Cells
rows_at byte work n r = forest_rows n (lent_forest byte work r)

pub size_none : (byte : ℕ → ℕ) (work : List ℕ) (r : ℕ) → r ≡ 0 → size_at byte work r ≡ 0
unfolding forest_size
size_none byte work r e = ap forest_size (forest_none byte (lent_row work) r e)

pub rows_none : (byte : ℕ → ℕ) (work : List ℕ) (n r : ℕ) → r ≡ 0 → rows_at byte work n r ≡ []
unfolding forest_rows
rows_none byte work n r e = ap (forest_rows n) (forest_none byte (lent_row work) r e)

-- ---- a tree, by its kind

-- the row of a tree's first child; texts and bools, kinds 1 to 3, have none
abbrev pub child_of : Cells → ℕ
child_of c = cond (in_table 3 c.kind) 0 c.q

-- the row that it is written as, with q for its first child and next for the rest
abbrev pub tree_row : Cells → ℕ → ℕ → Cells
tree_row c q next = get_or (
    record { kind = 4; p = c.p; q = q; r = next }
    ∷ record { kind = 1; p = c.p; q = c.q; r = next }
    ∷ record { kind = 2; p = 0; q = 0; r = next }
    ∷ record { kind = 3; p = 0; q = 0; r = next }
    ∷ []) c.kind (record { kind = 4; p = c.p; q = q; r = next })

pub row_node : (c : Cells) (k q next : ℕ) → c.kind ≡ k → in_table 3 k ≡ false
    → tree_row c q next ≡ record { kind = 4; p = c.p; q = q; r = next }
row_node c zero q next e h = rw e
row_node c (suc zero) q next e h = absurd (not_both refl h)
row_node c (suc (suc zero)) q next e h = absurd (not_both refl h)
row_node c (suc (suc (suc zero))) q next e h = absurd (not_both refl h)
row_node c (suc (suc (suc (suc k)))) q next e h = rw e

module _ (byte : ℕ → ℕ) (c : Cells) (f : Forest) where
  kind_size : (k : ℕ) → c.kind ≡ k → (in_table 3 k ≡ true → f ≡ nil) → tree_size (tree_form byte c f) ≡ suc (forest_size f)
  unfolding tree_size forest_size
  kind_size zero e h = rw e
  kind_size (suc zero) e h = rw (e, h refl)
  kind_size (suc (suc zero)) e h = rw (e, h refl)
  kind_size (suc (suc (suc zero))) e h = rw (e, h refl)
  kind_size (suc (suc (suc (suc k)))) e h = rw e

  kind_rows : (n next k : ℕ) → c.kind ≡ k → (in_table 3 k ≡ true → f ≡ nil)
      → tree_rows n (tree_form byte c f) next ≡ forest_rows n f ++ tree_row c (root_after n f) next ∷ []
  unfolding tree_rows forest_rows
  kind_rows n next zero e h = rw e
  kind_rows n next (suc zero) e h = rw (e, h refl)
  kind_rows n next (suc (suc zero)) e h = rw (e, h refl)
  kind_rows n next (suc (suc (suc zero))) e h = rw (e, h refl)
  kind_rows n next (suc (suc (suc (suc k)))) e h = rw e

-- ---- the row of a forest's first tree

-- the last of its rows; row 0 is the empty forest
abbrev pub root_of : ℕ → ℕ → ℕ
root_of zero last = 0
root_of (suc r) last = last

pub root_some : (r last : ℕ) → (r ≡ 0 → ⊥) → last ≡ root_of r last
root_some zero last h = absurd (h refl)
root_some (suc r) last h = refl

root_of_lem : (byte : ℕ → ℕ) (work : List ℕ) (r n last : ℕ) → LowRows (lent_row work) r → n + size_at byte work r ≡ last
    → root_after n (lent_forest byte work r) ≡ root_of r last
unfolding root_after
root_of_lem byte work zero n last low e = ap (root_after n) (forest_at_zero byte (lent_row work))
root_of_lem byte work (suc r) n last low e = sym (rw (forest_at_suc byte (lent_row work) r low)) ∙ e

-- ---- at a row that was read

-- row r is c
pub record TreeAt (work : List ℕ) (r : ℕ) (c : Cells) : Type 0 where
  pub readable : Readable work r
  pub some : 0 < r
  pub is : c ≡ lent_row work r

module _ {work : List ℕ} {r : ℕ} {c : Cells} (t : TreeAt work r c) where
  pub next_low : c.r < r
  next_low = read_next (lent_row work) r r c t.readable.low t.some (omega arith) t.is

  pub child_low : child_of c < r
  child_low = go (in_table 3 c.kind) refl
    where
      go : (b : Bool) → in_table 3 c.kind ≡ b → child_of c < r
      go true e = rw e t.some
      go false e = rw e (read_child (lent_row work) r r c t.readable.low t.some (omega arith) t.is e)

  lower : (i : ℕ) → i < r → Readable work i
  lower i h =
      let x = t.readable in
      record { low = λ j p q. x.low j p (omega arith); small = omega (arith, x.small); there = omega (arith, x.there) }

  pub next_readable : Readable work c.r
  next_readable = lower c.r next_low

  pub child_readable : Readable work (child_of c)
  child_readable = lower (child_of c) child_low

  module _ (byte : ℕ → ℕ) where
    childless : in_table 3 c.kind ≡ true → lent_forest byte work (child_of c) ≡ nil
    childless e = rw e (forest_at_zero byte (lent_row work))

    parted : lent_forest byte work r ≡ cons (tree_form byte c (lent_forest byte work (child_of c))) (lent_forest byte work c.r)
    parted = read_forest byte (lent_row work) r r c t.readable.low t.some (omega arith) t.is
        ∙ rw (tree_same byte c (lent_forest byte work c.q) (lent_forest byte work (child_of c)) (λ e. rw e))

    pub parted_size : size_at byte work r ≡ size_at byte work c.r + suc (size_at byte work (child_of c))
    unfolding forest_size
    parted_size = ap forest_size parted ∙ rw (kind_size byte c (lent_forest byte work (child_of c)) c.kind refl childless)

    -- "the rest of the forest first, then the first tree's children, then that tree"
    pub parted_rows : (n below up : ℕ) → n + size_at byte work c.r ≡ below → below + size_at byte work (child_of c) ≡ up
        → rows_at byte work n r
        ≡ rows_at byte work n c.r ++ (rows_at byte work below (child_of c) ++ tree_row c (root_of (child_of c) up) (root_of c.r below) ∷ [])
    unfolding forest_rows
    parted_rows n below up e h =
        let next = root_of_lem byte work c.r n below next_readable.low e in
        let child = root_of_lem byte work (child_of c) below up child_readable.low h in
        let tree = kind_rows byte c (lent_forest byte work (child_of c)) below (root_of c.r below) c.kind refl childless in
        ap (forest_rows n) parted ∙ rw (e, next, tree, child)
