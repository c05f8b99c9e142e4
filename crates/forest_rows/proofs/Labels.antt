-- The trees with a label: what a row that is read adds to them.
use Prim.Native.Nat.{ℕ, zero, suc, ◌≤◌, ◌<◌}
use native.Mathlib.Omega.{arith}
use mathlib.Core.Path.{◌≡◌, refl, sym, ap, ◌∙◌}
use mathlib.Core.Bool.{Bool, true, false, false≢true, cond}
use mathlib.Core.List.{[], ◌∷◌}
use lib.Dec.{eqb}
use lib.ListN.{get_or}
use borrow.Author.Tests.{eq-eqb, ne_eqb, eqb-true, eqb-false}
use Rattle.meaning.specs.Tests.{in_table}
use Rattle.meaning.specs.Sheet.{Cells}
use Rattle.meaning.specs.Forest.{Tree, Forest, nil, cons, count, text_at, tree_form, forest_at}
use Rattle.meaning.specs.Run.{kept}
use Rattle.meaning.specs.Laws.Tests.{table_low, table_high}
use Rattle.meaning.specs.Laws.Rows.{LowRows, node_form}
use Rattle.forest_rows.specs.Rows.{Labelled, Judged, Takes, chosen}
use Rattle.forest_rows.specs.declared.Which.{Which}
use Rattle.forest_rows.specs.declared.Which.TheVariants.{All, Labelled as LabelledBy}
use Rattle.forest_rows.specs.Table.{read_forest, forest_none}

-- ---- kinds 1 to 3

pub out_three : (k : ℕ) → (1 ≤ k → k ≤ 3 → ⊥) → in_table 3 k ≡ false
out_three k h = go (in_table 3 k) refl
  where
    go : (t : Bool) → in_table 3 k ≡ t → t ≡ false
    go true e = absurd (h (table_low 3 k e) (table_high 3 k e))
    go false e = refl

leaf_of : (byte : ℕ → ℕ) (l p q k : ℕ) (f rest : Forest) → in_table 3 k ≡ true
    → kept l (cons (get_or (Tree.node p f ∷ Tree.text (text_at byte p q) ∷ Tree.bool false ∷ Tree.bool true ∷ []) k (Tree.node p f)) rest) ≡ kept l rest
unfolding kept
leaf_of byte l p q zero f rest e = absurd (false≢true e)
leaf_of byte l p q (suc zero) f rest e = refl
leaf_of byte l p q (suc (suc zero)) f rest e = refl
leaf_of byte l p q (suc (suc (suc zero))) f rest e = refl
leaf_of byte l p q (suc (suc (suc (suc k)))) f rest e = absurd (omega (arith, table_high 3 (suc (suc (suc (suc k)))) e))

-- ---- a row that is a tree with the label, and one that is not

module _ (byte : ℕ → ℕ) (l : ℕ) (c : Cells) (f rest : Forest) where
  pub kept_yes : Labelled c l → kept l (cons (tree_form byte c f) rest) ≡ cons (tree_form byte c f) (kept l rest)
  unfolding kept
  kept_yes h =
      let e = node_form byte c f h.node in
      ap (λ (t : Tree). kept l (cons t rest)) e
      ∙ ap (λ (b : Bool). cond b (cons (Tree.node c.p f) (kept l rest)) (kept l rest)) (eq-eqb c.p l h.label)
      ∙ sym (ap (λ (t : Tree). cons t (kept l rest)) e)

  pub kept_no : (Labelled c l → ⊥) → kept l (cons (tree_form byte c f) rest) ≡ kept l rest
  unfolding kept
  kept_no h = go (in_table 3 c.kind) refl
    where
      go : (t : Bool) → in_table 3 c.kind ≡ t → kept l (cons (tree_form byte c f) rest) ≡ kept l rest
      go true e = leaf_of byte l c.p c.q c.kind f rest e
      go false e =
          ap (λ (t : Tree). kept l (cons t rest)) (node_form byte c f e)
          ∙ ap (λ (b : Bool). cond b (cons (Tree.node c.p f) (kept l rest)) (kept l rest)) (ne_eqb c.p l (λ i. h (record { node = e; label = i })))

-- what the test says
pub judged_node : (c : Cells) (l : ℕ) → in_table 3 c.kind ≡ false → Judged c l (eqb c.p l)
judged_node c l e = go (eqb c.p l) refl
  where
    go : (t : Bool) → eqb c.p l ≡ t → Judged c l t
    go true i = record { by = record { node = e; label = eqb-true c.p l i } }
    go false i = record { by = λ h. eqb-false c.p l i h.label }

pub judged_leaf : (c : Cells) (l : ℕ) → in_table 3 c.kind ≡ true → Judged c l false
judged_leaf c l e = record { by = λ h. false≢true (sym h.node ∙ e) }

-- ---- the trees meant

pub takes_all : (c : Cells) → Takes All c true
takes_all c = record { by = λ byte f rest. refl }

pub takes_labelled : {c : Cells} {l : ℕ} (b : Bool) → Judged c l b → Takes (LabelledBy l) c b
takes_labelled {c} {l} true j = record { by = λ byte f rest. kept_yes byte l c f rest j.by }
takes_labelled {c} {l} false j = record { by = λ byte f rest. kept_no byte l c f rest j.by }

chosen_nil : (which : Which) → chosen which nil ≡ nil
unfolding kept
chosen_nil All = refl
chosen_nil (LabelledBy l) = refl

module _ (byte : ℕ → ℕ) (a : ℕ → Cells) (which : Which) where
  pub chosen_none : (r : ℕ) → r ≡ 0 → chosen which (forest_at byte a r) ≡ nil
  chosen_none r e = ap (chosen which) (forest_none byte a r e) ∙ chosen_nil which

  module _ (n r : ℕ) (c : Cells) (low : LowRows a n) (some : 0 < r) (within : r ≤ n) (is : c ≡ a r) {b : Bool} (t : Takes which c b) where
    pub chosen_yes : b ≡ true → chosen which (forest_at byte a r) ≡ cons (tree_form byte c (forest_at byte a c.q)) (chosen which (forest_at byte a c.r))
    chosen_yes e = ap (chosen which) (read_forest byte a n r c low some within is) ∙ t.by byte (forest_at byte a c.q) (forest_at byte a c.r)
        ∙ ap (λ (x : Bool). cond x (cons (tree_form byte c (forest_at byte a c.q)) (chosen which (forest_at byte a c.r))) (chosen which (forest_at byte a c.r))) e

    pub chosen_no : b ≡ false → chosen which (forest_at byte a r) ≡ chosen which (forest_at byte a c.r)
    chosen_no e = ap (chosen which) (read_forest byte a n r c low some within is) ∙ t.by byte (forest_at byte a c.q) (forest_at byte a c.r)
        ∙ ap (λ (x : Bool). cond x (cons (tree_form byte c (forest_at byte a c.q)) (chosen which (forest_at byte a c.r))) (chosen which (forest_at byte a c.r))) e

    pub count_yes : b ≡ true → count (chosen which (forest_at byte a r)) ≡ suc (count (chosen which (forest_at byte a c.r)))
    unfolding count
    count_yes e = ap count (chosen_yes e)

    pub count_no : b ≡ false → count (chosen which (forest_at byte a r)) ≡ count (chosen which (forest_at byte a c.r))
    count_no e = ap count (chosen_no e)

  pub count_chosen_none : (r : ℕ) → r ≡ 0 → count (chosen which (forest_at byte a r)) ≡ 0
  unfolding count
  count_chosen_none r e = ap count (chosen_none r e)
