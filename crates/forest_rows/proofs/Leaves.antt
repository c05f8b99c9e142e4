-- The leaf evaluators: what is written once its units are paid, and what a forest is seen as.
use Prim.Native.Nat.{ℕ, ◌+◌, ◌≤◌, ◌<◌}
use native.Mathlib.Omega.{arith}
use mathlib.Core.Path.{◌≡◌, refl, sym, ap, ◌∙◌, subst}
use mathlib.Core.Bool.{Bool, true, false}
use mathlib.Core.List.{List}
use Rattle.meaning.specs.Tests.{in_table}
use Rattle.meaning.specs.Sheet.{Cells}
use Rattle.meaning.specs.Forest.{Tree, Forest, cons, only, ◌⊕◌, count, text_at, tree_form, forest_at, bool_kind}
use Rattle.meaning.specs.Run.{nothing, many, a_text, a_bool, a_node, seen, copied}
use Rattle.meaning.specs.Walk.{ret, gives, Settles, done, Unasked}
use Rattle.meaning.specs.Laws.Forest.{⊕-nil, count-⊕}
use Rattle.meaning.specs.Laws.Rows.{node_form, LowRow, LowRows, forest_at_zero}
use Rattle.meaning.specs.Laws.Walk.{leads_pay}
use Rattle.meaning.specs.Theorems.ReadBack.{lent_row}
use Rattle.walk.specs.Meets.{Roomy, Finished}
use Rattle.walk.specs.Loop.{Links, gathered, keep_of, Turned}
use Rattle.forest_rows.specs.Rows.{Pushed, CopyAsks, Wrote, MakeAsks, made, chosen}
use Rattle.forest_rows.specs.declared.Which.{Which}
use Rattle.forest_rows.specs.Table.{read_next, read_child, read_forest, forest_none, push_low, push_forest}

-- ---- what is written, its copies paid

copied_settles : (n : ℕ) (f g : Forest) (left left' : ℕ) → left' + n ≡ left → g ≡ f → Settles Unasked (copied n f) left (gives g) left'
copied_settles n f g left left' e is =
    let last : Settles Unasked (ret f) left' (gives f) left' = done in
    leads_pay Unasked n (ret f) left left' e (gives g) left' (subst (λ (x : Forest). Settles Unasked (ret f) left' (gives x) left') (sym is) last)

pub wrote_done : (byte : ℕ → ℕ) {s t : List ℕ} {used n k root used' left : ℕ} {f : Forest} (left' : ℕ) → Wrote byte s t used f n root used' → k ≡ n → left' + k ≡ left → Finished (copied n f) byte left used s t root used' left'
wrote_done byte {s} {t} {used} {n} {k} {root} {used'} {left} {f} left' w isn e = record {
  settles = copied_settles n f (forest_at byte (lent_row t) root) left left' (omega arith) w.value;
  inside = w.inside;
  grown = omega (arith, w.rows);
  paid = omega (arith, w.rows);
  low = w.low;
  same = w.same;
}

-- a new tree
module _ {s : List ℕ} {used k p q left : ℕ} (j : MakeAsks s used k p q left) where
  pub make_done : {t : List ℕ} {row : ℕ} (left' : ℕ) → left' + 1 ≡ left → Pushed s t used (record { kind = k; p = p; q = q; r = 0 }) → row ≡ used + 1 → (byte : ℕ → ℕ) → Finished (made byte s k p q) byte left used s t row row left'
  make_done {t} {row} left' e w i byte =
      let c : Cells = record { kind = k; p = p; q = q; r = 0 } in
      let lower : LowRow c (used + 1) = record { child = λ h. omega (arith, j.child h); next = omega arith } in
      let f = push_forest (lent_row s) (lent_row t) used c j.roomy.low w.same w.row lower byte in
      wrote_done byte left' (record {
        value = ap (forest_at byte (lent_row t)) i ∙ f ∙ ap (λ (x : Forest). cons (tree_form byte c (forest_at byte (lent_row s) q)) x) (forest_at_zero byte (lent_row s));
        rows = i;
        inside = omega arith;
        low = rw i (push_low (lent_row s) (lent_row t) used c j.roomy.low w.same w.row lower);
        same = w.same;
      }) refl e

-- a turn's result as a link
module _ {s : List ℕ} {used got link left n : ℕ} (left' : ℕ) (r : Roomy s used (left + 1)) (hg : got ≤ used) (hl : link ≤ used) (isn : (byte : ℕ → ℕ) → n ≡ count (forest_at byte (lent_row s) got)) (e : left' + n ≡ left) where
  pub keep_done : {t : List ℕ} {row : ℕ} → Pushed s t used (record { kind = 4; p = 0; q = got; r = link }) → row ≡ used + 1 → (byte : ℕ → ℕ) → Links (forest_at byte (lent_row s) link)
      → Turned (keep_of (forest_at byte (lent_row s) link) (forest_at byte (lent_row s) got)) byte left used (used + left + 1 + count (gathered (forest_at byte (lent_row s) link))) s t row row left'
  unfolding gathered Links
  keep_done {t} {row} w i byte ls =
      let c : Cells = record { kind = 4; p = 0; q = got; r = link } in
      let lower : LowRow c (used + 1) = record { child = λ h. omega arith; next = omega arith } in
      let f : forest_at byte (lent_row t) row ≡ cons (Tree.node 0 (forest_at byte (lent_row s) got)) (forest_at byte (lent_row s) link) =
      ap (forest_at byte (lent_row t)) i ∙ push_forest (lent_row s) (lent_row t) used c r.low w.same w.row lower byte in
      let many_more = ap (λ (x : Forest). count (gathered x)) f ∙ count-⊕ (gathered (forest_at byte (lent_row s) link)) (forest_at byte (lent_row s) got) in
      let k = isn byte in
      record {
        settles = copied_settles (count (forest_at byte (lent_row s) got)) (cons (Tree.node 0 (forest_at byte (lent_row s) got)) (forest_at byte (lent_row s) link)) (forest_at byte (lent_row t) row) left left' (omega arith) f;
        inside = omega arith;
        grown = omega arith;
        paid = omega arith;
        low = rw i (push_low (lent_row s) (lent_row t) used c r.low w.same w.row lower);
        same = w.same;
        links = subst Links (sym f) ls;
      }

-- what the copies ask
pub copy_asks : {s : List ℕ} {used a b left n : ℕ} {which : Which} (left' : ℕ) → Roomy s used left → a ≤ used → b ≤ used → ((byte : ℕ → ℕ) → n ≡ count (chosen which (forest_at byte (lent_row s) a))) → left' + n ≡ left → CopyAsks s used which a b
copy_asks left' r ha hb isn e = record { byte = λ i. 0; low = r.low; first = ha; second = hb; room = omega (arith, r.room, isn (λ i. 0)); small = omega (arith, r.small, isn (λ i. 0)) }

-- in front of nothing
pub wrote_alone : {byte : ℕ → ℕ} {s t : List ℕ} {used n root used' : ℕ} {f : Forest} → Wrote byte s t used (f ⊕ forest_at byte (lent_row s) 0) n root used' → Wrote byte s t used f n root used'
wrote_alone {byte} {s} {t} {used} {n} {root} {used'} {f} w =
    subst (λ (x : Forest). Wrote byte s t used x n root used') (ap (λ (x : Forest). f ⊕ x) (forest_at_zero byte (lent_row s)) ∙ ⊕-nil f) w

-- ---- what a forest is seen as

seen_many : (t u : Tree) (f : Forest) → seen (cons t (cons u f)) ≡ many
unfolding seen
seen_many (Tree.text w) u f = refl
seen_many (Tree.bool b) u f = refl
seen_many (Tree.node l x) u f = refl

pub see_none : (byte : ℕ → ℕ) (a : ℕ → Cells) (r : ℕ) → r ≡ 0 → seen (forest_at byte a r) ≡ nothing
unfolding seen
see_none byte a r e = ap seen (forest_none byte a r e)

module _ (byte : ℕ → ℕ) (a : ℕ → Cells) (r : ℕ) (c : Cells) (low : LowRows a r) (some : 0 < r) (is : c ≡ a r) where
  pub see_many : (c.r ≡ 0 → ⊥) → seen (forest_at byte a r) ≡ many
  see_many h =
      let next = read_next a r r c low some (omega arith) is in
      let rest = read_forest byte a r c.r (a c.r) low (omega arith) (omega arith) refl in
      ap seen (read_forest byte a r r c low some (omega arith) is ∙ ap (cons (tree_form byte c (forest_at byte a c.q))) rest)
      ∙ seen_many (tree_form byte c (forest_at byte a c.q)) (tree_form byte (a c.r) (forest_at byte a (a c.r).q)) (forest_at byte a (a c.r).r)

  module _ (last : c.r ≡ 0) where
    see_one : forest_at byte a r ≡ only (tree_form byte c (forest_at byte a c.q))
    see_one = read_forest byte a r r c low some (omega arith) is ∙ ap (cons (tree_form byte c (forest_at byte a c.q))) (forest_none byte a c.r last)

    see_kind : (k : ℕ) → c.kind ≡ k → seen (forest_at byte a r) ≡ seen (only (tree_form byte (record { kind = k; p = c.p; q = c.q; r = c.r }) (forest_at byte a c.q)))
    see_kind k e = ap seen see_one ∙ ap (λ (x : ℕ). seen (only (tree_form byte (record { kind = x; p = c.p; q = c.q; r = c.r }) (forest_at byte a c.q)))) e

    pub see_text : c.kind ≡ 1 → seen (forest_at byte a r) ≡ a_text (text_at byte c.p c.q)
    unfolding seen
    see_text e = see_kind 1 e

    pub see_bool : (b : Bool) → c.kind ≡ bool_kind b → seen (forest_at byte a r) ≡ a_bool b
    unfolding seen
    see_bool true e = see_kind 3 e
    see_bool false e = see_kind 2 e

    pub see_node : in_table 3 c.kind ≡ false → seen (forest_at byte a r) ≡ a_node c.p (forest_at byte a c.q)
    unfolding seen
    see_node e = ap seen (see_one ∙ ap (λ (t : Tree). only t) (node_form byte c (forest_at byte a c.q) e))

    pub see_child : in_table 3 c.kind ≡ false → c.q < r
    see_child e = read_child a r r c low some (omega arith) is e
