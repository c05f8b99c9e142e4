-- The types at the rows of a table as sides. Found: rows of any table beside a sheet that has no barren name; every place lives, for every content has a forest.
-- Wanted: declared types and contents of a sheet without ties; no point has two places of one head. What a row's points admit is what is of its type (Theorems/Places).
use Rattle.std.specs.Prelude.{ℕ, ◌≤◌, ◌<◌, ◌≡◌, Bool, true, false, ◌&&◌, ◌||◌, not, List, ◌↔◌, eqb, ltb}
use Rattle.std.proofs.Math.Path.{refl, fun_ext}
use Rattle.std.proofs.Common.{inl, inr, arith, eq-eqb, ne_eqb, ltb-true, lt-ltb}
use Rattle.std.proofs.Math.Decide.{ℕ_discrete}
use Rattle.meaning.specs.Tests.{some, in_table}
use Rattle.meaning.specs.Sheet.{Cells, Script, script_of}
use Rattle.meaning.specs.Kinds.{type_form}
use Rattle.meaning.specs.Forest.{Tree, Forest, nil, cons}
use Rattle.meaning.specs.Types.{Named, Head, Of, Fertile, ty_at, declared, names_in}
use Rattle.meaning.specs.Places.{Model, model_at, first, follows, same_head, acting, head_at, model_in, Fits, Admits, rivals, is_declared, is_content, tied, Untied, NoneBarren}
use Rattle.meaning.specs.Shape.{shapely}
use Rattle.meaning.specs.Laws.Bools.{or_left, or_right, and_left, and_right, and_both, either, not_both}
use Rattle.meaning.specs.Laws.Tests.{in_table_lem, table_low, table_high, some_at}
use Rattle.meaning.specs.Laws.Barren.{forest_over, over_rows}
use Rattle.meaning.specs.Laws.Shaped.{kind_in, named, label_row, name_row_lem}
use Rattle.meaning.specs.Laws.Wired.{has}
use Rattle.meaning.specs.Laws.Apart.{
  model_placed,
  model_below,
  Low,
  Lower,
  Labelled,
  Once,
  AtomKind,
  a_text,
  a_bool,
  a_label,
  a_name,
  atom_kind,
  shaped_lower,
  shaped_labelled,
  shaped_once,
  ty_at_same,
}
use Rattle.meaning.specs.Theorems.Places.{names_over, admits_of}
use Rattle.meaning.specs.Laws.Models.{same_head_says}
use Rattle.meaning.specs.Laws.Pairs.{Side, Suits, Admitted, Lives, Free, Comes, comes_wanted}
use Rattle.meaning.specs.Laws.Points.{
  heads_differ,
  On,
  on_has,
  has_first,
  has_follows,
  Family,
  Point,
  begin,
  point_side,
  Sort,
  sort_text,
  sort_bool,
  sort_label,
  Place,
  Reached,
  at_start,
  at_place,
  reached_asked,
  reached_on,
  reached_after,
  reached_into,
  comes_lives,
}
use Rattle.meaning.specs.Theorems.Within.Sides.{Found, Sought}

-- ---- the types at the rows of a table, as a side: a type is known by its row

module _ (row : ℕ → Cells) (name_row : ℕ → ℕ) where
  abbrev pub row_types : Family
  row_types = record { Key = ℕ; model = model_in row name_row; head = λ r a. head_at row name_row a; content = λ r a. (acting row name_row a).q }

  abbrev pub points : Side
  points = point_side row_types

  -- where the type at row r begins
  abbrev pub start_at : ℕ → Point ℕ
  start_at r = begin row_types r

  mutual
    unfolding Fits Admits Suits Admitted

    fits_suits : (t : Tree) (x : Point ℕ) (a : ℕ) → Fits row name_row t a ↔ Suits points t x a
    fits_suits (Tree.text w) x a = (λ i. i, λ i. i)
    fits_suits (Tree.bool b) x a = (λ i. i, λ i. i)
    fits_suits (Tree.node n f) x a = let h = admits_admitted f (start_at (acting row name_row a).q) in ((λ i. (i.0, h.0 i.1)), (λ i. (i.0, h.1 i.1)))

    -- what a point admits, in the words of Places
    pub admits_admitted : (f : Forest) (x : Point ℕ) → Admits row name_row f (model_in row name_row x.key) x.set ↔ Admitted points f x
    admits_admitted nil x = (λ i. i, λ i. i)
    admits_admitted (cons t f) x = (
      (λ i. (i.0, and_both (ltb 0 i.0) (x.set i.0) (lt-ltb 0 i.0 i.1) i.2, (fits_suits t x i.0).0 i.3, (admits_admitted f (points.after x i.0)).0 i.4)),
      (λ i. (
        i.0,
        ltb-true 0 i.0 (and_left (ltb 0 i.0) (x.set i.0) i.1),
        and_right (ltb 0 i.0) (x.set i.0) i.1,
        (fits_suits t x i.0).1 i.2,
        (admits_admitted f (points.after x i.0)).1 i.3,
      )),
    )

-- ---- tables whose rows refer to lower rows

pub label_low : (row : ℕ → Cells) → Lower row → (top i : ℕ) → i ≤ top → (row i).kind ≡ 4 → (row i).q ≤ top
unfolding Low
label_low row lower top i l d = let h : (row i).q < i = rw d at (lower i) in omega arith

-- a place with a label acts as a label row
pub acting_kind : (row : ℕ → Cells) (name_row : ℕ → ℕ) → Labelled row name_row → (a : ℕ) → AtomKind (row a) → (n : ℕ) → head_at row name_row a ≡ Head.label n → (acting row name_row a).kind ≡ 4
unfolding same_head
acting_kind row name_row labelled a (a_text d) n e = let g : Head.text ≡ Head.label n = rw d at e in absurd (heads_differ g refl)
acting_kind row name_row labelled a (a_bool d) n e = let g : Head.bool ≡ Head.label n = rw d at e in absurd (heads_differ g refl)
acting_kind row name_row labelled a (a_label d) n e = rw d
acting_kind row name_row labelled a (a_name d) n e = rw d (labelled a d)

-- the places of a table's models: their heads, and that their contents are in `Row` if the label rows' are
module _ (row : ℕ → Cells) (name_row : ℕ → ℕ) (lower : Lower row) (labelled : Labelled row name_row) (top : ℕ) (named : (x : ℕ) → name_row x ≤ top)
    (Row : ℕ → Type 0) (content : (i : ℕ) → i ≤ top → (row i).kind ≡ 4 → Row (row i).q) where
  pub each_place : (r : ℕ) → r ≤ top → (a : ℕ) → has (model_in row name_row r) a ≡ true → Place (row_types row name_row) Row r a
  unfolding model_at
  each_place r l a e = record { low = model_placed row name_row lower r a e; sort = go (atom_kind row r r a e) }
    where
      high : a ≤ top
      high = omega (arith, model_below row name_row lower r a e)

      go : AtomKind (row a) → Sort (row_types row name_row) Row r a
      go (a_text d) = sort_text (rw d)
      go (a_bool d) = sort_bool (rw d)
      go (a_label d) = let c : Row (acting row name_row a).q = rw d (content a high d) in sort_label (row a).p (rw d) c
      go (a_name d) = let j = name_row (row a).p in let c : Row (acting row name_row a).q = rw d (content j (named (row a).p) (labelled a d)) in sort_label (row j).p (rw (d, labelled a d)) c

-- what is admitted where a row's model begins is what is of its type
point_exact : (row : ℕ → Cells) (name_row : ℕ → ℕ) → Lower row → Labelled row name_row → Once row → (r : ℕ) (f : Forest)
    → Admitted (points row name_row) f (start_at row name_row r) ↔ Of (names_over row name_row) (ty_at (λ i. type_form (row i)) r) f
point_exact row name_row lower labelled once r f =
    let h = admits_of row name_row lower labelled once r f in
    let g = admits_admitted row name_row f (start_at row name_row r) in
    ((λ i. h.0 (g.1 i)), (λ i. g.0 (h.1 i)))

-- ---- the found side: any table whose rows have one user each, over names that are not barren

module _ (row : ℕ → Cells) (name_row : ℕ → ℕ) (lower : Lower row) (labelled : Labelled row name_row) (once : Once row)
    (top : ℕ) (named : (x : ℕ) → name_row x ≤ top) (fertile : (i : ℕ) → (row i).kind ≡ 8 → Fertile (names_over row name_row) (row i).p) where
  abbrev Up-to : ℕ → Type 0
  Up-to r = r ≤ top

  found_each : (r : ℕ) → r ≤ top → (a : ℕ) → has (model_in row name_row r) a ≡ true → Place (row_types row name_row) Up-to r a
  found_each = each_place row name_row lower labelled top named Up-to (label_low row lower top)

  found_filled : (r : ℕ) → r ≤ top → (f : Forest) × Admitted (points row name_row) f (start_at row name_row r)
  unfolding ty_at
  found_filled r l =
      let x = forest_over (names_over row name_row) (ty_at (λ i. type_form (row i)) r) (over_rows row (Fertile (names_over row name_row)) fertile r r) in
      (x.0, (point_exact row name_row lower labelled once r x.0).1 x.1)

  found_lives : (W : Side) (y : W.State) (r : ℕ) → r ≤ top → (u : Point ℕ) (v : W.State) → Comes (points row name_row) W (start_at row name_row r) y u v
      → (a : ℕ) → (points row name_row).has u a ≡ true → Lives (points row name_row) u a
  found_lives = comes_lives (row_types row name_row) Up-to found_each found_filled

-- both may stand at the start of m, or behind one of its places
abbrev meet : Model → ℕ → ℕ → ℕ → Bool
meet m n a b = first m a && first m b || some (λ c. follows m c a && follows m c b) n

are_rivals : (row : ℕ → Cells) (name_row : ℕ → ℕ) (n : ℕ) (m : Model) (a b : ℕ) → (a ≡ b → ⊥) → head_at row name_row a ≡ head_at row name_row b → meet m n a b ≡ true
    → rivals row name_row n m a b ≡ true
are_rivals row name_row n m a b q e p = and_both (not (eqb a b) && same_head (head_at row name_row a) (head_at row name_row b)) (meet m n a b)
    (and_both (not (eqb a b)) (same_head (head_at row name_row a) (head_at row name_row b)) (rw (ne_eqb a b q)) ((same_head_says (head_at row name_row a) (head_at row name_row b)).1 e)) p

-- the types at a script's rows, their side, and where each begins
abbrev pub types_of : Script → Family
types_of S = row_types S.type_row S.name_row

abbrev pub points_of : Script → Side
points_of S = points S.type_row S.name_row

abbrev pub start_of : Script → ℕ → Point ℕ
start_of S r = start_at S.type_row S.name_row r

-- ---- the wanted side: the declared types and the contents of a sheet that passes 2 to 4

-- a type that may be wanted: ties are judged in it
abbrev pub Wanted : Script → ℕ → Type 0
Wanted S r = (in_table S.types r ≡ true) × (is_declared S r || is_content S r ≡ true)

module _ (s : List ℕ) (shape : shapely s ≡ true) where
  abbrev S : Script
  S = script_of s

  -- the content of a label row is a row of the table, and a content
  pub label_content : (i : ℕ) → (S.type_row i).kind ≡ 4 → (in_table S.types (S.type_row i).q ≡ true) × (is_content S (S.type_row i).q ≡ true)
  label_content i e =
      let h = kind_in s i 3 e in
      let l = table_low S.types i h in
      let g = table_high S.types i h in
      let p = (label_row s shape i e).1 in (
        in_table_lem S.types (S.type_row i).q p.low (omega (arith, p.lower)),
        some_at _ S.types i l g (and_both (eqb (S.type_row i).kind 4) (eqb (S.type_row i).q (S.type_row i).q) (rw e) (eq-eqb (S.type_row i).q (S.type_row i).q refl)),
      )

  no_name : (x : ℕ) → in_table S.names x ≡ false → S.name_row x ≡ 0
  unfolding script_of
  no_name x h = rw h

  pub named_low : (x : ℕ) → S.name_row x ≤ S.types
  named_low x = elim (either (in_table S.names x)) [
    | inl h ↦ table_high S.types (S.name_row x) (named s shape x h).0
    | inr h ↦ rw (no_name x h) (omega arith)
  ]

  no_row : (S.type_row 0).q ≡ 0
  unfolding script_of
  no_row = refl

  pub name_content : (x : ℕ) → (S.type_row (S.name_row x)).q ≤ S.types
  name_content x = elim (either (in_table S.names x)) [
    | inl h ↦ table_high S.types (S.type_row (S.name_row x)).q (label_content (S.name_row x) (named s shape x h).1).0
    | inr h ↦ rw (no_name x h, no_row) (omega arith)
  ]

  row_exact : (r : ℕ) (f : Forest) → Admitted (points_of S) f (start_of S r) ↔ Of (names_in S) (declared S r) f
  unfolding names_in
  row_exact r f = point_exact S.type_row S.name_row (shaped_lower s shape) (shaped_labelled s shape) (shaped_once s shape) r f

  pub wanted_each : (r : ℕ) → Wanted S r → (a : ℕ) → has (model_in S.type_row S.name_row r) a ≡ true → Place (types_of S) (Wanted S) r a
  wanted_each r h = each_place S.type_row S.name_row (shaped_lower s shape) (shaped_labelled s shape) S.types named_low (Wanted S)
      (λ i l e. let c = label_content i e in (c.0, or_right (is_declared S (S.type_row i).q) c.1)) r (table_high S.types r h.0)

  on_row : (r c : ℕ) → Wanted S r → On (model_in S.type_row S.name_row r) c → (1 ≤ c) × (c ≤ S.types)
  on_row r c h o = let e = on_has o in
      (model_placed S.type_row S.name_row (shaped_lower s shape) r c e, omega (arith, model_below S.type_row S.name_row (shaped_lower s shape) r c e, table_high S.types r h.0))

  -- where nothing is tied, no two places of one head may stand at one point
  module _ (untied : Untied S) where
    pub one_place : (r a b : ℕ) → Wanted S r → head_at S.type_row S.name_row a ≡ head_at S.type_row S.name_row b → meet (model_in S.type_row S.name_row r) S.types a b ≡ true → a ≡ b
    unfolding tied
    one_place r a b h e p = elim (ℕ_discrete a b) [
      | yes q ↦ q
      | no q ↦ absurd (not_both (some_at _ S.types r (table_low S.types r h.0) (table_high S.types r h.0)
          (and_both (is_declared S r || is_content S r) _ h.1 (are_rivals S.type_row S.name_row S.types (model_in S.type_row S.name_row r) a b q e p))) (untied a b))
    ]

    wanted_free : (y : Point ℕ) → Reached (types_of S) (Wanted S) y → Free (points_of S) y
    wanted_free y (at_start r h) a b p q e = let m = model_in S.type_row S.name_row r in
        one_place r a b h e (or_left (some (λ c. follows m c a && follows m c b) S.types) (and_both (first m a) (first m b) (has_first m a p) (has_first m b q)))
    wanted_free y (at_place r c h o) a b p q e = let m = model_in S.type_row S.name_row r in let l = on_row r c h o in
        one_place r a b h e (or_right (first m a && first m b) (some_at (λ c. follows m c a && follows m c b) S.types c l.0 l.1
        (and_both (follows m c a) (follows m c b) (has_follows m c a p) (has_follows m c b q))))

    pub sought_row : (w : ℕ) → Wanted S w → Sought (names_in S) (points_of S) (start_of S w) (declared S w)
    sought_row w h = record {
      exact = row_exact w;
      top = S.types;
      low = λ F x u v c b e. (let k = comes_reached F x c in on_row v.key b (reached_asked (types_of S) (Wanted S) k) (reached_on (types_of S) (Wanted S) k b e));
      free = λ F x u v c. wanted_free v (comes_reached F x c);
    }
      where
        comes_reached : (F : Side) (x : F.State) {u : F.State} {v : Point ℕ} → Comes F (points_of S) x (start_of S w) u v → Reached (types_of S) (Wanted S) v
        comes_reached F x c = comes_wanted F (points_of S) x (start_of S w) (Reached (types_of S) (Wanted S)) (at_start w h)
            (reached_after (types_of S) (Wanted S) wanted_each) (reached_into (types_of S) (Wanted S) wanted_each) c

-- ---- the found type at a row of the sheet, or of a table beside it

-- a table of `top` rows that stands with a script: its rows refer to lower rows and have one user each, and its names are the script's
pub record Beside (S : Script) (row : ℕ → Cells) (top : ℕ) : Type 0 where
  pub lower : Lower row
  pub once : Once row
  pub labelled : Labelled row S.name_row
  pub named : (x : ℕ) → S.name_row x ≤ top
  pub known : (i : ℕ) → (row i).kind ≡ 8 → in_table S.names (row i).p ≡ true
  pub same : (x : ℕ) → names_over row S.name_row x ≡ names_in S x

-- a sheet's own table
pub own_table : (s : List ℕ) → shapely s ≡ true → Beside (script_of s) (script_of s).type_row (script_of s).types
unfolding names_in
own_table s e = record {
  lower = shaped_lower s e;
  once = shaped_once s e;
  labelled = shaped_labelled s e;
  named = named_low s e;
  known = name_row_lem s e;
  same = λ x. refl;
}

-- a table that begins with the sheet's
pub extended : (s : List ℕ) → shapely s ≡ true → (row : ℕ → Cells) (top : ℕ) → (script_of s).types ≤ top → ((i : ℕ) → i ≤ (script_of s).types → row i ≡ (script_of s).type_row i)
    → Lower row → Once row → ((i : ℕ) → (row i).kind ≡ 8 → in_table (script_of s).names (row i).p ≡ true) → Beside (script_of s) row top
unfolding names_in
extended s e row top l agree lower once known = record {
  lower = lower;
  once = once;
  labelled = λ i k. rw (agree ((script_of s).name_row (row i).p) (named_low s e (row i).p)) (named s e (row i).p (known i k)).1;
  named = λ x. omega (arith, named_low s e x);
  known = known;
  same = λ x. rw (agree ((script_of s).name_row x) (named_low s e x)) (same_content x);
}
  where
    same_content : (x : ℕ) → ◌≡◌ {A = Named} (record {
      label = ((script_of s).type_row ((script_of s).name_row x)).p;
      content =
          ty_at (λ i. type_form (row i)) ((script_of s).type_row ((script_of s).name_row x)).q;
    })
        (record { label = ((script_of s).type_row ((script_of s).name_row x)).p; content = declared (script_of s) ((script_of s).type_row ((script_of s).name_row x)).q })
    same_content x = rw (ty_at_same (λ i. type_form (row i)) (λ i. type_form ((script_of s).type_row i)) (script_of s).types (λ i h. lower i) (λ i h. rw (agree i h))
        ((script_of s).type_row ((script_of s).name_row x)).q (name_content s e x))

pub found_row : (s : List ℕ) → NoneBarren (script_of s) → (row : ℕ → Cells) (top : ℕ) → Beside (script_of s) row top → (r : ℕ) → r ≤ top
    → Found (names_in (script_of s)) (points row (script_of s).name_row) (start_at row (script_of s).name_row r) (ty_at (λ i. type_form (row i)) r)
found_row s fertile row top t r l = record {
  exact = λ f. rw names at (point_exact row N t.lower t.labelled t.once r f);
  lives = λ W y. found_lives row N t.lower t.labelled t.once top t.named (λ i e. rw names (fertile (row i).p (t.known i e))) W y r l;
}
  where
    N : ℕ → ℕ
    N = (script_of s).name_row

    names : names_over row N ≡ names_in (script_of s)
    names = fun_ext t.same
