-- The same sides by tables, as code keeps them: a set for where a type begins, for the inside of each label and for what is behind each place, wired for the type and for all contents.
use Rattle.std.specs.Prelude.{ℕ, ◌≤◌, ◌≡◌, refl, true, List}
use Rattle.meaning.specs.Sheet.{Cells, script_of}
use Rattle.meaning.specs.Kinds.{type_form}
use Rattle.meaning.specs.Types.{ty_at, declared, names_in}
use Rattle.meaning.specs.Places.{model_at, Set, start, acting, head_at, model_in, content_at, Untied, NoneBarren}
use Rattle.meaning.specs.Shape.{shapely}
use Rattle.meaning.specs.Laws.Tests.{table_high}
use Rattle.meaning.specs.Laws.Wired.{has, Wired, ends, wired_next}
use Rattle.meaning.specs.Laws.Apart.{Lower, Labelled, atom_kind}
use Rattle.meaning.specs.Laws.Pairs.{Alike}
use Rattle.meaning.specs.Laws.Points.{Point, Place, at_start, table_side, Shows, table_alike}
use Rattle.meaning.specs.Theorems.Within.Sides.{Found, Sought, found_by, sought_by}
use Rattle.meaning.specs.Theorems.Within.Rows.{points, start_at, row_types, label_low, acting_kind, each_place, Wanted, Beside, own_table, found_row, sought_row}

-- the sets of the type at row r: where it begins, inside each label and behind each place
pub record Kept (row : ℕ → Cells) (name_row : ℕ → ℕ) (r : ℕ) (from : Set) (inner nx : ℕ → Set) : Type 0 where
  pub begins : (b : ℕ) → from b ≡ start (model_in row name_row r) b
  pub wired : Wired nx (model_in row name_row r) ends
  pub contents : (i : ℕ) → (row i).kind ≡ 4 → Wired nx (model_in row name_row (row i).q) ends
  pub insides : (a : ℕ) → (acting row name_row a).kind ≡ 4 → (b : ℕ) → inner a b ≡ start (content_at row name_row a) b

module _ (row : ℕ → Cells) (name_row : ℕ → ℕ) (lower : Lower row) (labelled : Labelled row name_row) (top : ℕ) (named : (x : ℕ) → name_row x ≤ top)
    (r : ℕ) (low : r ≤ top) (from : Set) (inner nx : ℕ → Set) (kept : Kept row name_row r from inner nx) where
  abbrev Asked-row : ℕ → Type 0
  Asked-row q = (q ≤ top) × Wired nx (model_in row name_row q) ends

  asked_each : (q : ℕ) → Asked-row q → (a : ℕ) → has (model_in row name_row q) a ≡ true → Place (row_types row name_row) Asked-row q a
  asked_each q h = each_place row name_row lower labelled top named Asked-row (λ i l d. (label_low row lower top i l d, kept.contents i d)) q h.0

  abbrev Row-shows : Set → Point ℕ → Type 0
  Row-shows = Shows (row_types row name_row) Asked-row asked_each (head_at row name_row) inner nx

  row_alike : Alike (table_side (head_at row name_row) inner nx) (points row name_row) Row-shows
  unfolding model_at
  row_alike = table_alike (row_types row name_row) Asked-row asked_each (head_at row name_row) inner nx (λ q h a e. refl)
      (λ q h a n e g. kept.insides a (acting_kind row name_row labelled a (atom_kind row q q a e) n g))
      (λ q h a e b. wired_next nx (model_in row name_row q) ends h.1 a e b)

  row_shown : Row-shows from (start_at row name_row r)
  row_shown = (at_start r (low, kept.wired), kept.begins)

module _ (s : List ℕ) where
  abbrev N : ℕ → ℕ
  N = (script_of s).name_row

  -- the found type at a row of a table beside the sheet
  pub found_kept : NoneBarren (script_of s) → (row : ℕ → Cells) (top : ℕ) → Beside (script_of s) row top → (r : ℕ) → r ≤ top → (from : Set) (inner nx : ℕ → Set) → Kept row N r from inner nx
      → Found (names_in (script_of s)) (table_side (head_at row N) inner nx) from (ty_at (λ i. type_form (row i)) r)
  found_kept fertile row top t r l from inner nx k = found_by (table_side (head_at row N) inner nx) (points row N)
      (Row-shows row N t.lower t.labelled top t.named r l from inner nx k) (row_alike row N t.lower t.labelled top t.named r l from inner nx k)
      from (start_at row N r) (row_shown row N t.lower t.labelled top t.named r l from inner nx k) (found_row s fertile row top t r l)

  -- the wanted type at a row of the sheet
  pub sought_kept : (e : shapely s ≡ true) → Untied (script_of s) → (w : ℕ) → Wanted (script_of s) w → (from : Set) (inner nx : ℕ → Set) → Kept (script_of s).type_row N w from inner nx
      → Sought (names_in (script_of s)) (table_side (head_at (script_of s).type_row N) inner nx) from (declared (script_of s) w)
  sought_kept e untied w h from inner nx k =
      let row = (script_of s).type_row in
      let t = own_table s e in
      let l = table_high (script_of s).types w h.0 in
      sought_by (table_side (head_at row N) inner nx) (points row N)
      (Row-shows row N t.lower t.labelled (script_of s).types t.named w l from inner nx k) (row_alike row N t.lower t.labelled (script_of s).types t.named w l from inner nx k)
      from (start_at row N w) (row_shown row N t.lower t.labelled (script_of s).types t.named w l from inner nx k) (sought_row s e untied w h)
