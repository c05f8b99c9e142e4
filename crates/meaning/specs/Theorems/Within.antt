-- Inclusion of types is decided by the pairs of points that are reached: for a wanted type that is a declared type or a content of a sheet that passes 2 to 4, or (), text or bool,
-- and a found type at a row of that sheet, at a row of a table beside it, or any type over its names. The found places live, for no name is barren; the wanted points are free of ties; what the
-- points admit is what is of the types.
use Rattle.std.specs.Prelude.{ℕ, zero, suc, ◌≤◌, ◌≡◌, refl, true, ◌||◌, cond, List, [], ◌∷◌, ◌↔◌, eqb}
use Rattle.std.proofs.Common.{arith}
use Rattle.meaning.specs.Tests.{in_table}
use Rattle.meaning.specs.Sheet.{Cells, script_of}
use Rattle.meaning.specs.Kinds.{type_form}
use Rattle.meaning.specs.Forest.{Tree, nil, only}
use Rattle.meaning.specs.Types.{Ty, of_label, of_none, of_more, of_name, Within, ty_at, declared, names_in}
use Rattle.meaning.specs.Places.{Model, Set, start, next, head_at, model_in, content_at, is_declared, is_content, NoneBarren}
use Rattle.meaning.specs.Shape.{shapely}
use Rattle.meaning.specs.Reply.{done, Loads, sound}
use Rattle.meaning.specs.Laws.Tests.{table_low, table_high}
use Rattle.meaning.specs.Laws.Forest.{⊕-nil}
use Rattle.meaning.specs.Laws.Shaped.{kind_in}
use Rattle.meaning.specs.Laws.Barren.{Over, Name}
use Rattle.meaning.specs.Laws.Wired.{Wired, ends}
use Rattle.meaning.specs.Laws.Pairs.{here, bad_end, NoneBad}
use Rattle.meaning.specs.Laws.Points.{table_side}
use Rattle.meaning.specs.Theorems.Worked.Sheets.{tr, row, sheet}
use Rattle.meaning.specs.Theorems.Worked.Ties.{untied}
use Rattle.meaning.specs.Theorems.Worked.Stated.{shape, ties, checks}
use Rattle.meaning.specs.Theorems.Within.Sides.{decided}
use Rattle.meaning.specs.Theorems.Within.Rows.{points, start_at, points_of, start_of, Beside, own_table, found_row, sought_row}
use Rattle.meaning.specs.Theorems.Within.Tables.{Kept, found_kept, sought_kept}
use Rattle.meaning.specs.Theorems.Within.Whole.{type_side, type_start, Plain, plain_head, plain_from, sought_plain, sought_plain_kept, found_over}
pub mod Sides
pub mod Rows
pub mod Tables
pub mod Whole
pub mod Decided

-- inclusion between types at rows of a sheet that passes 2 to 4, the wanted one a declared type or a content: no pair of points that is reached is bad
pub rows_within : (s : List ℕ) → Loads s done → (r w : ℕ) → in_table (script_of s).types r ≡ true
    → in_table (script_of s).types w ≡ true → is_declared (script_of s) w || is_content (script_of s) w ≡ true
    → Within (names_in (script_of s)) (declared (script_of s) r) (declared (script_of s) w)
    ↔ NoneBad (points_of (script_of s)) (points_of (script_of s)) (start_of (script_of s) r) (start_of (script_of s) w)
rows_within s (sound shape fertile untied) r w h i j = decided
    (found_row s fertile (script_of s).type_row (script_of s).types (own_table s shape) r (table_high (script_of s).types r h)) (sought_row s shape untied w (i, j))

-- the same for a found type at a row of a table beside the sheet
pub table_within : (s : List ℕ) → Loads s done → (row : ℕ → Cells) (top : ℕ) → Beside (script_of s) row top → (r w : ℕ) → r ≤ top
    → in_table (script_of s).types w ≡ true → is_declared (script_of s) w || is_content (script_of s) w ≡ true
    → Within (names_in (script_of s)) (ty_at (λ i. type_form (row i)) r) (declared (script_of s) w)
    ↔ NoneBad (points row (script_of s).name_row) (points_of (script_of s)) (start_at row (script_of s).name_row r) (start_of (script_of s) w)
table_within s (sound shape fertile untied) row top t r w l i j = decided (found_row s fertile row top t r l) (sought_row s shape untied w (i, j))

-- by the tables of both sides
pub kept_within : (s : List ℕ) → Loads s done → (row : ℕ → Cells) (top : ℕ) → Beside (script_of s) row top → (r w : ℕ) → r ≤ top
    → in_table (script_of s).types w ≡ true → is_declared (script_of s) w || is_content (script_of s) w ≡ true
    → (from from' : Set) (inner nx inner' nx' : ℕ → Set) → Kept row (script_of s).name_row r from inner nx → Kept (script_of s).type_row (script_of s).name_row w from' inner' nx'
    → Within (names_in (script_of s)) (ty_at (λ i. type_form (row i)) r) (declared (script_of s) w)
    ↔ NoneBad (table_side (head_at row (script_of s).name_row) inner nx) (table_side (head_at (script_of s).type_row (script_of s).name_row) inner' nx') from from'
kept_within s (sound shape fertile untied) row top t r w l i j from from' inner nx inner' nx' k k' =
    decided (found_kept s fertile row top t r l from inner nx k) (sought_kept s shape untied w (i, j) from' inner' nx' k')

-- and in (), text or bool
pub kept_plain : (s : List ℕ) → Loads s done → (row : ℕ → Cells) (top : ℕ) → Beside (script_of s) row top → (r : ℕ) → r ≤ top → (τ : Ty) (p : Plain τ)
    → (from : Set) (inner nx : ℕ → Set) → Kept row (script_of s).name_row r from inner nx
    → Within (names_in (script_of s)) (ty_at (λ i. type_form (row i)) r) τ
    ↔ NoneBad (table_side (head_at row (script_of s).name_row) inner nx) (table_side (λ a. plain_head p) (λ a. ends) (λ a. ends)) from (plain_from p)
kept_plain s (sound shape fertile untied) row top t r l τ p from inner nx k = decided (found_kept s fertile row top t r l from inner nx k) (sought_plain_kept (names_in (script_of s)) τ p)

-- any found type over the names of the sheet, in a declared type or a content
pub type_within : (s : List ℕ) → Loads s done → (σ : Ty) → Over (Name (script_of s).names) σ → (w : ℕ)
    → in_table (script_of s).types w ≡ true → is_declared (script_of s) w || is_content (script_of s) w ≡ true
    → Within (names_in (script_of s)) σ (declared (script_of s) w)
    ↔ NoneBad (type_side (names_in (script_of s))) (points_of (script_of s)) (type_start (names_in (script_of s)) σ) (start_of (script_of s) w)
type_within s (sound shape fertile untied) σ h w i j = decided (found_over s shape fertile σ h) (sought_row s shape untied w (i, j))

-- and in (), text or bool
pub type_plain : (s : List ℕ) → Loads s done → (σ : Ty) → Over (Name (script_of s).names) σ → (τ : Ty) → Plain τ
    → Within (names_in (script_of s)) σ τ
    ↔ NoneBad (type_side (names_in (script_of s))) (type_side (names_in (script_of s))) (type_start (names_in (script_of s)) σ) (type_start (names_in (script_of s)) τ)
type_plain s (sound shape fertile untied) σ h τ p = decided (found_over s shape fertile σ h) (sought_plain (names_in (script_of s)) τ p)

-- ---- a small sheet that meets it all: name 1 is a[x*], A is x and B is x*. A lies in B, so no pair is bad; B does not lie in A: it may end at once

unfoldable small : List ℕ
unfolding sheet
small = sheet (record {
  names = 3 ∷ [];
  types =
      tr 8 1 0  -- 1: x
      ∷ tr 7 1 0  -- 2: x*
      ∷ tr 4 1 2  -- 3: a[x*], name 1
      ∷ tr 8 1 0  -- 4: x, A
      ∷ tr 8 1 0  -- 5: x
      ∷ tr 7 5 0  -- 6: x*, B
      ∷ [];
  queries = [];
  statements = row 1 0 0 0 ∷ [];
  procedures = [];
  rows = [];
  pool = [];
  a = 4;
  b = 6;
  main = 1;
  root = 0;
  check_fuel = 0;
  run_fuel = 0;
})

small_fertile : NoneBarren (script_of small)
unfolding small checks
small_fertile x h = let e : x ≡ 1 = omega (arith, table_low 1 x h, table_high 1 x h) in rw e (only (Tree.node 1 nil), of_name (of_label of_none))

small_shaped : shapely small ≡ true
unfolding small shape
small_shaped = refl

small_loads : Loads small done
unfolding small ties
small_loads = sound small_shaped small_fertile (untied (script_of small) refl)

small_within : NoneBad (points_of (script_of small)) (points_of (script_of small)) (start_of (script_of small) 4) (start_of (script_of small) 6)
unfolding small checks
small_within = (rows_within small small_loads 4 6 refl refl refl).0 (λ f i. rw (⊕-nil f) at (of_more i of_none))

small_not : Within (names_in (script_of small)) (declared (script_of small) 6) (declared (script_of small) 4) → ⊥
unfolding small shape ties
small_not w = (rows_within small small_loads 6 4 refl refl refl).0 w (start_of (script_of small) 6) (start_of (script_of small) 4) here (bad_end refl refl)

-- its tables
abbrev small_model : ℕ → Model
small_model r = model_in (script_of small).type_row (script_of small).name_row r

abbrev small_inner : ℕ → Set
small_inner a = start (content_at (script_of small).type_row (script_of small).name_row a)

abbrev small_next : ℕ → Set
small_next a = cond (eqb a 1) (next (small_model 2) 1) (cond (eqb a 4) (next (small_model 4) 4) (next (small_model 6) 5))

small_contents : (i : ℕ) → ((script_of small).type_row i).kind ≡ 4 → Wired small_next (small_model ((script_of small).type_row i).q) ends
unfolding small ties Wired
small_contents zero e = absurd (omega arith)
small_contents (suc zero) e = absurd (omega arith)
small_contents (suc (suc zero)) e = absurd (omega arith)
small_contents (suc (suc (suc zero))) e = (omega arith, λ b. refl)
small_contents (suc (suc (suc (suc zero)))) e = absurd (omega arith)
small_contents (suc (suc (suc (suc (suc zero))))) e = absurd (omega arith)
small_contents (suc (suc (suc (suc (suc (suc zero)))))) e = absurd (omega arith)
small_contents (suc (suc (suc (suc (suc (suc (suc i))))))) e = let j = suc (suc (suc (suc (suc (suc (suc i)))))) in absurd (omega (arith, table_high 6 j (kind_in small j 3 e)))

small_kept : Kept (script_of small).type_row (script_of small).name_row 6 (start (small_model 6)) small_inner small_next
unfolding small ties Wired
small_kept = record { begins = λ b. refl; wired = (omega arith, λ b. refl); contents = small_contents; insides = λ a e b. refl }
