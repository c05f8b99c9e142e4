-- A shaped sheet's types are such a table, and so is the table that it lends.
use Rattle.std.specs.Prelude.{ℕ, ◌≤◌, ◌≡◌, Bool, true, List}
use Rattle.std.proofs.Common.{inl, inr}
use Rattle.meaning.specs.Sheet.{script_of}
use Rattle.meaning.specs.Kinds.{TypeRow}
use Rattle.meaning.specs.Shape.{shapely}
use Rattle.meaning.specs.Laws.Shaped.{seq_row, choice_row, star_row, few_types}
use Rattle.meaning.specs.Laws.Apart.{Side, View, v_none, v_empty, v_text, v_bool, v_label, v_seq, v_choice, v_star, v_name, view, shaped_lower, shaped_once}
use Rattle.sheet.specs.Table.{Table, rows_in, types_in}
use Rattle.type_places.specs.Tables.{row_form, Rows, Tables, Free, Wires}

module _ (s : List ℕ) (e : shapely s ≡ true) where
  side_low : (i j : ℕ) → Side (row_form (script_of s).type_row i) j → 1 ≤ j
  unfolding Side
  side_low i j x = go (view ((script_of s).type_row i)) x
    where
      go : {t : TypeRow} → View ((script_of s).type_row i) t → Side t j → 1 ≤ j
      go v_none z = elim z [ ]
      go v_empty z = elim z [ ]
      go (v_text _) z = elim z [ ]
      go (v_bool _) z = elim z [ ]
      go (v_label _) z = elim z [ ]
      go (v_name _) z = elim z [ ]
      go (v_seq k) (inl z) = rw z at (seq_row s e i k).0.low
      go (v_seq k) (inr z) = rw z at (seq_row s e i k).1.low
      go (v_choice k) (inl z) = rw z at (choice_row s e i k).0.low
      go (v_choice k) (inr z) = rw z at (choice_row s e i k).1.low
      go (v_star k) z = rw z at (star_row s e i k).low

  pub shaped_rows : Rows (script_of s).type_row (script_of s).types
  shaped_rows = record { few = few_types s e; lower = shaped_lower s e; once = shaped_once s e; low = side_low }

-- the table that a sheet lends
module _ {s : List ℕ} {t : Table} (is : t ≡ types_in s) where
  pub laid_rows : shapely s ≡ true → Rows (rows_in t) t.rows
  unfolding script_of
  laid_rows e = rw is (shaped_rows s e)

  pub laid_tables : {null : List Bool} {begin : List ℕ} → Tables (rows_in t) t.rows null begin → Tables (script_of s).type_row (script_of s).types null begin
  unfolding script_of
  laid_tables T = rw is at T

  pub laid_free : (root : List Bool) (top : ℕ) → Free (script_of s).type_row root top → Free (rows_in t) root top
  unfolding script_of
  laid_free root top F = rw is F

  pub laid_wires : {root : List Bool} {behind : List ℕ} {top : ℕ} → Wires (rows_in t) root behind top → Wires (script_of s).type_row root behind top
  unfolding script_of
  laid_wires W = rw is at W
