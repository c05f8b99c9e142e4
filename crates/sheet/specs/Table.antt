-- Rows of types as they lie in bytes: where they begin, in words, and how many there are.
use Rattle.std.specs.Prelude.{ℕ, List, ◌≡◌, refl}
use Rattle.meaning.specs.Sheet.{Cells, row3, types_at, types_in_header, script_of}

pub record Table : Type 0 where
  pub bytes : List ℕ
  pub at : ℕ
  pub rows : ℕ

abbrev pub rows_in : Table → ℕ → Cells
rows_in t r = row3 t.bytes t.at t.rows r

-- those of a sheet
abbrev pub types_in : List ℕ → Table
types_in s = record { bytes = s; at = types_at s; rows = types_in_header s }

pub types_are : (s : List ℕ) (r : ℕ) → rows_in (types_in s) r ≡ (script_of s).type_row r
unfolding script_of
types_are s r = refl
