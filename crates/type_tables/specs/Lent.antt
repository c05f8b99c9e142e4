-- The sheet's tables, as a fit and a check borrow them.
use Rattle.std.specs.Prelude.{ℕ, ◌≡◌, Bool, true, List, Result, Ok}
use Rattle.meaning.specs.Sheet.{script_of}
use Rattle.meaning.specs.Shape.{shapely}
use Rattle.meaning.specs.Reply.{Loads}
use Rattle.sheet.specs.Table.{Table, rows_in, types_in}
use Rattle.type_heads.specs.Classes.{Classes}
use Rattle.type_ties.specs.Sound.{sound_of, Made}
use Rattle.type_ties.specs.declared.Tables.{Tables}
use Rattle.type_ties.specs.declared.Unsound.{Unsound}
use Rattle.type_tables.specs.Points.{SheetPoints, Started, sheet_points}
use Rattle.type_heads.specs.Kin.{Kins}

-- what may stand where each row begins and behind each place, the places of each head, and each place's kin
pub record Lent (s first behind class same kin : List ℕ) : Type 0 where
  pub points : SheetPoints s first behind
  pub classes : Classes s class same
  pub kins : Kins (script_of s).type_row (script_of s).types s class kin

abbrev pub LentTables : List ℕ → Tables → Type 0
LentTables s t = Lent s t.first t.behind t.class t.same t.kin

-- 3, 4, or the tables
pub record Judged (s : List ℕ) (t : Tables) (r : Result Unit Unsound) : Type 0 where
  pub loads : Loads s (sound_of r)
  pub offered : r ≡ Ok tt → LentTables s t

pub lent_done : {s : List ℕ} {t : Tables} {r : Result Unit Unsound} → r ≡ Ok tt → Judged s t r → LentTables s t
lent_done e j = j.offered e

-- ---- as they are made

-- the table that the sheet lends
sheet_kins : {s : List ℕ} {t : Table} {class kin : List ℕ} → t ≡ types_in s → Kins (rows_in t) t.rows s class kin → Kins (script_of s).type_row (script_of s).types s class kin
unfolding script_of
sheet_kins is K = rw is at K

pub lent_made : {s : List ℕ} → shapely s ≡ true → {null root : List Bool} {t : Tables} {first kin : List ℕ} {n : ℕ} {rows : Table} → Made s null root t → n ≡ (script_of s).types
    → Started null t.first first 0 n → rows ≡ types_in s → Kins (rows_in rows) rows.rows s t.class kin → Lent s first t.behind t.class t.same kin
lent_made e M z o is K = record { points = sheet_points e M.tables M.rooted M.wires (rw z at o); classes = M.classes; kins = sheet_kins is K }
