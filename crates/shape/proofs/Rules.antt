-- What is settled once all but the scope is judged, and what a sheet's length says.
use mathlib.Core.Path.{◌≡◌}
use mathlib.Core.Bool.{Bool, true, false, ◌&&◌}
use mathlib.Core.List.{List}
use Prim.Native.Nat.{ℕ, ◌<◌}
use borrow.Author.Tests.{le-leb, lt-leb}
use lib.ListN.{length}
use Rattle.meaning.specs.Sheet.{need, sheet_of}
use Rattle.meaning.specs.Shape.{limits_ok, types_ok, queries_ok, statements_ok, rows_ok, names_ok, procedures_ok, roots_ok, users_ok, shaped, shapely}
use Rattle.meaning.specs.Laws.Bools.{and_left, and_right}
use Rattle.sheet.specs.Whole.{Whole}
use Rattle.shape_scope.specs.Scopes.{Before}
use Rattle.shape.specs.Tables.{tables_ok}

-- what `scope` asks to be settled before
settled_by : (a b c d e f g h i : Bool) → a && b && c && d && e && f && g && h && i ≡ true
    → (a ≡ true) × (c ≡ true) × (d ≡ true) × (g ≡ true) × (h ≡ true) × (i ≡ true)
settled_by a b c d e f g h i t =
    let eight = and_left (a && b && c && d && e && f && g && h) i t in
    let seven = and_left (a && b && c && d && e && f && g) h eight in
    let four = and_left (a && b && c && d) e (and_left (a && b && c && d && e) f (and_left (a && b && c && d && e && f) g seven)) in
    let three = and_left (a && b && c) d four in (
      and_left a b (and_left (a && b) c three),
      and_right (a && b) c three,
      and_right (a && b && c) d four,
      and_right (a && b && c && d && e && f) g seven,
      and_right (a && b && c && d && e && f && g) h eight,
      and_right (a && b && c && d && e && f && g && h) i t,
    )

pub settled : (s : List ℕ) → tables_ok (sheet_of s) ≡ true → Before s
settled s t =
    let S = sheet_of s in
    let x = settled_by (limits_ok S) (types_ok S) (queries_ok S) (statements_ok S) (rows_ok S) (names_ok S) (procedures_ok S) (roots_ok S) (users_ok S) t in
    record { limits = x.0; queries = x.1; statements = x.2; procedures = x.3; roots = x.4; users = x.5 }

-- bytes that are fewer than the counts ask are no sheet, and others are one by its rules
pub short : (s : List ℕ) → length s < need s → shapely s ≡ false
short s l = rw (lt-leb (need s) (length s) l)

pub long : (s : List ℕ) → Whole s → shapely s ≡ shaped (sheet_of s)
long s w = rw (le-leb (need s) (length s) w.bytes)
