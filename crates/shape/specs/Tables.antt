-- The tests that are made before the scope is judged, and two rows' tests.
use Rattle.std.specs.Prelude.{Bool, ◌&&◌, ◌||◌, not, ℕ, eqb}
use Rattle.meaning.specs.Tests.{in_table}
use Rattle.meaning.specs.Sheet.{Sheet}
use Rattle.meaning.specs.Shape.{limits_ok, types_ok, queries_ok, statements_ok, rows_ok, names_ok, procedures_ok, roots_ok, users_ok}

-- every rule under "Tables" but those of scope
abbrev pub tables_ok : Sheet → Bool
tables_ok s = limits_ok s && types_ok s && queries_ok s && statements_ok s && rows_ok s && names_ok s && procedures_ok s && roots_ok s && users_ok s

-- name x stands for a row of kind 4
abbrev pub name_ok : Sheet → ℕ → Bool
name_ok s x = in_table s.script.types (s.script.name_row x) && eqb (s.script.type_row (s.script.name_row x)).kind 4

-- the first parameter may be 0 only if the second is
abbrev pub paired : ℕ → ℕ → Bool
paired first second = not (eqb first 0) || eqb second 0
