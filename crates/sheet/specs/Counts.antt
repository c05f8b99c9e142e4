-- A layout's numbers: what it counts is a row of the table, and within the limits.
use Rattle.std.specs.Prelude.{ℕ, ◌≤◌, ◌≡◌, true, List}
use Rattle.std.proofs.Common.{arith}
use Rattle.meaning.specs.Tests.{in_table}
use Rattle.meaning.specs.Sheet.{script_of, types_in_header, names_of}
use Rattle.meaning.specs.Shape.{shapely}
use Rattle.meaning.specs.Laws.Tests.{in_table_lem}
use Rattle.meaning.specs.Laws.Shaped.{few_types, few_names}
use Rattle.sheet.specs.declared.Layout.{Layout}
use Rattle.sheet.specs.Laid.{Laid}

module _ {s : List ℕ} {l : Layout} (L : Laid s l) {i : ℕ} where
  pub in_types : (1 ≤ i) × (i ≤ l.types) → in_table (script_of s).types i ≡ true
  unfolding script_of
  in_types h = in_table_lem (types_in_header s) i h.0 (omega (arith, h.1, L.types))

  pub in_names : (1 ≤ i) × (i ≤ l.names) → in_table (script_of s).names i ≡ true
  unfolding script_of
  in_names h = in_table_lem (names_of s) i h.0 (omega (arith, h.1, L.names))

  pub types_high : shapely s ≡ true → i ≤ l.types → i ≤ 512
  unfolding script_of
  types_high e h = omega (arith, few_types s e, L.types)

  pub names_high : shapely s ≡ true → i ≤ l.names → i ≤ 32
  unfolding script_of
  names_high e h = omega (arith, few_names s e, L.names)
