-- The small structs of this crate and the meaning's rows: `cells_of` and `procedure_of` are the rows that they stand for, `Laid` says that a layout is the sheet's.
use Rattle.std.specs.Prelude.{◌≡◌, refl, List, Bool, true, false, ◌&&◌, ℕ, ◌+◌, ◌*◌, ◌<◌, ◌≤◌, ◌-◌, leb, length}
use Rattle.std.proofs.Common.{arith, le-leb}
use Rattle.std.proofs.lemmas.Bool.{lt-leb}
use Rattle.meaning.specs.Tests.{in_table}
use Rattle.meaning.specs.Words.{word_at}
use Rattle.meaning.specs.Sheet.{
  Cells,
  names_of,
  types_in_header,
  queries_of,
  statements_of,
  procedures_of,
  rows_of,
  pool_of,
  types_at,
  queries_at,
  statements_at,
  procedures_at,
  rows_at,
  pool_at,
  blank,
  no_procedure,
  row3,
  row4,
  row5,
  script_of,
  grove_of,
}
use Rattle.meaning.specs.Sheet as meaning
use Rattle.sheet.specs.Whole.{Whole, Lies}
use Rattle.sheet.specs.declared.Row.{Row}
use Rattle.sheet.specs.declared.Procedure.{Procedure}
use Rattle.sheet.specs.declared.Layout.{Layout}

abbrev pub cells_of : Row → Cells
cells_of c = record { kind = c.kind; p = c.p; q = c.q; r = c.r }

abbrev pub procedure_of : Procedure → meaning.Procedure
procedure_of c = record { first = c.first; second = c.second; input = c.input; output = c.output; body = c.body }

-- the words of a row are words
pub record Words (c : Cells) : Type 0 where
  pub kind : c.kind < 65536
  pub p : c.p < 65536
  pub q : c.q < 65536
  pub r : c.r < 65536

pub blank_words : {c : Cells} → c ≡ blank → Words c
blank_words e = rw e (record { kind = omega arith; p = omega arith; q = omega arith; r = omega arith })

-- the layout is that of the sheet s, which is whole
pub record Laid (s : List ℕ) (l : Layout) : Type 0 where
  pub whole : Whole s
  pub names : l.names ≡ names_of s
  pub types : l.types ≡ types_in_header s
  pub queries : l.queries ≡ queries_of s
  pub statements : l.statements ≡ statements_of s
  pub procedures : l.procedures ≡ procedures_of s
  pub rows : l.rows ≡ rows_of s
  pub pool : l.pool ≡ pool_of s
  pub a : l.a ≡ word_at s 7
  pub b : l.b ≡ word_at s 8
  pub main : l.main ≡ word_at s 9
  pub root : l.root ≡ word_at s 10
  pub check_fuel_lem : l.check_fuel ≡ word_at s 11
  pub run_fuel_lem : l.run_fuel ≡ word_at s 12
  pub types_at : l.types_at ≡ types_at s
  pub queries_at : l.queries_at ≡ queries_at s
  pub statements_at : l.statements_at ≡ statements_at s
  pub procedures_at : l.procedures_at ≡ procedures_at s
  pub rows_at : l.rows_at ≡ rows_at s
  pub pool_at : l.pool_at ≡ pool_at s
  -- every count is a word, so every place in the sheet is a small number
  pub few_names : l.names < 65536
  pub few_types : l.types < 65536
  pub few_queries : l.queries < 65536
  pub few_statements : l.statements < 65536
  pub few_procedures : l.procedures < 65536
  pub few_rows : l.rows < 65536
  pub few_bytes : l.pool < 65536

-- ---- a row in its table, and what is none

pub outside_low : (n r : ℕ) → r ≡ 0 → in_table n r ≡ false
outside_low n r e = rw (e, lt-leb 1 0 (omega arith))

pub outside_high : (n r : ℕ) → n < r → in_table n r ≡ false
outside_high n r h = go (leb 1 r) (leb r n) (lt-leb r n h)
  where
    go : (a b : Bool) → b ≡ false → a && b ≡ false
    go true b e = e
    go false b e = refl

pub inside : (n r : ℕ) → (r ≡ 0 → ⊥) → r ≤ n → in_table n r ≡ true
inside n r z h = rw (le-leb 1 r (omega arith), le-leb r n h)

module _ (s : List ℕ) (at n r : ℕ) where
  pub three_none : in_table n r ≡ false → blank ≡ row3 s at n r
  three_none e = rw e

  pub three_some : in_table n r ≡ true → {k p q : ℕ}
      → k ≡ word_at s (at + 3 * (r - 1)) → p ≡ word_at s (at + 3 * (r - 1) + 1) → q ≡ word_at s (at + 3 * (r - 1) + 2)
      → record { kind = k; p = p; q = q; r = 0 } ≡ row3 s at n r
  three_some e ek ep eq = rw (e, ek, ep, eq)

  pub four_none : in_table n r ≡ false → blank ≡ row4 s at n r
  four_none e = rw e

  pub four_some : in_table n r ≡ true → {k p q x : ℕ}
      → k ≡ word_at s (at + 4 * (r - 1)) → p ≡ word_at s (at + 4 * (r - 1) + 1) → q ≡ word_at s (at + 4 * (r - 1) + 2) → x ≡ word_at s (at + 4 * (r - 1) + 3)
      → record { kind = k; p = p; q = q; r = x } ≡ row4 s at n r
  four_some e ek ep eq ex = rw (e, ek, ep, eq, ex)

  pub five_none : in_table n r ≡ false → no_procedure ≡ row5 s at n r
  five_none e = rw e

  pub five_some : in_table n r ≡ true → {f g i o b : ℕ}
      → f ≡ word_at s (at + 5 * (r - 1)) → g ≡ word_at s (at + 5 * (r - 1) + 1) → i ≡ word_at s (at + 5 * (r - 1) + 2)
      → o ≡ word_at s (at + 5 * (r - 1) + 3) → b ≡ word_at s (at + 5 * (r - 1) + 4)
      → record { first = f; second = g; input = i; output = o; body = b } ≡ row5 s at n r
  five_some e ef eg ei eo eb = rw (e, ef, eg, ei, eo, eb)

-- ---- the tables of a sheet, by its layout

module _ {s : List ℕ} {l : Layout} (L : Laid s l) where
  pub type_table : (r : ℕ) → row3 s l.types_at l.types r ≡ (script_of s).type_row r
  unfolding script_of
  type_table r = rw (L.types_at, L.types)

  pub query_table : (r : ℕ) → row4 s l.queries_at l.queries r ≡ (script_of s).query_row r
  unfolding script_of
  query_table r = rw (L.queries_at, L.queries)

  pub statement_table : (r : ℕ) → row4 s l.statements_at l.statements r ≡ (script_of s).statement_row r
  unfolding script_of
  statement_table r = rw (L.statements_at, L.statements)

  pub procedure_table : (r : ℕ) → row5 s l.procedures_at l.procedures r ≡ (script_of s).procedure_row r
  unfolding script_of
  procedure_table r = rw (L.procedures_at, L.procedures)

  pub forest_table : (r : ℕ) → row4 s l.rows_at l.rows r ≡ (grove_of s).row r
  unfolding grove_of
  forest_table r = rw (L.rows_at, L.rows)

  pub no_name : (x : ℕ) → in_table l.names x ≡ false → 0 ≡ (script_of s).name_row x
  unfolding script_of
  no_name x e = rw (← L.names, e)

  pub a_name : (x : ℕ) → in_table l.names x ≡ true → word_at s (13 + (x - 1)) ≡ (script_of s).name_row x
  unfolding script_of
  a_name x e = rw (← L.names, e)

-- each table lies in the sheet's bytes
module _ {s : List ℕ} {l : Layout} (L : Laid s l) where
  pub types_lie : Lies s l.types_at 3 l.types
  types_lie = record { bytes = omega (arith, L.whole.bytes, L.types_at, L.types); low = omega (arith, L.types_at, L.names, L.few_names); few = L.few_types }

  pub queries_lie : Lies s l.queries_at 4 l.queries
  queries_lie = record {
    bytes = omega (arith, L.whole.bytes, L.queries_at, L.queries);
    low = omega (arith, L.queries_at, L.names, L.few_names, L.types, L.few_types);
    few = L.few_queries;
  }

  pub statements_lie : Lies s l.statements_at 4 l.statements
  statements_lie = record {
    bytes = omega (arith, L.whole.bytes, L.statements_at, L.statements);
    low = omega (arith, L.statements_at, L.names, L.few_names, L.types, L.few_types, L.queries, L.few_queries);
    few = L.few_statements;
  }

  pub procedures_lie : Lies s l.procedures_at 5 l.procedures
  procedures_lie = record {
    bytes = omega (arith, L.whole.bytes, L.procedures_at, L.procedures);
    low = omega (arith, L.procedures_at, L.names, L.few_names, L.types, L.few_types, L.queries, L.few_queries, L.statements, L.few_statements);
    few = L.few_procedures;
  }

  pub rows_lie : Lies s l.rows_at 4 l.rows
  rows_lie = record {
    bytes = omega (arith, L.whole.bytes, L.rows_at, L.rows);
    low = omega (arith, L.rows_at, L.names, L.few_names, L.types, L.few_types, L.queries, L.few_queries, L.statements, L.few_statements, L.procedures, L.few_procedures);
    few = L.few_rows;
  }

  pub names_lie : 2 * (13 + l.names) ≤ length s
  names_lie = omega (arith, L.whole.bytes, L.names)
