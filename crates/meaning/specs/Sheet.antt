-- A sheet: the set of tables, lent as one slice of bytes. Thirteen header words, then the tables, then the pool (document 01, "Bundles"
-- gives the order; "Tables" the rows).
use Rattle.std.specs.Prelude.{ℕ, ◌+◌, ◌*◌, ◌-◌, cond, List, get_or}
use Rattle.meaning.specs.Limits.{header_words, type_words, row_words, procedure_words}
use Rattle.meaning.specs.Tests.{in_table}
use Rattle.meaning.specs.Words.{word_at}

-- one row of types (kind, p, q; no r), queries, statements (kind, p, q, r) or forests (kind, p, q, next)
pub record Cells : Type 0 where
  pub kind : ℕ
  pub p : ℕ
  pub q : ℕ
  pub r : ℕ

pub record Procedure : Type 0 where
  pub first : ℕ
  pub second : ℕ
  pub input : ℕ
  pub output : ℕ
  pub body : ℕ

-- what is not a row reads as zeros
abbrev pub blank : Cells
blank = record { kind = 0; p = 0; q = 0; r = 0 }

abbrev pub no_procedure : Procedure
no_procedure = record { first = 0; second = 0; input = 0; output = 0; body = 0 }

-- types, script and the types that it goes between: all that a check looks at
pub record Script : Type 0 where
  pub names : ℕ
  pub types : ℕ
  pub queries : ℕ
  pub statements : ℕ
  pub procedures : ℕ
  pub name_row : ℕ → ℕ
  pub type_row : ℕ → Cells
  pub query_row : ℕ → Cells
  pub statement_row : ℕ → Cells
  pub procedure_row : ℕ → Procedure
  pub a : ℕ
  pub b : ℕ
  pub main : ℕ

-- the rows of a forest, and the pool that its texts and the script's lie in
pub record Grove : Type 0 where
  pub rows : ℕ
  pub row : ℕ → Cells
  pub pool : ℕ
  pub byte : ℕ → ℕ
  pub root : ℕ

pub record Sheet : Type 0 where
  pub script : Script
  pub grove : Grove
  pub check_fuel : ℕ
  pub run_fuel : ℕ

-- row r of a table of n rows, r from 1
abbrev pub row3 : List ℕ → ℕ → ℕ → ℕ → Cells
row3 s at n r = cond (in_table n r) (record {
  kind = word_at s (at + type_words * (r - 1));
  p = word_at s (at + type_words * (r - 1) + 1);
  q = word_at s (at + type_words * (r - 1) + 2);
  r = 0;
}) blank

abbrev pub row4 : List ℕ → ℕ → ℕ → ℕ → Cells
row4 s at n r = cond (in_table n r) (record {
  kind = word_at s (at + row_words * (r - 1));
  p = word_at s (at + row_words * (r - 1) + 1);
  q = word_at s (at + row_words * (r - 1) + 2);
  r = word_at s (at + row_words * (r - 1) + 3);
}) blank

abbrev pub row5 : List ℕ → ℕ → ℕ → ℕ → Procedure
row5 s at n r = cond (in_table n r) (record {
  first = word_at s (at + procedure_words * (r - 1));
  second = word_at s (at + procedure_words * (r - 1) + 1);
  input = word_at s (at + procedure_words * (r - 1) + 2);
  output = word_at s (at + procedure_words * (r - 1) + 3);
  body = word_at s (at + procedure_words * (r - 1) + 4);
}) no_procedure

-- the header's words, and where each table begins, in words
module _ (s : List ℕ) where
  abbrev pub names_of : ℕ
  names_of = word_at s 0

  abbrev pub types_in_header : ℕ
  types_in_header = word_at s 1

  abbrev pub queries_of : ℕ
  queries_of = word_at s 2

  abbrev pub statements_of : ℕ
  statements_of = word_at s 3

  abbrev pub procedures_of : ℕ
  procedures_of = word_at s 4

  abbrev pub rows_of : ℕ
  rows_of = word_at s 5

  abbrev pub pool_of : ℕ
  pool_of = word_at s 6

  abbrev pub types_at : ℕ
  types_at = header_words + names_of

  abbrev pub queries_at : ℕ
  queries_at = types_at + type_words * types_in_header

  abbrev pub statements_at : ℕ
  statements_at = queries_at + row_words * queries_of

  abbrev pub procedures_at : ℕ
  procedures_at = statements_at + row_words * statements_of

  abbrev pub rows_at : ℕ
  rows_at = procedures_at + procedure_words * procedures_of

  abbrev pub pool_at : ℕ
  pool_at = rows_at + row_words * rows_of

  -- the bytes that the counts ask for
  abbrev pub need : ℕ
  need = 2 * pool_at + pool_of

  unfoldable pub script_of : Script
  script_of = record {
    names = names_of;
    types = types_in_header;
    queries = queries_of;
    statements = statements_of;
    procedures = procedures_of;
    name_row = λ x. cond (in_table names_of x) (word_at s (header_words + (x - 1))) 0;
    type_row = row3 s types_at types_in_header;
    query_row = row4 s queries_at queries_of;
    statement_row = row4 s statements_at statements_of;
    procedure_row = row5 s procedures_at procedures_of;
    a = word_at s 7;
    b = word_at s 8;
    main = word_at s 9;
  }

  unfoldable pub grove_of : Grove
  grove_of = record {
    rows = rows_of;
    row = row4 s rows_at rows_of;
    pool = pool_of;
    byte = λ i. get_or s (2 * pool_at + i) 0;
    root = word_at s 10;
  }

  unfoldable pub sheet_of : Sheet
  sheet_of = record { script = script_of; grove = grove_of; check_fuel = word_at s 11; run_fuel = word_at s 12 }
