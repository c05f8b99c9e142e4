-- What Shape's tests say, each of a sheet that passes it: the limits, the words of the rows, the roots, one user for each row. Then of a slice that passes them all, and of its type rows kind by
-- kind.
use Rattle.std.specs.Prelude.{ℕ, suc, ◌-◌, ◌≤◌, ◌<◌, ◌≡◌, ◌&&◌, List, length}
use Rattle.std.proofs.Math.Bool.{true}
use Rattle.std.proofs.Common.{inl, inr, arith}
use Rattle.std.proofs.Math.Dec.{eqb}
use borrow.Author.Tests.{eqb-true, leb-true}
use Rattle.meaning.specs.Limits.{most_names, most_rows, most_procedures, most_forest_rows, most_pool, most_fuel, last_label}
use Rattle.meaning.specs.Tests.{every, in_table}
use Rattle.meaning.specs.Sheet.{Cells, Sheet, need, types_in_header, script_of, grove_of, sheet_of}
use Rattle.meaning.specs.Shape.{
  word_ok,
  words_ok,
  type_uses,
  query_uses,
  statement_uses,
  forest_uses,
  is_part,
  is_label,
  absent,
  procedure_ok,
  limits_ok,
  types_ok,
  queries_ok,
  statements_ok,
  rows_ok,
  names_ok,
  procedures_ok,
  roots_ok,
  type_users,
  query_users,
  statement_users,
  users_ok,
  scope_ok,
  shaped,
  whole,
  shapely,
}
use Rattle.meaning.specs.Laws.Bools.{and_left, and_right, either}
use Rattle.meaning.specs.Laws.Tests.{table_low, table_high, every_at}

-- a row by its four words
abbrev pub cells : ℕ → ℕ → ℕ → ℕ → Cells
cells k p q r = record { kind = k; p = p; q = q; r = r }

-- a part of row i: a lower row, not 0
pub record Part (i w : ℕ) : Type 0 where
  pub low : 1 ≤ w
  pub lower : w < i

pub part_of : (i w : ℕ) → is_part i w ≡ true → Part i w
part_of i w e = record { low = table_low (i - 1) w e; lower = omega (arith, table_low (i - 1) w e, table_high (i - 1) w e) }

-- ---- test by test

pub record Few (t : Sheet) : Type 0 where
  pub names : t.script.names ≤ most_names
  pub types : t.script.types ≤ most_rows
  pub queries : t.script.queries ≤ most_rows
  pub statements : t.script.statements ≤ most_rows
  pub procedures : t.script.procedures ≤ most_procedures
  pub rows : t.grove.rows ≤ most_forest_rows
  pub pool : t.grove.pool ≤ most_pool
  pub check_fuel_lem : t.check_fuel ≤ most_fuel
  pub run_fuel_lem : t.run_fuel ≤ most_fuel

pub record Roots (t : Sheet) : Type 0 where
  pub a : in_table t.script.types t.script.a ≡ true
  pub b : in_table t.script.types t.script.b ≡ true
  pub main : in_table t.script.statements t.script.main ≡ true
  pub forest : t.grove.root ≤ t.grove.rows

module _ (t : Sheet) where
  pub few : limits_ok t ≡ true → Few t
  unfolding limits_ok
  few e = record {
    names = leb-true t.script.names most_names (search (and_left, and_right) depth 14);
    types = leb-true t.script.types most_rows (search (and_left, and_right) depth 14);
    queries = leb-true t.script.queries most_rows (search (and_left, and_right) depth 14);
    statements = leb-true t.script.statements most_rows (search (and_left, and_right) depth 14);
    procedures = leb-true t.script.procedures most_procedures (search (and_left, and_right) depth 14);
    rows = leb-true t.grove.rows most_forest_rows (search (and_left, and_right) depth 14);
    pool = leb-true t.grove.pool most_pool (search (and_left, and_right) depth 14);
    check_fuel_lem = leb-true t.check_fuel most_fuel (search (and_left, and_right) depth 14);
    run_fuel_lem = leb-true t.run_fuel most_fuel (search (and_left, and_right) depth 14);
  }

  pub roots : roots_ok t ≡ true → Roots t
  unfolding roots_ok
  roots e = record {
    a = search (and_left, and_right) depth 9;
    b = search (and_left, and_right) depth 9;
    main = search (and_left, and_right) depth 9;
    forest = leb-true t.grove.root t.grove.rows (search (and_left, and_right) depth 9);
  }

  module _ (i : ℕ) where
    pub types_say : types_ok t ≡ true → in_table t.script.types i ≡ true → words_ok t (type_uses (t.script.type_row i)) i (t.script.type_row i) ≡ true
    unfolding types_ok
    types_say e h = and_right (in_table 8 (t.script.type_row i).kind) _ (every_at _ t.script.types e i (table_low t.script.types i h) (table_high t.script.types i h))

    pub queries_say : queries_ok t ≡ true → in_table t.script.queries i ≡ true → words_ok t (query_uses (t.script.query_row i)) i (t.script.query_row i) ≡ true
    unfolding queries_ok
    queries_say e h = and_right (in_table 13 (t.script.query_row i).kind) _ (every_at _ t.script.queries e i (table_low t.script.queries i h) (table_high t.script.queries i h))

    pub statements_say : statements_ok t ≡ true → in_table t.script.statements i ≡ true
        → words_ok t (statement_uses t.script.procedure_row (t.script.statement_row i)) i (t.script.statement_row i) ≡ true
    unfolding statements_ok
    statements_say e h = and_right (in_table 14 (t.script.statement_row i).kind) _
        (every_at _ t.script.statements e i (table_low t.script.statements i h) (table_high t.script.statements i h))

    pub rows_say : rows_ok t ≡ true → in_table t.grove.rows i ≡ true → in_table 4 (t.grove.row i).kind && words_ok t (forest_uses (t.grove.row i)) i (t.grove.row i) ≡ true
    unfolding rows_ok
    rows_say e h = every_at _ t.grove.rows e i (table_low t.grove.rows i h) (table_high t.grove.rows i h)

    -- a name stands for a row of kind 4
    pub names_say : names_ok t ≡ true → in_table t.script.names i ≡ true → (in_table t.script.types (t.script.name_row i) ≡ true) × ((t.script.type_row (t.script.name_row i)).kind ≡ 4)
    unfolding names_ok
    names_say e h =
        let g = every_at _ t.script.names e i (table_low t.script.names i h) (table_high t.script.names i h) in
        (and_left (in_table t.script.types (t.script.name_row i)) _ g, eqb-true _ 4 (and_right (in_table t.script.types (t.script.name_row i)) _ g))

    pub procedures_say : procedures_ok t ≡ true → in_table t.script.procedures i ≡ true → procedure_ok t (t.script.procedure_row i) ≡ true
    unfolding procedures_ok
    procedures_say e h = every_at _ t.script.procedures e i (table_low t.script.procedures i h) (table_high t.script.procedures i h)

    pub body_says : procedures_ok t ≡ true → in_table t.script.procedures i ≡ true → in_table t.script.statements (t.script.procedure_row i).body ≡ true
    body_says e h = let r = procedures_say e h in search (and_left, and_right) depth 9

    pub type_user : users_ok t ≡ true → in_table t.script.types i ≡ true → type_users t i ≡ 1
    unfolding users_ok
    type_user e h =
        let all : every (λ r. eqb (type_users t r) 1) t.script.types ≡ true = search (and_left, and_right) in
        eqb-true (type_users t i) 1 (every_at _ t.script.types all i (table_low t.script.types i h) (table_high t.script.types i h))

    pub query_user : users_ok t ≡ true → in_table t.script.queries i ≡ true → query_users t i ≡ 1
    unfolding users_ok
    query_user e h =
        let all : every (λ r. eqb (query_users t r) 1) t.script.queries ≡ true = search (and_left, and_right) in
        eqb-true (query_users t i) 1 (every_at _ t.script.queries all i (table_low t.script.queries i h) (table_high t.script.queries i h))

    pub statement_user : users_ok t ≡ true → in_table t.script.statements i ≡ true → statement_users t i ≡ 1
    unfolding users_ok
    statement_user e h =
        let all : every (λ r. eqb (statement_users t r) 1) t.script.statements ≡ true = search (and_left, and_right) in
        eqb-true (statement_users t i) 1 (every_at _ t.script.statements all i (table_low t.script.statements i h) (table_high t.script.statements i h))

-- ---- a slice that passes Shape passes each

-- what has a kind is a row of the table
pub kind_in : (s : List ℕ) (i k : ℕ) → ((script_of s).type_row i).kind ≡ suc k → in_table (script_of s).types i ≡ true
unfolding script_of
kind_in s i k e = elim (either (in_table (types_in_header s) i)) [ inl h ↦ h | inr h ↦ (let z : ◌≡◌ {A = ℕ} 0 (suc k) = rw h at e in absurd (omega arith)) ]

module _ (s : List ℕ) (e : shapely s ≡ true) where
  pub long : need s ≤ length s
  long = leb-true (need s) (length s) (and_left (whole s) (shaped (sheet_of s)) e)

  pub limits_pass : limits_ok (sheet_of s) ≡ true
  limits_pass = search (and_left, and_right) depth 14

  pub types_pass : types_ok (sheet_of s) ≡ true
  types_pass = search (and_left, and_right) depth 14

  pub queries_pass : queries_ok (sheet_of s) ≡ true
  queries_pass = search (and_left, and_right) depth 14

  pub statements_pass : statements_ok (sheet_of s) ≡ true
  statements_pass = search (and_left, and_right) depth 14

  pub rows_pass : rows_ok (sheet_of s) ≡ true
  rows_pass = search (and_left, and_right) depth 14

  pub names_pass : names_ok (sheet_of s) ≡ true
  names_pass = search (and_left, and_right) depth 14

  pub procedures_pass : procedures_ok (sheet_of s) ≡ true
  procedures_pass = search (and_left, and_right) depth 14

  pub roots_pass : roots_ok (sheet_of s) ≡ true
  roots_pass = search (and_left, and_right) depth 14

  pub users_pass : users_ok (sheet_of s) ≡ true
  users_pass = search (and_left, and_right) depth 14

  pub scope_pass : scope_ok (script_of s) ≡ true
  unfolding sheet_of
  scope_pass = search (and_left, and_right) depth 14

  pub few_names : (script_of s).names ≤ most_names
  unfolding sheet_of
  few_names = (few (sheet_of s) limits_pass).names

  pub few_types : (script_of s).types ≤ most_rows
  unfolding sheet_of
  few_types = (few (sheet_of s) limits_pass).types

  pub few_rows : (grove_of s).rows ≤ most_forest_rows
  unfolding sheet_of
  few_rows = (few (sheet_of s) limits_pass).rows

  pub few_units : (sheet_of s).run_fuel ≤ most_fuel
  few_units = (few (sheet_of s) limits_pass).run_fuel_lem

  pub few_bytes : (grove_of s).pool ≤ most_pool
  unfolding sheet_of
  few_bytes = (few (sheet_of s) limits_pass).pool

  -- ---- its type rows

  pub one_user : (i : ℕ) → in_table (script_of s).types i ≡ true → type_users (sheet_of s) i ≡ 1
  unfolding sheet_of
  one_user i h = type_user (sheet_of s) i users_pass h

  pub named : (x : ℕ) → in_table (script_of s).names x ≡ true → (in_table (script_of s).types ((script_of s).name_row x) ≡ true) × (((script_of s).type_row ((script_of s).name_row x)).kind ≡ 4)
  unfolding sheet_of
  named x h = names_say (sheet_of s) x names_pass h

  module _ (i : ℕ) where
    words : (k : ℕ) → ((script_of s).type_row i).kind ≡ suc k → words_ok (sheet_of s) (type_uses ((script_of s).type_row i)) i ((script_of s).type_row i) ≡ true
    unfolding sheet_of
    words k e = types_say (sheet_of s) i types_pass (kind_in s i k e)

    -- kind 4: a label and a content
    pub label_row : ((script_of s).type_row i).kind ≡ 4 → (((script_of s).type_row i).p ≤ last_label) × Part i ((script_of s).type_row i).q
    unfolding word_ok
    label_row k =
        let g : is_label ((script_of s).type_row i).p && is_part i ((script_of s).type_row i).q && absent ((script_of s).type_row i).r ≡ true = rw k at (words 3 k) in
        (leb-true ((script_of s).type_row i).p last_label (search (and_left, and_right)), part_of i ((script_of s).type_row i).q (search (and_left, and_right)))

    -- kinds 5 and 6: two parts
    pub seq_row : ((script_of s).type_row i).kind ≡ 5 → Part i ((script_of s).type_row i).p × Part i ((script_of s).type_row i).q
    unfolding word_ok
    seq_row k =
        let g : is_part i ((script_of s).type_row i).p && is_part i ((script_of s).type_row i).q && absent ((script_of s).type_row i).r ≡ true = rw k at (words 4 k) in
        (part_of i ((script_of s).type_row i).p (search (and_left, and_right)), part_of i ((script_of s).type_row i).q (search (and_left, and_right)))

    pub choice_row : ((script_of s).type_row i).kind ≡ 6 → Part i ((script_of s).type_row i).p × Part i ((script_of s).type_row i).q
    unfolding word_ok
    choice_row k =
        let g : is_part i ((script_of s).type_row i).p && is_part i ((script_of s).type_row i).q && absent ((script_of s).type_row i).r ≡ true = rw k at (words 5 k) in
        (part_of i ((script_of s).type_row i).p (search (and_left, and_right)), part_of i ((script_of s).type_row i).q (search (and_left, and_right)))

    -- kind 7: one part
    pub star_row : ((script_of s).type_row i).kind ≡ 7 → Part i ((script_of s).type_row i).p
    unfolding word_ok
    star_row k =
        let g : is_part i ((script_of s).type_row i).p && absent ((script_of s).type_row i).q && absent ((script_of s).type_row i).r ≡ true = rw k at (words 6 k) in
        part_of i ((script_of s).type_row i).p (search (and_left, and_right))

    -- kind 8: a name
    pub name_row_lem : ((script_of s).type_row i).kind ≡ 8 → in_table (script_of s).names ((script_of s).type_row i).p ≡ true
    unfolding word_ok sheet_of
    name_row_lem k =
        let g : in_table (script_of s).names ((script_of s).type_row i).p && absent ((script_of s).type_row i).q && absent ((script_of s).type_row i).r ≡ true = rw k at (words 7 k) in
        search (and_left, and_right)
