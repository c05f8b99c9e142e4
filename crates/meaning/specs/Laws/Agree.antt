-- Two sheets that agree in the words of their tables have the same tables: the same script where the script's words agree, the same forest rows where those do too. What lies past them is not looked
-- at.
use Rattle.std.specs.Prelude.{ℕ, ◌+◌, ◌*◌, ◌-◌, ◌≤◌, ◌<◌, ◌≡◌, refl, Bool, true, false, cond, List}
use Rattle.std.proofs.Common.{◌∙◌, ap, ap₂, arith}
use Rattle.std.proofs.Math.Path.{fun_ext}
use Rattle.meaning.specs.Limits.{header_words, type_words, row_words, procedure_words}
use Rattle.meaning.specs.Words.{word_at}
use Rattle.meaning.specs.Tests.{in_table}
use Rattle.meaning.specs.Sheet.{
  blank,
  no_procedure,
  row3,
  row4,
  row5,
  script_of,
  names_of,
  types_in_header,
  queries_of,
  statements_of,
  procedures_of,
  rows_of,
  pool_of,
  types_at,
  queries_at,
  statements_at,
  procedures_at,
  rows_at,
  pool_at,
  need,
}
use Rattle.meaning.specs.Laws.Tests.{table_low, table_high}

-- the header's words but for forest rows, pool, root and fuels, and the tables
pub record SameTables (s s' : List ℕ) : Type 0 where
  pub header : (j : ℕ) → j < 10 → ¬ (j ≡ 5) → ¬ (j ≡ 6) → word_at s' j ≡ word_at s j
  pub tables : (j : ℕ) → 13 ≤ j → j < rows_at s → word_at s' j ≡ word_at s j

-- a name's word, as `script_of` reads it
abbrev row1 : List ℕ → ℕ → ℕ → ℕ → ℕ
row1 s at n r = cond (in_table n r) (word_at s (at + (r - 1))) 0

-- tables within words that are the same, below word m
module _ (s s' : List ℕ) (m : ℕ) (word : (j : ℕ) → 13 ≤ j → j < m → word_at s' j ≡ word_at s j) (at n : ℕ) (low : 13 ≤ at) where
  rows3 : at + type_words * n ≤ m → row3 s' at n ≡ row3 s at n
  rows3 high = fun_ext λ r. go r (in_table n r) refl
    where
      go : (r : ℕ) (b : Bool) → in_table n r ≡ b → row3 s' at n r ≡ row3 s at n r
      go r true e = let l = table_low n r e in let h = table_high n r e in λ i. cond (in_table n r) (record {
        kind = word (at + type_words * (r - 1)) (omega arith) (omega arith) i;
        p = word (at + type_words * (r - 1) + 1) (omega arith) (omega arith) i;
        q = word (at + type_words * (r - 1) + 2) (omega arith) (omega arith) i;
        r = 0;
      }) blank
      go r false e = rw e

  rows4 : at + row_words * n ≤ m → row4 s' at n ≡ row4 s at n
  rows4 high = fun_ext λ r. go r (in_table n r) refl
    where
      go : (r : ℕ) (b : Bool) → in_table n r ≡ b → row4 s' at n r ≡ row4 s at n r
      go r true e = let l = table_low n r e in let h = table_high n r e in λ i. cond (in_table n r) (record {
        kind = word (at + row_words * (r - 1)) (omega arith) (omega arith) i;
        p = word (at + row_words * (r - 1) + 1) (omega arith) (omega arith) i;
        q = word (at + row_words * (r - 1) + 2) (omega arith) (omega arith) i;
        r = word (at + row_words * (r - 1) + 3) (omega arith) (omega arith) i;
      }) blank
      go r false e = rw e

  rows5 : at + procedure_words * n ≤ m → row5 s' at n ≡ row5 s at n
  rows5 high = fun_ext λ r. go r (in_table n r) refl
    where
      go : (r : ℕ) (b : Bool) → in_table n r ≡ b → row5 s' at n r ≡ row5 s at n r
      go r true e = let l = table_low n r e in let h = table_high n r e in λ i. cond (in_table n r) (record {
        first = word (at + procedure_words * (r - 1)) (omega arith) (omega arith) i;
        second = word (at + procedure_words * (r - 1) + 1) (omega arith) (omega arith) i;
        input = word (at + procedure_words * (r - 1) + 2) (omega arith) (omega arith) i;
        output = word (at + procedure_words * (r - 1) + 3) (omega arith) (omega arith) i;
        body = word (at + procedure_words * (r - 1) + 4) (omega arith) (omega arith) i;
      }) no_procedure
      go r false e = rw e

  rows1 : at + n ≤ m → row1 s' at n ≡ row1 s at n
  rows1 high = fun_ext λ r. go r (in_table n r) refl
    where
      go : (r : ℕ) (b : Bool) → in_table n r ≡ b → row1 s' at n r ≡ row1 s at n r
      go r true e = let l = table_low n r e in let h = table_high n r e in λ i. cond (in_table n r) (word (at + (r - 1)) (omega arith) (omega arith) i) 0
      go r false e = rw e

module _ (s s' : List ℕ) (same : SameTables s s') where
  -- the counts, and where the tables begin
  names_same : names_of s' ≡ names_of s
  names_same = same.header 0 (omega arith) (omega arith) (omega arith)

  types_same : types_in_header s' ≡ types_in_header s
  types_same = same.header 1 (omega arith) (omega arith) (omega arith)

  queries_same : queries_of s' ≡ queries_of s
  queries_same = same.header 2 (omega arith) (omega arith) (omega arith)

  statements_same : statements_of s' ≡ statements_of s
  statements_same = same.header 3 (omega arith) (omega arith) (omega arith)

  procedures_same : procedures_of s' ≡ procedures_of s
  procedures_same = same.header 4 (omega arith) (omega arith) (omega arith)

  types_here : types_at s' ≡ types_at s
  types_here = λ i. header_words + names_same i

  queries_here : queries_at s' ≡ queries_at s
  queries_here = λ i. types_here i + type_words * types_same i

  statements_here : statements_at s' ≡ statements_at s
  statements_here = λ i. queries_here i + row_words * queries_same i

  procedures_here : procedures_at s' ≡ procedures_at s
  procedures_here = λ i. statements_here i + row_words * statements_same i

  rows_here : rows_at s' ≡ rows_at s
  rows_here = λ i. procedures_here i + procedure_words * procedures_same i

  -- they have the same script
  pub same_script : script_of s' ≡ script_of s
  unfolding script_of
  same_script = λ i. record {
    names = names_same i;
    types = types_same i;
    queries = queries_same i;
    statements = statements_same i;
    procedures = procedures_same i;
    name_row = (ap (row1 s' header_words) names_same ∙ rows1 s s' (rows_at s) same.tables header_words (names_of s) (omega arith) (omega arith)) i;
    type_row = (ap₂ (row3 s') types_here types_same ∙ rows3 s s' (rows_at s) same.tables (types_at s) (types_in_header s) (omega arith) (omega arith)) i;
    query_row = (ap₂ (row4 s') queries_here queries_same ∙ rows4 s s' (rows_at s) same.tables (queries_at s) (queries_of s) (omega arith) (omega arith)) i;
    statement_row = (ap₂ (row4 s') statements_here statements_same ∙ rows4 s s' (rows_at s) same.tables (statements_at s) (statements_of s) (omega arith) (omega arith)) i;
    procedure_row = (ap₂ (row5 s') procedures_here procedures_same ∙ rows5 s s' (rows_at s) same.tables (procedures_at s) (procedures_of s) (omega arith) (omega arith)) i;
    a = same.header 7 (omega arith) (omega arith) (omega arith) i;
    b = same.header 8 (omega arith) (omega arith) (omega arith) i;
    main = same.header 9 (omega arith) (omega arith) (omega arith) i;
  }

  -- and the same forest rows, if as many
  module _ (count : rows_of s' ≡ rows_of s) where
    pub pool_here : pool_at s' ≡ pool_at s
    pool_here = λ i. rows_here i + row_words * count i

    pub need_same : pool_of s' ≡ pool_of s → need s' ≡ need s
    need_same pool = λ i. 2 * pool_here i + pool i

    pub same_rows : ((j : ℕ) → 13 ≤ j → j < pool_at s → word_at s' j ≡ word_at s j) → row4 s' (rows_at s') (rows_of s') ≡ row4 s (rows_at s) (rows_of s)
    same_rows word = ap₂ (row4 s') rows_here count ∙ rows4 s s' (pool_at s) word (rows_at s) (rows_of s) (omega arith) (omega arith)
