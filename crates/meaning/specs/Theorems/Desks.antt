-- Two desks, worked: P1's description a[b,c,b],d split in two, and splits that are stuck, in the second half and in the first, each with
-- the theorem's hypotheses met and its conclusion on the replies.
-- And a row anywhere: S's inner iter, in three scopes and from three depths.
use Rattle.std.specs.Prelude.{ℕ, zero, suc, ◌+◌, ◌*◌, ◌-◌, ◌≤◌, ◌<◌, ◌≡◌, refl, Bool, true, false, ◌||◌, List, [], ◌∷◌, ◌++◌, eqb, leb, length, take, drop}
use Rattle.std.proofs.Common.{inl, inr, arith, leb-true, eqb-true}
use Rattle.meaning.specs.Limits.{most_depth}
use Rattle.meaning.specs.Tests.{every}
use Rattle.meaning.specs.Words.{word_at, word_bytes, bytes_of, zeroed}
use Rattle.meaning.specs.Sheet.{script_of, grove_of, rows_at, pool_at}
use Rattle.meaning.specs.Forest.{Tree, Forest, nil, only, ◌⊕◌}
use Rattle.meaning.specs.Walk.{gives, of_statement, settle}
use Rattle.meaning.specs.Run.{Env, statement}
use Rattle.meaning.specs.Reply.{stuck, done, refused, Refusal, Answer, Loads, Reply, RunReply}
use Rattle.meaning.specs.Listing.{lent_work, lent_result}
use Rattle.meaning.specs.Laws.Bools.{or_cases}
use Rattle.meaning.specs.Laws.Tests.{every_at}
use Rattle.meaning.specs.Laws.Agree.{SameTables, same_script}
use Rattle.meaning.specs.Laws.Walk.{settle_settles}
use Rattle.meaning.specs.Theorems.Worked.{edited, seven, worked}
use Rattle.meaning.specs.Theorems.Worked.Sheets.{Row, row, joined, s1, small}
use Rattle.meaning.specs.Theorems.Worked.Stated.{tables, shape, ties, runs, a, b, c, d, leaf, trees, Does, Refuses, loads, does}
use Rattle.meaning.specs.Theorems.Worked.Stated.{refuses}
use Rattle.meaning.specs.Theorems.Refuted.Calls.{Enough, work_rows, result_rows}
use Rattle.meaning.specs.Theorems.Split.{Joins, Here, split_inside, Alike, Halved, Splits, split}
use Rattle.meaning.specs.Theorems.Split.Closed.{query_names_none, statement_names_none, query_closed, statement_closed}

-- ---- the same script on two sheets, by comparing their words

module _ (s s' : List ℕ) where
  abbrev same_word : ℕ → Bool
  same_word j = eqb (word_at s' j) (word_at s j)

  -- in the header, but for the counts of forest rows and pool bytes
  abbrev same_count : ℕ → Bool
  same_count j = (eqb j 5 || eqb j 6) || same_word j

  abbrev in_tables : ℕ → Bool
  in_tables k = same_word (12 + k)

  same_words : same_word 0 ≡ true → every same_count 9 ≡ true → every in_tables (rows_at s - 13) ≡ true → SameTables s s'
  same_words first counts rest = record { header = header; tables = table }
    where
      header : (j : ℕ) → j < 10 → ¬ (j ≡ 5) → ¬ (j ≡ 6) → word_at s' j ≡ word_at s j
      header zero l p q = eqb-true (word_at s' 0) (word_at s 0) first
      header (suc j) l p q =
          elim (or_cases (eqb (suc j) 5 || eqb (suc j) 6) (same_word (suc j))
          (every_at same_count 9 counts (suc j) (omega arith) (omega arith))) [
            | inl h ↦ elim (or_cases (eqb (suc j) 5) (eqb (suc j) 6) h) [
              | inl k ↦ absurd (p (eqb-true (suc j) 5 k))
              | inr k ↦ absurd (q (eqb-true (suc j) 6 k))
            ]
            | inr h ↦ eqb-true (word_at s' (suc j)) (word_at s (suc j)) h
          ]

      table : (j : ℕ) → 13 ≤ j → j < rows_at s → word_at s' j ≡ word_at s j
      table j l h =
          let e : 12 + (j - 12) ≡ j = omega arith in
          let t : same_word (12 + (j - 12)) ≡ true = every_at in_tables (rows_at s - 13) rest (j - 12) (omega arith) (omega arith) in
          rw e at (eqb-true (word_at s' (12 + (j - 12))) (word_at s (12 + (j - 12))) t)

-- ---- what a run replies on the rows that the program lends

abbrev pub replies : Answer → ℕ → ℕ → List ℕ → Reply
replies answer units root after =
    record { answer = answer; check_units = 0; run_units = units; root = root; result = after; work = zeroed lent_work }

abbrev pub gives_rows : ℕ → List Row → Reply
gives_rows units rows = replies done units (length rows) (bytes_of (joined rows) ++ drop (8 * length rows) lent_result)

abbrev pub is_refused : Refusal → ℕ → Reply
is_refused r units = replies (refused r) units 0 lent_result

done_reply : {s : List ℕ} {units : ℕ} {f : Forest} {rows : List Row} → Does s units f rows → Enough s lent_work
    → leb (length rows) 8192 ≡ true → RunReply s lent_work lent_result (gives_rows units rows)
done_reply {rows = rows} k work room =
    record { said = k.reply lent_work lent_result work (result_rows (length rows) room); no_check = refl; clear = refl }

refused_reply : {s : List ℕ} {r : Refusal} {units : ℕ} → Refuses s r units → Enough s lent_work
    → RunReply s lent_work lent_result (is_refused r units)
refused_reply k work = record { said = k lent_work lent_result work; no_check = refl; clear = refl }

-- ---- P1's description on two desks: a[b,c,b] on the one, d on the other

-- a sheet on another forest: other rows and another root, and a run fuel of its own
unfoldable pub on_forest : List ℕ → List Row → ℕ → ℕ → List ℕ
on_forest s rows root run_fuel =
    take 10 s ++ word_bytes (length rows) ++ take 8 (drop 12 s) ++ word_bytes root ++ take 2 (drop 22 s) ++ word_bytes run_fuel
    ++ take (2 * (rows_at s - 13)) (drop 26 s) ++ bytes_of (joined rows) ++ drop (2 * pool_at s) s

unfoldable pub first_desk : ℕ → List ℕ
unfolding s1 on_forest
first_desk run_fuel = on_forest (s1 4096 33) (
    row 4 2 0 0  -- 1: b
    ∷ row 4 3 0 1  -- 2: c, b
    ∷ row 4 2 0 2  -- 3: b, c, b
    ∷ row 4 1 3 0  -- 4: a[3]
    ∷ []) 4 run_fuel

unfoldable pub second_desk : ℕ → List ℕ
unfolding s1 on_forest
second_desk run_fuel = on_forest (s1 4096 33) (row 4 4 0 0 ∷ []) 1 run_fuel

-- a[b,c,c,b,c], and its rows
abbrev pub first_edited : Forest
first_edited = only (Tree.node a (trees (leaf b ∷ leaf c ∷ leaf c ∷ leaf b ∷ leaf c ∷ [])))

abbrev pub six : List Row
six = row 4 3 0 0 ∷ row 4 2 0 1 ∷ row 4 3 0 2 ∷ row 4 3 0 3 ∷ row 4 2 0 4 ∷ row 4 1 5 0 ∷ []

abbrev pub one : List Row
one = row 4 4 0 0 ∷ []

-- 30 units and 4, each with just as much fuel; together less 1 they are P1's 33
pub record P1-split : Type 0 where
  pub halved : Halved (s1 4096 33) (first_desk 30) (second_desk 4)
  pub whole : Does (s1 4096 33) 33 edited seven
  pub first : Does (first_desk 30) 30 first_edited six
  pub second : Does (second_desk 4) 4 (only (leaf d)) one
  pub splits : Splits (s1 4096 33) (first_desk 30) (second_desk 4) (gives_rows 33 seven) (gives_rows 30 six) (gives_rows 4 one)

ok_whole : Loads (s1 4096 33) done
unfolding s1 shape ties
ok_whole = loads (s1 4096 33) refl refl refl

ok_first : Loads (first_desk 30) done
unfolding first_desk shape ties
ok_first = loads (first_desk 30) refl refl refl

ok_second : Loads (second_desk 4) done
unfolding second_desk shape ties
ok_second = loads (second_desk 4) refl refl refl

first_alike : Alike (s1 4096 33) (first_desk 30)
unfolding s1 first_desk tables every
first_alike = record {
  script = same_script (s1 4096 33) (first_desk 30) (same_words (s1 4096 33) (first_desk 30) refl refl refl);
  pool = λ k l. absurd (omega arith);
}

second_alike : Alike (s1 4096 33) (second_desk 4)
unfolding s1 second_desk tables every
second_alike = record {
  script = same_script (s1 4096 33) (second_desk 4) (same_words (s1 4096 33) (second_desk 4) refl refl refl);
  pool = λ k l. absurd (omega arith);
}

p1_halved : Halved (s1 4096 33) (first_desk 30) (second_desk 4)
unfolding s1 first_desk second_desk runs
p1_halved = record {
  loads = ok_whole;
  loads₁ = ok_first;
  loads₂ = ok_second;
  alike₁ = first_alike;
  alike₂ = second_alike;
  joined = refl;
  body = 6;
  iterates = refl;
}

first_does : Does (first_desk 30) 30 first_edited six
unfolding first_desk runs
first_does = does ok_first 0 refl refl refl refl

second_does : Does (second_desk 4) 4 (only (leaf d)) one
unfolding second_desk runs
second_does = does ok_second 0 refl refl refl refl

pub p1_split : P1-split
unfolding s1 first_desk second_desk tables
p1_split = record {
  halved = p1_halved;
  whole = worked.p1;
  first = first_does;
  second = second_does;
  splits = split p1_halved (done_reply worked.p1 (work_rows 38 refl) refl) (done_reply first_does (work_rows 34 refl) refl)
      (done_reply second_does (work_rows 5 refl) refl) tt tt tt;
}

-- ---- splits that are stuck: iter [rename a], on a and on true

unfoldable pub renaming : List Row → List ℕ
unfolding small
renaming rows = small [] (row 6 1 0 0 ∷ row 13 1 0 0 ∷ []) 2 rows

abbrev pub on_a : List ℕ
on_a = renaming (row 4 1 0 0 ∷ [])

abbrev pub on_true : List ℕ
on_true = renaming (row 3 0 0 0 ∷ [])

abbrev pub on_a_true : List ℕ
on_a_true = renaming (row 3 0 0 0 ∷ row 4 1 0 1 ∷ [])

abbrev pub on_true_a : List ℕ
on_true_a = renaming (row 4 1 0 0 ∷ row 3 0 0 1 ∷ [])

-- at the rename
abbrev pub at_rename : Refusal
at_rename = stuck (of_statement 1)

-- a finishes for 5 units and true is stuck after 3: a, true is stuck after 7, and true, a after 3
pub record Stuck-splits : Type 0 where
  pub second_halved : Halved on_a_true on_a on_true
  pub first_halved : Halved on_true_a on_true on_a
  pub a_does : Does on_a 5 (only (leaf a)) (row 4 1 0 0 ∷ [])
  pub true_refuses : Refuses on_true at_rename 3
  pub a_true_refuses : Refuses on_a_true at_rename 7
  pub true_a_refuses : Refuses on_true_a at_rename 3
  pub second_splits : Splits on_a_true on_a on_true (is_refused at_rename 7) (gives_rows 5 (row 4 1 0 0 ∷ [])) (is_refused at_rename 3)
  pub first_splits : Splits on_true_a on_true on_a (is_refused at_rename 3) (is_refused at_rename 3) (gives_rows 5 (row 4 1 0 0 ∷ []))

ok_a : Loads on_a done
unfolding renaming shape ties
ok_a = loads on_a refl refl refl

ok_true : Loads on_true done
unfolding renaming shape ties
ok_true = loads on_true refl refl refl

ok_a_true : Loads on_a_true done
unfolding renaming shape ties
ok_a_true = loads on_a_true refl refl refl

ok_true_a : Loads on_true_a done
unfolding renaming shape ties
ok_true_a = loads on_true_a refl refl refl

-- the pool has four bytes
four : (p q : ℕ → ℕ) → p 0 ≡ q 0 → p 1 ≡ q 1 → p 2 ≡ q 2 → p 3 ≡ q 3 → (k : ℕ) → k < 4 → p k ≡ q k
four p q e f g h zero l = e
four p q e f g h (suc zero) l = f
four p q e f g h (suc (suc zero)) l = g
four p q e f g h (suc (suc (suc zero))) l = h
four p q e f g h (suc (suc (suc (suc k)))) l = absurd (omega arith)

alike : (s s' : List ℕ) → SameTables s s' → (grove_of s).pool ≡ 4 → (p q : ℕ → ℕ) → (grove_of s').byte ≡ p → (grove_of s).byte ≡ q → p 0 ≡ q 0
    → p 1 ≡ q 1 → p 2 ≡ q 2 → p 3 ≡ q 3 → Alike s s'
alike s s' t n p q b' b e f g h = record { script = same_script s s' t; pool = λ k l. rw (b', b) (four p q e f g h k (omega arith)) }

a_true_a : Alike on_a_true on_a
unfolding renaming tables every
a_true_a = alike on_a_true on_a (same_words on_a_true on_a refl refl refl) refl (grove_of on_a).byte
    (grove_of on_a_true).byte refl refl refl refl refl refl

a_true_true : Alike on_a_true on_true
unfolding renaming tables every
a_true_true = alike on_a_true on_true (same_words on_a_true on_true refl refl refl) refl (grove_of on_true).byte
    (grove_of on_a_true).byte refl refl refl refl refl refl

true_a_true : Alike on_true_a on_true
unfolding renaming tables every
true_a_true = alike on_true_a on_true (same_words on_true_a on_true refl refl refl) refl (grove_of on_true).byte
    (grove_of on_true_a).byte refl refl refl refl refl refl

true_a_a : Alike on_true_a on_a
unfolding renaming tables every
true_a_a = alike on_true_a on_a (same_words on_true_a on_a refl refl refl) refl (grove_of on_a).byte
    (grove_of on_true_a).byte refl refl refl refl refl refl

a_true_halved : Halved on_a_true on_a on_true
unfolding renaming runs
a_true_halved = record {
  loads = ok_a_true;
  loads₁ = ok_a;
  loads₂ = ok_true;
  alike₁ = a_true_a;
  alike₂ = a_true_true;
  joined = refl;
  body = 1;
  iterates = refl;
}

true_a_halved : Halved on_true_a on_true on_a
unfolding renaming runs
true_a_halved = record {
  loads = ok_true_a;
  loads₁ = ok_true;
  loads₂ = ok_a;
  alike₁ = true_a_true;
  alike₂ = true_a_a;
  joined = refl;
  body = 1;
  iterates = refl;
}

does_a : Does on_a 5 (only (leaf a)) (row 4 1 0 0 ∷ [])
unfolding renaming runs
does_a = does ok_a 4091 refl refl refl refl

refuses_true : Refuses on_true at_rename 3
unfolding renaming runs
refuses_true = refuses ok_true 4093 refl refl refl

refuses_a_true : Refuses on_a_true at_rename 7
unfolding renaming runs
refuses_a_true = refuses ok_a_true 4089 refl refl refl

refuses_true_a : Refuses on_true_a at_rename 3
unfolding renaming runs
refuses_true_a = refuses ok_true_a 4093 refl refl refl

pub stuck_splits : Stuck-splits
unfolding renaming tables
stuck_splits =
    let gave : RunReply on_a lent_work lent_result (gives_rows 5 (row 4 1 0 0 ∷ [])) = done_reply does_a (work_rows 4097 refl) refl in
    let stuck : RunReply on_true lent_work lent_result (is_refused at_rename 3) = refused_reply refuses_true (work_rows 4097 refl) in
    record {
      second_halved = a_true_halved;
      first_halved = true_a_halved;
      a_does = does_a;
      true_refuses = refuses_true;
      a_true_refuses = refuses_a_true;
      true_a_refuses = refuses_true_a;
      second_splits = split a_true_halved (refused_reply refuses_a_true (work_rows 4098 refl)) gave stuck tt tt tt;
      first_splits = split true_a_halved (refused_reply refuses_true_a (work_rows 4098 refl)) stuck gave tt tt tt;
    }

-- ---- a row anywhere: S's inner iter, row 4, on b, c and on b, each in a scope of one place and from a depth of its own

abbrev pub Inner : ℕ → Env → Forest → Forest → ℕ → Type 0
Inner d γ f g units = Here (script_of (s1 4096 33)) (grove_of (s1 4096 33)).byte 1 4 d γ f (gives g) units

-- snapshot [iter [right [insert the variable]]]: its iter, row 3, names the variable
unfoldable pub naming : List ℕ
unfolding small
naming = small (row 7 0 0 0 ∷ []) (row 4 1 0 0 ∷ row 12 1 0 0 ∷ row 13 2 0 0 ∷ row 8 3 0 0 ∷ []) 4 []

-- 14 units and 11; on b, c, b together 24
pub record Row-split : Type 0 where
  pub closed : statement_closed (script_of (s1 4096 33)) 1 most_depth 4 ≡ true
  pub not_closed : statement_closed (script_of naming) 1 most_depth 3 ≡ false
  pub whole : Inner 197 (nil ∷ []) (trees (leaf b ∷ leaf c ∷ leaf b ∷ [])) (trees (leaf b ∷ leaf c ∷ leaf c ∷ leaf b ∷ leaf c ∷ [])) 24
  pub first : Inner 20 (only (leaf a) ∷ []) (trees (leaf b ∷ leaf c ∷ [])) (trees (leaf b ∷ leaf c ∷ leaf c ∷ [])) 14
  pub second : Inner 6 (only (leaf d) ∷ []) (only (leaf b)) (trees (leaf b ∷ leaf c ∷ [])) 11
  pub joins : Joins (gives (trees (leaf b ∷ leaf c ∷ leaf c ∷ []))) 14 (gives (trees (leaf b ∷ leaf c ∷ []))) 11
      (gives (trees (leaf b ∷ leaf c ∷ leaf c ∷ leaf b ∷ leaf c ∷ []))) 24

-- by computation, from just so many units
inner : (d : ℕ) (γ : Env) (f g : Forest) (units : ℕ) → leb d most_depth ≡ true → length γ ≡ 1
    → settle (statement (script_of (s1 4096 33)) (grove_of (s1 4096 33)).byte d γ 4 f) units ≡ record { verdict = gives g; left = 0 }
    → Inner d γ f g units
inner d γ f g units l p e =
    let w = statement (script_of (s1 4096 33)) (grove_of (s1 4096 33)).byte d γ 4 f in
    let k = settle_settles w units in
    record {
      levels = leb-true d most_depth l;
      places = p;
      walked = record { purse = units; left = 0; settles = rw e at k; spent = omega arith };
      went = tt;
    }

closed_inside : statement_closed (script_of (s1 4096 33)) 1 most_depth 4 ≡ true
unfolding s1 tables statement_closed query_closed statement_names_none query_names_none
closed_inside = refl

not_closed_inside : statement_closed (script_of naming) 1 most_depth 3 ≡ false
unfolding naming tables statement_closed query_closed statement_names_none query_names_none
not_closed_inside = refl

inner_whole : Inner 197 (nil ∷ []) (trees (leaf b ∷ leaf c ∷ leaf b ∷ [])) (trees (leaf b ∷ leaf c ∷ leaf c ∷ leaf b ∷ leaf c ∷ [])) 24
unfolding s1 runs
inner_whole = inner 197 (nil ∷ []) _ _ 24 refl refl refl

inner_first : Inner 20 (only (leaf a) ∷ []) (trees (leaf b ∷ leaf c ∷ [])) (trees (leaf b ∷ leaf c ∷ leaf c ∷ [])) 14
unfolding s1 runs
inner_first = inner 20 (only (leaf a) ∷ []) _ _ 14 refl refl refl

inner_second : Inner 6 (only (leaf d) ∷ []) (only (leaf b)) (trees (leaf b ∷ leaf c ∷ [])) 11
unfolding s1 runs
inner_second = inner 6 (only (leaf d) ∷ []) _ _ 11 refl refl refl

pub row_split : Row-split
unfolding s1 tables ◌⊕◌
row_split = record {
  closed = closed_inside;
  not_closed = not_closed_inside;
  whole = inner_whole;
  first = inner_first;
  second = inner_second;
  joins = split_inside (script_of (s1 4096 33)) (grove_of (s1 4096 33)).byte 1 4 {p = 3} refl closed_inside
      {f = trees (leaf b ∷ leaf c ∷ [])} {g = only (leaf b)} inner_whole inner_first inner_second;
}
