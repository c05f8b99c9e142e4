-- How the worked examples are stated (replies, for whatever is lent if it is enough) and shown: a lemma for each form, and a name for each group of definitions that is opened to compute with.
use Rattle.std.specs.Prelude.{ℕ, zero, suc, ◌+◌, ◌*◌, ◌≤◌, ◌≡◌, true, List, [], ◌∷◌, ◌++◌, leb, length, drop, replicate}
use Rattle.std.proofs.Common.{sym, ap, subst, arith, leb-true}
use Rattle.std.proofs.lemmas.List.{length-replicate}
use Rattle.meaning.specs.Limits.{most_width, most_lent}
use Rattle.meaning.specs.Tests.{every, some, total}
use Rattle.meaning.specs.Words.{bytes_of, rows_lent}
use Rattle.meaning.specs.Sheet.{sheet_of, script_of, grove_of}
use Rattle.meaning.specs.Forest.{Tree, Forest, nil, cons, ◌⊕◌, count, bytes_from, equal_bytes, forest, forest_at, forest_size, tree_size, forest_rows, tree_rows, rows_of_result, row_bytes, root_after}
use Rattle.meaning.specs.Types.{Ty, Named, Fertile, names_in, ty_at, ty, ty_form, size, atom_of}
use Rattle.meaning.specs.Walk.{ret, halt, tick, ask, ◌>>=◌, pay, pass, Quiet, Verdict, gives, Settled, settle, Settles, halted, short, paid, passed}
use Rattle.meaning.specs.Walk as walk
use Rattle.meaning.specs.Run.{seen, tested, inside, kept, each, branch, same_texts, query_of, insert_of, rename_of, test_of, children_of, arguments, statement_of, query, statement, run_walk}
use Rattle.meaning.specs.Check.{
  Question,
  Asking,
  Judged,
  holds,
  parts,
  tests,
  picked,
  test_type,
  rename_type,
  children_type,
  inside_type,
  ask_all,
  query_type,
  statement_type,
  types_at,
  infer_by,
  typing_by,
  body_by,
  bodies_by,
  check_by,
  check_walk,
}
use Rattle.meaning.specs.Shape.{
  word_ok,
  types_ok,
  queries_ok,
  statements_ok,
  rows_ok,
  names_ok,
  procedures_ok,
  roots_ok,
  limits_ok,
  own,
  asking,
  type_users,
  query_users,
  statement_users,
  row_users,
  users_ok,
  holds_tree,
  query_scope,
  arguments_scope,
  statement_scope,
  parameters_scope,
  query_scoped,
  statement_scoped,
  scope_ok,
  shapely,
}
use Rattle.meaning.specs.Places.{model, model_at, model_form, nullable, first, last, follows, same_head, tied, NoneBarren}
use Rattle.meaning.specs.Bundle.{blocks, filled, word_sum, payload, all_zero}
use Rattle.meaning.specs.Reply.{Refusal, Answer, done, refused, Loads, sound, Checked, walked, Ran, ended, gave, run_settled, verdict_answer}
use Rattle.meaning.specs.Laws.Tests.{table_low, table_high}
use Rattle.meaning.specs.Theorems.Worked.Sheets.{Row, joined, sheet}
use Rattle.meaning.specs.Theorems.Worked.Ties.{all_places, none_tied, untied}

-- ---- a check's walk, where its questions pass

-- a check's walk without its questions, which all pass
unfoldable pub unasked : {A : Type 0} → Asking A → Quiet A
unasked (ret x) = ret x
unasked (halt h) = halt h
unasked (tick w) = tick (unasked w)
unasked (ask q w) = unasked w

unfoldable pub Passing : {A : Type 0} → (ℕ → Named) → Asking A → Type 0
Passing names (ret x) = Unit {0}
Passing names (halt h) = Unit {0}
Passing names (tick w) = Passing names w
Passing names (ask q w) = Judged names q pass × Passing names w

-- ---- what computes

-- a sheet's bytes and tables
unfoldable pub tables : Unit {0}
unfolding bytes_of joined sheet sheet_of script_of grove_of
tables = tt

-- Shape
unfoldable pub shape : Unit {0}
unfolding tables every some total word_ok types_ok queries_ok statements_ok rows_ok names_ok procedures_ok roots_ok limits_ok own asking type_users query_users statement_users row_users users_ok
    holds_tree query_scope arguments_scope statement_scope parameters_scope query_scoped statement_scoped scope_ok
shape = tt

-- ties
unfoldable pub ties : Unit {0}
unfolding tables some every none_tied all_places model model_at model_form nullable first last follows same_head tied
ties = tt

-- a run, and its result's rows
unfoldable pub runs : Unit {0}
unfolding tables settle run_walk statement query statement_of query_of each test_of tested seen inside kept branch same_texts equal_bytes bytes_from rename_of arguments children_of insert_of ◌>>=◌ pay
    count ◌⊕◌ forest forest_at forest_size tree_size forest_rows tree_rows root_after row_bytes
runs = tt

-- a check
unfoldable pub checks : Unit {0}
unfolding tables unasked Passing settle names_in ty_at ty ty_form atom_of size parts tests picked test_type rename_type children_type inside_type ask_all query_type statement_type types_at arguments
    infer_by typing_by body_by bodies_by check_by ◌>>=◌ pay
checks = tt

-- a bundle
unfoldable pub frames : Unit {0}
unfolding tables every blocks filled word_sum payload all_zero
frames = tt

-- ---- trees and types as the document writes them: labels a, b, c, d are 1 to 4, and `a` alone means empty content

abbrev pub a : ℕ
a = 1

abbrev pub b : ℕ
b = 2

abbrev pub c : ℕ
c = 3

abbrev pub d : ℕ
d = 4

abbrev pub leaf : ℕ → Tree
leaf n = Tree.node n nil

abbrev pub tip : ℕ → Ty
tip n = Ty.label n Ty.empty

-- trees side by side
abbrev pub trees : List Tree → Forest
trees [] = nil
trees (t ∷ l) = cons t (trees l)

-- ---- the forms

-- a run is done: it gives this forest for these units; the result holds its rows, the last one the root, and all past them is untouched
pub record Does (s : List ℕ) (units : ℕ) (f : Forest) (rows : List Row) : Type 0 where
  pub forest : (run_settled s).verdict ≡ gives f
  pub reply : (work result : List ℕ) → (grove_of s).rows + (sheet_of s).run_fuel ≤ rows_lent work → length rows ≤ rows_lent result
      → Ran s work result done units (length rows) (bytes_of (joined rows) ++ drop (8 * length rows) result)

-- a run is refused, with these units; the result is untouched
abbrev pub Refuses : List ℕ → Refusal → ℕ → Type 0
Refuses s r units = (work result : List ℕ) → (grove_of s).rows + (sheet_of s).run_fuel ≤ rows_lent work → Ran s work result (refused r) units 0 result

-- a check answers, with these units
abbrev pub Checks : List ℕ → Answer → ℕ → Type 0
Checks s answer units = (work : List ℕ) → (sheet_of s).check_fuel ≤ rows_lent work → Checked s work answer units

-- the check's walk, begun with n units, ends so and leaves m
abbrev pub Walks : List ℕ → ℕ → Verdict Ty → ℕ → Type 0
Walks s n v m = Settles (Judged (names_in (script_of s))) (check_walk (script_of s)) n v m

-- ---- and how each is shown

pub no_names : (s : List ℕ) → (script_of s).names ≡ 0 → NoneBarren (script_of s)
no_names s e x t = let l = table_low (script_of s).names x t in let h = table_high (script_of s).names x t in absurd (omega arith)

pub one_name : (s : List ℕ) → (script_of s).names ≡ 1 → Fertile (names_in (script_of s)) 1 → NoneBarren (script_of s)
one_name s e f x t = let l = table_low (script_of s).names x t in let h = table_high (script_of s).names x t in let z : x ≡ 1 = omega arith in rw z f

-- a sheet without names loads
pub loads : (s : List ℕ) → shapely s ≡ true → (script_of s).names ≡ 0 → none_tied (script_of s) (λ x y. true) ≡ true → Loads s done
loads s e n h = sound e (no_names s n) (untied (script_of s) h)

module _ {s : List ℕ} (ok : Loads s done) {units : ℕ} (left : ℕ) where
  pub does : {f : Forest} {rows : List Row} → run_settled s ≡ record { verdict = gives f; left = left } → units + left ≡ (sheet_of s).run_fuel
      → forest_size f ≡ length rows → row_bytes (rows_of_result f) ≡ bytes_of (joined rows) → Does s units f rows
  does {f} {rows} e p n b = record {
    forest = ap (λ (x : Settled Forest). x.verdict) e;
    reply = λ work result enough room.
        gave {f = f} {units = units} {after = bytes_of (joined rows) ++ drop (8 * length rows) result} ok enough (ap (λ (x : Settled Forest). x.verdict) e) (rw e p) (rw n room) (sym n) (rw (n, b));
  }

  pub refuses : {v : Verdict Forest} {r : Refusal} → run_settled s ≡ record { verdict = v; left = left } → verdict_answer v ≡ refused r → units + left ≡ (sheet_of s).run_fuel → Refuses s r units
  refuses {r = r} e q p work result enough = ended {r = r} {units = units} ok enough (rw e q) (rw e p)

pub settles : {A : Type 0} {names : ℕ → Named} (w : Asking A) (n : ℕ) → Passing names w → Settles (Judged names) w n (settle (unasked w) n).verdict (settle (unasked w) n).left
unfolding unasked Passing settle
settles (ret x) n h = walk.done
settles (halt s) n h = halted
settles (tick w) zero h = short
settles (tick w) (suc n) h = paid (settles w n h)
settles (ask q w) n h = passed h.0 (settles w n h.1)

abbrev pub check_settled : List ℕ → Settled Ty
check_settled s = settle (unasked (check_walk (script_of s))) (sheet_of s).check_fuel

module _ {s : List ℕ} (ok : Loads s done) {answer : Answer} {units : ℕ} (left : ℕ) {v : Verdict Ty} where
  -- a walk's end is the check's answer
  pub answers_by : Walks s (sheet_of s).check_fuel v left → verdict_answer v ≡ answer → units + left ≡ (sheet_of s).check_fuel → Checks s answer units
  answers_by w e p work enough = walked {units = units} {left = left} {v = v} ok enough w e p

  -- where every question passes, the end is computed
  pub answers : Passing (names_in (script_of s)) (check_walk (script_of s)) → check_settled s ≡ record { verdict = v; left = left }
      → verdict_answer v ≡ answer → units + left ≡ (sheet_of s).check_fuel → Checks s answer units
  answers h e = answers_by (subst (λ (x : Settled Ty). Walks s (sheet_of s).check_fuel x.verdict x.left) e (settles (check_walk (script_of s)) (sheet_of s).check_fuel h))

-- a type asked about lies in itself
pub in_itself : {names : ℕ → Named} {q : Question} → leb (size q.found) most_width ≡ true → q.found ≡ q.wanted → Judged names q pass
in_itself {q = q} l e = holds (leb-true (size q.found) most_width l) (λ f o. rw e at o)

-- k rows are there where n rows of zeros are lent
pub lent : (n k : ℕ) → n ≤ most_lent → k ≤ n → k ≤ rows_lent (replicate (8 * n) 0)
lent n k p q = let e : rows_lent (replicate (8 * n) 0) ≡ n = rw length-replicate (omega arith) in rw e q
