-- The calls as functions, when one meets its promise, and when two closed answers, numbers or bytes are not equal: what the theorems of `Refuted` are stated and shown with.
use Rattle.std.specs.Prelude.{ℕ, ◌+◌, ◌≤◌, ◌≡◌, refl, Bool, true, false, ◌&&◌, ◌||◌, not, List, [], ◌∷◌, ◌++◌, eqb, leb, length}
use Rattle.std.proofs.Common.{sym, ◌∙◌, ap, inl, inr, leb-true, eq-eqb}
use Rattle.std.proofs.lemmas.Bool.{not-true}
use Rattle.meaning.specs.Limits.{most_lent}
use Rattle.meaning.specs.Words.{rows_lent}
use Rattle.meaning.specs.Sheet.{sheet_of, script_of, grove_of}
use Rattle.meaning.specs.Kinds.{Query, Statement, query_at, statement_at}
use Rattle.meaning.specs.Forest.{Forest, forest_of}
use Rattle.meaning.specs.Types.{Ty, declared}
use Rattle.meaning.specs.Reply.{Answer, Coded, answer_code, refusal_code, Reply, Copied, CheckReply, FitReply, RunReply, ApplyReply, read, write}
use Rattle.meaning.specs.Listing.{lent_work, lent_result}
use Rattle.meaning.specs.Laws.Bools.{or_cases, and_both, not_both}
use Rattle.meaning.specs.Theorems.Worked.Sheets.{Row, tr, row, sheet}
use Rattle.meaning.specs.Theorems.Worked.Stated.{lent}

-- ---- the calls, as functions, and when one meets its promise

abbrev pub Run : Type 0
Run = List ℕ → List ℕ → List ℕ → Reply

abbrev pub Check : Type 0
Check = List ℕ → List ℕ → Reply

abbrev pub Fit : Type 0
Fit = List ℕ → ℕ → Reply

-- the reader and the writer
abbrev pub Copier : Type 0
Copier = List ℕ → List ℕ → Copied

abbrev pub MeetsRun : Run → Type 0
MeetsRun f = (s work result : List ℕ) → RunReply s work result (f s work result)

abbrev pub MeetsApply : Run → Type 0
MeetsApply f = (s work result : List ℕ) → ApplyReply s work result (f s work result)

abbrev pub MeetsCheck : Check → Type 0
MeetsCheck f = (s work : List ℕ) → CheckReply s work (f s work)

abbrev pub MeetsFit : Fit → Type 0
MeetsFit f = (s : List ℕ) (t : ℕ) → FitReply s t (f s t)

abbrev pub MeetsRead : Copier → Type 0
MeetsRead f = (b lent : List ℕ) → f b lent ≡ read b lent

abbrev pub MeetsWrite : Copier → Type 0
MeetsWrite f = (s lent : List ℕ) → f s lent ≡ write s lent

-- what a sheet holds: rows by number, the main row, the forest, the types that it goes between
module _ (s : List ℕ) where
  abbrev pub statement_in : ℕ → Statement
  statement_in i = statement_at (script_of s) i

  abbrev pub query_in : ℕ → Query
  query_in i = query_at (script_of s) i

  abbrev pub main_of : Statement
  main_of = statement_in (script_of s).main

  abbrev pub forest_in : Forest
  forest_in = forest_of (grove_of s)

  abbrev pub type_a : Ty
  type_a = declared (script_of s) (script_of s).a

  abbrev pub type_b : Ty
  type_b = declared (script_of s) (script_of s).b

  -- enough is lent for a run, and for a check
  abbrev pub Enough : List ℕ → Type 0
  Enough work = (grove_of s).rows + (sheet_of s).run_fuel ≤ rows_lent work

  abbrev pub Afoot : List ℕ → Type 0
  Afoot work = (sheet_of s).check_fuel ≤ rows_lent work

-- ---- one thing is not two that differ

abbrev same_code : Coded → Coded → Bool
same_code c d = eqb c.number d.number && eqb c.a d.a && eqb c.b d.b

same_codes : {c d : Coded} → c ≡ d → same_code c d ≡ true
same_codes {c} {d} e =
    let number = eq-eqb c.number d.number (ap (λ (x : Coded). x.number) e) in
    and_both _ _ (and_both _ _ number (eq-eqb c.a d.a (ap (λ (x : Coded). x.a) e))) (eq-eqb c.b d.b (ap (λ (x : Coded). x.b) e))

-- what opens to tell answers apart by their numbers and values
unfoldable pub codes : Unit {0}
unfolding answer_code refusal_code
codes = tt

pub two_answers : {z x y : Answer} → z ≡ x → z ≡ y → same_code (answer_code x) (answer_code y) ≡ false → ⊥
two_answers p q u = not_both (same_codes (ap answer_code (sym p ∙ q))) u

pub two_numbers : {z x y : ℕ} → z ≡ x → z ≡ y → eqb x y ≡ false → ⊥
two_numbers {x = x} {y = y} p q u = not_both (eq-eqb x y (sym p ∙ q)) u

-- somewhere both lists have a byte, and the two are not equal
unfoldable pub differ : List ℕ → List ℕ → Bool
differ [] l = false
differ (x ∷ k) [] = false
differ (x ∷ k) (y ∷ l) = not (eqb x y) || differ k l

differing : (k l m n : List ℕ) → differ k l ≡ true → k ++ m ≡ l ++ n → ⊥
unfolding differ
differing [] l m n h e = not_both h refl
differing (x ∷ k) [] m n h e = not_both h refl
differing (x ∷ k) (y ∷ l) m n h e = elim (or_cases (not (eqb x y)) (differ k l) h) [
  | inl p ↦ (let z : x ≡ y = cc in not_both (eq-eqb x y z) (not-true (eqb x y) p))
  | inr p ↦ (let z : k ++ m ≡ l ++ n = cc in differing k l m n p z)
]

-- bytes that begin with k are not bytes that begin with l
pub two_bytes : {z : List ℕ} (k l m n : List ℕ) → z ≡ k ++ m → z ≡ l ++ n → differ k l ≡ true → ⊥
two_bytes k l m n p q u = differing k l m n u (sym p ∙ q)

-- ---- what is lent

-- the rows that the program lends are enough
pub work_rows : (k : ℕ) → leb k 6144 ≡ true → k ≤ rows_lent lent_work
work_rows k e = lent 6144 k (leb-true 6144 most_lent refl) (leb-true k 6144 e)

pub result_rows : (k : ℕ) → leb k 8192 ≡ true → k ≤ rows_lent lent_result
result_rows k e = lent 8192 k (leb-true 8192 most_lent refl) (leb-true k 8192 e)

-- ---- sheets for more than one call

-- skip, between two of these types, on this forest, with these fuels
unfoldable pub skipping : List Row → ℕ → ℕ → List Row → ℕ → ℕ → List ℕ
unfolding sheet
skipping types a b rows check_fuel run_fuel = sheet (record {
  names = [];
  types = types;
  queries = [];
  statements = row 1 0 0 0 ∷ [];
  procedures = [];
  rows = rows;
  pool = [];
  a = a;
  b = b;
  main = 1;
  root = length rows;
  check_fuel = check_fuel;
  run_fuel = run_fuel;
})

-- from () to (), on ()
unfoldable pub idle : ℕ → ℕ → List ℕ
unfolding skipping
idle check_fuel run_fuel = skipping (tr 1 0 0 ∷ tr 1 0 0 ∷ []) 1 2 [] check_fuel run_fuel

-- X = a[X], from a*, a to (): a name is barren, and A is tied
unfoldable pub barren_tied : List ℕ
unfolding sheet
barren_tied = sheet (record {
  names = 2 ∷ [];
  types = tr 8 1 0 ∷ tr 4 1 1 ∷ tr 1 0 0 ∷ tr 4 1 3 ∷ tr 7 4 0 ∷ tr 1 0 0 ∷ tr 4 1 6 ∷ tr 5 5 7 ∷ tr 1 0 0 ∷ [];
  queries = [];
  statements = row 1 0 0 0 ∷ [];
  procedures = [];
  rows = [];
  pool = [];
  a = 8;
  b = 9;
  main = 1;
  root = 0;
  check_fuel = 4096;
  run_fuel = 4096;
})
