-- Examples beyond the document's twelve, gathered under one statement, `Slips`: each refuses slips in definitions that the twelve would let pass (docs/CHANGED-DEFINITIONS.md). Units and rows are
-- those that the independent second program gives.
use Rattle.std.specs.Prelude.{ℕ, zero, suc, ◌-◌, ◌≡◌, refl, true, false, cond, List, [], ◌∷◌, eqb}
use Rattle.std.proofs.Common.{inl, inr, arith, leb-true, eqb-true}
use Rattle.meaning.specs.Limits.{most_depth, most_width}
use Rattle.meaning.specs.Sheet.{Script, script_of, grove_of, no_procedure}
use Rattle.meaning.specs.Forest.{Tree, Forest, nil, only, ◌⊕◌, text_at}
use Rattle.meaning.specs.Types.{Ty, Named, Of, of_empty, of_text, of_bool, of_label, of_seq, of_name, Within, Fertile, Head, names_in}
use Rattle.meaning.specs.Walk.{Stop, ret, halt, tick, ask, stop, stops, Settles, settle, paid, passed, of_statement}
use Rattle.meaning.specs.Walk as walk
use Rattle.meaning.specs.Run.{statement}
use Rattle.meaning.specs.Check.{Asking, Judged, too_wide, fails, check_walk}
use Rattle.meaning.specs.Places.{Model, Fits, Admits, start, model_in, head_at}
use Rattle.meaning.specs.Reply.{wide, mismatch, outside, done, refused, Loads, sound}
use Rattle.meaning.specs.Laws.Bools.{or_cases, not_both}
use Rattle.meaning.specs.Theorems.Worked.Sheets.{tr, row, kinds, small, typed, doubling, wrong_argument}
use Rattle.meaning.specs.Theorems.Worked.Ties.{untied}
use Rattle.meaning.specs.Theorems.Worked.Stated.{tables, shape, ties, runs, checks, unasked, a, b, c, d, leaf, tip, trees, Does, Checks, one_name, loads, does, answers_by, answers, in_itself}
use Rattle.meaning.specs.Theorems.Worked.Trials.{
  Each,
  Sticks,
  stuck_trials,
  all_stick,
  Mismatches,
  mismatch_trials,
  all_mismatch,
  Passes,
  child_trials,
  all_childless,
  Ties,
  tie_trials,
  all_tie,
  name_trials,
  names_tie,
}

-- ---- the statements

-- a text of the sheet's pool
abbrev txt : List ℕ → ℕ → ℕ → Tree
txt s offset size = Tree.text (text_at (grove_of s).byte offset size)

-- every kind of row: what is copied, bound, tested and kept, for how many units, in a run and in a check
abbrev pub Kinds : Type 0
Kinds = Does kinds 199
    (trees (leaf c ∷ Tree.bool false ∷ leaf d ∷ Tree.node b (trees (txt kinds 7 1 ∷ leaf d ∷ txt kinds 8 2 ∷ leaf d ∷ [])) ∷ Tree.bool true ∷ Tree.bool false ∷ Tree.bool true ∷ []))
    (row 3 0 0 0 ∷ row 2 0 0 1 ∷ row 3 0 0 2 ∷ row 4 4 0 0 ∷ row 1 8 2 4 ∷ row 4 4 0 5 ∷ row 1 7 1 6 ∷ row 4 2 7 3 ∷ row 4 4 0 8 ∷ row 2 0 0 9 ∷ row 4 3 0 10 ∷ [])
    × Checks kinds done 226

-- same of "ab" and "ac", of "a" and "ab", of "ab" and "a" is false
abbrev differ : ℕ → ℕ → ℕ → ℕ → List ℕ
differ p q p' q' = small (row 4 p q 0 ∷ row 4 p' q' 0 ∷ row 10 1 2 0 ∷ []) (row 4 3 0 0 ∷ []) 1 []

abbrev pub Texts : Type 0
Texts = Does (differ 0 2 2 2) 7 (only (Tree.bool false)) (row 2 0 0 0 ∷ [])
    × Does (differ 0 1 0 2) 7 (only (Tree.bool false)) (row 2 0 0 0 ∷ [])
    × Does (differ 0 2 0 1) 7 (only (Tree.bool false)) (row 2 0 0 0 ∷ [])

-- children of a text and of a bool variable are (); picking b from a text, a bool and b leaves b
abbrev inner_sheet : List ℕ
inner_sheet = small (row 4 0 2 0 ∷ row 5 0 0 0 ∷ row 2 1 2 0 ∷ row 11 0 0 0 ∷ row 13 3 4 0 ∷ []) (row 4 5 0 0 ∷ []) 1 []

abbrev pick_sheet : List ℕ
pick_sheet = small (row 4 0 2 0 ∷ row 5 0 0 0 ∷ row 1 0 0 0 ∷ row 3 2 3 0 ∷ row 2 2 4 0 ∷ row 2 1 5 0 ∷ row 12 6 2 0 ∷ []) (row 4 7 0 0 ∷ []) 1 []

abbrev pub Inner : Type 0
Inner = Does inner_sheet 12 nil [] × Does pick_sheet 14 (only (leaf b)) (row 4 2 0 0 ∷ [])

-- contents count: a[b] does not lie in a[c]; a[c] does not fit the place of a[b], and a[b] does
abbrev a_of_b : List ℕ
a_of_b = typed [] (tr 1 0 0 ∷ tr 4 2 1 ∷ tr 4 1 2 ∷ []) [] (row 1 0 0 0 ∷ []) 1

abbrev fits : Tree → Type 0
fits t = Fits (script_of a_of_b).type_row (script_of a_of_b).name_row t 3

abbrev pub Contents : Type 0
Contents = ((names : ℕ → Named) → Within names (Ty.label a (tip b)) (Ty.label a (tip c)) → ⊥) × fits (Tree.node a (only (leaf b))) × (fits (Tree.node a (only (leaf c))) → ⊥)

-- the places of a* admit a, a
abbrev star_a : List ℕ
star_a = typed [] (tr 1 0 0 ∷ tr 4 1 1 ∷ tr 7 2 0 ∷ []) [] (row 1 0 0 0 ∷ []) 1

abbrev star_model : Model
star_model = model_in (script_of star_a).type_row (script_of star_a).name_row 3

abbrev pub Twice : Type 0
Twice = Admits (script_of star_a).type_row (script_of star_a).name_row (trees (leaf a ∷ leaf a ∷ [])) star_model (start star_model)

-- a condition of 512 type rows is asked about (and is no bool), of 513 it is Wide; a name is one row
abbrev pub Widths : Type 0
Widths = Checks (doubling (row 3 1 25 0 ∷ []) 26) (refused (mismatch (of_statement 3))) 45
    × Checks (doubling (row 3 1 25 0 ∷ row 3 1 26 0 ∷ []) 27) (refused (wide (of_statement 3))) 47

-- a wrong argument is Not included, with the call's row; a focus that is not empty under insert is a Mismatch
abbrev insert_on_a : List ℕ
insert_on_a = typed [] (tr 1 0 0 ∷ tr 4 1 1 ∷ []) (row 1 0 0 0 ∷ []) (row 4 1 0 0 ∷ []) 1

abbrev pub Numbers : Type 0
Numbers = Checks wrong_argument (refused (outside (of_statement 2))) 4 × Checks insert_on_a (refused (mismatch (of_statement 1))) 1

-- left [left [.. skip]] of n rows, and insert a[a[.. ()]] of n queries: a row at depth 201 is Depth before Fuel, of statements and queries, run and checked
abbrev deep : ℕ → ℕ → Script
deep n statements = record {
  names = 0;
  types = 2;
  queries = n;
  statements = statements;
  procedures = 0;
  name_row = λ x. 0;
  type_row = λ r. record { kind = 1; p = 0; q = 0; r = 0 };
  query_row = λ r. record { kind = cond (eqb r 1) 1 3; p = cond (eqb r 1) 0 1; q = r - 1; r = 0 };
  statement_row = λ r. cond (eqb statements 1) (record { kind = 4; p = n; q = 0; r = 0 }) (record { kind = cond (eqb r 1) 1 11; p = r - 1; q = 0; r = 0 });
  procedure_row = λ r. no_procedure;
  a = 1;
  b = 2;
  main = statements;
}

abbrev pub Depths : Type 0
Depths = (settle (unasked (check_walk (deep 0 201))) 200 ≡ record { verdict = stops Stop.depth; left = 0 })
    × (settle (unasked (check_walk (deep 200 1))) 200 ≡ record { verdict = stops Stop.depth; left = 0 })
    × (settle (statement (deep 0 201) (λ i. 0) most_depth [] 201 nil) 200 ≡ record { verdict = stops Stop.depth; left = 0 })
    × (settle (statement (deep 200 1) (λ i. 0) most_depth [] 1 nil) 200 ≡ record { verdict = stops Stop.depth; left = 0 })

pub record Slips : Type 0 where
  pub kinds : Kinds
  pub stuck : Each Sticks stuck_trials
  pub mismatched : Each Mismatches mismatch_trials
  pub childless : Each Passes child_trials
  pub tied : Each Ties tie_trials
  pub named : Each Ties name_trials
  pub texts : Texts
  pub inner : Inner
  pub contents : Contents
  pub twice : Twice
  pub widths : Widths
  pub numbers : Numbers
  pub depths : Depths

-- ---- every kind of row

some_of_X : Fertile (names_in (script_of kinds)) 1
unfolding kinds checks
some_of_X = (only (Tree.node b (only (txt kinds 0 0))), of_name (of_label of_text))

ok_kinds : Loads kinds done
unfolding kinds shape ties
ok_kinds = sound refl (one_name kinds refl some_of_X) (untied (script_of kinds) refl)

all_kinds : Kinds
unfolding kinds runs checks
all_kinds = (
  does ok_kinds 3897 refl refl refl refl,
  answers ok_kinds 3870 (
    in_itself refl refl,
    (
      in_itself refl refl,
      (
        in_itself refl refl,
        (
          in_itself refl refl,
          (
            in_itself refl refl,
            (
              in_itself refl refl,
              (
                in_itself refl refl,
                (
                  in_itself refl refl,
                  (
                    in_itself refl refl,
                    (
                      in_itself refl refl,
                      (in_itself refl refl, (in_itself refl refl, (in_itself refl refl, (in_itself refl refl, tt)))),
                    ),
                  ),
                ),
              ),
            ),
          ),
        ),
      ),
    ),
  )
      refl refl refl,
)

-- ---- texts, children, pick

all_texts : Texts
unfolding small shape ties runs
all_texts = (
  does (loads (differ 0 2 2 2) refl refl refl) 4089 refl refl refl refl,
  does (loads (differ 0 1 0 2) refl refl refl) 4089 refl refl refl refl,
  does (loads (differ 0 2 0 1) refl refl refl) 4089 refl refl refl refl,
)

all_inner : Inner
unfolding small shape ties runs
all_inner = (does (loads inner_sheet refl refl refl) 4084 refl refl refl refl, does (loads pick_sheet refl refl refl) 4082 refl refl refl refl)

-- ---- contents

module _ (names : ℕ → Named) where
  no_c : {f : Forest} → Of names (Ty.label a (tip c)) f → f ≡ only (Tree.node a (only (leaf b))) → ⊥
  no_c (of_label (of_label x)) e = let z : ◌≡◌ {A = ℕ} 3 2 = cc in absurd (omega arith)

  not_in : Within names (Ty.label a (tip b)) (Ty.label a (tip c)) → ⊥
  not_in w = no_c (w (only (Tree.node a (only (leaf b)))) (of_label (of_label of_empty))) refl

-- the only place in a[b] is b's
not_c : fits (Tree.node a (only (leaf c))) → ⊥
unfolding typed ties Fits Admits
not_c x = elim (or_cases (eqb 2 x.1.0) false x.1.2) [
  | inl e ↦ (let h : head_at (script_of a_of_b).type_row (script_of a_of_b).name_row 2 ≡ Head.label c = rw (← eqb-true 2 x.1.0 e) at x.1.3.0 in let z : ◌≡◌ {A = ℕ} 2 3 = cc in
      absurd (omega arith))
  | inr e ↦ not_both e refl
]

all_contents : Contents
unfolding typed ties Fits Admits
all_contents = (not_in, (refl, (2, leb-true 1 2 refl, refl, (refl, refl), refl)), not_c)

all_twice : Twice
unfolding typed ties Fits Admits
all_twice = (2, leb-true 1 2 refl, refl, (refl, refl), (2, leb-true 1 2 refl, refl, (refl, refl), refl))

-- ---- widths

abbrev doubled : ℕ → Ty → Ty
doubled zero τ = τ
doubled (suc n) τ = Ty.seq (doubled n τ) (doubled n τ)

abbrev twofold : ℕ → Forest → Forest
twofold zero f = f
twofold (suc n) f = twofold n f ⊕ twofold n f

module _ (names : ℕ → Named) where
  of_doubled : (n : ℕ) {τ : Ty} {f : Forest} → Of names τ f → Of names (doubled n τ) (twofold n f)
  of_doubled zero o = o
  of_doubled (suc n) o = of_seq (of_doubled n o) (of_doubled n o)

  no_bool : {f : Forest} → Of names Ty.bool f → (g : Forest) → f ≡ only (Tree.node a g) → ⊥
  no_bool of_bool g e = let z : ◌≡◌ {A = ℕ} 0 1 = cc in absurd (omega arith)

  not_bool : {τ : Ty} {f : Forest} → Of names τ f → Within names (Ty.label a τ) Ty.bool → ⊥
  not_bool {f = f} o w = no_bool (w (only (Tree.node a f)) (of_label o)) f refl

X-512 : Fertile (names_in (script_of (doubling (row 3 1 25 0 ∷ []) 26))) 1
unfolding doubling checks
X-512 = (only (leaf b), of_name (of_label of_empty))

X-513 : Fertile (names_in (script_of (doubling (row 3 1 25 0 ∷ row 3 1 26 0 ∷ []) 27))) 1
unfolding doubling checks
X-513 = (only (leaf b), of_name (of_label of_empty))

ok_512 : Loads (doubling (row 3 1 25 0 ∷ []) 26) done
unfolding doubling shape ties
ok_512 = sound refl (one_name (doubling (row 3 1 25 0 ∷ []) 26) refl X-512) (untied (script_of (doubling (row 3 1 25 0 ∷ []) 26)) refl)

ok_513 : Loads (doubling (row 3 1 25 0 ∷ row 3 1 26 0 ∷ []) 27) done
unfolding doubling shape ties
ok_513 = sound refl (one_name (doubling (row 3 1 25 0 ∷ row 3 1 26 0 ∷ []) 27) refl X-513) (untied (script_of (doubling (row 3 1 25 0 ∷ row 3 1 26 0 ∷ []) 27)) refl)

-- the first question asked is refused, with m units left
unfoldable Stopping : (ℕ → Named) → Stop → ℕ → Asking Ty → ℕ → Type 0
Stopping names h m (ret x) n = ⊥
Stopping names h m (halt g) n = ⊥
Stopping names h m (tick w) zero = ⊥
Stopping names h m (tick w) (suc n) = Stopping names h m w n
Stopping names h m (ask q w) n = Judged names q (stop h) × (n ≡ m)

stopping : {names : ℕ → Named} {h : Stop} {m : ℕ} (w : Asking Ty) (n : ℕ) → Stopping names h m w n → Settles (Judged names) w n (stops h) m
unfolding Stopping
stopping (ret x) n r = absurd r
stopping (halt g) n r = absurd r
stopping (tick w) zero r = absurd r
stopping (tick w) (suc n) r = paid (stopping w n r)
stopping {h = h} (ask q w) n r = rw r.1 (walk.refused r.0)

stop_512 : Stopping (names_in (script_of (doubling (row 3 1 25 0 ∷ []) 26))) (Stop.mismatch (of_statement 3)) 4051 (check_walk (script_of (doubling (row 3 1 25 0 ∷ []) 26))) 4096
unfolding doubling checks Stopping
stop_512 = (fails (leb-true 512 most_width refl) (not_bool _ (of_doubled _ 8 X-512.1)), refl)

stop_513 : Stopping (names_in (script_of (doubling (row 3 1 25 0 ∷ row 3 1 26 0 ∷ []) 27))) (Stop.wide (of_statement 3)) 4049 (check_walk (script_of (doubling (row 3 1 25 0 ∷ row 3 1 26 0 ∷ []) 27)))
    4096
unfolding doubling checks Stopping
stop_513 = (too_wide (leb-true 513 513 refl), refl)

all_widths : Widths
unfolding doubling tables
all_widths = (
  answers_by ok_512 4051 (stopping (check_walk (script_of (doubling (row 3 1 25 0 ∷ []) 26))) 4096 stop_512) refl refl,
  answers_by ok_513 4049 (stopping (check_walk (script_of (doubling (row 3 1 25 0 ∷ row 3 1 26 0 ∷ []) 27))) 4096 stop_513) refl refl,
)

-- ---- numbers

module _ (names : ℕ → Named) where
  no_text : {f : Forest} → Of names Ty.bool f → f ≡ only (Tree.text (text_at (λ i. 0) 0 0)) → ⊥
  no_text of_bool e = let z : ◌≡◌ {A = ℕ} 0 1 = cc in absurd (omega arith)

  no_tree : {f : Forest} → Of names Ty.empty f → f ≡ only (leaf a) → ⊥
  no_tree of_empty e = let z : ◌≡◌ {A = ℕ} 0 1 = cc in absurd (omega arith)

ok_argument : Loads wrong_argument done
unfolding wrong_argument shape ties
ok_argument = loads wrong_argument refl refl refl

ok_insert : Loads insert_on_a done
unfolding typed shape ties
ok_insert = loads insert_on_a refl refl refl

all_numbers : Numbers
unfolding wrong_argument typed checks
all_numbers = (
  answers_by ok_argument 4092 (paid (passed (in_itself refl refl)
      (paid (passed (in_itself refl refl) (paid (paid (walk.refused (fails (leb-true 1 most_width refl) (λ w. no_text _ (w _ of_text) refl))))))))) refl refl,
  answers_by ok_insert 4095 (paid (walk.refused (fails (leb-true 2 most_width refl) (λ w. no_tree _ (w _ (of_label of_empty)) refl)))) refl refl,
)

all_depths : Depths
unfolding runs checks
all_depths = (refl, refl, refl, refl)

-- ---- all of it

pub slips : Slips
slips = record {
  kinds = all_kinds;
  stuck = all_stick;
  mismatched = all_mismatch;
  childless = all_childless;
  tied = all_tie;
  named = names_tie;
  texts = all_texts;
  inner = all_inner;
  contents = all_contents;
  twice = all_twice;
  widths = all_widths;
  numbers = all_numbers;
  depths = all_depths;
}
