-- Wrong checks, refuted.
use Rattle.std.specs.Prelude.{ℕ, suc, ◌≤◌, ◌<◌, ◌≡◌}
use Rattle.std.proofs.Math.Path.{refl}
use Rattle.std.proofs.Common.{sym, ◌∙◌, arith}
use mathlib.Core.List.{List, [], ◌∷◌}
use borrow.Author.Tests.{leb-true}
use Rattle.meaning.specs.Limits.{most_width}
use Rattle.meaning.specs.Words.{rows_lent}
use Rattle.meaning.specs.Sheet.{sheet_of, script_of}
use Rattle.meaning.specs.Kinds.{Query, Statement}
use Rattle.meaning.specs.Forest.{Tree, Forest, only}
use Rattle.meaning.specs.Types.{Ty, Named, Of, of_empty, of_label, Within, names_in, declared}
use Rattle.meaning.specs.Walk.{Place, gives, paid, passed, of_query, of_statement, of_output}
use Rattle.meaning.specs.Walk as walk
use Rattle.meaning.specs.Check.{fails}
use Rattle.meaning.specs.Reply.{fuel, wide, mismatch, outside, scratch, Refusal, Answer, done, refused, Loads, misshapen, Checked}
use Rattle.meaning.specs.Listing.{lent_work}
use Rattle.meaning.specs.Theorems.Single.{one_check}
use Rattle.meaning.specs.Theorems.Worked.{worked, ok7_back}
use Rattle.meaning.specs.Theorems.Worked.Sheets.{tr, row, pr, sheet, typed, s1, s7, s10, doubling}
use Rattle.meaning.specs.Theorems.Worked.Slips.{slips}
use Rattle.meaning.specs.Theorems.Worked.Stated.{tables, shape, ties, checks, a, b, c, leaf, tip, Checks, Walks, loads, answers_by, answers, in_itself}
use Rattle.meaning.specs.Theorems.Refuted.Calls.{Check, MeetsCheck, statement_in, query_in, main_of, type_a, type_b, Afoot, codes, two_answers, two_numbers, differ, two_bytes, work_rows}
use Rattle.meaning.specs.Theorems.Refuted.Calls.{skipping, idle}

-- ---- answers

-- refuses all
abbrev pub RefusesAll : Check → Type 0
RefusesAll f = (s work : List ℕ) → (f s work).answer ≡ done → ⊥

-- passes all, if only of sheets that pass 2 to 4, with enough lent
abbrev pub PassesAll : Check → Type 0
PassesAll f = (s work : List ℕ) → Loads s done → Afoot s work → (f s work).answer ≡ done

-- a check that asks only whether A lies in B
abbrev pub Skips : List ℕ → List ℕ → Type 0
Skips s work = Loads s done × Afoot s work × (1 ≤ (sheet_of s).check_fuel) × ((script_of s).procedures ≡ 0) × (main_of s ≡ Statement.skip)

-- inclusion compares heads and forgets contents: skip takes n[..] into n[..]
abbrev pub Forgets : Check → Type 0
Forgets f = (s work : List ℕ) (n : ℕ) (τ σ : Ty) → Skips s work → type_a s ≡ Ty.label n τ → type_b s ≡ Ty.label n σ → (f s work).answer ≡ done

-- inclusion is turned round: skip takes A into B where B lies in A
abbrev pub Turns : Check → Type 0
Turns f = (s work : List ℕ) → Skips s work → Within (names_in (script_of s)) (type_b s) (type_a s) → (f s work).answer ≡ done

-- Wide is given as Mismatch
abbrev pub WideAsMismatch : Check → Type 0
WideAsMismatch f = (s work : List ℕ) (at : Place) (u : ℕ) → Checked s work (refused (wide at)) u → (f s work).answer ≡ refused (mismatch at)

-- a declared output that does not hold the found type is given as Mismatch
abbrev pub OutsideAsMismatch : Check → Type 0
OutsideAsMismatch f = (s work : List ℕ) (u : ℕ) → Checked s work (refused (outside of_output)) u → (f s work).answer ≡ refused (mismatch of_output)

-- main inserts, into (), the children of each tree of a text
abbrev Childs : List ℕ → ℕ → Type 0
Childs s i = (q p o n : ℕ) × (main_of s ≡ Statement.insert q) × (query_in s q ≡ Query.for p i) × (query_in s p ≡ Query.text o n) × (query_in s i ≡ Query.children 0) × (type_a s ≡ Ty.empty)

-- they are given as Mismatch, as by the rule before
abbrev pub ChildrenMismatch : Check → Type 0
ChildrenMismatch f = (s work : List ℕ) (i : ℕ) → Loads s done → Afoot s work → 7 ≤ (sheet_of s).check_fuel → (script_of s).procedures ≡ 0 → Childs s i
    → (f s work).answer ≡ refused (mismatch (of_query i))

-- ---- order

-- the only body leaves its input as it is, and declares it as its output
abbrev OneIdle : List ℕ → Type 0
OneIdle s = ((script_of s).procedures ≡ 1) × (statement_in s ((script_of s).procedure_row 1).body ≡ Statement.skip)
    × (declared (script_of s) ((script_of s).procedure_row 1).input ≡ declared (script_of s) ((script_of s).procedure_row 1).output)

-- a call's argument is typed, and found mismatched, before its focus is asked about
abbrev pub ArgumentFirst : Check → Type 0
ArgumentFirst f = (s work : List ℕ) (q p x y : ℕ) → Loads s done → Afoot s work → 5 ≤ (sheet_of s).check_fuel → OneIdle s → main_of s ≡ Statement.call 1 (q ∷ [])
    → query_in s q ≡ Query.if p x y → query_in s p ≡ Query.empty → (f s work).answer ≡ refused (mismatch (of_query q))

-- procedure c renames an input of (), which no rename may have
abbrev Renames : List ℕ → ℕ → ℕ → Type 0
Renames s c l = (statement_in s ((script_of s).procedure_row c).body ≡ Statement.rename l) × (declared (script_of s) ((script_of s).procedure_row c).input ≡ Ty.empty)

-- of two such bodies the second is met first
abbrev pub BodiesTurned : Check → Type 0
BodiesTurned f = (s work : List ℕ) (l l' : ℕ) → Loads s done → Afoot s work → 1 ≤ (sheet_of s).check_fuel → (script_of s).procedures ≡ 2 → Renames s 1 l → Renames s 2 l'
    → (f s work).answer ≡ refused (mismatch (of_statement ((script_of s).procedure_row 2).body))

-- main is met before a body
abbrev pub MainFirst : Check → Type 0
MainFirst f = (s work : List ℕ) (l : ℕ) → Loads s done → Afoot s work → 1 ≤ (sheet_of s).check_fuel → main_of s ≡ Statement.rename l → type_a s ≡ Ty.empty
    → (f s work).answer ≡ refused (mismatch (of_statement (script_of s).main))

-- ---- units and what is lent

-- one number of units, whenever done
abbrev pub OneCheckNumber : Check → Type 0
OneCheckNumber f = (n : ℕ) × ((s work : List ℕ) → (f s work).answer ≡ done → (f s work).check_units ≡ n)

-- a written row is unpaid: a main that deletes takes one unit, and there is no more
abbrev pub WritesFree : Check → Type 0
WritesFree f = (s work : List ℕ) → main_of s ≡ Statement.delete → (script_of s).procedures ≡ 0 → (f s work).answer ≡ done → (f s work).check_units ≡ 1

-- the () of a text's children is not written, and unpaid
abbrev pub ChildrenFree : Check → Type 0
ChildrenFree f = (s work : List ℕ) (i : ℕ) → (script_of s).procedures ≡ 0 → Childs s i → (f s work).answer ≡ done → (f s work).check_units ≡ 6

-- the fuels exchanged: Scratch by the run's fuel
abbrev pub ScratchByRunFuel : Check → Type 0
ScratchByRunFuel f = (s work : List ℕ) → Loads s done → rows_lent work < (sheet_of s).run_fuel → (f s work).answer ≡ refused scratch

-- done where the run's fuel is enough
abbrev pub ChecksOnRunFuel : Check → Type 0
ChecksOnRunFuel f = (s work : List ℕ) (τ : Ty) (left : ℕ) → Loads s done → Afoot s work → Walks s (sheet_of s).run_fuel (gives τ) left → (f s work).answer ≡ done

-- with this refusal the working rows are left as they were
abbrev pub CheckUnzeroed : Refusal → Check → Type 0
CheckUnzeroed r f = (s work : List ℕ) → (f s work).answer ≡ refused r → (f s work).work ≡ work

-- ---- the sheets, and what is computed of each

-- from a[b] to a[c], on a[b]
unfoldable pub contents : List ℕ
unfolding skipping
contents = skipping (tr 1 0 0 ∷ tr 4 2 1 ∷ tr 4 1 2 ∷ tr 1 0 0 ∷ tr 4 3 4 ∷ tr 4 1 5 ∷ []) 3 6 (row 4 2 0 0 ∷ row 4 1 1 0 ∷ []) 4096 4096

module _ (names : ℕ → Named) where
  b_not_of_c : {g : Forest} → Of names (Ty.label a (tip c)) g → g ≡ only (Tree.node a (only (leaf b))) → ⊥
  b_not_of_c (of_label (of_label x)) e = let z : ◌≡◌ {A = ℕ} 3 2 = cc in absurd (omega arith)

  a_not_of_empty : {g : Forest} → Of names Ty.empty g → g ≡ only (leaf a) → ⊥
  a_not_of_empty of_empty e = let z : ◌≡◌ {A = ℕ} 0 1 = cc in absurd (omega arith)

pub ok_contents : Loads contents done
unfolding contents shape ties
ok_contents = loads contents refl refl refl

pub check_contents : Checks contents (refused (outside of_output)) 1
unfolding contents checks
check_contents = answers_by ok_contents 4095 (paid (walk.refused (fails (leb-true 3 most_width refl) (λ w. b_not_of_c _ (w _ (of_label (of_label of_empty))) refl)))) refl refl

-- from a: call f(if () then () else ()), where f(bool) goes from () to (). Focus and argument are both wrong
unfoldable pub both_wrong : List ℕ
unfolding sheet
both_wrong = sheet (record {
  names = [];
  types = tr 1 0 0 ∷ tr 4 1 1 ∷ tr 3 0 0 ∷ tr 1 0 0 ∷ tr 1 0 0 ∷ tr 1 0 0 ∷ [];
  queries = row 1 0 0 0 ∷ row 1 0 0 0 ∷ row 1 0 0 0 ∷ row 9 1 2 3 ∷ [];
  statements = row 1 0 0 0 ∷ row 14 1 4 0 ∷ [];
  procedures = pr 3 0 4 5 1 ∷ [];
  rows = [];
  pool = [];
  a = 2;
  b = 6;
  main = 2;
  root = 0;
  check_fuel = 4096;
  run_fuel = 4096;
})

ok_both_wrong : Loads both_wrong done
unfolding both_wrong shape ties
ok_both_wrong = loads both_wrong refl refl refl

check_both_wrong : Checks both_wrong (refused (outside (of_statement 2))) 2
unfolding both_wrong checks
check_both_wrong = answers_by ok_both_wrong 4094
    (paid (passed (in_itself refl refl) (paid (walk.refused (fails (leb-true 2 most_width refl) (λ w. a_not_of_empty _ (w _ (of_label of_empty)) refl)))))) refl refl

-- two procedures and main, each of them rename a from () to ()
unfoldable pub three_renames : List ℕ
unfolding sheet
three_renames = sheet (record {
  names = [];
  types = tr 1 0 0 ∷ tr 1 0 0 ∷ tr 1 0 0 ∷ tr 1 0 0 ∷ tr 1 0 0 ∷ tr 1 0 0 ∷ [];
  queries = [];
  statements = row 6 1 0 0 ∷ row 6 1 0 0 ∷ row 6 1 0 0 ∷ [];
  procedures = pr 0 0 1 2 1 ∷ pr 0 0 3 4 2 ∷ [];
  rows = [];
  pool = [];
  a = 5;
  b = 6;
  main = 3;
  root = 0;
  check_fuel = 4096;
  run_fuel = 4096;
})

ok_renames : Loads three_renames done
unfolding three_renames shape ties
ok_renames = loads three_renames refl refl refl

check_renames : Checks three_renames (refused (mismatch (of_statement 1))) 1
unfolding three_renames checks
check_renames = answers ok_renames 4095 tt refl refl refl

-- P10's delete, from () to ()
check_delete : Checks s10 done 2
unfolding s10 shape ties checks
check_delete = answers (loads s10 refl refl refl) 4094 (in_itself refl refl, tt) refl refl refl

-- from () to (): insert the children of a text
unfoldable pub text_children : List ℕ
unfolding typed
text_children = typed [] (tr 1 0 0 ∷ []) (row 4 0 0 0 ∷ row 11 0 0 0 ∷ row 13 1 2 0 ∷ []) (row 4 3 0 0 ∷ []) 1

ok_children : Loads text_children done
unfolding text_children shape ties
ok_children = loads text_children refl refl refl

check_children : Checks text_children done 7
unfolding text_children checks
check_children = answers ok_children 4089 (in_itself refl refl, (in_itself refl refl, tt)) refl refl refl

-- skip on (), with no check fuel
ok_idle : Loads (idle 0 4096) done
unfolding idle shape ties
ok_idle = loads (idle 0 4096) refl refl refl

walk_idle : (n : ℕ) → Walks (idle 0 4096) (suc n) (gives Ty.empty) n
unfolding idle checks
walk_idle n = paid (passed (in_itself refl refl) walk.done)

fuel_idle : Checks (idle 0 4096) (refused fuel) 0
unfolding idle checks
fuel_idle = answers_by ok_idle 0 walk.short refl refl

-- and with fuel past the limit
ok_over : Loads (idle 4097 0) (refused Refusal.shape)
unfolding idle shape
ok_over = misshapen refl

-- ---- none of them meets the promise

module _ (f : Check) (meets : MeetsCheck f) where
  -- what is computed of a sheet is what f says of it
  said : {s work : List ℕ} {x : Answer} {units : ℕ} → Checked s work x units → ((f s work).answer ≡ x) × ((f s work).check_units ≡ units)
  said {s} {work} h = one_check s work (meets s work).said h

  -- P3 is passed: no check refuses all
  pub not_refuses_all : RefusesAll f → ⊥
  unfolding s1 tables
  not_refuses_all w = w (s1 38 4096) lent_work (said (worked.p3.1 lent_work (work_rows 38 refl))).0

  -- a[b] to a[c] is not: no check passes all
  pub not_passes_all : PassesAll f → ⊥
  unfolding contents tables codes
  not_passes_all w = two_answers (said (check_contents lent_work (work_rows 4096 refl))).0 (w contents lent_work ok_contents (work_rows 4096 refl)) refl

  -- nor does any inclusion compare heads and forget contents
  pub not_forgets : Forgets f → ⊥
  unfolding contents checks codes
  not_forgets w = two_answers (said (check_contents lent_work (work_rows 4096 refl))).0
      (w contents lent_work a (tip b) (tip c) (ok_contents, work_rows 4096 refl, leb-true 1 4096 refl, refl, refl) refl refl) refl

  -- P7: (a|b)* is not passed as a*, so inclusion is not turned round
  pub not_turns : Turns f → ⊥
  unfolding s7 checks codes
  not_turns w = two_answers (said (worked.p7.4 lent_work (work_rows 4096 refl))).0 (w (s7 9 3) lent_work (ok7_back, work_rows 4096 refl, leb-true 1 4096 refl, refl, refl) (worked.p7.0 _)) refl

  -- a condition of 513 type rows is Wide, and no Mismatch
  pub not_wide_as_mismatch : WideAsMismatch f → ⊥
  unfolding doubling tables codes
  not_wide_as_mismatch w = let k = slips.widths.1 lent_work (work_rows 4096 refl) in two_answers (said k).0 (w _ lent_work (of_statement 3) 47 k) refl

  -- a[b] to a[c] is refusal 9, and not 8
  pub not_outside_as_mismatch : OutsideAsMismatch f → ⊥
  unfolding contents tables codes
  not_outside_as_mismatch w = let k = check_contents lent_work (work_rows 4096 refl) in two_answers (said k).0 (w contents lent_work 1 k) refl

  -- a call's focus is asked about before its argument is typed
  pub not_argument_first : ArgumentFirst f → ⊥
  unfolding both_wrong checks codes
  not_argument_first w = two_answers (said (check_both_wrong lent_work (work_rows 4096 refl))).0
      (w both_wrong lent_work 4 1 2 3 ok_both_wrong (work_rows 4096 refl) (leb-true 5 4096 refl) (refl, refl, refl) refl refl refl) refl

  -- procedure 1 goes before procedure 2
  pub not_bodies_turned : BodiesTurned f → ⊥
  unfolding three_renames checks codes
  not_bodies_turned w = two_answers (said (check_renames lent_work (work_rows 4096 refl))).0
      (w three_renames lent_work 1 1 ok_renames (work_rows 4096 refl) (leb-true 1 4096 refl) refl (refl, refl) (refl, refl)) refl

  -- and before main
  pub not_main_first : MainFirst f → ⊥
  unfolding three_renames checks codes
  not_main_first w = two_answers (said (check_renames lent_work (work_rows 4096 refl))).0 (w three_renames lent_work 1 ok_renames (work_rows 4096 refl) (leb-true 1 4096 refl) refl refl) refl

  -- 38 units of P3 and 1 of skip are not one number
  pub not_one_check_number : OneCheckNumber f → ⊥
  unfolding s1 s7 tables
  not_one_check_number (n, w) =
      let e = said (worked.p3.1 lent_work (work_rows 38 refl)) in
      let h = said (worked.p7.3 lent_work (work_rows 4096 refl)) in
      two_numbers e.1 (w (s1 38 4096) lent_work e.0 ∙ (sym (w (s7 3 9) lent_work h.0) ∙ h.1)) refl

  -- the () that delete writes is paid for
  pub not_writes_free : WritesFree f → ⊥
  unfolding s10 tables
  not_writes_free w = let e = said (check_delete lent_work (work_rows 4096 refl)) in two_numbers e.1 (w s10 lent_work refl refl e.0) refl

  -- children of a text are no Mismatch
  pub not_children_mismatch : ChildrenMismatch f → ⊥
  unfolding text_children checks codes
  not_children_mismatch w = two_answers (said (check_children lent_work (work_rows 4096 refl))).0
      (w text_children lent_work 2 ok_children (work_rows 4096 refl) (leb-true 7 4096 refl) refl (3, 1, 0, 0, refl, refl, refl, refl, refl)) refl

  -- and their () is paid for
  pub not_children_free : ChildrenFree f → ⊥
  unfolding text_children checks
  not_children_free w = let e = said (check_children lent_work (work_rows 4096 refl)) in two_numbers e.1 (w text_children lent_work 2 refl (3, 1, 0, 0, refl, refl, refl, refl, refl) e.0) refl

  -- without check fuel no working rows are needed, and there is no Scratch
  pub not_scratch_by_run_fuel : ScratchByRunFuel f → ⊥
  unfolding idle tables codes
  not_scratch_by_run_fuel w = two_answers (said (fuel_idle [] (leb-true 0 0 refl))).0 (w (idle 0 4096) [] ok_idle (leb-true 1 4096 refl)) refl

  -- nor is anything passed
  pub not_checks_on_run_fuel : ChecksOnRunFuel f → ⊥
  unfolding idle tables codes
  not_checks_on_run_fuel w = two_answers (said (fuel_idle [] (leb-true 0 0 refl))).0 (w (idle 0 4096) [] Ty.empty 4095 ok_idle (leb-true 0 0 refl) (walk_idle 4095)) refl

  -- one working byte, 9: it is 0 after each refusal
  zero_nine : {s : List ℕ} {r : Refusal} → (f s (9 ∷ [])).answer ≡ refused r → CheckUnzeroed r f → ⊥
  unfolding differ
  zero_nine {s} e w = two_bytes (0 ∷ []) (9 ∷ []) [] [] (meets s (9 ∷ [])).clear (w s (9 ∷ []) e) refl

  -- after Fuel
  pub not_check_unzeroed : CheckUnzeroed fuel f → ⊥
  unfolding idle tables
  not_check_unzeroed = zero_nine (said (fuel_idle (9 ∷ []) (leb-true 0 0 refl))).0

  -- after Shape
  pub not_check_unzeroed_at_shape : CheckUnzeroed Refusal.shape f → ⊥
  not_check_unzeroed_at_shape = zero_nine (said {work = 9 ∷ []} (Checked.unsound ok_over)).0

  -- after Scratch
  pub not_check_unzeroed_at_scratch : CheckUnzeroed scratch f → ⊥
  unfolding contents tables
  not_check_unzeroed_at_scratch = zero_nine (said {s = contents} {work = 9 ∷ []} (Checked.no_scratch ok_contents (leb-true 1 4096 refl))).0
