-- Wrong fits and wrong applies, refuted.
use Rattle.std.specs.Prelude.{ℕ, ◌<◌, ◌≡◌, true, false, ◌||◌, eqb, replicate}
use Rattle.std.proofs.Math.Path.{refl}
use Rattle.std.proofs.Common.{◌∙◌, inl, inr, arith, leb-true, eqb-true}
use Rattle.std.proofs.lemmas.Bool.{false≢true}
use mathlib.Core.List.{List, [], ◌∷◌}
use Rattle.meaning.specs.Limits.{most_width}
use Rattle.meaning.specs.Tests.{in_table}
use Rattle.meaning.specs.Sheet.{script_of, grove_of}
use Rattle.meaning.specs.Forest.{Tree, Forest, only, ◌⊕◌}
use Rattle.meaning.specs.Places.{Fits, Admits}
use Rattle.meaning.specs.Faults.{ends, head, inside, behind}
use Rattle.meaning.specs.Types.{Ty, Named, Head, Of, of_empty, of_label, of_seq, names_in, declared}
use Rattle.meaning.specs.Walk.{paid, of_output}
use Rattle.meaning.specs.Walk as walk
use Rattle.meaning.specs.Check.{fails}
use Rattle.meaning.specs.Reply.{tie, outside, unfit, Refusal, Answer, done, refused, Loads, Checked, Fitted, no_row, fits, misfits, Ran, Applied, unchecked, unfitted}
use Rattle.meaning.specs.Listing.{lent_work, lent_result}
use Rattle.meaning.specs.Laws.Bools.{or_cases}
use Rattle.meaning.specs.Laws.Points.{heads_differ}
use Rattle.meaning.specs.Theorems.Single.{one_fit, one_apply}
use Rattle.meaning.specs.Theorems.Worked.{worked, whole}
use Rattle.meaning.specs.Theorems.Worked.Sheets.{Row, tr, row, s6, s8}
use Rattle.meaning.specs.Theorems.Worked.Stated.{tables, shape, ties, runs, checks, a, b, c, leaf, tip, Does, Checks, loads, does, answers_by, answers, in_itself}
use Rattle.meaning.specs.Theorems.Refuted.Calls.{Run, Fit, MeetsFit, MeetsApply, forest_in, Afoot, codes, two_answers, work_rows, result_rows, skipping}
use Rattle.meaning.specs.Theorems.Refuted.Check.{contents, ok_contents, check_contents}

-- ---- fits

-- of which fit goes on to ask: a type row of a sheet that passes 2 to 4
abbrev pub Asked : List ℕ → ℕ → Type 0
Asked s t = (in_table (script_of s).types t ≡ true) × Loads s done

-- no forest is of any type
abbrev pub FitsNone : Fit → Type 0
FitsNone f = (s : List ℕ) (t : ℕ) → (f s t).answer ≡ done → ⊥

-- every forest is of every type
abbrev pub FitsAll : Fit → Type 0
FitsAll f = (s : List ℕ) (t : ℕ) → Asked s t → (f s t).answer ≡ done

-- n[..] is of n[..]
abbrev pub FitForgets : Fit → Type 0
FitForgets f = (s : List ℕ) (t n : ℕ) (τ : Ty) (g : Forest) → Asked s t → declared (script_of s) t ≡ Ty.label n τ → forest_in s ≡ only (Tree.node n g) → (f s t).answer ≡ done

-- an early end is accepted: the forest would be of the type if more came
abbrev pub EndsEarly : Fit → Type 0
EndsEarly f = (s : List ℕ) (t : ℕ) (more : Forest) → Asked s t → Of (names_in (script_of s)) (declared (script_of s) t) (forest_in s ⊕ more) → (f s t).answer ≡ done

-- 2 to 4 go before the told row, whatever it is
abbrev pub LoadsFirst : Fit → Type 0
LoadsFirst f = (s : List ℕ) (t : ℕ) (r : Refusal) → Loads s (refused r) → (f s t).answer ≡ refused r

-- Tie's two rows exchanged
abbrev pub FitTieTurned : Fit → Type 0
FitTieTurned f = (s : List ℕ) (t x y : ℕ) → in_table (script_of s).types t ≡ true → Loads s (refused (tie x y)) → (f s t).answer ≡ refused (tie y x)

-- the tree whose content is wrong is named, not where in it
abbrev pub NamesContent : Fit → Type 0
NamesContent f = (s : List ℕ) (t n x : ℕ) (τ : Ty) (g : Forest) → declared (script_of s) t ≡ Ty.label n τ → forest_in s ≡ only (Tree.node n g) → Fitted s t (refused (unfit x))
    → (f s t).answer ≡ refused (unfit (grove_of s).root)

-- of two trees that cannot stand the last is named
abbrev pub NamesLast : Fit → Type 0
NamesLast f = (s : List ℕ) (t r : ℕ) → Asked s t → declared (script_of s) t ≡ Ty.empty → ((grove_of s).row (grove_of s).root).r ≡ r → 0 < r → ((grove_of s).row r).r ≡ 0
    → (f s t).answer ≡ refused (unfit r)

-- where a content ends too soon its last tree is named, not its parent: n[..] would be of n[..] if more came in it
abbrev pub EndNamesTree : Fit → Type 0
EndNamesTree f = (s : List ℕ) (t n x r : ℕ) (τ : Ty) (g more : Forest) → declared (script_of s) t ≡ Ty.label n τ → forest_in s ≡ only (Tree.node n g) → Of (names_in (script_of s)) τ (g ⊕ more)
    → Fitted s t (refused (unfit x)) → ((grove_of s).row (grove_of s).root).q ≡ r → 0 < r → ((grove_of s).row r).r ≡ 0 → (f s t).answer ≡ refused (unfit r)

-- the answer goes by the type and the forest alone, wherever the forest's rows are lent: so does one that counts rows in a result's order
abbrev pub ByForest : Fit → Type 0
ByForest f = (s s' : List ℕ) (t : ℕ) → Asked s t → Asked s' t → declared (script_of s) t ≡ declared (script_of s') t → forest_in s ≡ forest_in s' → (f s t).answer ≡ (f s' t).answer

-- from a, b to (), on a
unfoldable pub early : List ℕ
unfolding skipping
early = skipping (tr 1 0 0 ∷ tr 4 1 1 ∷ tr 1 0 0 ∷ tr 4 2 3 ∷ tr 5 2 4 ∷ tr 1 0 0 ∷ []) 5 6 (row 4 1 0 0 ∷ []) 4096 4096

module _ (names : ℕ → Named) where
  not_of_empty : {g : Forest} (t : Tree) (h : Forest) → Of names Ty.empty g → g ≡ Forest.cons t h → ⊥
  not_of_empty t h of_empty e = let z : ◌≡◌ {A = ℕ} 0 1 = cc in absurd (omega arith)

a_b : (names : ℕ → Named) → Of names (Ty.seq (tip a) (tip b)) (only (leaf a) ⊕ only (leaf b))
a_b names = of_seq {f = only (leaf a)} {g = only (leaf b)} (of_label of_empty) (of_label of_empty)

b_c : (names : ℕ → Named) → Of names (Ty.seq (tip b) (tip c)) (only (leaf b) ⊕ only (leaf c))
b_c names = of_seq {f = only (leaf b)} {g = only (leaf c)} (of_label of_empty) (of_label of_empty)

ok_early : Loads early done
unfolding early shape ties
ok_early = loads early refl refl refl

-- a point with one place, and one with none but End
only_place : (c x : ℕ) → eqb c x || false ≡ true → c ≡ x
only_place c x e = elim (or_cases (eqb c x) false e) [ inl h ↦ eqb-true c x h | inr h ↦ absurd (false≢true h) ]

no_place : (x : ℕ) → 0 < x → eqb 0 x ≡ true → ⊥
no_place x l h = omega (arith, eqb-true 0 x h)

-- behind a the top ends too soon
fit_early : Fitted early 5 (refused (unfit 0))
unfolding early runs ties Fits Admits
fit_early = misfits refl ok_early (behind {a = 2} (leb-true 1 1 refl) (record { is_place = leb-true 1 2 refl; may_stand = refl; has_head = refl }) (refl, refl) (ends refl refl))

-- a[b] and a[c]: the head of b cannot stand
fit_contents : Fitted contents 6 (refused (unfit 1))
unfolding contents runs ties
fit_contents = misfits refl ok_contents (inside {a = 6} (leb-true 1 2 refl) (record { is_place = leb-true 1 6 refl; may_stand = refl; has_head = refl }) refl
    (head (leb-true 1 1 refl) (λ x d. let i : 5 ≡ x = only_place 5 x d.may_stand in let g : Head.label 3 ≡ Head.label 2 = rw (← i) at d.has_head in heads_differ g refl)))

-- from () to (), on a, b
unfoldable pub surplus : List ℕ
unfolding skipping
surplus = skipping (tr 1 0 0 ∷ tr 1 0 0 ∷ []) 1 2 (row 4 2 0 0 ∷ row 4 1 0 1 ∷ []) 4096 4096

ok_surplus : Loads surplus done
unfolding surplus shape ties
ok_surplus = loads surplus refl refl refl

fit_surplus : Fitted surplus 1 (refused (unfit 2))
unfolding surplus runs ties
fit_surplus = misfits refl ok_surplus (head (leb-true 1 2 refl) (λ x d. no_place x d.is_place d.may_stand))

-- from a[b, c] to (), on a[b]
unfoldable pub short : List ℕ
unfolding skipping
short = skipping (tr 1 0 0 ∷ tr 4 2 1 ∷ tr 1 0 0 ∷ tr 4 3 3 ∷ tr 5 2 4 ∷ tr 4 1 5 ∷ tr 1 0 0 ∷ []) 6 7 (row 4 2 0 0 ∷ row 4 1 1 0 ∷ []) 4096 4096

ok_short : Loads short done
unfolding short shape ties
ok_short = loads short refl refl refl

fit_short : Fitted short 6 (refused (unfit 2))
unfolding short runs ties Fits Admits
fit_short = misfits refl ok_short (inside {a = 6} (leb-true 1 2 refl) (record { is_place = leb-true 1 6 refl; may_stand = refl; has_head = refl }) refl
    (behind {a = 2} (leb-true 1 1 refl) (record { is_place = leb-true 1 2 refl; may_stand = refl; has_head = refl }) (refl, refl) (ends refl refl)))

-- from a, b to (), on a[c], b: the rows in a result's order, b first, and with c first
abbrev lending : List Row → List ℕ
lending rows = skipping (tr 1 0 0 ∷ tr 4 1 1 ∷ tr 1 0 0 ∷ tr 4 2 3 ∷ tr 5 2 4 ∷ tr 1 0 0 ∷ []) 5 6 rows 4096 4096

unfoldable pub ordered : List ℕ
unfolding skipping
ordered = lending (row 4 2 0 0 ∷ row 4 3 0 0 ∷ row 4 1 2 1 ∷ [])

unfoldable pub shuffled : List ℕ
unfolding skipping
shuffled = lending (row 4 3 0 0 ∷ row 4 2 0 0 ∷ row 4 1 1 2 ∷ [])

ok_ordered : Loads ordered done
unfolding ordered shape ties
ok_ordered = loads ordered refl refl refl

ok_shuffled : Loads shuffled done
unfolding shuffled shape ties
ok_shuffled = loads shuffled refl refl refl

fit_ordered : Fitted ordered 5 (refused (unfit 2))
unfolding ordered runs ties
fit_ordered = misfits refl ok_ordered (inside {a = 2} (leb-true 1 3 refl) (record { is_place = leb-true 1 2 refl; may_stand = refl; has_head = refl }) refl
    (head (leb-true 1 2 refl) (λ x d. no_place x d.is_place d.may_stand)))

fit_shuffled : Fitted shuffled 5 (refused (unfit 1))
unfolding shuffled runs ties
fit_shuffled = misfits refl ok_shuffled (inside {a = 2} (leb-true 1 3 refl) (record { is_place = leb-true 1 2 refl; may_stand = refl; has_head = refl }) refl
    (head (leb-true 1 1 refl) (λ x d. no_place x d.is_place d.may_stand)))

-- no row 0
fit_nowhere : Fitted s8 0 (refused Refusal.shape)
unfolding s8 tables
fit_nowhere = no_row refl

fit_tied : Fitted s6 7 (refused (tie 2 5))
unfolding s6 tables
fit_tied = Fitted.unsound refl worked.p6.1

module _ (f : Fit) (meets : MeetsFit f) where
  -- what is shown of a sheet is what f says of it
  fitted : {s : List ℕ} {t : ℕ} {x : Answer} → Fitted s t x → (f s t).answer ≡ x
  fitted {s} {t} h = one_fit s t (meets s t).said h

  -- P1's forest is of A
  pub not_fits_none : FitsNone f → ⊥
  not_fits_none w = w whole (script_of whole).a (fitted worked.met.fitted)

  -- a is not of a, b
  pub not_fits_all : FitsAll f → ⊥
  unfolding early tables codes
  not_fits_all w = two_answers (fitted fit_early) (w early 5 (refl, ok_early)) refl

  -- a[b] is not of a[c]: no fit forgets contents
  pub not_fit_forgets : FitForgets f → ⊥
  unfolding contents runs checks codes
  not_fit_forgets w = two_answers (fitted fit_contents) (w contents 6 a (tip c) (only (leaf b)) (refl, ok_contents) refl refl) refl

  -- a is not of a, b though a, b is: no early end is accepted
  pub not_ends_early : EndsEarly f → ⊥
  unfolding early runs checks codes
  not_ends_early w = two_answers (fitted fit_early) (w early 5 (only (leaf b)) (refl, ok_early) (a_b _)) refl

  -- a[b] and a[c]: b is named, not a
  pub not_names_content : NamesContent f → ⊥
  unfolding contents runs checks codes
  not_names_content w = two_answers (fitted fit_contents) (w contents 6 a 1 (tip c) (only (leaf b)) refl refl fit_contents) refl

  -- a, b and (): a is named, not b
  pub not_names_last : NamesLast f → ⊥
  unfolding surplus runs checks codes
  not_names_last w = two_answers (fitted fit_surplus) (w surplus 1 1 (refl, ok_surplus) refl refl (leb-true 1 1 refl) refl) refl

  -- a[b] and a[b, c]: a is named, not b
  pub not_end_names_tree : EndNamesTree f → ⊥
  unfolding short runs checks codes
  not_end_names_tree w = two_answers (fitted fit_short)
      (w short 6 a 2 1 (Ty.seq (tip b) (tip c)) (only (leaf b)) (only (leaf c)) refl refl (b_c _) fit_short refl (leb-true 1 1 refl) refl) refl

  -- c is row 2 in the one and row 1 in the other
  pub not_by_forest : ByForest f → ⊥
  unfolding ordered shuffled runs checks codes
  not_by_forest w = two_answers (fitted fit_ordered) (w ordered shuffled 5 (refl, ok_ordered) (refl, ok_shuffled) refl refl ∙ fitted fit_shuffled) refl

  -- P8 asked of row 0 is Shape, and not Barren
  pub not_loads_first : LoadsFirst f → ⊥
  unfolding codes
  not_loads_first w = two_answers (fitted fit_nowhere) (w s8 0 (Refusal.barren 1) worked.p8.1) refl

  -- P6 is Tie with 2 and 5
  pub not_fit_tie_turned : FitTieTurned f → ⊥
  unfolding s6 tables codes
  not_fit_tie_turned w = two_answers (fitted fit_tied) (w s6 7 2 5 refl worked.p6.1) refl

-- ---- applies

-- never done
abbrev pub NeverDone : Run → Type 0
NeverDone f = (s work result : List ℕ) → (f s work result).answer ≡ done → ⊥

-- the check is left out: fitted and run, it is done
abbrev pub Unchecked : Run → Type 0
Unchecked f = (s work result : List ℕ) (units root : ℕ) (after : List ℕ) → Fitted s (script_of s).a done → Ran s work result done units root after → (f s work result).answer ≡ done

-- the fit is left out: checked and run, it is done
abbrev pub Unfitted : Run → Type 0
Unfitted f = (s work result : List ℕ) (u units root : ℕ) (after : List ℕ) → Checked s work done u → Ran s work result done units root after → (f s work result).answer ≡ done

-- the fit goes before the check
abbrev pub FitFirst : Run → Type 0
FitFirst f = (s work result : List ℕ) (x : ℕ) → Afoot s work → Fitted s (script_of s).a (refused (unfit x)) → (f s work result).answer ≡ refused (unfit x)

-- from a, b to a, b, on a
unfoldable pub unfitting : List ℕ
unfolding skipping
unfitting = skipping (tr 1 0 0 ∷ tr 4 1 1 ∷ tr 1 0 0 ∷ tr 4 2 3 ∷ tr 5 2 4 ∷ tr 1 0 0 ∷ tr 4 1 6 ∷ tr 1 0 0 ∷ tr 4 2 8 ∷ tr 5 7 9 ∷ []) 5 10 (row 4 1 0 0 ∷ []) 4096 4096

ok_unfitting : Loads unfitting done
unfolding unfitting shape ties
ok_unfitting = loads unfitting refl refl refl

fit_unfitting : Fitted unfitting 5 (refused (unfit 0))
unfolding unfitting runs ties Fits Admits
fit_unfitting = misfits refl ok_unfitting (behind {a = 2} (leb-true 1 1 refl) (record { is_place = leb-true 1 2 refl; may_stand = refl; has_head = refl }) (refl, refl) (ends refl refl))

does_unfitting : Does unfitting 1 (only (leaf a)) (row 4 1 0 0 ∷ [])
unfolding unfitting runs
does_unfitting = does ok_unfitting 4095 refl refl refl refl

check_unfitting : Checks unfitting done 1
unfolding unfitting checks
check_unfitting = answers ok_unfitting 4095 (in_itself refl refl, tt) refl refl refl

check_early : Checks early (refused (outside of_output)) 1
unfolding early checks ◌⊕◌
check_early = answers_by ok_early 4095 (paid (walk.refused (fails (leb-true 5 most_width refl) (λ w. not_of_empty _ (leaf a) (only (leaf b)) (w _ (a_b _)) refl)))) refl refl

does_contents : Does contents 1 (only (Tree.node a (only (leaf b)))) (row 4 2 0 0 ∷ row 4 1 1 0 ∷ [])
unfolding contents runs
does_contents = does ok_contents 4095 refl refl refl refl

fit_A : Fitted contents (script_of contents).a done
unfolding contents runs checks
fit_A = fits refl ok_contents (of_label (of_label of_empty))

module _ (f : Run) (meets : MeetsApply f) where
  applied_so : {s work result : List ℕ} {x : Answer} {u v root : ℕ} {after : List ℕ} → Applied s work result x u v root after → (f s work result).answer ≡ x
  applied_so {s} {work} {result} h = (one_apply s work result (meets s work result).said h).0

  -- P1's sheet is applied: no apply is never done
  pub not_apply_never_done : NeverDone f → ⊥
  not_apply_never_done w = w whole lent_work (replicate 64 9) (applied_so worked.applies)

  -- a[b] to a[c] is refused, though a[b] fits and runs: the check is not left out
  pub not_unchecked : Unchecked f → ⊥
  unfolding contents tables codes
  not_unchecked w = two_answers (applied_so {result = lent_result} (unchecked (check_contents lent_work (work_rows 4096 refl))))
      (w contents lent_work lent_result 1 2 _ fit_A (does_contents.reply lent_work lent_result (work_rows 4098 refl) (result_rows 2 refl))) refl

  -- a is refused, though a, b to a, b is passed and runs: the fit is not left out
  pub not_unfitted : Unfitted f → ⊥
  unfolding unfitting tables codes
  not_unfitted w =
      let k = check_unfitting lent_work (work_rows 4096 refl) in
      two_answers (applied_so {result = lent_result} (unfitted k fit_unfitting))
      (w unfitting lent_work lent_result 1 1 1 _ k (does_unfitting.reply lent_work lent_result (work_rows 4097 refl) (result_rows 1 refl))) refl

  -- where both refuse, the check's refusal is given
  pub not_fit_first : FitFirst f → ⊥
  unfolding early tables codes
  not_fit_first w = two_answers (applied_so {result = []} (unchecked (check_early lent_work (work_rows 4096 refl)))) (w early lent_work [] 0 (work_rows 4096 refl) fit_early) refl
