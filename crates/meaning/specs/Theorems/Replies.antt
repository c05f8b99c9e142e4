-- Demand 2 where a caller sees it, on replies: what done and each refusal of check and run say of the figures, and of fit of the type, that a verdict stays under more fuel, and that apply's order
-- is one.
use Rattle.std.specs.Prelude.{ℕ, ◌+◌, ◌*◌, ◌-◌, ◌≤◌, ◌<◌, ◌≡◌, refl, true, ◌↔◌, length, take, drop}
use Rattle.std.proofs.Common.{sym, ◌∙◌, ap, ap₂, subst, arith}
use mathlib.Core.List.{List, [], ◌++◌}
use Rattle.std.proofs.Math.Seq.{take-append_seam}
use Rattle.meaning.specs.Limits.{most_depth, most_fuel, row_words}
use Rattle.meaning.specs.Tests.{in_table}
use Rattle.meaning.specs.Words.{rows_lent, zeroed}
use Rattle.meaning.specs.Sheet.{Script, script_of, grove_of, sheet_of}
use Rattle.meaning.specs.Forest.{Forest, forest_of, forest_size, rows_of_result, row_bytes}
use Rattle.meaning.specs.Types.{Ty, Of, of_empty, declared, names_in}
use Rattle.meaning.specs.Walk.{Place, Verdict, gives, stops, Settles, Unasked, due}
use Rattle.meaning.specs.Walk as walk
use Rattle.meaning.specs.Run.{run_walk}
use Rattle.meaning.specs.Check.{Judged, check_walk}
use Rattle.meaning.specs.Figures.{Takes, Accepts}
use Rattle.meaning.specs.Charges.{takes_charge, takes_levels}
use Rattle.meaning.specs.Reply.{Refusal, block, shape, barren, tie, fuel, depth, wide, mismatch, outside, unfit, stuck, scratch, room, Answer, done, refused, verdict_answer}
use Rattle.meaning.specs.Reply.{Loads, misshapen, is_barren, is_tied, sound, Checked, walked, Fitted, no_row, misfits, Ran, ended, no_room, gave, given, run_settled}
use Rattle.meaning.specs.Reply.{Applied, unchecked, unfitted, applied, Reply, ApplyReply, OfBundle, unframed, opened}
use Rattle.meaning.specs.Bundle.{framed, sheet_in}
use Rattle.meaning.specs.Listing.{Told, loaded, check_ended, fit_ended, run_ended, all_done, Tells, not_framed, not_loaded, not_checked, not_fit, not_run, told, lent_work, lent_result}
use Rattle.meaning.specs.Laws.Bools.{never, not_both}
use Rattle.meaning.specs.Laws.Walk.{Other, fuel_all, settle_settles, settles_settle, due_short, due_paid}
use Rattle.meaning.specs.Laws.Sure.{Spent, Found, Ended}
use Rattle.meaning.specs.Theorems.ExactRun.{run_exactly}
use Rattle.meaning.specs.Theorems.ExactCheck.{accepts_enough, accepts_found_or_spent}
use Rattle.meaning.specs.Theorems.ReadBack.{result_length, row_bytes_length}
use Rattle.meaning.specs.Theorems.Steady.{verdict_more, same_walk, walked_more, alike_script, alike_grove, with_check_fuel, with_run_fuel, check_load_stays, run_load_stays}
use Rattle.meaning.specs.Theorems.Steady.{run_alike, check_alike, run_fuel_is, check_fuel_is}
use Rattle.meaning.specs.Theorems.Single.{one_load, one_run}
use Rattle.meaning.specs.Theorems.Faults.{fault_bars}
use Rattle.meaning.specs.Theorems.Sound.{checked_accepts, stuck_self_not_passed}
use Rattle.meaning.specs.Theorems.Worked.Stated.{runs, checks}
use Rattle.meaning.specs.Theorems.Refuted.Calls.{Check, MeetsCheck, work_rows}
use Rattle.meaning.specs.Theorems.Refuted.Check.{PassesAll}
use Rattle.meaning.specs.Theorems.Refuted.Run.{twice_stuck, ok_twice_stuck, stuck_twice}

-- ---- run

-- figure 3 derives f, from main on the sheet's forest
abbrev pub Derives : List ℕ → Forest → Type 0
Derives s f = Takes (script_of s) (grove_of s).byte [] (script_of s).main (forest_of (grove_of s)) f

-- it derives f within depth and fuel, and f is handed out: the units are the charge of its rules
pub record RunDone (s work result : List ℕ) (f : Forest) (units root : ℕ) (after : List ℕ) : Type 0 where
  pub loads : Loads s done
  pub lent : (grove_of s).rows + (sheet_of s).run_fuel ≤ rows_lent work
  pub rules : Derives s f
  pub deep : takes_levels rules ≤ most_depth
  pub paid : takes_charge rules ≤ (sheet_of s).run_fuel
  pub charged : units ≡ takes_charge rules
  pub room : forest_size f ≤ rows_lent result
  pub root_is : root ≡ forest_size f
  pub rows_are : after ≡ given f result

-- more falls due than the purse holds: all of it is spent, and nothing is handed out
pub record RunShort (s work result : List ℕ) (units root : ℕ) (after : List ℕ) : Type 0 where
  pub loads : Loads s done
  pub lent : (grove_of s).rows + (sheet_of s).run_fuel ≤ rows_lent work
  pub exceeds : (sheet_of s).run_fuel < due (run_walk (sheet_of s))
  pub spent : units ≡ (sheet_of s).run_fuel
  pub no_root : root ≡ 0
  pub untouched : after ≡ result

-- Fuel is no answer of a load
load_fuel : {s : List ℕ} {a : Answer} → Loads s a → a ≡ refused fuel → ⊥
load_fuel (misshapen e) h = never (cc)
load_fuel (is_barren e b) h = never (cc)
load_fuel (is_tied e n t) h = never (cc)
load_fuel (sound e n u) h = never (cc)

fuel_verdict : {A : Type 0} (v : Verdict A) → verdict_answer v ≡ refused fuel → v ≡ walk.Verdict.fuel
fuel_verdict (gives x) e = never (cc)
fuel_verdict walk.Verdict.fuel e = refl
fuel_verdict (stops walk.Stop.depth) e = never (cc)
fuel_verdict (stops (walk.Stop.wide at)) e = never (cc)
fuel_verdict (stops (walk.Stop.mismatch at)) e = never (cc)
fuel_verdict (stops (walk.Stop.outside at)) e = never (cc)
fuel_verdict (stops (walk.Stop.stuck at)) e = never (cc)

module _ (s : List ℕ) where
  -- the run's walk gives f exactly if figure 3 derives f within its levels, for its charge
  walk_gives : (f : Forest) (n m : ℕ) → Settles Unasked (run_walk (sheet_of s)) n (gives f) m ↔ ((t : Derives s f) × (takes_levels t ≤ most_depth) × (takes_charge t + m ≡ n))
  unfolding run_walk sheet_of
  walk_gives f n m = run_exactly (script_of s) (grove_of s).byte most_depth [] (script_of s).main (forest_of (grove_of s)) f n m

  -- what falls due is the charge of the rules, where figure 3 derives a forest within depth
  pub rules_due : {f : Forest} (t : Derives s f) → takes_levels t ≤ most_depth → due (run_walk (sheet_of s)) ≡ takes_charge t
  rules_due {f} t l = let p = due_paid ((walk_gives f (takes_charge t + 0) 0).1 (t, l, refl)) tt in omega arith

  settled : Settles Unasked (run_walk (sheet_of s)) (sheet_of s).run_fuel (run_settled s).verdict (run_settled s).left
  settled = settle_settles (run_walk (sheet_of s)) (sheet_of s).run_fuel

module _ {s work result : List ℕ} where
  -- a run is done exactly if figure 3 derives the forest that it hands out, within depth and fuel; its units are the charge of those rules
  pub run_done : {units root : ℕ} {after : List ℕ} → Ran s work result done units root after ↔ ((f : Forest) × RunDone s work result f units root after)
  run_done {units} {root} {after} = (to, from)
    where
      to : Ran s work result done units root after → (f : Forest) × RunDone s work result f units root after
      to (gave {f = f} l n g d x y z) =
          let t : Settles Unasked (run_walk (sheet_of s)) (sheet_of s).run_fuel (gives f) (run_settled s).left = rw g at (settled s) in
          let p = (walk_gives s f _ _).0 t in
          (f, record { loads = l; lent = n; rules = p.0; deep = p.1; paid = omega (arith, p.2); charged = omega (arith, p.2); room = x; root_is = y; rows_are = z })

      from : (f : Forest) × RunDone s work result f units root after → Ran s work result done units root after
      from (f, r) =
          let left = (sheet_of s).run_fuel - takes_charge r.rules in
          let sum : takes_charge r.rules + left ≡ (sheet_of s).run_fuel = omega (arith, r.paid) in
          let k = settles_settle (run_walk (sheet_of s)) (sheet_of s).run_fuel left (gives f) ((walk_gives s f _ _).1 (r.rules, r.deep, sum)) in
          gave {units = units} r.loads r.lent k.0 (omega (arith, k.1, sum, r.charged)) r.room r.root_is r.rows_are

  -- a run is short of fuel exactly if more falls due than the purse holds, however it would end; `rules_due` says what falls due by the rules
  pub run_short : {units root : ℕ} {after : List ℕ} → Ran s work result (refused fuel) units root after ↔ RunShort s work result units root after
  run_short {units} {root} {after} = ((λ r. to r refl), from)
    where
      to : {a : Answer} {u q : ℕ} {o : List ℕ} → Ran s work result a u q o → a ≡ refused fuel → RunShort s work result u q o
      to (Ran.unsound l) h = absurd (load_fuel l h)
      to (Ran.no_scratch l n) h = never (cc)
      to (ended l n e d) h =
          let t : Settles Unasked (run_walk (sheet_of s)) (sheet_of s).run_fuel walk.Verdict.fuel (run_settled s).left = rw (fuel_verdict (run_settled s).verdict (e ∙ h)) at (settled s) in
          record { loads = l; lent = n; exceeds = due_short t; spent = omega (arith, fuel_all Unasked t); no_root = refl; untouched = refl }
      to (no_room l n g d x) h = never (cc)
      to (gave l n g d x y z) h = never (cc)

      -- a verdict that is not Fuel pays for all that falls due
      short_verdict : (v : Verdict Forest) (m : ℕ) → Settles Unasked (run_walk (sheet_of s)) (sheet_of s).run_fuel v m → (sheet_of s).run_fuel < due (run_walk (sheet_of s)) → v ≡ walk.Verdict.fuel
      short_verdict (gives f) m t l = absurd (omega (arith, due_paid t tt))
      short_verdict walk.Verdict.fuel m t l = refl
      short_verdict (stops h) m t l = absurd (omega (arith, due_paid t tt))

      from : RunShort s work result units root after → Ran s work result (refused fuel) units root after
      from r =
          let v : (run_settled s).verdict ≡ walk.Verdict.fuel = short_verdict _ _ (settled s) r.exceeds in
          let t : Settles Unasked (run_walk (sheet_of s)) (sheet_of s).run_fuel walk.Verdict.fuel (run_settled s).left = rw v at (settled s) in
          rw (r.no_root, r.untouched) (ended {r = fuel} {units = units} r.loads r.lent (rw v refl) (omega (arith, r.spent, fuel_all Unasked t)))

  -- so, where figure 3 derives a forest within depth: Fuel exactly if the charge of its rules exceeds the purse
  pub run_fuel_lem : {a : Answer} {units root : ℕ} {after : List ℕ} → Ran s work result a units root after → Loads s done → (grove_of s).rows + (sheet_of s).run_fuel ≤ rows_lent work
      → {f : Forest} (t : Derives s f) → takes_levels t ≤ most_depth → (a ≡ refused fuel) ↔ ((sheet_of s).run_fuel < takes_charge t)
  run_fuel_lem {a} r loads lent t deep = (to, from)
    where
      to : a ≡ refused fuel → (sheet_of s).run_fuel < takes_charge t
      to e = let k = run_short.0 (rw e at r) in omega (arith, k.exceeds, rules_due s t deep)

      from : (sheet_of s).run_fuel < takes_charge t → a ≡ refused fuel
      from l = (one_run s work result r (run_short.1 (record { loads = loads; lent = lent; exceeds = omega (arith, rules_due s t deep); spent = refl; no_root = refl; untouched = refl }))).0

-- ---- check

-- 0, and what says nothing against a script: 5, 6, 7 and 12
abbrev pub Spares : Answer → Type 0
Spares done = Unit {0}
Spares (refused block) = ⊥
Spares (refused shape) = ⊥
Spares (refused (barren x)) = ⊥
Spares (refused (tie a b)) = ⊥
Spares (refused fuel) = Unit {0}
Spares (refused depth) = Unit {0}
Spares (refused (wide at)) = Unit {0}
Spares (refused (mismatch at)) = ⊥
Spares (refused (outside at)) = ⊥
Spares (refused (unfit x)) = ⊥
Spares (refused (stuck at)) = ⊥
Spares (refused scratch) = Unit {0}
Spares (refused room) = ⊥

found_spares : (τ : Ty) (v : Verdict Ty) → Found (Spent (Unit {0}) (Unit {0})) τ v → Spares (verdict_answer v)
found_spares τ (gives σ) f = tt
found_spares τ walk.Verdict.fuel f = tt
found_spares τ (stops walk.Stop.depth) f = tt
found_spares τ (stops (walk.Stop.wide at)) f = tt
found_spares τ (stops (walk.Stop.mismatch at)) f = f
found_spares τ (stops (walk.Stop.outside at)) f = f
found_spares τ (stops (walk.Stop.stuck at)) f = f

-- a check that is done accepts by the rules of figure 4, and of a script that these accept it is done, unless 5, 6, 7 or 12 ends it, on tables that pass 2 to 4
pub check_exactly : {s work : List ℕ} {a : Answer} {units : ℕ} → Checked s work a units → (a ≡ done → Accepts (script_of s)) × (Loads s done → Accepts (script_of s) → Spares a)
check_exactly {s} {work} {units = units} c = ((λ e. checked_accepts (rw e at c)), λ l a. spares c l a)
  where
    spares : {a : Answer} {u : ℕ} → Checked s work a u → Loads s done → Accepts (script_of s) → Spares a
    spares (Checked.unsound k) l a = never (cc (one_load s k l))
    spares (Checked.no_scratch k n) l a = tt
    spares (walked {v = v} k n t e d) l a = rw (← e) (found_spares a.main.output v (accepts_found_or_spent (script_of s) a _ _ v t))

-- a check that passes all passes a script that is Stuck on a forest of A, and demand 3 alone stops it (by "exactly" and a sheet: Refuted/Check)
pub not_passes_stuck : (f : Check) → MeetsCheck f → PassesAll f → ⊥
unfolding twice_stuck runs checks
not_passes_stuck f meets w = stuck_self_not_passed {s = twice_stuck} (meets twice_stuck lent_work) of_empty (stuck_twice lent_work lent_result (work_rows 4096 refl))
    (w twice_stuck lent_work ok_twice_stuck (work_rows 4096 refl))

-- ---- fit

abbrev OfRow : List ℕ → ℕ → Type 0
OfRow s t = Of (names_in (script_of s)) (declared (script_of s) t) (forest_of (grove_of s))

-- a fit is done exactly if the forest is of the type, and Unfit, with whatever row, exactly if it is not; asked of a type row, on tables that pass 2 to 4
pub fit_exactly : {s : List ℕ} {t : ℕ} {a : Answer} → Fitted s t a → in_table (script_of s).types t ≡ true → Loads s done
    → (a ≡ done ↔ OfRow s t) × (((x : ℕ) × (a ≡ refused (unfit x))) ↔ (OfRow s t → ⊥))
fit_exactly (no_row f) e l = absurd (not_both e f)
fit_exactly {s} (Fitted.unsound f k) e l = never (cc (one_load s k l))
fit_exactly (Fitted.fits f k o) e l = ((λ h. o, λ h. refl), (λ z. never (cc z.1), λ n. absurd (n o)))
fit_exactly {s} {t} (misfits {x = x} f k w) e (sound d b u) = let n = fault_bars s d t e u w in ((λ h. never (cc h), λ o. absurd (n o)), (λ z. n, λ z. (x, refl)))

-- how a check of an accepted script ends, of which `price` units fall due: done for just these, if the purse holds them; else Fuel, with all of it spent. Or Depth or Wide ends it
pub data Costing (price purse : ℕ) : Answer → ℕ → Type 0 where
  in_full : {units : ℕ} → price ≤ purse → units ≡ price → Costing price purse done units
  too_dear : {units : ℕ} → purse < price → units ≡ purse → Costing price purse (refused fuel) units
  too_deep : {units : ℕ} → Costing price purse (refused depth) units
  too_wide : {units : ℕ} {at : Place} → Costing price purse (refused (wide at)) units

-- so on every sheet with the script's tables that passes 2 to 4, with every check fuel, whatever the forest, if the working rows suffice
pub record CheckCosts (S : Script) (price : ℕ) : Type 0 where
  pub ends : {s work : List ℕ} {a : Answer} {units : ℕ} → script_of s ≡ S → Loads s done → (sheet_of s).check_fuel ≤ rows_lent work → Checked s work a units
      → Costing price (sheet_of s).check_fuel a units

-- a script that the rules accept has one such number
pub check_fuel_lem : (S : Script) → Accepts S → (price : ℕ) × CheckCosts S price
check_fuel_lem S accepts = let c = accepts_enough S accepts in (c.0, record { ends = costing c.0 c.1 })
  where
    verdict : (purse price units left : ℕ) (τ : Ty) (v : Verdict Ty) → Ended (Spent (Unit {0}) (Unit {0})) τ price purse v left → (v ≡ walk.Verdict.fuel → left ≡ 0) → units + left ≡ purse
        → Costing price purse (verdict_answer v) units
    verdict purse price units left τ (gives σ) h z d = in_full {units = units} (omega (arith, h.1)) (omega (arith, h.1))
    verdict purse price units left τ walk.Verdict.fuel h z d = too_dear {units = units} h (omega (arith, z refl))
    verdict purse price units left τ (stops walk.Stop.depth) h z d = too_deep
    verdict purse price units left τ (stops (walk.Stop.wide at)) h z d = too_wide
    verdict purse price units left τ (stops (walk.Stop.mismatch at)) h z d = absurd h
    verdict purse price units left τ (stops (walk.Stop.outside at)) h z d = absurd h
    verdict purse price units left τ (stops (walk.Stop.stuck at)) h z d = absurd h

    costing : (price : ℕ) → ((n m : ℕ) (v : Verdict Ty) → Settles (Judged (names_in S)) (check_walk S) n v m → Ended (Spent (Unit {0}) (Unit {0})) accepts.main.output price n v m)
        → {s work : List ℕ} {a : Answer} {units : ℕ} → script_of s ≡ S → Loads s done → (sheet_of s).check_fuel ≤ rows_lent work → Checked s work a units
        → Costing price (sheet_of s).check_fuel a units
    costing price h {s} e l n (Checked.unsound k) = never (cc (one_load s k l))
    costing price h e l n (Checked.no_scratch k m) = absurd (omega arith)
    costing price h {s} {units = u} e l n (walked {left = left} {v = v} k m t q d) =
        let w : Settles (Judged (names_in S)) (check_walk S) (sheet_of s).check_fuel v left = rw e at t in
        rw (← q) (verdict (sheet_of s).check_fuel price u left accepts.main.output v (h _ _ v w) (λ f. fuel_all (Judged (names_in S)) (rw f at w)) d)

-- so Fuel exactly if what falls due exceeds the purse, where neither Depth nor Wide ends it
pub fuel_exactly : {price purse units : ℕ} {a : Answer} → Costing price purse a units → ¬ (a ≡ refused depth) → ((at : Place) → ¬ (a ≡ refused (wide at))) → (a ≡ refused fuel) ↔ (purse < price)
fuel_exactly (in_full l e) d w = ((λ h. never (cc)), λ k. absurd (omega arith))
fuel_exactly (too_dear l e) d w = ((λ h. l), λ k. refl)
fuel_exactly too_deep d w = absurd (d refl)
fuel_exactly (too_wide {at = at}) d w = absurd (w at refl)

-- ---- more fuel, same answer

-- every answer but 5, 12 and 13: what hangs neither on the fuel nor on the rows lent
abbrev pub Firm : Answer → Type 0
Firm done = Unit {0}
Firm (refused block) = Unit {0}
Firm (refused shape) = Unit {0}
Firm (refused (barren x)) = Unit {0}
Firm (refused (tie a b)) = Unit {0}
Firm (refused fuel) = ⊥
Firm (refused depth) = Unit {0}
Firm (refused (wide at)) = Unit {0}
Firm (refused (mismatch at)) = Unit {0}
Firm (refused (outside at)) = Unit {0}
Firm (refused (unfit x)) = Unit {0}
Firm (refused (stuck at)) = Unit {0}
Firm (refused scratch) = ⊥
Firm (refused room) = ⊥

firm_other : {A : Type 0} (v : Verdict A) → Firm (verdict_answer v) → Other v
firm_other (gives x) o = tt
firm_other walk.Verdict.fuel o = o
firm_other (stops h) o = tt

-- a check's verdict other than Fuel, 2, 3 and 4 too, stays with its values and units under every greater check fuel up to the limit, if the working rows suffice
pub check_stays : {s work : List ℕ} {a : Answer} {units : ℕ} (work' : List ℕ) (w : ℕ) → Checked s work a units → Firm a → (sheet_of s).check_fuel ≤ w → w ≤ most_fuel → w ≤ rows_lent work'
    → Checked (with_check_fuel s w) work' a units
check_stays {s} work' w (Checked.unsound l) o more limit lent = Checked.unsound (check_load_stays s w limit l more)
check_stays {s} work' w (Checked.no_scratch l n) o more limit lent = absurd o
check_stays {s} {units = u} work' w (walked {v = v} l n t e d) o more limit lent =
    let k = check_fuel_is s l w limit in
    walked_more s (with_check_fuel s w) (alike_script s (with_check_fuel s w) (check_alike s l w limit)) {units = u} t e d
    (firm_other v (subst Firm (sym e) o)) (rw k more) (check_load_stays s w limit l more) (rw k lent)

-- the first rows of a result, over another lent slice
abbrev pub handed : ℕ → List ℕ → List ℕ → List ℕ
handed root after result = take (2 * row_words * root) after ++ drop (2 * row_words * root) result

given_handed : (f : Forest) (result result' : List ℕ) → handed (forest_size f) (given f result) result' ≡ given f result'
given_handed f result result' =
    let n : length (row_bytes (rows_of_result f)) ≡ 2 * row_words * forest_size f = row_bytes_length (rows_of_result f) ∙ ap (λ k. 2 * row_words * k) (result_length f) in
    let h : take (2 * row_words * forest_size f) (given f result) ≡ row_bytes (rows_of_result f) = rw (← n) (take-append_seam (row_bytes (rows_of_result f)) _) in
    rw h refl

-- a run's verdict other than Fuel stays with its units, root and rows under every greater run fuel up to the limit, whatever rows are lent for the result, if they and the working rows suffice
pub run_stays : {s work result after : List ℕ} {a : Answer} {units root : ℕ} (work' result' : List ℕ) (w : ℕ) → Ran s work result a units root after → Firm a
    → (sheet_of s).run_fuel ≤ w → w ≤ most_fuel → (grove_of s).rows + w ≤ rows_lent work' → root ≤ rows_lent result' → Ran (with_run_fuel s w) work' result' a units root (handed root after result')
run_stays {s} work' result' w (Ran.unsound l) o more limit lent fits = Ran.unsound (run_load_stays s w limit l more)
run_stays {s} work' result' w (Ran.no_scratch l n) o more limit lent fits = absurd o
run_stays {s} {units = u} work' result' w (ended l n e d) o more limit lent fits =
    let g = alike_grove s (with_run_fuel s w) (run_alike s l w limit) in let i = run_fuel_is s l w limit in
    let k = verdict_more (run_walk (sheet_of s)) (run_walk (sheet_of (with_run_fuel s w))) (sheet_of s).run_fuel (sheet_of (with_run_fuel s w)).run_fuel (run_settled s).verdict
    (same_walk s (with_run_fuel s w) (alike_script s (with_run_fuel s w) (run_alike s l w limit)) g) (rw i more) refl (firm_other (run_settled s).verdict (subst Firm (sym e) o)) in
    ended {units = u} (run_load_stays s w limit l more) (rw (g, i) lent) (ap verdict_answer k.0 ∙ e) (omega (arith, k.1))
run_stays {s} work' result' w (no_room l n g d x) o more limit lent fits = absurd o
run_stays {s} {result = result} {units = u} {root = root} work' result' w (gave {f = f} l n h d x y z) o more limit lent fits =
    let g = alike_grove s (with_run_fuel s w) (run_alike s l w limit) in let i = run_fuel_is s l w limit in
    let k = verdict_more (run_walk (sheet_of s)) (run_walk (sheet_of (with_run_fuel s w))) (sheet_of s).run_fuel (sheet_of (with_run_fuel s w)).run_fuel (gives f)
    (same_walk s (with_run_fuel s w) (alike_script s (with_run_fuel s w) (run_alike s l w limit)) g) (rw i more) h tt in
    gave {units = u} (run_load_stays s w limit l more) (rw (g, i) lent) k.0 (omega (arith, k.1)) (omega arith) y (ap₂ (λ n o. handed n o result') y z ∙ given_handed f result result')

-- ---- apply's order

-- apply's reply, as what is told has it
abbrev pub reply_of : Told → Reply
reply_of (loaded r) = record { answer = refused r; check_units = 0; run_units = 0; root = 0; result = lent_result; work = zeroed lent_work }
reply_of (check_ended r u) = record { answer = refused r; check_units = u; run_units = 0; root = 0; result = lent_result; work = zeroed lent_work }
reply_of (fit_ended u r) = record { answer = refused r; check_units = u; run_units = 0; root = 0; result = lent_result; work = zeroed lent_work }
reply_of (run_ended u r v) = record { answer = refused r; check_units = u; run_units = v; root = 0; result = lent_result; work = zeroed lent_work }
reply_of (all_done u v root after) = record { answer = done; check_units = u; run_units = v; root = root; result = after; work = zeroed lent_work }

-- a run that is refused hands out nothing
refused_run : {s work result after : List ℕ} {a : Answer} {r : Refusal} {units root : ℕ} → Ran s work result a units root after → a ≡ refused r → Ran s work result a units 0 result
refused_run (Ran.unsound l) e = Ran.unsound l
refused_run (Ran.no_scratch l n) e = Ran.no_scratch l n
refused_run (ended l n h d) e = ended l n h d
refused_run (no_room l n g d x) e = no_room l n g d x
refused_run (gave l n g d x y z) e = never (cc)

module _ (b : List ℕ) where
  abbrev Applies : Reply → Type 0
  Applies = OfBundle b lent_work lent_result (λ s. ApplyReply s lent_work lent_result)

  told_applies : {t : Told} → Tells b t → Applies (reply_of t)
  told_applies (not_framed e) = unframed e
  told_applies (not_loaded e l) = opened e (record { said = unchecked (Checked.unsound l); clear = refl })
  told_applies (not_checked e l c) = opened e (record { said = unchecked c; clear = refl })
  told_applies (not_fit e c f) = opened e (record { said = unfitted c f; clear = refl })
  told_applies (not_run e c f n) = opened e (record { said = applied c f (refused_run n refl); clear = refl })
  told_applies (told e c f n) = opened e (record { said = applied c f n; clear = refl })

  abbrev whole_reply : Answer → ℕ → ℕ → ℕ → List ℕ → List ℕ → Reply
  whole_reply a u v root after work = record { answer = a; check_units = u; run_units = v; root = root; result = after; work = work }

  abbrev Telling : Reply → Type 0
  Telling R = (t : Told) × Tells b t × (reply_of t ≡ R)

  check_told : framed b ≡ true → {a : Answer} {r : Refusal} {u : ℕ} → Checked (sheet_in b) lent_work a u → a ≡ refused r → Telling (whole_reply a u 0 0 lent_result (zeroed lent_work))
  check_told e (Checked.unsound {r = r} l) h = (loaded r, not_loaded e l, refl)
  check_told e (Checked.no_scratch l n) h = (check_ended scratch 0, not_checked e l (Checked.no_scratch l n), refl)
  check_told e {a} {r} {u} (walked l n t d q) h =
      let c : Checked (sheet_in b) lent_work a u = walked {units = u} l n t d q in
      (check_ended r u, not_checked e l (subst (λ a. Checked (sheet_in b) lent_work a u) h c), ap (λ a. whole_reply a u 0 0 lent_result (zeroed lent_work)) (sym h))

  run_told : framed b ≡ true → {a : Answer} {u v root : ℕ} {after : List ℕ} → Checked (sheet_in b) lent_work done u → Fitted (sheet_in b) (script_of (sheet_in b)).a done
      → Ran (sheet_in b) lent_work lent_result a v root after → Telling (whole_reply a u v root after (zeroed lent_work))
  run_told e {u = u} c f (Ran.unsound {r = r} l) = (run_ended u r 0, not_run e c f (Ran.unsound l), refl)
  run_told e {u = u} c f (Ran.no_scratch l n) = (run_ended u scratch 0, not_run e c f (Ran.no_scratch l n), refl)
  run_told e {u = u} {v = v} c f (ended {r = r} l n h d) = (run_ended u r v, not_run e c f (ended {units = v} l n h d), refl)
  run_told e {u = u} {v = v} c f (no_room l n g d x) = (run_ended u room v, not_run e c f (no_room {units = v} l n g d x), refl)
  run_told e {u = u} {v = v} {root = root} {after = after} c f (gave l n g d x y z) = (all_done u v root after, told e c f (gave {units = v} l n g d x y z), refl)

  apply_telling : framed b ≡ true → {a : Answer} {u v root : ℕ} {after : List ℕ} → Applied (sheet_in b) lent_work lent_result a u v root after
      → Telling (whole_reply a u v root after (zeroed lent_work))
  apply_telling e (unchecked c) = check_told e c refl
  apply_telling e (unfitted {r = r} {u = u} c f) = (fit_ended u r, not_fit e c f, refl)
  apply_telling e (applied c f n) = run_told e c f n

  -- what the program tells is apply's reply to the bundle, on the rows that it lends: `Tells` and `Applied` give one order
  pub tells_applied : {R : Reply} → OfBundle b lent_work lent_result (λ s. ApplyReply s lent_work lent_result) R ↔ ((t : Told) × Tells b t × (reply_of t ≡ R))
  tells_applied {R} = (to, λ k. subst Applies k.2 (told_applies k.1))
    where
      to : {R : Reply} → Applies R → Telling R
      to (unframed e) = (loaded block, not_framed e, refl)
      to (opened {R = R} e k) =
          let t = apply_telling e k.said in
          (t.0, t.1, t.2 ∙ ap (λ w. whole_reply R.answer R.check_units R.run_units R.root R.result w) (sym k.clear))
