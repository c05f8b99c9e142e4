-- More fuel, same answer: what a run gives and what a check says stays, with its units, under every greater fuel up to the limit. By `steady` of walks, and because the tables are the same.
use Rattle.std.specs.Prelude.{ℕ, ◌+◌, ◌*◌, ◌-◌, ◌/◌, ◌%◌, ◌≤◌, ◌<◌, ◌≡◌, Bool, true, false, ◌&&◌, List, length, set}
use Rattle.std.proofs.Math.Path.{refl, ap}
use Rattle.std.proofs.Common.{sym, ◌∙◌, ap₂, length-set, get_or-set_same, get_or-set_other, le-leb}
use Rattle.std.proofs.lemmas.Bool.{false≢true}
use native.Mathlib.Omega.{arith}
use Rattle.std.proofs.Math.Dec.{leb}
use Rattle.std.proofs.Math.ListN.{get_or}
use Rattle.meaning.specs.Limits.{most_names, most_rows, most_procedures, most_forest_rows, most_pool, most_fuel}
use Rattle.meaning.specs.Words.{word_at, rows_lent}
use Rattle.meaning.specs.Sheet.{Script, Grove, Sheet, script_of, grove_of, sheet_of, pool_at}
use Rattle.meaning.specs.Forest.{Forest}
use Rattle.meaning.specs.Types.{Ty, names_in}
use Rattle.meaning.specs.Walk.{Verdict, gives, stops, Settles, Quiet, Unasked, settle}
use Rattle.meaning.specs.Walk as walk
use Rattle.meaning.specs.Run.{run_walk}
use Rattle.meaning.specs.Check.{Judged, check_walk}
use Rattle.meaning.specs.Shape.{Use, word_ok, types_ok, queries_ok, statements_ok, rows_ok, names_ok, procedures_ok, roots_ok, limits_ok}
use Rattle.meaning.specs.Shape.{type_users, query_users, statement_users, row_users, users_ok, scope_ok, shaped, whole, shapely}
use Rattle.meaning.specs.Reply.{
  Refusal,
  block,
  shape,
  barren,
  tie,
  fuel,
  depth,
  wide,
  mismatch,
  outside,
  unfit,
  stuck,
  scratch,
  room,
  Answer,
  done,
  refused,
  verdict_answer,
  Loads,
  misshapen,
  is_barren,
  is_tied,
  sound,
  Checked,
  walked,
  Ran,
  gave,
  Reply,
  RunReply,
  CheckReply,
}
use Rattle.meaning.specs.Laws.Bools.{and_left, and_right, and_both, not_both}
use Rattle.meaning.specs.Laws.Shaped.{few, limits_pass, long as shaped-long}
use Rattle.meaning.specs.Laws.Agree.{SameTables, same_script, pool_here, need_same, same_rows}
use Rattle.meaning.specs.Laws.Walk.{Other, steady, within_purse, settle_settles, settles_settle}
use Rattle.meaning.specs.Theorems.Single.{one_check, one_run}

-- ---- a run's verdict

-- more units in the purse: the same verdict, if it is not Fuel, and as many more left
pub verdict_more : (w w' : Quiet Forest) (n m : ℕ) (v : Verdict Forest) → w' ≡ w → n ≤ m → (settle w n).verdict ≡ v → Other v
    → ((settle w' m).verdict ≡ v) × ((settle w' m).left + n ≡ (settle w n).left + m)
verdict_more w w' n m v same more e o =
    let t : Settles Unasked w n v (settle w n).left = rw e at (settle_settles w n) in
    let k : n + (m - n) ≡ m = omega arith in
    let r = settles_settle w (n + (m - n)) _ _ (steady Unasked (m - n) t o) in
    rw (same, ← k) (r.0, omega (arith, r.1))

-- what a check's walk may say, but for Fuel: 0, 6, 7, 8 and 9
abbrev pub Says : Answer → Type 0
Says done = Unit {0}
Says (refused block) = ⊥
Says (refused shape) = ⊥
Says (refused (barren x)) = ⊥
Says (refused (tie a b)) = ⊥
Says (refused fuel) = ⊥
Says (refused depth) = Unit {0}
Says (refused (wide at)) = Unit {0}
Says (refused (mismatch at)) = Unit {0}
Says (refused (outside at)) = Unit {0}
Says (refused (unfit x)) = ⊥
Says (refused (stuck at)) = ⊥
Says (refused scratch) = ⊥
Says (refused room) = ⊥

no_load : {s : List ℕ} {r : Refusal} → Loads s (refused r) → Says (refused r) → ⊥
no_load (misshapen e) o = o
no_load (is_barren e b) o = o
no_load (is_tied e n t) o = o

says_other : (v : Verdict Ty) → Says (verdict_answer v) → Other v
says_other (gives τ) o = tt
says_other walk.Verdict.fuel o = o
says_other (stops h) o = tt

ran_loads : {s work result after : List ℕ} {u root : ℕ} → Ran s work result done u root after → Loads s done
ran_loads (gave l n g d x y z) = l

module _ (s s' : List ℕ) (script : script_of s' ≡ script_of s) where
  module _ (grove : grove_of s' ≡ grove_of s) where
    pub same_walk : run_walk (sheet_of s') ≡ run_walk (sheet_of s)
    unfolding run_walk sheet_of
    same_walk = rw (script, grove)

    -- the same rows, root and units, if the working rows suffice
    pub steady_run : {work work' result after : List ℕ} {u root : ℕ} → Ran s work result done u root after → (sheet_of s).run_fuel ≤ (sheet_of s').run_fuel → Loads s' done
        → (grove_of s').rows + (sheet_of s').run_fuel ≤ rows_lent work'
        → Ran s' work' result done u root after
    steady_run (gave {f = f} {units = u} l n g d x y z) more loads lent =
        let k = verdict_more (run_walk (sheet_of s)) (run_walk (sheet_of s')) (sheet_of s).run_fuel (sheet_of s').run_fuel (gives f) same_walk more g tt in
        gave {units = u} loads lent k.0 (omega (arith, k.1)) x y z

    -- and every reply is that one
    pub steady_replies : {work work' result : List ℕ} {R R' : Reply} → RunReply s work result R → R.answer ≡ done → (sheet_of s).run_fuel ≤ (sheet_of s').run_fuel → Loads s' done
        → (grove_of s').rows + (sheet_of s').run_fuel ≤ rows_lent work'
        → RunReply s' work' result R' → (R'.answer ≡ done) × (R'.run_units ≡ R.run_units) × (R'.root ≡ R.root) × (R'.result ≡ R.result)
    steady_replies {work' = work'} {result = result} r a more loads lent r' = one_run s' work' result r'.said (steady_run (rw a at r.said) more loads lent)

  -- ---- a check's verdict

  settles_more : {n m l : ℕ} {v : Verdict Ty} → Settles (Judged (names_in (script_of s))) (check_walk (script_of s)) n v l → Other v → n ≤ m
      → Settles (Judged (names_in (script_of s'))) (check_walk (script_of s')) m v (l + (m - n))
  settles_more {n} {m} {v = v} t o more =
      let k : n + (m - n) ≡ m = omega arith in
      let r = steady (Judged (names_in (script_of s))) (m - n) t o in
      rw script (rw k at r)

  -- the walk's verdict, with its units
  pub walked_more : {work' : List ℕ} {a : Answer} {units left : ℕ} {v : Verdict Ty} → Settles (Judged (names_in (script_of s))) (check_walk (script_of s)) (sheet_of s).check_fuel v left
      → verdict_answer v ≡ a → units + left ≡ (sheet_of s).check_fuel → Other v
      → (sheet_of s).check_fuel ≤ (sheet_of s').check_fuel → Loads s' done → (sheet_of s').check_fuel ≤ rows_lent work' → Checked s' work' a units
  walked_more {units = u} t e d o more loads lent = walked {units = u} loads lent (settles_more t o more) e (omega (arith, within_purse (Judged (names_in (script_of s))) t))

  -- a check's answer, with its values and units, on the same terms
  pub steady_check : {work work' : List ℕ} {a : Answer} {u : ℕ} → Checked s work a u → Says a → (sheet_of s).check_fuel ≤ (sheet_of s').check_fuel → Loads s' done
      → (sheet_of s').check_fuel ≤ rows_lent work'
      → Checked s' work' a u
  steady_check (Checked.unsound l) o more loads lent = absurd (no_load l o)
  steady_check (Checked.no_scratch l n) o more loads lent = absurd o
  steady_check (walked {units = u} {v = v} l n t e d) o more loads lent = walked_more {units = u} t e d (says_other v (rw (← e) at o)) more loads lent

  pub steady_check_replies : {work work' : List ℕ} {R R' : Reply} → CheckReply s work R → Says R.answer → (sheet_of s).check_fuel ≤ (sheet_of s').check_fuel → Loads s' done
      → (sheet_of s').check_fuel ≤ rows_lent work'
      → CheckReply s' work' R' → (R'.answer ≡ R.answer) × (R'.check_units ≡ R.check_units)
  steady_check_replies {work' = work'} r o more loads lent r' = one_check s' work' r'.said (steady_check r.said o more loads lent)

-- ---- Shape asks of the fuels only that they are within the limit

abbrev sheet : Script → Grove → ℕ → ℕ → Sheet
sheet S G c r = record { script = S; grove = G; check_fuel = c; run_fuel = r }

-- the first of ten tests for another
other_first : (k l t q m r n p o u c : Bool) → k && t && q && m && r && n && p && o && u && c ≡ true → (k ≡ true → l ≡ true) → l && t && q && m && r && n && p && o && u && c ≡ true
other_first true l t q m r n p o u c e h = rw (h refl) e
other_first false l t q m r n p o u c e h = absurd (false≢true e)

abbrev counts_ok : Script → Grove → Bool
counts_ok S G = leb S.names most_names && leb S.types most_rows && leb S.queries most_rows && leb S.statements most_rows
    && leb S.procedures most_procedures && leb G.rows most_forest_rows && leb G.pool most_pool

module _ (S : Script) (G : Grove) (c r c' r' : ℕ) where
  words_same : (u : Use) (i w : ℕ) → word_ok (sheet S G c r) u i w ≡ word_ok (sheet S G c' r') u i w
  unfolding word_ok
  words_same Use.unused i w = refl
  words_same Use.free i w = refl
  words_same Use.label i w = refl
  words_same Use.part i w = refl
  words_same Use.link i w = refl
  words_same Use.query i w = refl
  words_same Use.name i w = refl
  words_same Use.procedure i w = refl
  words_same Use.tester i w = refl
  words_same (Use.size_at o) i w = refl

  within_limit : c' ≤ most_fuel → r' ≤ most_fuel → limits_ok (sheet S G c r) ≡ true → limits_ok (sheet S G c' r') ≡ true
  unfolding limits_ok
  within_limit h k e = and_both (counts_ok S G && leb c' most_fuel) (leb r' most_fuel)
      (and_both (counts_ok S G) (leb c' most_fuel) (and_left (counts_ok S G) (leb c most_fuel) (and_left (counts_ok S G && leb c most_fuel) (leb r most_fuel) e)) (le-leb c' most_fuel h))
      (le-leb r' most_fuel k)

  types_too : types_ok (sheet S G c r) ≡ types_ok (sheet S G c' r')
  unfolding types_ok
  types_too = simp words_same

  queries_too : queries_ok (sheet S G c r) ≡ queries_ok (sheet S G c' r')
  unfolding queries_ok
  queries_too = simp words_same

  statements_too : statements_ok (sheet S G c r) ≡ statements_ok (sheet S G c' r')
  unfolding statements_ok
  statements_too = simp words_same

  rows_too : rows_ok (sheet S G c r) ≡ rows_ok (sheet S G c' r')
  unfolding rows_ok
  rows_too = simp words_same

  other_fuels : shaped (sheet S G c r) ≡ true → c' ≤ most_fuel → r' ≤ most_fuel → shaped (sheet S G c' r') ≡ true
  unfolding names_ok procedures_ok roots_ok users_ok type_users query_users statement_users row_users
  other_fuels e h k = other_first (limits_ok (sheet S G c r)) (limits_ok (sheet S G c' r')) (types_ok (sheet S G c' r')) (queries_ok (sheet S G c' r')) (statements_ok (sheet S G c' r'))
      (rows_ok (sheet S G c' r'))
      (names_ok (sheet S G c r)) (procedures_ok (sheet S G c r)) (roots_ok (sheet S G c r)) (users_ok (sheet S G c r)) (scope_ok S) (rw (types_too, queries_too, statements_too, rows_too) at e)
      (within_limit h k)

-- ---- sheets that differ in their fuels only: words 11 and 12

-- both fuels are within the limit
abbrev Fuels : List ℕ → Type 0
Fuels s = (word_at s 11 ≤ most_fuel) × (word_at s 12 ≤ most_fuel)

pub record Alike (s s' : List ℕ) : Type 0 where
  pub long : length s' ≡ length s
  pub low : (i : ℕ) → i < 22 → get_or s' i 0 ≡ get_or s i 0
  pub high : (i : ℕ) → 26 ≤ i → get_or s' i 0 ≡ get_or s i 0

module _ (s s' : List ℕ) (alike : Alike s s') where
  low : (j : ℕ) → j < 11 → word_at s' j ≡ word_at s j
  low j h = ap₂ (λ x y. x + 256 * y) (alike.low (2 * j) (omega arith)) (alike.low (2 * j + 1) (omega arith))

  high : (j : ℕ) → 13 ≤ j → word_at s' j ≡ word_at s j
  high j h = ap₂ (λ x y. x + 256 * y) (alike.high (2 * j) (omega arith)) (alike.high (2 * j + 1) (omega arith))

  alike_tables : SameTables s s'
  alike_tables = record { header = λ j h p q. low j (omega arith); tables = λ j h k. high j h }

  pub alike_script : script_of s' ≡ script_of s
  alike_script = same_script s s' alike_tables

  pub alike_grove : grove_of s' ≡ grove_of s
  unfolding grove_of
  alike_grove = λ i. record {
    rows = low 5 (omega arith) i;
    row = same_rows s s' alike_tables (low 5 (omega arith)) (λ j h k. high j h) i;
    pool = low 6 (omega arith) i;
    byte = λ k. (alike.high (2 * pool_at s' + k) (omega arith) ∙ ap (λ p. get_or s (2 * p + k) 0) (pool_here s s' alike_tables (low 5 (omega arith)))) i;
    root = low 10 (omega arith) i;
  }

  -- and so they pass Shape alike, if the fuels are within the limit
  alike_shapely : shapely s ≡ true → Fuels s' → shapely s' ≡ true
  unfolding sheet_of
  alike_shapely e f =
      and_both (whole s') (shaped (sheet_of s')) (rw (need_same s s' alike_tables (low 5 (omega arith)) (low 6 (omega arith)), alike.long) (and_left (whole s) (shaped (sheet_of s)) e))
      (rw (alike_script, alike_grove) (other_fuels (script_of s) (grove_of s) _ _ (word_at s' 11) (word_at s' 12) (and_right (whole s) (shaped (sheet_of s)) e) f.0 f.1))

  -- and load alike
  pub alike_loads : Loads s done → (sheet_of s').check_fuel ≤ most_fuel → (sheet_of s').run_fuel ≤ most_fuel → Loads s' done
  unfolding sheet_of
  alike_loads (sound e n u) c r = sound (alike_shapely e (c, r)) (rw alike_script n) (rw alike_script u)

  alike_back : Alike s' s
  alike_back = record { long = sym alike.long; low = λ i h. sym (alike.low i h); high = λ i h. sym (alike.high i h) }

-- refused or not, where neither fuel alone breaks Shape
same_load : {s s' : List ℕ} {a : Answer} → Alike s s' → (shapely s ≡ true → Fuels s') → (shapely s' ≡ true → Fuels s) → Loads s a → Loads s' a
same_load {s} {s'} k forth back (misshapen e) = misshapen (go (shapely s') refl)
  where
    go : (b : Bool) → shapely s' ≡ b → b ≡ false
    go true h = absurd (not_both (alike_shapely s' s (alike_back s s' k) h (back h)) e)
    go false h = refl
same_load {s} {s'} k forth back (is_barren {x = x} e b) = is_barren {x = x} (alike_shapely s s' k e (forth e)) (rw (alike_script s s' k) b)
same_load {s} {s'} k forth back (is_tied {a = a} {b = b} e n t) = is_tied {a = a} {b = b} (alike_shapely s s' k e (forth e)) (rw (alike_script s s' k) n) (rw (alike_script s s' k) t)
same_load {s} {s'} k forth back (sound e n u) = sound (alike_shapely s s' k e (forth e)) (rw (alike_script s s' k) n) (rw (alike_script s s' k) u)

-- ---- a sheet with another fuel

-- word k of s replaced
abbrev pub with_word : List ℕ → ℕ → ℕ → List ℕ
with_word s k w = set (set s (2 * k) (w % 256)) (2 * k + 1) (w / 256 % 256)

abbrev pub with_check_fuel : List ℕ → ℕ → List ℕ
with_check_fuel s w = with_word s 11 w

abbrev pub with_run_fuel : List ℕ → ℕ → List ℕ
with_run_fuel s w = with_word s 12 w

module _ (s : List ℕ) (k w : ℕ) where
  with_length : length (with_word s k w) ≡ length s
  with_length = simp length-set

  with_other : (i : ℕ) → ¬ (i ≡ 2 * k) → ¬ (i ≡ 2 * k + 1) → get_or (with_word s k w) i 0 ≡ get_or s i 0
  with_other i p q = get_or-set_other (set s (2 * k) (w % 256)) (2 * k + 1) i (w / 256 % 256) 0 q ∙ get_or-set_other s (2 * k) i (w % 256) 0 p

  with_same : 2 * k + 1 < length s → w < 65536 → word_at (with_word s k w) k ≡ w
  with_same long small =
      let low : get_or (with_word s k w) (2 * k) 0 ≡ w % 256 = get_or-set_other (set s (2 * k) (w % 256)) (2 * k + 1) (2 * k) (w / 256 % 256) 0 (omega arith)
      ∙ get_or-set_same s (2 * k) (w % 256) 0 (omega arith) in
      let high : get_or (with_word s k w) (2 * k + 1) 0 ≡ w / 256 % 256 = get_or-set_same (set s (2 * k) (w % 256)) (2 * k + 1) (w / 256 % 256) 0 (rw length-set long) in
      omega arith

  with_word_lem : (j : ℕ) → ¬ (j ≡ k) → word_at (with_word s k w) j ≡ word_at s j
  with_word_lem j d = ap₂ (λ x y. x + 256 * y) (with_other (2 * j) (omega arith) (omega arith)) (with_other (2 * j + 1) (omega arith) (omega arith))

  with_alike : 11 ≤ k → k ≤ 12 → Alike s (with_word s k w)
  with_alike p q = record {
    long = with_length;
    low = λ i h. with_other i (omega arith) (omega arith);
    high = λ i h. with_other i (omega arith) (omega arith);
  }

-- a sheet that loads has its header, and its fuels are within the limit
loads_header : {s : List ℕ} → Loads s done → 26 ≤ length s
loads_header {s} (sound e n u) = omega (arith, shaped-long s e)

shapely_fuels : (s : List ℕ) → shapely s ≡ true → Fuels s
unfolding sheet_of
shapely_fuels s e = let l = few (sheet_of s) (limits_pass s e) in (l.check_fuel_lem, l.run_fuel_lem)

loads_within : {s : List ℕ} → Loads s done → Fuels s
loads_within {s} (sound e n u) = shapely_fuels s e

-- a sheet with a greater fuel, within the limit, loads or is refused as before
module _ (s : List ℕ) (w : ℕ) (limit : w ≤ most_fuel) where
  pub check_load_stays : {a : Answer} → Loads s a → (sheet_of s).check_fuel ≤ w → Loads (with_check_fuel s w) a
  unfolding sheet_of
  check_load_stays l more = same_load (with_alike s 11 w (omega arith) (omega arith))
      (λ e. (rw (with_same s 11 w (omega (arith, shaped-long s e)) (omega arith)) limit, rw (with_word_lem s 11 w 12 (omega arith)) (shapely_fuels s e).1))
      (λ e. (omega arith, rw (with_word_lem s 11 w 12 (omega arith)) at (shapely_fuels (with_check_fuel s w) e).1)) l

  pub run_load_stays : {a : Answer} → Loads s a → (sheet_of s).run_fuel ≤ w → Loads (with_run_fuel s w) a
  unfolding sheet_of
  run_load_stays l more = same_load (with_alike s 12 w (omega arith) (omega arith))
      (λ e. (rw (with_word_lem s 12 w 11 (omega arith)) (shapely_fuels s e).0, rw (with_same s 12 w (omega (arith, shaped-long s e)) (omega arith)) limit))
      (λ e. (rw (with_word_lem s 12 w 11 (omega arith)) at (shapely_fuels (with_run_fuel s w) e).0, omega arith)) l

module _ (s : List ℕ) (loads : Loads s done) (w : ℕ) (limit : w ≤ most_fuel) where
  pub run_alike : Alike s (with_run_fuel s w)
  run_alike = with_alike s 12 w (omega arith) (omega arith)

  pub check_alike : Alike s (with_check_fuel s w)
  check_alike = with_alike s 11 w (omega arith) (omega arith)

  pub run_fuel_is : (sheet_of (with_run_fuel s w)).run_fuel ≡ w
  unfolding sheet_of
  run_fuel_is = with_same s 12 w (omega (arith, loads_header loads)) (omega arith)

  pub check_fuel_is : (sheet_of (with_check_fuel s w)).check_fuel ≡ w
  unfolding sheet_of
  check_fuel_is = with_same s 11 w (omega (arith, loads_header loads)) (omega arith)

  -- the other fuel is the same
  pub check_fuel_stays : (sheet_of (with_run_fuel s w)).check_fuel ≡ (sheet_of s).check_fuel
  unfolding sheet_of
  check_fuel_stays = with_word_lem s 12 w 11 (omega arith)

  pub run_fuel_stays : (sheet_of (with_check_fuel s w)).run_fuel ≡ (sheet_of s).run_fuel
  unfolding sheet_of
  run_fuel_stays = with_word_lem s 11 w 12 (omega arith)

  pub run_fuel_loads : Loads (with_run_fuel s w) done
  unfolding sheet_of
  run_fuel_loads = let k = loads_within loads in alike_loads s (with_run_fuel s w) run_alike loads (rw check_fuel_stays k.0) (rw run_fuel_is limit)

  pub check_fuel_loads : Loads (with_check_fuel s w) done
  unfolding sheet_of
  check_fuel_loads = let k = loads_within loads in alike_loads s (with_check_fuel s w) check_alike loads (rw check_fuel_is limit) (rw run_fuel_stays k.1)

-- ---- so: every greater run fuel up to the limit (the check's, and the run's over another slice: Replies)

pub every_run_fuel : {s work result after : List ℕ} {u root : ℕ} (work' : List ℕ) (w : ℕ) → Ran s work result done u root after → (sheet_of s).run_fuel ≤ w → w ≤ most_fuel
    → (grove_of s).rows + w ≤ rows_lent work'
    → Ran (with_run_fuel s w) work' result done u root after
every_run_fuel {s} work' w r more limit lent =
    let l = ran_loads r in let g = alike_grove s (with_run_fuel s w) (run_alike s l w limit) in let k = run_fuel_is s l w limit in
    steady_run s (with_run_fuel s w) (alike_script s (with_run_fuel s w) (run_alike s l w limit)) g r (rw k more) (run_fuel_loads s l w limit) (rw (g, k) lent)
