-- Every input has a reply, so nothing said of replies is empty: whether tables pass 2 to 4 is decided here, inclusion in Within/Decided, being of a type in Faults,
-- and a walk whose questions are decided settles (Asked).
use Rattle.std.specs.Prelude.{ℕ, zero, suc, ◌+◌, ◌-◌, ◌≤◌, ◌<◌, ◌≡◌, refl, Bool, false, ◌&&◌, ◌||◌, not, List, [], ◌⊎◌, eqb}
use Rattle.std.proofs.Math.Bool.{true}
use Rattle.std.proofs.Math.Logic.{inl, inr}
use Rattle.std.proofs.Math.Decide.{dec_lt, dec_le}
use Rattle.std.proofs.Common.{arith}
use Rattle.meaning.specs.Tests.{some, in_table}
use Rattle.meaning.specs.Words.{rows_lent, zeroed}
use Rattle.meaning.specs.Sheet.{script_of, grove_of, sheet_of}
use Rattle.meaning.specs.Forest.{Forest, forest_size}
use Rattle.meaning.specs.Types.{Named, names_in}
use Rattle.meaning.specs.Walk.{Verdict, gives, stops, Unasked}
use Rattle.meaning.specs.Walk as walk
use Rattle.meaning.specs.Run.{run_walk}
use Rattle.meaning.specs.Check.{Judged}
use Rattle.meaning.specs.Places.{Model, first, follows, same_head, head_at, model_in, is_declared, is_content, rivals, tied, Tie, Untied, LowestBarren, NoneBarren}
use Rattle.meaning.specs.Shape.{shapely}
use Rattle.meaning.specs.Reply.{Answer, done, refused, block, barren, tie, shape, fuel, unfit, scratch, room, verdict_answer, stopped}
use Rattle.meaning.specs.Reply.{Loads, misshapen, is_barren, is_tied, sound, Checked, walked, Fitted, no_row, fits, misfits}
use Rattle.meaning.specs.Reply.{Ran, ended, no_room, gave, given, run_settled, Applied, unchecked}
use Rattle.meaning.specs.Reply.{unfitted, applied, Reply, CheckReply, FitReply, RunReply, ApplyReply, opened}
use Rattle.meaning.specs.Bundle.{framed, sheet_in}
use Rattle.meaning.specs.Listing.{Told, loaded, Tells, not_framed, lent_work, lent_result}
use Rattle.meaning.specs.Laws.Bools.{or_right, or_cases, and_left, and_right, either, not_both}
use Rattle.meaning.specs.Laws.Tests.{some_of, table_low, table_high}
use Rattle.meaning.specs.Laws.Barren.{fills, Over, marks, marks_all, Name, Earned, content_fertile, none_earned, Closed, unmarked_barren, Round, idle_round, contents_over}
use Rattle.meaning.specs.Laws.Wired.{has}
use Rattle.meaning.specs.Laws.Apart.{first_has, follows_has, model_below, shaped_lower}
use Rattle.meaning.specs.Laws.Walk.{within_purse, settle_settles}
use Rattle.meaning.specs.Laws.Decide.{search}
use Rattle.meaning.specs.Theorems.Faults.{of_or_fault}
use Rattle.meaning.specs.Theorems.Asked.{check_settles}
use Rattle.meaning.specs.Theorems.Replies.{tells_applied}

-- ---- refusals 2 to 4 are decided

-- names: rounds of marking, until a round adds none
module _ (names : ℕ → Named) (n : ℕ) (known : (x : ℕ) → Name n x → Over (Name n) (names x).content) where
  round : (ℕ → Bool) → ℕ → Bool
  round live x = live x || fills live (names x).content

  round_earned : (live : ℕ → Bool) → Earned names live → Earned names (round live)
  unfolding round
  round_earned live c x e = elim (or_cases (live x) (fills live (names x).content) e) [ inl h ↦ c x h | inr h ↦ content_fertile names live c x h ]

  round_is : (live : ℕ → Bool) → Round names n known live (round live)
  unfolding round
  round_is live = record {
    keeps = λ x e. rw e;
    adds = λ x h e. or_right (live x) e;
  }

  -- with at most k names unmarked
  closes : (k : ℕ) (live : ℕ → Bool) → Earned names live → n ≤ k + marks live n → (last : ℕ → Bool) × Earned names last × Closed names n known last
  closes zero live c l = (live, c, λ x h e. marks_all live n (omega arith) x (table_low n x h) (table_high n x h))
  closes (suc k) live c l = elim (dec_lt (marks live n) (marks (round live) n)) [
    | yes h ↦ closes k (round live) (round_earned live c) (omega arith)
    | no h ↦ (round live, round_earned live c, idle_round names n known live (round live) (round_is live) (round_earned live c) (omega arith))
  ]

module _ (s : List ℕ) (e : shapely s ≡ true) where
  -- the lowest barren name, or none
  names_decided : ((x : ℕ) × LowestBarren (script_of s) x) ⊎ NoneBarren (script_of s)
  names_decided =
      let n = (script_of s).names in
      let m = closes (names_in (script_of s)) n (contents_over s e) n (λ x. false) (none_earned (names_in (script_of s))) (omega arith) in
      elim (search (λ x. (Name n x) × (m.0 x ≡ false)) (λ x. Name n x → m.0 x ≡ true) (one n m.0) (suc n)) [
        | inl h ↦ inl (
          h.0,
          record {
            is_name = h.2.0;
            barren = unmarked_barren (names_in (script_of s)) n (contents_over s e) m.0 m.2 h.0 h.2.0 h.2.1;
            lowest = λ y k l. m.1 y (h.3 y l k);
          },
        )
        | inr h ↦ inr (λ x k. m.1 x (h x (omega (arith, table_high n x k)) k))
      ]
    where
      one : (n : ℕ) (live : ℕ → Bool) (x : ℕ) → (Name n x × (live x ≡ false)) ⊎ (Name n x → live x ≡ true)
      one n live x = elim (either (in_table n x)) [
        | inl h ↦ elim (either (live x)) [ inl k ↦ inr (λ j. k) | inr k ↦ inl (h, k) ]
        | inr h ↦ inr (λ j. absurd (not_both j h))
      ]

  -- tied places are rows of the sheet
  tied_low : (a b : ℕ) → tied (script_of s) a b ≡ true → (a ≤ (script_of s).types) × (b ≤ (script_of s).types)
  unfolding tied
  tied_low a b h =
      let S = script_of s in
      let z = some_of (λ r. (is_declared S r || is_content S r) && rivals S.type_row S.name_row S.types (model_in S.type_row S.name_row r) a b) S.types h in
      let m = model_in S.type_row S.name_row z.0 in
      let p = and_right (is_declared S z.0 || is_content S z.0) _ z.3 in
      let k = both m (and_right (not (eqb a b) && same_head (head_at S.type_row S.name_row a) (head_at S.type_row S.name_row b)) _ p) in
      (omega (arith, z.2, model_below S.type_row S.name_row (shaped_lower s e) z.0 a k.0), omega (arith, z.2, model_below S.type_row S.name_row (shaped_lower s e) z.0 b k.1))
    where
      both : (m : Model) → (first m a && first m b || some (λ c. follows m c a && follows m c b) (script_of s).types) ≡ true → (has m a ≡ true) × (has m b ≡ true)
      both m h = elim (or_cases (first m a && first m b) _ h) [
        | inl k ↦ (first_has m a (and_left (first m a) (first m b) k), first_has m b (and_right (first m a) (first m b) k))
        | inr k ↦ (let z = some_of (λ c. follows m c a && follows m c b) (script_of s).types k in
            (follows_has m z.0 a (and_left (follows m z.0 a) (follows m z.0 b) z.3), follows_has m z.0 b (and_right (follows m z.0 a) (follows m z.0 b) z.3)))
      ]

  -- the lowest rival of a row, or none
  abbrev Rival : ℕ → ℕ → Type 0
  Rival a b = (tied (script_of s) a b ≡ true) × ((d : ℕ) → d < b → tied (script_of s) a d ≡ false)

  rival_decided : (a : ℕ) → ((b : ℕ) × Rival a b) ⊎ ((b : ℕ) → tied (script_of s) a b ≡ false)
  rival_decided a = elim (search (λ b. tied (script_of s) a b ≡ true) (λ b. tied (script_of s) a b ≡ false) (λ b. either (tied (script_of s) a b)) (suc (script_of s).types)) [
    | inl h ↦ inl (h.0, (h.2, h.3))
    | inr h ↦ inr (λ b. elim (either (tied (script_of s) a b)) [ inl t ↦ absurd (not_both t (h b (omega (arith, (tied_low a b t).1)))) | inr f ↦ f ])
  ]

  -- the tie that is named, or none
  ties_decided : ((a b : ℕ) × Tie (script_of s) a b) ⊎ Untied (script_of s)
  ties_decided = elim (search (λ a. (b : ℕ) × Rival a b) (λ a. (b : ℕ) → tied (script_of s) a b ≡ false) rival_decided (suc (script_of s).types)) [
    | inl h ↦ inl (h.0, h.2.0, record { is = h.2.1.0; lowest = λ c d l. h.3 c l d; rival = h.2.1.1 })
    | inr h ↦ inr (λ a b. elim (either (tied (script_of s) a b)) [ inl t ↦ absurd (not_both t (h a (omega (arith, (tied_low a b t).0)) b)) | inr f ↦ f ])
  ]

-- every set of tables is refused by 2, 3 or 4, or passes
pub loads_some : (s : List ℕ) → (a : Answer) × Loads s a
loads_some s = elim (either (shapely s)) [
  | inl e ↦ elim (names_decided s e) [
    | inl b ↦ (refused (barren b.0), is_barren e b.1)
    | inr n ↦ elim (ties_decided s e) [
      | inl t ↦ (refused (tie t.0 t.1), is_tied e n t.2)
      | inr u ↦ (done, sound e n u)
    ]
  ]
  | inr e ↦ (refused shape, misshapen e)
]

-- ---- a run's reply

module _ (s work result : List ℕ) where
  abbrev RunAnswered : Type 0
  RunAnswered = (R : Reply) × RunReply s work result R

  replied : (a : Answer) (units root : ℕ) (after : List ℕ) → Ran s work result a units root after → RunAnswered
  replied a units root after r = (
    record { answer = a; check_units = 0; run_units = units; root = root; result = after; work = zeroed work },
    record { said = r; no_check = refl; clear = refl },
  )

  -- the units are what is no longer in the purse
  abbrev spent : ℕ
  spent = (sheet_of s).run_fuel - (run_settled s).left

  spent_is : spent + (run_settled s).left ≡ (sheet_of s).run_fuel
  spent_is = omega (arith, within_purse Unasked (settle_settles (run_walk (sheet_of s)) (sheet_of s).run_fuel))

  walk_answered : Loads s done → (grove_of s).rows + (sheet_of s).run_fuel ≤ rows_lent work → (v : Verdict Forest) → (run_settled s).verdict ≡ v → RunAnswered
  walk_answered l n (gives f) e = elim (dec_le (forest_size f) (rows_lent result)) [
    | yes h ↦ replied done spent (forest_size f) (given f result) (gave l n e spent_is h refl refl)
    | no h ↦ replied (refused room) spent 0 result (no_room l n e spent_is (omega arith))
  ]
  walk_answered l n walk.Verdict.fuel e = replied (refused fuel) spent 0 result (ended {r = fuel} l n (rw e refl) spent_is)
  walk_answered l n (stops h) e = replied (refused (stopped h)) spent 0 result (ended {r = stopped h} l n (rw e refl) spent_is)

  -- a reply to run exists for every input
  pub run_answered : (R : Reply) × RunReply s work result R
  run_answered = go (loads_some s).0 (loads_some s).1
    where
      go : (a : Answer) → Loads s a → RunAnswered
      go (refused r) l = replied (refused r) 0 0 result (Ran.unsound l)
      go done l = elim (dec_le ((grove_of s).rows + (sheet_of s).run_fuel) (rows_lent work)) [
        | yes n ↦ walk_answered l n (run_settled s).verdict refl
        | no n ↦ replied (refused scratch) 0 0 result (Ran.no_scratch l (omega arith))
      ]

-- ---- a check's

module _ (s work : List ℕ) where
  abbrev CheckAnswered : Type 0
  CheckAnswered = (R : Reply) × CheckReply s work R

  checked : (a : Answer) (units : ℕ) → Checked s work a units → CheckAnswered
  checked a units c = (
    record { answer = a; check_units = units; run_units = 0; root = 0; result = []; work = zeroed work },
    record { said = c; no_run = refl; no_root = refl; no_result = refl; clear = refl },
  )

  -- a reply to check exists for every input
  pub check_answered : (R : Reply) × CheckReply s work R
  check_answered = go (loads_some s).0 (loads_some s).1
    where
      go : (a : Answer) → Loads s a → CheckAnswered
      go (refused r) l = checked (refused r) 0 (Checked.unsound l)
      go done l = elim (dec_le (sheet_of s).check_fuel (rows_lent work)) [
        | yes n ↦ (let t = check_settles s l (sheet_of s).check_fuel in
            checked (verdict_answer t.0) ((sheet_of s).check_fuel - t.1) (walked l n t.2 refl (omega (arith, within_purse (Judged (names_in (script_of s))) t.2))))
        | no n ↦ checked (refused scratch) 0 (Checked.no_scratch l (omega arith))
      ]

-- ---- a fit's

module _ (s : List ℕ) (t : ℕ) where
  abbrev FitAnswered : Type 0
  FitAnswered = (R : Reply) × FitReply s t R

  fitted : (a : Answer) → Fitted s t a → FitAnswered
  fitted a f = (
    record { answer = a; check_units = 0; run_units = 0; root = 0; result = []; work = [] },
    record { said = f; no_check = refl; no_run = refl; no_root = refl; no_result = refl; no_work = refl },
  )

  -- a reply to fit exists for every input
  pub fit_answered : (R : Reply) × FitReply s t R
  fit_answered = elim (either (in_table (script_of s).types t)) [
    | inl e ↦ go e (loads_some s).0 (loads_some s).1
    | inr e ↦ fitted (refused shape) (no_row e)
  ]
    where
      go : in_table (script_of s).types t ≡ true → (a : Answer) → Loads s a → FitAnswered
      go e (refused r) l = fitted (refused r) (Fitted.unsound e l)
      go e done (sound d n u) = elim (of_or_fault s d t e) [
        | inl o ↦ fitted done (fits e (sound d n u) o)
        | inr w ↦ fitted (refused (unfit w.0)) (misfits e (sound d n u) w.1)
      ]

-- ---- apply's

module _ (s work result : List ℕ) where
  abbrev ApplyAnswered : Type 0
  ApplyAnswered = (R : Reply) × ApplyReply s work result R

  applies : (a : Answer) (u v root : ℕ) (after : List ℕ) → Applied s work result a u v root after → ApplyAnswered
  applies a u v root after p = (
    record { answer = a; check_units = u; run_units = v; root = root; result = after; work = zeroed work },
    record { said = p; clear = refl },
  )

  -- a reply to apply exists for every input
  pub apply_answered : (R : Reply) × ApplyReply s work result R
  apply_answered = let c = check_answered s work in from_check c.0.answer c.0.check_units c.1.said
    where
      from_fit : (u : ℕ) → Checked s work done u → (a : Answer) → Fitted s (script_of s).a a → ApplyAnswered
      from_fit u c (refused r) f = applies (refused r) u 0 0 result (unfitted c f)
      from_fit u c done f = let r = run_answered s work result in
          applies r.0.answer u r.0.run_units r.0.root r.0.result (applied c f r.1.said)

      from_check : (a : Answer) (u : ℕ) → Checked s work a u → ApplyAnswered
      from_check (refused r) u c = applies (refused r) u 0 0 result (unchecked c)
      from_check done u c = let f = fit_answered s (script_of s).a in from_fit u c f.0.answer f.1.said

-- ---- and what the program tells of a bundle

-- something is told of every bundle
pub told_some : (b : List ℕ) → (t : Told) × Tells b t
told_some b = elim (either (framed b)) [
  | inl e ↦ (let r = apply_answered (sheet_in b) lent_work lent_result in let t = (tells_applied b).0 (opened e r.1) in (t.0, t.1))
  | inr e ↦ (loaded block, not_framed e)
]
