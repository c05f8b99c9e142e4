-- The reply that an answer of `run` is: this paper's refusal or Done, its units, its root, and every lent byte afterwards.
use Rattle.std.specs.Prelude.{ℕ, ◌≤◌, ◌≡◌, refl, List, length, replicate, Result, Ok, Err, IsErrAnd}
use Rattle.std.proofs.Common.{ap, ◌∙◌, arith}
use Rattle.meaning.specs.Words.{rows_lent, zeroed}
use Rattle.meaning.specs.Reply.{Answer, done, refused, Refusal, shape, barren, tie, fuel, depth, stuck, scratch, room, Reply, Loads}
use Rattle.meaning.specs.Reply as meaning
use Rattle.type_ties.specs.Sound.{unsound_of}
use Rattle.type_ties.specs.declared.Unsound.{Unsound}
use Rattle.type_ties.specs.declared.Unsound.TheVariants as unsound
use Rattle.walk.specs.Concern.{concern_of}
use Rattle.desk.specs.declared.Ran.{Ran}
use Rattle.desk.specs.declared.RunRefusal.{RunRefusal}
use Rattle.desk.specs.declared.RunRefusal.TheVariants.{Shape, Barren, Tie, Fuel, Depth, Stuck, Scratch, Room}

-- the paper's refusal
abbrev pub run_refused : RunRefusal → Refusal
run_refused Shape = shape
run_refused (Barren x) = barren x
run_refused (Tie t) = tie t.row t.rival
run_refused (Fuel units) = fuel
run_refused (Depth units) = depth
run_refused (Stuck at units) = stuck (concern_of at)
run_refused Scratch = scratch
run_refused (Room units) = room

abbrev pub run_unsound : Unsound → RunRefusal
run_unsound (unsound.Barren x) = Barren x
run_unsound (unsound.Tie t) = Tie t

abbrev pub ran_answer : Result Ran RunRefusal → Answer
ran_answer (Ok r) = done
ran_answer (Err why) = refused (run_refused why)

-- the units of a refusal, 0 where the walk did not begin
abbrev pub refused_units : RunRefusal → ℕ
refused_units Shape = 0
refused_units (Barren x) = 0
refused_units (Tie t) = 0
refused_units (Fuel units) = units
refused_units (Depth units) = units
refused_units (Stuck at units) = units
refused_units Scratch = 0
refused_units (Room units) = units

abbrev pub ran_units : Result Ran RunRefusal → ℕ
ran_units (Ok r) = r.units
ran_units (Err why) = refused_units why

abbrev pub ran_root : Result Ran RunRefusal → ℕ
ran_root (Ok r) = r.root
ran_root (Err why) = 0

abbrev pub ran_reply : Result Ran RunRefusal → List ℕ → List ℕ → Reply
ran_reply r result work = record { answer = ran_answer r; check_units = 0; run_units = ran_units r; root = ran_root r; result = result; work = work }

-- what `run` says of the sheet s, lent the rows `work` and `result`, and the result rows afterwards
pub record Says (s work result : List ℕ) (r : Result Ran RunRefusal) (after : List ℕ) : Type 0 where
  pub said : meaning.Ran s work result (ran_answer r) (ran_units r) (ran_root r) after

-- the refusal that a `?` hands on
pub says_exit : {s work result after : List ℕ} {why : RunRefusal} (a : Result Ran RunRefusal) → IsErrAnd a (λ e. e ≡ why) → Says s work result (Err why) after → Says s work result a after
says_exit (Ok r) h x = absurd h
says_exit (Err e) h x = rw h x

-- of a sheet that is not sound
pub says_unsound : {s work result : List ℕ} (u : Unsound) (a : Result Ran RunRefusal) → IsErrAnd a (λ e. e ≡ run_unsound u) → Loads s (refused (unsound_of u)) → Says s work result a result
says_unsound (unsound.Barren x) a h l = says_exit a h (record { said = meaning.Ran.unsound l })
says_unsound (unsound.Tie t) a h l = says_exit a h (record { said = meaning.Ran.unsound l })

-- and the working rows zeroed
pub replied : (s work result mid : List ℕ) {r answer : Result Ran RunRefusal} {after cleared : List ℕ} → Says s work result answer after → r ≡ answer → cleared ≡ zeroed mid → length mid ≡ length work
    → meaning.RunReply s work result (ran_reply r after cleared)
replied s work result mid h e z n = rw e (record { said = h.said; no_check = refl; clear = z ∙ ap (λ (k : ℕ). replicate k 0) n })

-- a result's rows lie in the lent ones
ran_root_lem : {s work result after : List ℕ} {a : Answer} {units root : ℕ} → meaning.Ran s work result a units root after → root ≤ rows_lent result
ran_root_lem (meaning.Ran.unsound l) = omega arith
ran_root_lem (meaning.Ran.no_scratch l h) = omega arith
ran_root_lem (meaning.Ran.ended l h v u) = omega arith
ran_root_lem (meaning.Ran.no_room l h v u r) = omega arith
ran_root_lem (meaning.Ran.gave l h v u n e a) = omega arith

pub root_lent : {s work result : List ℕ} {R : Reply} → meaning.RunReply s work result R → R.root ≤ rows_lent result
root_lent h = ran_root_lem h.said
