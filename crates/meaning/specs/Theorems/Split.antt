-- A description split over two desks: iter of a statement without free variables, on two forests one after the other, and the results
-- joined, is what iter does on the joined forest.
-- On walks, for an iter row anywhere (`split_inside`); on replies of run, for three sheets that differ in forest, root and fuels, and whose
-- main row is an iter (`split`).
-- The units of the whole are the two sums together less 1, for the iter row itself starts once. The whole is stuck exactly if the first
-- half is, or the first finishes and the second is stuck.
pub mod Closed
pub mod Levels
pub mod Texts
use Prim.Native.Nat.{ℕ, zero, suc, ◌+◌, ◌≤◌, ◌<◌}
use Rattle.std.specs.Prelude.{◌≡◌, refl, true, List, [], ◌↔◌, ◌⊎◌, length}
use Rattle.std.proofs.Math.Path.{sym, ap, fun_ext}
use Rattle.std.proofs.Common.{◌∙◌, ap₂, subst, inl, inr, arith}
use Rattle.meaning.specs.Limits.{most_depth}
use Rattle.meaning.specs.Sheet.{Script, script_of, grove_of, sheet_of}
use Rattle.meaning.specs.Kinds.{Statement, statement_at, query_at}
use Rattle.meaning.specs.Forest.{Forest, nil, cons, only, ◌⊕◌, count, forest_of}
use Rattle.meaning.specs.Walk.{Place, Quiet, ret, tick, halt, ◌>>=◌, pay, Unasked, Verdict, gives, stops, Settles, settle, due}
use Rattle.meaning.specs.Walk as walk
use Rattle.meaning.specs.Run.{Env, each, statement_of, statement, run_walk}
use Rattle.meaning.specs.Reply.{Refusal, block, shape, barren, tie, fuel, depth, wide, mismatch, outside, unfit, stuck, scratch, room}
use Rattle.meaning.specs.Reply.{Answer, done, refused, verdict_answer, Loads, Ran, ended, no_room, gave, run_settled, Reply, RunReply}
use Rattle.meaning.specs.Laws.Bools.{never}
use Rattle.meaning.specs.Laws.Forest.{⊕-assoc}
use Rattle.meaning.specs.Laws.Walk.{Other, one_verdict, unasked_single, gives_then, stops_then, then_ret, then_assoc, pay_then}
use Rattle.meaning.specs.Laws.Walk.{settle_settles, due_paid}
use Rattle.meaning.specs.Theorems.ReadBack.{given_back}
use Rattle.meaning.specs.Theorems.Single.{one_load}
use Rattle.meaning.specs.Theorems.Sound.{result_grove}
use Rattle.meaning.specs.Theorems.Sound.Written.{loads_shapely, given_writable}
use Closed.{statement_closed}
use Levels.{UpTo, SameText, itself, Went, Ended, finishes, is_stuck, up_settles, Scopes, same, of_places, up_statement}
use Texts.{texts_same}

-- ---- iter on a joined forest: the walk on the first, then that on the second, then what they give, joined

-- a walk, then another told in two ways
then_same : {A B : Type 0} (w : Quiet A) {k l : A → Quiet B} → ((x : A) → k x ≡ l x) → (w >>= k) ≡ (w >>= l)
then_same w h = ap (λ k. w >>= k) (fun_ext h)

module _ (body : Forest → Quiet Forest) where
  -- on g, after a walk that gave x
  abbrev after_first : Forest → Forest → Quiet Forest
  after_first g x = each body g >>= λ y. ret (x ⊕ y)

  after_more : (x y g : Forest) → (after_first g y >>= λ z. ret (x ⊕ z)) ≡ after_first g (x ⊕ y)
  unfolding ◌>>=◌
  after_more x y g =
      then_assoc (each body g) (λ z. ret (y ⊕ z)) (λ z. ret (x ⊕ z)) ∙ then_same (each body g) λ z. ap ret (sym (⊕-assoc x y z))

  -- the rest of a turn that gave x, where it is so of the rest
  turn_joined : (f g x : Forest) → each body (f ⊕ g) ≡ (each body f >>= after_first g)
      → pay (count x) (each body (f ⊕ g) >>= λ y. ret (x ⊕ y)) ≡ (pay (count x) (each body f >>= λ y. ret (x ⊕ y)) >>= after_first g)
  unfolding ◌>>=◌
  turn_joined f g x e = ap (pay (count x)) (ap (λ w. w >>= λ y. ret (x ⊕ y)) e
      ∙ then_assoc (each body f) (after_first g) (λ y. ret (x ⊕ y)) ∙ then_same (each body f) (λ y. after_more x y g)
      ∙ sym (then_assoc (each body f) (λ y. ret (x ⊕ y)) (after_first g)))
      ∙ sym (pay_then (count x) (each body f >>= λ y. ret (x ⊕ y)) (after_first g))

  pub each_joined : (f g : Forest) → each body (f ⊕ g) ≡ (each body f >>= after_first g)
  unfolding each ◌⊕◌ ◌>>=◌
  each_joined nil g = sym (then_ret (each body g))
  each_joined (cons t f) g = let e = each_joined f g in
      ap tick (then_same (body (only t)) (λ x. turn_joined f g x e)
      ∙ sym (then_assoc (body (only t)) (λ x. pay (count x) (each body f >>= λ y. ret (x ⊕ y))) (after_first g)))

-- ---- how walks end, with their units

-- begun with some purse, a walk ends so, after so many units
pub record Walked {A : Type 0} (w : Quiet A) (v : Verdict A) (units : ℕ) : Type 0 where
  pub purse : ℕ
  pub left : ℕ
  pub settles : Settles Unasked w purse v left
  pub spent : units + left ≡ purse

-- what the halves come to, and what the whole comes to then: verdicts and units
pub data Joins : Verdict Forest → ℕ → Verdict Forest → ℕ → Verdict Forest → ℕ → Type 0 where
  both_finish : {x y : Forest} {u₁ u₂ u : ℕ} → u + 1 ≡ u₁ + u₂ → Joins (gives x) u₁ (gives y) u₂ (gives (x ⊕ y)) u
  first_stuck : {at : Place} {v : Verdict Forest} {u₁ u₂ u : ℕ} → u ≡ u₁
      → Joins (stops (walk.Stop.stuck at)) u₁ v u₂ (stops (walk.Stop.stuck at)) u
  second_stuck : {x : Forest} {at : Place} {u₁ u₂ u : ℕ} → u + 1 ≡ u₁ + u₂
      → Joins (gives x) u₁ (stops (walk.Stop.stuck at)) u₂ (stops (walk.Stop.stuck at)) u

ended_other : {A : Type 0} {v : Verdict A} → Ended v → Other v
ended_other (finishes x) = tt
ended_other (is_stuck at) = tt

ended_went : {A : Type 0} {v : Verdict A} → Ended v → Went v
ended_went (finishes x) = tt
ended_went (is_stuck at) = tt

-- just what falls due is enough, and what is more is left
exactly : {A : Type 0} {w : Quiet A} {n m : ℕ} {v : Verdict A} → Settles Unasked w n v m → Other v → (k : ℕ)
    → Settles Unasked w (due w + k) v k
unfolding due
exactly walk.Settles.done o k = let e : 0 + k ≡ k = omega arith in rw e walk.Settles.done
exactly walk.Settles.halted o k = let e : 0 + k ≡ k = omega arith in rw e walk.Settles.halted
exactly walk.Settles.short o k = absurd o
exactly (walk.Settles.paid {w = w} s) o k =
    let e : suc (due w) + k ≡ suc (due w + k) = omega arith in rw e (walk.Settles.paid (exactly s o k))
exactly (walk.Settles.passed {q = q} j s) o k = absurd q
exactly (walk.Settles.refused {q = q} j) o k = absurd q

-- behind the unit of its own row
tick_exactly : {A : Type 0} {w : Quiet A} {n m : ℕ} {v : Verdict A} → Settles Unasked (tick w) n v m → Other v → (k : ℕ)
    → Settles Unasked w (due w + k) v k
tick_exactly walk.Settles.short o k = absurd o
tick_exactly (walk.Settles.paid s) o k = exactly s o k

behind_tick : {A : Type 0} {w : Quiet A} {v : Verdict A} {u : ℕ} → Walked (tick w) v u → Other v → (k : ℕ)
    → Settles Unasked w (due w + k) v k
behind_tick t o k = tick_exactly t.settles o k

units_due : {A : Type 0} {w : Quiet A} {v : Verdict A} {u : ℕ} → Walked (tick w) v u → Other v → u ≡ suc (due w)
unfolding due
units_due t o = omega (arith, due_paid t.settles o, t.spent)

-- one end, and one number of units
one_walked : {A : Type 0} {w : Quiet A} {v v' : Verdict A} {u u' : ℕ} → Walked (tick w) v u → Walked (tick w) v' u' → Other v → Other v'
    → (v ≡ v') × (u ≡ u')
one_walked t t' o o' =
    ((one_verdict Unasked unasked_single (behind_tick t o 0) (behind_tick t' o' 0)).0, omega (arith, units_due t o, units_due t' o'))

module _ (body : Forest → Quiet Forest) (f g : Forest) {v v₁ v₂ : Verdict Forest} {u u₁ u₂ : ℕ}
    (whole : Walked (tick (each body (f ⊕ g))) v u) (first : Walked (tick (each body f)) v₁ u₁)
    (second : Walked (tick (each body g)) v₂ u₂) where
  abbrev f_due : ℕ
  f_due = due (each body f)

  abbrev g_due : ℕ
  g_due = due (each body g)

  -- what the walk on the first and then on the second comes to, the whole comes to
  so_the_whole : {v' : Verdict Forest} (n : ℕ) → Settles Unasked (each body f >>= after_first body g) n v' 0 → Other v → Other v'
      → (v ≡ v') × (u ≡ suc n)
  so_the_whole {v'} n s o o' =
      let t : Settles Unasked (each body (f ⊕ g)) n v' 0 = rw (each_joined body f g) s in
      one_walked whole (record { purse = suc n; left = 0; settles = walk.Settles.paid t; spent = omega arith }) o o'

  each_splits : Ended v → Ended v₁ → Ended v₂ → Joins v₁ u₁ v₂ u₂ v u
  each_splits e e₁ e₂ = go e₁ e₂ (behind_tick first (ended_other e₁)) (behind_tick second (ended_other e₂))
      (units_due first (ended_other e₁)) (units_due second (ended_other e₂))
    where
      go : {v₁ v₂ : Verdict Forest} → Ended v₁ → Ended v₂ → ((k : ℕ) → Settles Unasked (each body f) (f_due + k) v₁ k)
          → ((k : ℕ) → Settles Unasked (each body g) (g_due + k) v₂ k)
          → u₁ ≡ suc f_due → u₂ ≡ suc g_due → Joins v₁ u₁ v₂ u₂ v u
      go (finishes x) (finishes y) s t p q =
          let k = so_the_whole (f_due + (g_due + 0))
          (gives_then Unasked (after_first body g) (s (g_due + 0)) (gives_then Unasked (λ y. ret (x ⊕ y)) (t 0) walk.Settles.done))
          (ended_other e) tt in
          let units : u + 1 ≡ u₁ + u₂ = omega (arith, k.1) in
          rw k.0 (both_finish units)
      go (finishes x) (is_stuck at) s t p q =
          let k = so_the_whole (f_due + (g_due + 0))
          (gives_then Unasked (after_first body g) (s (g_due + 0)) (stops_then Unasked (λ y. ret (x ⊕ y)) (t 0))) (ended_other e) tt in
          let units : u + 1 ≡ u₁ + u₂ = omega (arith, k.1) in
          rw k.0 (second_stuck units)
      go (is_stuck at) e₂ s t p q =
          let k = so_the_whole (f_due + 0) (stops_then Unasked (after_first body g) (s 0)) (ended_other e) tt in
          let units : u ≡ u₁ = omega (arith, k.1) in
          rw k.0 (first_stuck units)

-- ---- an iter row anywhere, whose body names no variable of its scope

module _ (S : Script) (byte : ℕ → ℕ) (γ : Env) (i p : ℕ) (is : statement_at S i ≡ Statement.iter p) where
  iter_walk : (d : ℕ) (f : Forest) → statement S byte (suc d) γ i f ≡ tick (each (statement S byte d γ p) f)
  unfolding statement statement_of
  iter_walk d f = rw is

  -- from the same depth, in the same scope
  row_splits : (d : ℕ) (f g : Forest) {v v₁ v₂ : Verdict Forest} {u u₁ u₂ : ℕ} → Walked (statement S byte d γ i (f ⊕ g)) v u
      → Walked (statement S byte d γ i f) v₁ u₁ → Walked (statement S byte d γ i g) v₂ u₂
      → Ended v → Ended v₁ → Ended v₂ → Joins v₁ u₁ v₂ u₂ v u
  unfolding statement
  row_splits zero f g w w₁ w₂ e e₁ e₂ = absurd (not_deep w.settles (ended_went e))
    where
      not_deep : {n m : ℕ} {v : Verdict Forest} → Settles Unasked (halt walk.Stop.depth) n v m → Went v → ⊥
      not_deep walk.Settles.halted went = went
  row_splits (suc d) f g w w₁ w₂ e e₁ e₂ = each_splits (statement S byte d γ p) f g (rw (iter_walk d (f ⊕ g)) at w)
      (rw (iter_walk d f) at w₁) (rw (iter_walk d g) at w₂) e e₁ e₂

-- a walk that ends so: it finishes or is stuck
module _ {w : Quiet Forest} {v : Verdict Forest} {u : ℕ} where
  raised : {w' : Quiet Forest} → UpTo w w' → Walked w v u → Went v → Walked w' v u × Ended v
  raised k t went =
      let r = up_settles k t.settles went in
      (record { purse = t.purse; left = t.left; settles = r.0; spent = t.spent }, r.1)

-- row i anywhere: a walk of it from d levels of depth, in the scope γ of n places, that stops neither for fuel nor for depth
module _ (S : Script) (byte : ℕ → ℕ) (n i : ℕ) where
  pub record Here (d : ℕ) (γ : Env) (f : Forest) (v : Verdict Forest) (u : ℕ) : Type 0 where
    pub levels : d ≤ most_depth
    pub places : length γ ≡ n
    pub walked : Walked (statement S byte d γ i f) v u
    pub went : Went v

  as_deep : (γ' : Env) → length γ' ≡ n → statement_closed S n most_depth i ≡ true
      → {d : ℕ} {γ : Env} {f : Forest} {v : Verdict Forest} {u : ℕ} → Here d γ f v u
      → Walked (statement S byte most_depth γ' i f) v u × Ended v
  as_deep γ' e closed {d} {γ} {f} h =
      raised (up_statement S byte byte (λ j. itself byte (query_at S j)) n d most_depth h.levels γ γ' i f
      (of_places h.places e closed)) h.walked h.went

  -- an iter that names no variable of its scope: three walks, in scopes and from depths of their own
  pub split_inside : {p : ℕ} → statement_at S i ≡ Statement.iter p → statement_closed S n most_depth i ≡ true
      → {d d₁ d₂ : ℕ} {γ γ₁ γ₂ : Env} {f g : Forest} {v v₁ v₂ : Verdict Forest} {u u₁ u₂ : ℕ} → Here d γ (f ⊕ g) v u → Here d₁ γ₁ f v₁ u₁
      → Here d₂ γ₂ g v₂ u₂ → Joins v₁ u₁ v₂ u₂ v u
  split_inside {p} is closed {γ = γ} {f = f} {g = g} whole first second =
      let w = as_deep γ whole.places closed whole in
      let a = as_deep γ whole.places closed first in
      let b = as_deep γ whole.places closed second in
      row_splits S byte γ i p is most_depth f g w.0 a.0 b.0 w.1 a.1 b.1

-- ---- replies of run

-- two sheets that differ in forest, root and fuels only: the same script, over a pool of the same bytes
pub record Alike (s s' : List ℕ) : Type 0 where
  pub script : script_of s' ≡ script_of s
  pub pool : (k : ℕ) → k < (grove_of s).pool → (grove_of s').byte k ≡ (grove_of s).byte k

-- a description and its halves: three sheets that load, whose main row is an iter
pub record Halved (s s₁ s₂ : List ℕ) : Type 0 where
  pub loads : Loads s done
  pub loads₁ : Loads s₁ done
  pub loads₂ : Loads s₂ done
  pub alike₁ : Alike s s₁
  pub alike₂ : Alike s s₂
  pub joined : forest_of (grove_of s) ≡ forest_of (grove_of s₁) ⊕ forest_of (grove_of s₂)
  pub body : ℕ
  pub iterates : statement_at (script_of s) (script_of s).main ≡ Statement.iter body

-- a run that stops neither for fuel, nor depth, scratch or room
abbrev pub Unstopped : Answer → Type 0
Unstopped done = Unit {0}
Unstopped (refused block) = Unit {0}
Unstopped (refused shape) = Unit {0}
Unstopped (refused (barren x)) = Unit {0}
Unstopped (refused (tie a b)) = Unit {0}
Unstopped (refused fuel) = ⊥
Unstopped (refused depth) = ⊥
Unstopped (refused (wide at)) = Unit {0}
Unstopped (refused (mismatch at)) = Unit {0}
Unstopped (refused (outside at)) = Unit {0}
Unstopped (refused (unfit x)) = Unit {0}
Unstopped (refused (stuck at)) = Unit {0}
Unstopped (refused scratch) = ⊥
Unstopped (refused room) = ⊥

-- the forest that a run hands out: its result rows, read back over the sheet's pool
abbrev pub handed_out : List ℕ → Reply → Forest
handed_out s R = forest_of (result_grove s R.result R.root)

unstopped_went : (v : Verdict Forest) → Unstopped (verdict_answer v) → Went v
unstopped_went (gives x) o = tt
unstopped_went walk.Verdict.fuel o = o
unstopped_went (stops walk.Stop.depth) o = o
unstopped_went (stops (walk.Stop.wide at)) o = tt
unstopped_went (stops (walk.Stop.mismatch at)) o = tt
unstopped_went (stops (walk.Stop.outside at)) o = tt
unstopped_went (stops (walk.Stop.stuck at)) o = tt

-- its walk, and what is told of it
record Told (s : List ℕ) (a : Answer) (u root : ℕ) (after : List ℕ) : Type 0 where
  verdict : Verdict Forest
  walked : Walked (run_walk (sheet_of s)) verdict u
  went : Went verdict
  answers : verdict_answer verdict ≡ a
  hands_out : (f : Forest) → verdict ≡ gives f → forest_of (result_grove s after root) ≡ f

tells : {s work result after : List ℕ} {a : Answer} {u root : ℕ} → Loads s done → Unstopped a → Ran s work result a u root after
    → Told s a u root after
tells {s} loads o (Ran.unsound l) = never (cc (one_load s l loads))
tells loads o (Ran.no_scratch l n) = absurd o
tells {s} loads o (ended {r = r} l n e d) = record {
  verdict = (run_settled s).verdict;
  walked = record {
    purse = (sheet_of s).run_fuel;
    left = (run_settled s).left;
    settles = settle_settles (run_walk (sheet_of s)) (sheet_of s).run_fuel;
    spent = d;
  };
  went = unstopped_went (run_settled s).verdict (subst Unstopped (sym e) o);
  answers = e;
  hands_out = λ f g. (let h : done ≡ refused r = ap verdict_answer (sym g) ∙ e in never (cc));
}
tells loads o (no_room l n g d x) = absurd o
tells {s} {result = result} {after = after} {root = root} loads o (gave {f = f} l n g d x y z) =
    let t : Settles Unasked (run_walk (sheet_of s)) (sheet_of s).run_fuel (gives f) (run_settled s).left =
    rw g at (settle_settles (run_walk (sheet_of s)) (sheet_of s).run_fuel) in
    let h = given_writable loads f g in
    let back : forest_of (result_grove s after root) ≡ f =
    rw (y, z) (given_back (grove_of s).byte f result h.0 (record { words = h.1; rows = omega arith })) in
    record {
      verdict = gives f;
      walked = record { purse = (sheet_of s).run_fuel; left = (run_settled s).left; settles = t; spent = d };
      went = tt;
      answers = refl;
      hands_out = λ k e. back ∙ (let q : f ≡ k = cc in q);
    }

-- what the three replies say of each other
pub record Splits (s s₁ s₂ : List ℕ) (R R₁ R₂ : Reply) : Type 0 where
  -- the whole finishes exactly if both halves do, and gives what they give, joined
  pub finishes_exactly : (R.answer ≡ done) ↔ ((R₁.answer ≡ done) × (R₂.answer ≡ done))
  pub joined : R₁.answer ≡ done → R₂.answer ≡ done → handed_out s R ≡ handed_out s₁ R₁ ⊕ handed_out s₂ R₂
  -- it is stuck exactly if the first half is, or the first finishes and the second is stuck: at the same row
  pub stuck_exactly : (at : Place)
      → (R.answer ≡ refused (stuck at)) ↔ ((R₁.answer ≡ refused (stuck at)) ⊎ ((R₁.answer ≡ done) × (R₂.answer ≡ refused (stuck at))))
  -- where the first half finishes, the units of the whole are the two sums together less 1; where it is stuck, they are the first's
  pub units : R₁.answer ≡ done → R.run_units + 1 ≡ R₁.run_units + R₂.run_units
  pub first_units_lem : (at : Place) → R₁.answer ≡ refused (stuck at) → R.run_units ≡ R₁.run_units

-- over the whole's pool the walk of a half goes as it does over its own
half_walk : {s s' : List ℕ} → Loads s done → Alike s s'
    → UpTo (run_walk (sheet_of s')) (statement (script_of s) (grove_of s).byte most_depth [] (script_of s).main (forest_of (grove_of s')))
unfolding run_walk sheet_of
half_walk {s} {s'} loads k = rw k.script
    (up_statement (script_of s) (grove_of s').byte (grove_of s).byte
    (texts_same s (loads_shapely loads) (grove_of s').byte (grove_of s).byte k.pool) 0 most_depth most_depth (omega arith) [] []
    (script_of s).main (forest_of (grove_of s')) (same refl))

module _ {s s₁ s₂ : List ℕ} {R R₁ R₂ : Reply} where
  -- from verdicts to replies
  so_the_replies : {v v₁ v₂ : Verdict Forest} → Joins v₁ R₁.run_units v₂ R₂.run_units v R.run_units
      → verdict_answer v ≡ R.answer → verdict_answer v₁ ≡ R₁.answer → verdict_answer v₂ ≡ R₂.answer
      → ((f : Forest) → v ≡ gives f → handed_out s R ≡ f) → ((f : Forest) → v₁ ≡ gives f → handed_out s₁ R₁ ≡ f)
      → ((f : Forest) → v₂ ≡ gives f → handed_out s₂ R₂ ≡ f)
      → Splits s s₁ s₂ R R₁ R₂
  so_the_replies (both_finish {x = x} {y = y} sum) a a₁ a₂ h h₁ h₂ = record {
    finishes_exactly = ((λ e. (sym a₁, sym a₂)), λ e. sym a);
    joined = λ e e'. h (x ⊕ y) refl ∙ ap₂ (λ f g. f ⊕ g) (sym (h₁ x refl)) (sym (h₂ y refl));
    stuck_exactly = λ at. ((λ e. never (cc)), λ k. elim k [ inl e ↦ never (cc) | inr p ↦ (let e = p.1 in never (cc)) ]);
    units = λ e. sum;
    first_units_lem = λ at e. never (cc);
  }
  so_the_replies (first_stuck {at = at} same_units) a a₁ a₂ h h₁ h₂ = record {
    finishes_exactly = ((λ e. never (cc)), λ p. (let e = p.0 in never (cc)));
    joined = λ e e'. never (cc);
    stuck_exactly = λ at'. ((λ e. inl (sym a₁ ∙ a ∙ e)), λ k. elim k [ inl e ↦ sym a ∙ a₁ ∙ e | inr p ↦ (let e = p.0 in never (cc)) ]);
    units = λ e. never (cc);
    first_units_lem = λ at' e. same_units;
  }
  so_the_replies (second_stuck {at = at} sum) a a₁ a₂ h h₁ h₂ = record {
    finishes_exactly = ((λ e. never (cc)), λ p. (let e = p.1 in never (cc)));
    joined = λ e e'. never (cc);
    stuck_exactly = λ at'. ((λ e. inr (sym a₁, sym a₂ ∙ a ∙ e)), λ k. elim k [ inl e ↦ never (cc) | inr p ↦ sym a ∙ a₂ ∙ p.1 ]);
    units = λ e. sum;
    first_units_lem = λ at' e. never (cc);
  }

  -- of three runs, each with its own fuel and lent rows, none of which stops for fuel, depth, scratch or room
  pub split : {work result work₁ result₁ work₂ result₂ : List ℕ} → Halved s s₁ s₂
      → RunReply s work result R → RunReply s₁ work₁ result₁ R₁ → RunReply s₂ work₂ result₂ R₂
      → Unstopped R.answer → Unstopped R₁.answer → Unstopped R₂.answer → Splits s s₁ s₂ R R₁ R₂
  split k r r₁ r₂ o o₁ o₂ =
      let t = tells k.loads o r.said in let t₁ = tells k.loads₁ o₁ r₁.said in let t₂ = tells k.loads₂ o₂ r₂.said in
      let w = raised (half_walk k.loads (record { script = refl; pool = λ j l. refl })) t.walked t.went in
      let w₁ = raised (half_walk k.loads k.alike₁) t₁.walked t₁.went in
      let w₂ = raised (half_walk k.loads k.alike₂) t₂.walked t₂.went in
      so_the_replies (row_splits (script_of s) (grove_of s).byte [] (script_of s).main k.body k.iterates most_depth
      (forest_of (grove_of s₁)) (forest_of (grove_of s₂)) (rw k.joined at w.0) w₁.0 w₂.0 w.1 w₁.1 w₂.1)
      t.answers t₁.answers t₂.answers t.hands_out t₁.hands_out t₂.hands_out
