-- Every script passed before still passes. By the rule before, children of a text or bool variable were Mismatch (`Check.inside_before`); where a check by that rule is done,
-- the check is done with the same type and the same units, for every sheet. By a relation of walks: one goes as another does until that one halts.
use Prim.Native.Nat.{ℕ, zero, suc, ◌+◌, ◌≤◌}
use Rattle.std.specs.Prelude.{◌≡◌, refl, get_or}
use mathlib.Core.List.{List, [], ◌∷◌, ◌++◌}
use Rattle.meaning.specs.Limits.{most_depth}
use Rattle.meaning.specs.Words.{rows_lent}
use Rattle.meaning.specs.Sheet.{Script, sheet_of, script_of}
use Rattle.meaning.specs.Kinds.{Query, Test, Statement, query_at, statement_at}
use Rattle.meaning.specs.Types.{Ty, Atom, atom_of, declared, names_in}
use Rattle.meaning.specs.Walk.{Stop, Place, of_query, of_statement, Judgement, Walk, ret, halt, tick, ask, ◌>>=◌, Verdict, gives, Settles, paid, passed}
use Rattle.meaning.specs.Walk as walk
use Rattle.meaning.specs.Run.{Fate, misfit, matched, arguments}
use Rattle.meaning.specs.Run as run
use Rattle.meaning.specs.Check.{Judged, Asking, Types, Rule, inside_type, inside_before, parts, picked, tests, test_type, rename_type, children_type, ask_all}
use Rattle.meaning.specs.Check.{query_by, statement_type, declaration, infer_by, typing_by, body_by, bodies_by, check_by, check_walk, check_before}
use Rattle.meaning.specs.Reply.{done, Loads, Checked, walked, Reply, CheckReply}
use Rattle.meaning.specs.Theorems.Single.{one_check}

-- ---- the second walk goes as the first, until the first halts

pub data Follows {Q A : Type 0} : Walk Q A → Walk Q A → Type 0 where
  f_ret : {x : A} → Follows (ret x) (ret x)
  f_halt : {h : Stop} {w : Walk Q A} → Follows (halt h) w
  f_tick : {w v : Walk Q A} → Follows w v → Follows (tick w) (tick v)
  f_ask : {q : Q} {w v : Walk Q A} → Follows w v → Follows (ask q w) (ask q v)

-- so what the first gives, the second gives, and as many units are left
pub follows_gives : {Q A : Type 0} (J : Q → Judgement → Type 0) {w v : Walk Q A} {n m : ℕ} {x : A} → Follows w v → Settles J w n (gives x) m → Settles J v n (gives x) m
follows_gives J f_ret walk.done = walk.done
follows_gives J f_halt s = elim s [ ]
follows_gives J (f_tick f) (paid s) = paid (follows_gives J f s)
follows_gives J (f_ask f) (passed j s) = passed j (follows_gives J f s)

follows_self : {Q A : Type 0} (w : Walk Q A) → Follows w w
follows_self (ret x) = f_ret
follows_self (halt h) = f_halt
follows_self (tick w) = f_tick (follows_self w)
follows_self (ask q w) = f_ask (follows_self w)

follows_then : {Q A B : Type 0} {k l : A → Walk Q B} {w v : Walk Q A} → Follows w v → ((x : A) → Follows (k x) (l x)) → Follows (w >>= k) (v >>= l)
unfolding ◌>>=◌
follows_then (f_ret {x = x}) h = h x
follows_then f_halt h = f_halt
follows_then (f_tick f) h = f_tick (follows_then f h)
follows_then (f_ask f) h = f_ask (follows_then f h)

-- ---- the parts of a walk

follows_parts : {go to : Ty → Asking Ty} → ((α : Ty) → Follows (go α) (to α)) → (τ : Ty) → Follows (parts go τ) (parts to τ)
unfolding parts
follows_parts h Ty.empty = f_tick f_ret
follows_parts h Ty.text = f_tick (h Ty.text)
follows_parts h Ty.bool = f_tick (h Ty.bool)
follows_parts h (Ty.label n τ) = f_tick (h (Ty.label n τ))
follows_parts h (Ty.seq τ σ) = f_tick (follows_then (follows_parts h τ) λ x. follows_then (follows_parts h σ) λ y. f_tick f_ret)
follows_parts h (Ty.choice τ σ) = f_tick (follows_then (follows_parts h τ) λ x. follows_then (follows_parts h σ) λ y. f_tick f_ret)
follows_parts h (Ty.star τ) = f_tick (follows_then (follows_parts h τ) λ x. f_tick f_ret)
follows_parts h (Ty.name x) = f_tick (h (Ty.name x))

follows_test : (at : Place) (k : Fate) (τ : Ty) {go to : Ty → Asking Ty} → ((σ : Ty) → Follows (go σ) (to σ)) → Follows (test_type at k τ go) (test_type at k τ to)
unfolding test_type
follows_test at misfit τ h = f_halt
follows_test at matched τ h = h τ
follows_test at run.Fate.passed τ h = f_ret

follows_children : (at : Place) (k : Atom) {go to : Ty → Asking Ty} → ((σ : Ty) → Follows (go σ) (to σ)) → Follows (children_type at k go) (children_type at k to)
unfolding children_type
follows_children at Atom.no_atom h = f_halt
follows_children at Atom.text h = f_halt
follows_children at Atom.bool h = f_halt
follows_children at (Atom.label n τ) h = follows_then (h τ) λ x. f_tick f_ret

follows_arguments : {go to : ℕ → Asking Ty} → ((i : ℕ) → Follows (go i) (to i)) → (l : List ℕ) → Follows (arguments go l) (arguments to l)
unfolding arguments
follows_arguments h [] = f_ret
follows_arguments h (q ∷ l) = follows_then (h q) λ x. follows_then (follows_arguments h l) λ y. f_ret

-- ---- a check by one rule, and by one that follows it

module _ (rule later : Rule) (wider : (at : Place) (k : Atom) → Follows (rule at k) (later at k)) (S : Script) where
  module _ {asks told : Types → ℕ → Asking Ty} (ah : (Γ : Types) (i : ℕ) → Follows (asks Γ i) (told Γ i)) (Γ : Types) (i : ℕ) where
    follows_query : (c : Query) → Follows (query_by rule (names_in S) c i asks Γ) (query_by later (names_in S) c i told Γ)
    unfolding query_by
    follows_query Query.none = f_halt
    follows_query Query.empty = f_tick f_ret
    follows_query (Query.join p q) = follows_then (ah Γ p) λ x. follows_then (ah Γ q) λ y. f_tick f_ret
    follows_query (Query.tree n q) = follows_then (ah Γ q) λ x. f_tick f_ret
    follows_query (Query.text p q) = f_tick f_ret
    follows_query (Query.bool b) = f_tick f_ret
    follows_query (Query.variable v) = f_ret
    follows_query (Query.letin p q) = follows_then (ah Γ p) λ x. ah (Γ ++ x ∷ []) q
    follows_query (Query.if p q r) = follows_then (ah Γ p) λ c. f_ask (follows_then (ah Γ q) λ x. follows_then (ah Γ r) λ y. f_tick f_ret)
    follows_query (Query.same p q) = follows_then (ah Γ p) λ x. follows_then (ah Γ q) λ y. f_ask (f_ask (f_tick f_ret))
    follows_query (Query.children v) = wider (of_query i) (atom_of (names_in S) (get_or Γ v Ty.empty))
    follows_query (Query.pick p l) = follows_then (ah Γ p) (follows_parts λ α. follows_self (picked (tests (Test.label l) (atom_of (names_in S) α)) α))
    follows_query (Query.for p q) = follows_then (ah Γ p) (follows_parts λ α. ah (Γ ++ α ∷ []) q)

    module _ {go to : Types → ℕ → Ty → Asking Ty} (h : (Γ : Types) (i : ℕ) (τ : Ty) → Follows (go Γ i τ) (to Γ i τ)) (τ : Ty) where
      follows_statement : (c : Statement) → Follows (statement_type (names_in S) (declaration S) c i go asks Γ τ) (statement_type (names_in S) (declaration S) c i to told Γ τ)
      unfolding statement_type
      follows_statement Statement.none = f_halt
      follows_statement Statement.skip = f_ret
      follows_statement (Statement.then p q) = follows_then (h Γ p τ) (h Γ q)
      follows_statement (Statement.if p q r) = follows_then (ah Γ p) λ c. f_ask (follows_then (h Γ q τ) λ x. follows_then (h Γ r τ) λ y. f_tick f_ret)
      follows_statement (Statement.insert p) = f_ask (ah Γ p)
      follows_statement Statement.delete = f_tick f_ret
      follows_statement (Statement.rename l) = follows_self (rename_type (of_statement i) l (atom_of (names_in S) τ))
      follows_statement (Statement.letin p q) = follows_then (ah Γ p) λ x. h (Γ ++ x ∷ []) q τ
      follows_statement (Statement.snapshot p) = h (Γ ++ τ ∷ []) p τ
      follows_statement (Statement.test t r) = follows_test (of_statement i) (tests t (atom_of (names_in S) τ)) τ (h Γ r)
      follows_statement (Statement.children p) = follows_children (of_statement i) (atom_of (names_in S) τ) (h Γ p)
      follows_statement (Statement.left p) = follows_then (h Γ p Ty.empty) λ x. f_tick f_ret
      follows_statement (Statement.right p) = follows_then (h Γ p Ty.empty) λ x. f_tick f_ret
      follows_statement (Statement.iter p) = follows_parts (h Γ p) τ
      follows_statement (Statement.call c l) = f_ask (follows_then (follows_arguments (ah Γ) l) λ x. follows_self
          (ask_all (of_statement i) x (declaration S c).parameters (ret (declaration S c).output)))

  follows_infer : (d : ℕ) (Γ : Types) (i : ℕ) → Follows (infer_by rule S d Γ i) (infer_by later S d Γ i)
  unfolding infer_by
  follows_infer zero Γ i = f_halt
  follows_infer (suc d) Γ i = f_tick (follows_query (follows_infer d) Γ i (query_at S i))

  follows_typing : (d : ℕ) (Γ : Types) (i : ℕ) (τ : Ty) → Follows (typing_by rule S d Γ i τ) (typing_by later S d Γ i τ)
  unfolding typing_by
  follows_typing zero Γ i τ = f_halt
  follows_typing (suc d) Γ i τ = f_tick (follows_statement (follows_infer d) Γ i (follows_typing d) τ (statement_at S i))

  follows_body : (Γ : Types) (i : ℕ) (τ σ : Ty) → Follows (body_by rule S Γ i τ σ) (body_by later S Γ i τ σ)
  unfolding body_by
  follows_body Γ i τ σ = follows_then (follows_typing most_depth Γ i τ) λ x. f_ask f_ret

  follows_bodies : (n : ℕ) {w v : Asking Ty} → Follows w v → Follows (bodies_by rule S n w) (bodies_by later S n v)
  unfolding bodies_by
  follows_bodies zero h = h
  follows_bodies (suc n) h = follows_bodies n (follows_then (follows_body _ _ _ _) λ x. h)

  pub follows_check : Follows (check_by rule S) (check_by later S)
  unfolding check_by
  follows_check = follows_bodies S.procedures (follows_body [] S.main (declared S S.a) (declared S S.b))

-- ---- the rule that holds follows the rule before

pub inside_follows : (at : Place) (k : Atom) → Follows (inside_before at k) (inside_type at k)
unfolding inside_before inside_type
inside_follows at Atom.no_atom = f_halt
inside_follows at Atom.text = f_halt
inside_follows at Atom.bool = f_halt
inside_follows at (Atom.label n τ) = f_ret

-- what the check gave before, it gives, and leaves as many units
pub still_gives : (S : Script) {n m : ℕ} {τ : Ty} → Settles (Judged (names_in S)) (check_before S) n (gives τ) m → Settles (Judged (names_in S)) (check_walk S) n (gives τ) m
still_gives S s = follows_gives (Judged (names_in S)) (follows_check inside_before inside_type inside_follows S) s

-- ---- on replies

-- a sheet passed before, with this type and these units: 2 to 4 and 12 are not given, and the walk by the rule before is done
pub record PassedBefore (s work : List ℕ) (τ : Ty) (units : ℕ) : Type 0 where
  pub loads : Loads s done
  pub lent : (sheet_of s).check_fuel ≤ rows_lent work
  pub left : ℕ
  pub settles : Settles (Judged (names_in (script_of s))) (check_before (script_of s)) (sheet_of s).check_fuel (gives τ) left
  pub spent : units + left ≡ (sheet_of s).check_fuel

-- it still passes, with these units
pub still_passes : {s work : List ℕ} {τ : Ty} {units : ℕ} → PassedBefore s work τ units → Checked s work done units
still_passes {s} p = walked p.loads p.lent (still_gives (script_of s) p.settles) refl p.spent

-- and every reply of the check says so
pub still_replies : {s work : List ℕ} {τ : Ty} {units : ℕ} {R : Reply} → PassedBefore s work τ units → CheckReply s work R → (R.answer ≡ done) × (R.check_units ≡ units)
still_replies {s} {work} p c = one_check s work c.said (still_passes p)
