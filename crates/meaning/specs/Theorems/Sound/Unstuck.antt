-- Refusal 11 is a run's alone: no load, check or fit is Stuck. And a check gives no Mismatch at a query of kind 11: Shape has it name a tree variable, and the type of that is an atom.
-- For check by the closure scheme `Safe` of walks.
use Prim.Native.Nat.{ℕ, zero, suc, ◌≤◌}
use Rattle.std.specs.Prelude.{◌≡◌, Bool, true, ◌&&◌, get_or}
use Rattle.std.proofs.Math.Path.{refl}
use Rattle.std.proofs.Common.{sym, ap, ◌∙◌, arith}
use Rattle.std.proofs.lemmas.Bool.{false≢true}
use mathlib.Core.List.{List, [], ◌∷◌, ◌++◌}
use Rattle.meaning.specs.Limits.{most_depth}
use Rattle.meaning.specs.Sheet.{Script, script_of}
use Rattle.meaning.specs.Kinds.{Query, Test, Statement, query_at, statement_at, present}
use Rattle.meaning.specs.Types.{Ty, Named, Atom, atom_of, declared, names_in}
use Rattle.meaning.specs.Walk.{Stop, depth, wide, mismatch, outside, stuck, Place, of_query, of_statement, of_output, stop, ret, ◌>>=◌, Verdict, gives, fuel, stops}
use Rattle.meaning.specs.Run.{Fate, misfit, matched, passed, arguments}
use Rattle.meaning.specs.Check.{
  Question,
  Number,
  eight,
  nine,
  unmet,
  Judged,
  too_wide,
  fails,
  Asking,
  Types,
  parts,
  tests,
  picked,
  inside_type,
  rename_type,
  children_type,
  test_type,
  ask_all,
  query_type,
  statement_type,
  types_at,
  declaration,
  infer,
  typing,
  body,
  bodies,
  check_walk,
  infer_by,
  typing_by,
  body_by,
  bodies_by,
  check_by,
}
use Rattle.meaning.specs.Figures.{Atomic, is_text, is_bool, is_label, is_name}
use Rattle.meaning.specs.Shape.{
  Scope,
  a_forest,
  a_tree,
  holds_tree,
  has_place,
  in_scope,
  query_scope,
  arguments_scope,
  statement_scope,
  parameters_scope,
  query_scoped,
  statement_scoped,
  shapely,
}
use Rattle.meaning.specs.Reply.{Refusal, Answer, refused, verdict_answer, Loads, misshapen, is_barren, is_tied, sound, Checked, walked, Fitted, no_row, fits, misfits}
use Rattle.meaning.specs.Laws.Walk.{Fair, Safe, safe_fair, safe_then}
use Rattle.meaning.specs.Laws.Bools.{never, and_left, and_right}
use Rattle.meaning.specs.Laws.Tests.{in_table_lem}
use Rattle.meaning.specs.Laws.Scoped.{statement_parts, main_in_scope, body_in_scope}

-- ---- how a check may stop

module _ (S : Script) where
  -- not the place of a query of kind 11
  abbrev pub Elsewhere : Place → Type 0
  Elsewhere at = (i v : ℕ) → at ≡ of_query i → query_at S i ≡ Query.children v → ⊥

  -- not stuck, and not by Mismatch there
  abbrev Unstuck : Stop → Type 0
  Unstuck depth = Unit {0}
  Unstuck (wide at) = Unit {0}
  Unstuck (mismatch at) = Elsewhere at
  Unstuck (outside at) = Unit {0}
  Unstuck (stuck at) = ⊥

  of_statements : (i : ℕ) → Elsewhere (of_statement i)
  of_statements i j v e h = let z : ◌≡◌ {A = ℕ} 2 1 = ap (λ (p : Place). p.flag) e in absurd (omega arith)

  of_outputs : Elsewhere of_output
  of_outputs j v e h = let z : ◌≡◌ {A = ℕ} 0 1 = ap (λ (p : Place). p.flag) e in absurd (omega arith)

  of_others : (i : ℕ) (c : Query) → query_at S i ≡ c → ((v : ℕ) → c ≡ Query.children v → ⊥) → Elsewhere (of_query i)
  of_others i c e n j v p h = n v (sym e ∙ (ap (λ (p : Place). query_at S p.row) p ∙ h))

  -- a question is asked elsewhere, and stops a walk as Wide or by its number
  abbrev Asked : Question → Type 0
  Asked q = Elsewhere q.place

  judged_unstuck : {names : ℕ → Named} (q : Question) (h : Stop) → Asked q → Judged names q (stop h) → Unstuck h
  judged_unstuck q _ m (too_wide l) = tt
  judged_unstuck q _ m (fails l n) = numbered q.number
    where
      numbered : (k : Number) → Unstuck (unmet k q.place)
      numbered eight = m
      numbered nine = tt

-- ---- the types of the variables: a tree variable's is an atom

pub data Held : Scope → Types → Type 0 where
  held_none : Held [] []
  held_forest : {τ : Ty} {Θ : Scope} {Γ : Types} → Held Θ Γ → Held (a_forest ∷ Θ) (τ ∷ Γ)
  held_tree : {α : Ty} {Θ : Scope} {Γ : Types} → Atomic α → Held Θ Γ → Held (a_tree ∷ Θ) (α ∷ Γ)

held_at : {Θ : Scope} {Γ : Types} → Held Θ Γ → (v : ℕ) → holds_tree (get_or Θ v a_forest) ≡ true → Atomic (get_or Γ v Ty.empty)
unfolding holds_tree
held_at held_none v e = absurd (false≢true e)
held_at (held_forest h) zero e = absurd (false≢true e)
held_at (held_forest h) (suc v) e = held_at h v e
held_at (held_tree a h) zero e = a
held_at (held_tree a h) (suc v) e = held_at h v e

also_forest : {Θ : Scope} {Γ : Types} (τ : Ty) → Held Θ Γ → Held (Θ ++ a_forest ∷ []) (Γ ++ τ ∷ [])
also_forest τ held_none = held_forest held_none
also_forest τ (held_forest h) = held_forest (also_forest τ h)
also_forest τ (held_tree a h) = held_tree a (also_forest τ h)

also_tree : {Θ : Scope} {Γ : Types} {α : Ty} → Atomic α → Held Θ Γ → Held (Θ ++ a_tree ∷ []) (Γ ++ α ∷ [])
also_tree k held_none = held_tree k held_none
also_tree k (held_forest h) = held_forest (also_tree k h)
also_tree k (held_tree a h) = held_tree a (also_tree k h)

held_types : (S : Script) (l : List ℕ) → Held (parameters_scope l) (types_at S l)
unfolding parameters_scope types_at
held_types S [] = held_none
held_types S (r ∷ l) = held_forest (held_types S l)

atomic_atom : (names : ℕ → Named) {α : Ty} → Atomic α → atom_of names α ≡ Atom.no_atom → ⊥
unfolding atom_of
atomic_atom names is_text e = never (cc)
atomic_atom names is_bool e = never (cc)
atomic_atom names is_label e = never (cc)
atomic_atom names is_name e = never (cc)

-- ---- the walk of a sheet that passes Shape

module _ (s : List ℕ) (shape : shapely s ≡ true) where
  abbrev S : Script
  S = script_of s

  abbrev Calm : {A : Type 0} → Asking A → Type 0
  Calm w = Safe (Judged (names_in S)) (Unstuck S) (Asked S) (λ x. Unit {0}) w

  calm_then : {A B : Type 0} (w : Asking A) (k : A → Asking B) → Calm w → ((x : A) → Calm (k x)) → Calm (w >>= k)
  calm_then w k h f = safe_then (Judged (names_in S)) (Unstuck S) (Asked S) (λ x. Unit {0}) (λ x. Unit {0}) w k h λ x p. f x

  calm_parts : (go : Ty → Asking Ty) → ((α : Ty) → Atomic α → Calm (go α)) → (τ : Ty) → Calm (parts go τ)
  unfolding parts Safe
  calm_parts go h Ty.empty = tt
  calm_parts go h Ty.text = h Ty.text is_text
  calm_parts go h Ty.bool = h Ty.bool is_bool
  calm_parts go h (Ty.label n τ) = h (Ty.label n τ) is_label
  calm_parts go h (Ty.seq τ σ) = calm_then (parts go τ) _ (calm_parts go h τ) λ x. calm_then (parts go σ) _ (calm_parts go h σ) λ y. tt
  calm_parts go h (Ty.choice τ σ) = calm_then (parts go τ) _ (calm_parts go h τ) λ x. calm_then (parts go σ) _ (calm_parts go h σ) λ y. tt
  calm_parts go h (Ty.star τ) = calm_then (parts go τ) _ (calm_parts go h τ) λ x. tt
  calm_parts go h (Ty.name x) = h (Ty.name x) is_name

  calm_picked : (k : Fate) (α : Ty) → Calm (picked k α)
  unfolding picked Safe
  calm_picked misfit α = tt
  calm_picked matched α = tt
  calm_picked passed α = tt

  calm_inside : (at : Place) (k : Atom) → (k ≡ Atom.no_atom → ⊥) → Calm (inside_type at k)
  unfolding inside_type Safe
  calm_inside at Atom.no_atom h = absurd (h refl)
  calm_inside at Atom.text h = tt
  calm_inside at Atom.bool h = tt
  calm_inside at (Atom.label n τ) h = tt

  module _ (i : ℕ) where
    abbrev at : Place
    at = of_statement i

    calm_rename : (l : ℕ) (k : Atom) → Calm (rename_type at l k)
    unfolding rename_type Safe
    calm_rename l Atom.no_atom = of_statements S i
    calm_rename l Atom.text = of_statements S i
    calm_rename l Atom.bool = of_statements S i
    calm_rename l (Atom.label n τ) = tt

    calm_children : (k : Atom) (go : Ty → Asking Ty) → ((τ : Ty) → Calm (go τ)) → Calm (children_type at k go)
    unfolding children_type Safe
    calm_children Atom.no_atom go h = of_statements S i
    calm_children Atom.text go h = of_statements S i
    calm_children Atom.bool go h = of_statements S i
    calm_children (Atom.label n τ) go h = calm_then (go τ) _ (h τ) λ x. tt

    calm_test : (k : Fate) (τ : Ty) (go : Ty → Asking Ty) → ((σ : Ty) → Calm (go σ)) → Calm (test_type at k τ go)
    unfolding test_type Safe
    calm_test misfit τ go h = of_statements S i
    calm_test matched τ go h = h τ
    calm_test passed τ go h = tt

    calm_lie : (l m : List Ty) (w : Asking Ty) → Calm w → Calm (ask_all at l m w)
    unfolding ask_all Safe
    calm_lie [] [] w h = h
    calm_lie [] (τ ∷ m) w h = of_statements S i
    calm_lie (σ ∷ l) [] w h = of_statements S i
    calm_lie (σ ∷ l) (τ ∷ m) w h = (of_statements S i, calm_lie l m w h)

  -- rows that are in scope, d levels of depth being left
  abbrev InQuery : ℕ → Scope → ℕ → Type 0
  InQuery d Θ i = query_scoped S d Θ i ≡ true

  abbrev InStatement : ℕ → Scope → ℕ → Type 0
  InStatement d Θ i = statement_scoped S d Θ i ≡ true

  module _ (d : ℕ) (asks : Types → ℕ → Asking Ty) (ah : (Θ : Scope) (Γ : Types) (i : ℕ) → Held Θ Γ → InQuery d Θ i → Calm (asks Γ i)) (Θ : Scope) (Γ : Types) (env : Held Θ Γ) (i : ℕ) where
    -- Shape's tests of the parts
    abbrev Q : ℕ → Bool
    Q = query_scoped S d Θ

    abbrev T : ℕ → Bool
    T = statement_scoped S d Θ

    calm_query : (c : Query) → query_at S i ≡ c → query_scope c (query_scoped S d) Θ ≡ true → Calm (query_type (names_in S) c i asks Γ)
    unfolding query_type query_scope Safe
    calm_query Query.none e o = of_others S i Query.none e λ v f. never (cc)
    calm_query Query.empty e o = tt
    calm_query (Query.join p q) e o = calm_then (asks Γ p) _ (ah Θ Γ p env (and_left (Q p) (Q q) o)) λ x. calm_then (asks Γ q) _ (ah Θ Γ q env (and_right (Q p) (Q q) o)) λ y. tt
    calm_query (Query.tree n q) e o = calm_then (asks Γ q) _ (ah Θ Γ q env o) λ x. tt
    calm_query (Query.text p q) e o = tt
    calm_query (Query.bool b) e o = tt
    calm_query (Query.variable v) e o = tt
    calm_query (Query.letin p q) e o = calm_then (asks Γ p) _ (ah Θ Γ p env (and_left (Q p) (has_place Θ) (and_left (Q p && has_place Θ) (query_scoped S d (Θ ++ a_forest ∷ []) q) o))) λ x.
        ah (Θ ++ a_forest ∷ []) (Γ ++ x ∷ []) q (also_forest x env) (and_right (Q p && has_place Θ) (query_scoped S d (Θ ++ a_forest ∷ []) q) o)
    calm_query (Query.if p q r) e o = calm_then (asks Γ p) _ (ah Θ Γ p env (and_left (Q p) (Q q) (and_left (Q p && Q q) (Q r) o))) λ c. (
      of_others S i (Query.if p q r) e λ v f. never (cc),
      calm_then (asks Γ q) _ (ah Θ Γ q env (and_right (Q p) (Q q) (and_left (Q p && Q q) (Q r) o))) λ x.
          calm_then (asks Γ r) _ (ah Θ Γ r env (and_right (Q p && Q q) (Q r) o)) λ y. tt,
    )
    calm_query (Query.same p q) e o = calm_then (asks Γ p) _ (ah Θ Γ p env (and_left (Q p) (Q q) o)) λ x. calm_then (asks Γ q) _ (ah Θ Γ q env (and_right (Q p) (Q q) o)) λ y.
        let not : Elsewhere S (of_query i) = of_others S i (Query.same p q) e (λ v f. never (cc)) in (not, (not, tt))
    calm_query (Query.children v) e o = calm_inside (of_query i) (atom_of (names_in S) (get_or Γ v Ty.empty))
        (atomic_atom (names_in S) (held_at env v (and_right (in_scope Θ v) (holds_tree (get_or Θ v a_forest)) o)))
    calm_query (Query.pick p l) e o = calm_then (asks Γ p) _ (ah Θ Γ p env o) λ x. calm_parts _ (λ α k. calm_picked (tests (Test.label l) (atom_of (names_in S) α)) α) x
    calm_query (Query.for p q) e o = calm_then (asks Γ p) _ (ah Θ Γ p env (and_left (Q p) (has_place Θ) (and_left (Q p && has_place Θ) (query_scoped S d (Θ ++ a_tree ∷ []) q) o))) λ x.
        calm_parts _ (λ α k. ah (Θ ++ a_tree ∷ []) (Γ ++ α ∷ []) q (also_tree k env) (and_right (Q p && has_place Θ) (query_scoped S d (Θ ++ a_tree ∷ []) q) o)) x

    calm_arguments : (l : List ℕ) → arguments_scope (query_scoped S d Θ) l ≡ true → Calm (arguments (asks Γ) l)
    unfolding arguments arguments_scope Safe
    calm_arguments [] o = tt
    calm_arguments (q ∷ l) o = calm_then (asks Γ q) _ (ah Θ Γ q env (and_left (Q q) (arguments_scope Q l) o)) λ x. calm_then (arguments (asks Γ) l) _
        (calm_arguments l (and_right (Q q) (arguments_scope Q l) o)) λ y. tt

    module _ (go : Types → ℕ → Ty → Asking Ty) (h : (Θ : Scope) (Γ : Types) (p : ℕ) (τ : Ty) → Held Θ Γ → InStatement d Θ p → Calm (go Γ p τ)) (τ : Ty) where
      calm_statement : (c : Statement) → statement_scope c (statement_scoped S d) (query_scoped S d) Θ ≡ true → Calm (statement_type (names_in S) (declaration S) c i go asks Γ τ)
      unfolding statement_type statement_scope Safe
      calm_statement Statement.none o = of_statements S i
      calm_statement Statement.skip o = tt
      calm_statement (Statement.then p q) o = calm_then (go Γ p τ) _ (h Θ Γ p τ env (and_left (T p) (T q) o)) λ x. h Θ Γ q x env (and_right (T p) (T q) o)
      calm_statement (Statement.if p q r) o = calm_then (asks Γ p) _ (ah Θ Γ p env (and_left (Q p) (T q) (and_left (Q p && T q) (T r) o))) λ c. (
        of_statements S i,
        calm_then (go Γ q τ) _ (h Θ Γ q τ env (and_right (Q p) (T q) (and_left (Q p && T q) (T r) o))) λ x.
            calm_then (go Γ r τ) _ (h Θ Γ r τ env (and_right (Q p && T q) (T r) o)) λ y. tt,
      )
      calm_statement (Statement.insert p) o = (of_statements S i, ah Θ Γ p env o)
      calm_statement Statement.delete o = tt
      calm_statement (Statement.rename l) o = calm_rename i l (atom_of (names_in S) τ)
      calm_statement (Statement.letin p q) o = calm_then (asks Γ p) _ (ah Θ Γ p env (and_left (Q p) (has_place Θ) (and_left (Q p && has_place Θ) (statement_scoped S d (Θ ++ a_forest ∷ []) q) o)))
          λ x.
          h (Θ ++ a_forest ∷ []) (Γ ++ x ∷ []) q τ (also_forest x env) (and_right (Q p && has_place Θ) (statement_scoped S d (Θ ++ a_forest ∷ []) q) o)
      calm_statement (Statement.snapshot p) o = h (Θ ++ a_forest ∷ []) (Γ ++ τ ∷ []) p τ (also_forest τ env) (and_right (has_place Θ) (statement_scoped S d (Θ ++ a_forest ∷ []) p) o)
      calm_statement (Statement.test t r) o = calm_test i (tests t (atom_of (names_in S) τ)) τ (go Γ r) (λ σ. h Θ Γ r σ env o)
      calm_statement (Statement.children p) o = calm_children i (atom_of (names_in S) τ) (go Γ p) (λ σ. h Θ Γ p σ env o)
      calm_statement (Statement.left p) o = calm_then (go Γ p Ty.empty) _ (h Θ Γ p Ty.empty env o) λ x. tt
      calm_statement (Statement.right p) o = calm_then (go Γ p Ty.empty) _ (h Θ Γ p Ty.empty env o) λ x. tt
      calm_statement (Statement.iter p) o = calm_parts (go Γ p) (λ α k. h Θ Γ p α env o) τ
      calm_statement (Statement.call c l) o = (
        of_statements S i,
        calm_then (arguments (asks Γ) l) _ (calm_arguments l o) λ x. calm_lie i x (declaration S c).parameters
            (ret (declaration S c).output) tt,
      )

  calm_infer : (d : ℕ) (Θ : Scope) (Γ : Types) (i : ℕ) → Held Θ Γ → InQuery d Θ i → Calm (infer S d Γ i)
  unfolding infer_by query_type query_scoped Safe
  calm_infer zero Θ Γ i env o = tt
  calm_infer (suc d) Θ Γ i env o = calm_query d (infer S d) (calm_infer d) Θ Γ env i (query_at S i) refl o

  calm_typing : (d : ℕ) (Θ : Scope) (Γ : Types) (i : ℕ) (τ : Ty) → Held Θ Γ → InStatement d Θ i → Calm (typing S d Γ i τ)
  unfolding typing_by Safe
  calm_typing zero Θ Γ i τ env o = tt
  calm_typing (suc d) Θ Γ i τ env o = calm_statement d (infer S d) (calm_infer d) Θ Γ env i (typing S d) (calm_typing d) τ (statement_at S i) (statement_parts s shape d i Θ o)

  calm_body : (Θ : Scope) (Γ : Types) (i : ℕ) (τ σ : Ty) → Held Θ Γ → InStatement most_depth Θ i → Calm (body S Γ i τ σ)
  unfolding body_by Safe
  calm_body Θ Γ i τ σ env o = calm_then (typing S most_depth Γ i τ) _ (calm_typing most_depth Θ Γ i τ env o) λ x. (of_outputs S, tt)

  calm_bodies : (n : ℕ) → n ≤ S.procedures → (w : Asking Ty) → Calm w → Calm (bodies S n w)
  unfolding bodies_by
  calm_bodies zero l w h = h
  calm_bodies (suc n) l w h = calm_bodies n (omega arith) _ (calm_then
      (body S (declaration S (suc n)).parameters (S.procedure_row (suc n)).body (declaration S (suc n)).input (declaration S (suc n)).output) _
      (calm_body _ _ _ _ _ (held_types S (present (S.procedure_row (suc n)).first (S.procedure_row (suc n)).second))
      (body_in_scope s shape most_depth (suc n) (in_table_lem S.procedures (suc n) (omega arith) l))) λ x. h)

  calm_check : Calm (check_walk S)
  unfolding check_by
  calm_check = calm_bodies S.procedures (omega arith) _ (calm_body [] [] S.main (declared S S.a) (declared S S.b) held_none (main_in_scope s shape most_depth))

-- refusal 11 is not a load's, a check's or a fit's
pub load_unstuck : {s : List ℕ} {a : Answer} → Loads s a → (at : Place) → a ≡ refused (Refusal.stuck at) → ⊥
load_unstuck (misshapen e) at h = never (cc)
load_unstuck (is_barren e b) at h = never (cc)
load_unstuck (is_tied e n t) at h = never (cc)
load_unstuck (sound e n u) at h = never (cc)

-- how a check's walk ends
check_calm : {s work : List ℕ} {a : Answer} {u : ℕ} → Checked s work a u → (P : Answer → Type 0) → ((r : Refusal) → Loads s (refused r) → P (refused r)) → P (refused Refusal.scratch)
    → ((v : Verdict Ty) → Fair (Judged (names_in (script_of s))) (Unstuck (script_of s)) (Asked (script_of s)) (λ x. Unit {0}) v → P (verdict_answer v)) → P a
check_calm (Checked.unsound l) P f g h = f _ l
check_calm (Checked.no_scratch l n) P f g h = g
check_calm {s} (walked {v = v} (sound shape n u) m t e d) P f g h =
    rw (← e) (h v (safe_fair (Judged (names_in (script_of s))) (Unstuck (script_of s)) (Asked (script_of s)) (judged_unstuck (script_of s)) (λ x. Unit {0}) t (calm_check s shape)))

pub check_unstuck : {s work : List ℕ} {a : Answer} {u : ℕ} → Checked s work a u → (at : Place) → a ≡ refused (Refusal.stuck at) → ⊥
check_unstuck {s} c at = check_calm c (λ a. a ≡ refused (Refusal.stuck at) → ⊥) (λ r l h. load_unstuck l at h) (λ h. never (cc)) go
  where
    go : (v : Verdict Ty) → Fair (Judged (names_in (script_of s))) (Unstuck (script_of s)) (Asked (script_of s)) (λ x. Unit {0}) v → verdict_answer v ≡ refused (Refusal.stuck at) → ⊥
    go (gives τ) f h = never (cc)
    go fuel f h = never (cc)
    go (stops depth) f h = never (cc)
    go (stops (wide p)) f h = never (cc)
    go (stops (mismatch p)) f h = never (cc)
    go (stops (outside p)) f h = never (cc)
    go (stops (stuck p)) f h = f

-- a check gives no Mismatch at children of a variable
pub children_fit : {s work : List ℕ} {a : Answer} {u : ℕ} → Checked s work a u → (i v : ℕ) → query_at (script_of s) i ≡ Query.children v → a ≡ refused (Refusal.mismatch (of_query i)) → ⊥
children_fit {s} c i v is = check_calm c (λ a. a ≡ refused (Refusal.mismatch (of_query i)) → ⊥) load (λ h. never (cc)) go
  where
    load : (r : Refusal) → Loads s (refused r) → refused r ≡ refused (Refusal.mismatch (of_query i)) → ⊥
    load _ (misshapen e) h = never (cc)
    load _ (is_barren e b) h = never (cc)
    load _ (is_tied e n t) h = never (cc)

    go : (v : Verdict Ty) → Fair (Judged (names_in (script_of s))) (Unstuck (script_of s)) (Asked (script_of s)) (λ x. Unit {0}) v → verdict_answer v ≡ refused (Refusal.mismatch (of_query i)) → ⊥
    go (gives τ) f h = never (cc)
    go fuel f h = never (cc)
    go (stops depth) f h = never (cc)
    go (stops (wide p)) f h = never (cc)
    go (stops (mismatch p)) f h = let e : p ≡ of_query i = cc in f i v e is
    go (stops (outside p)) f h = never (cc)
    go (stops (stuck p)) f h = never (cc)

pub fit_unstuck : {s : List ℕ} {t : ℕ} {a : Answer} → Fitted s t a → (at : Place) → a ≡ refused (Refusal.stuck at) → ⊥
fit_unstuck (no_row e) at h = never (cc)
fit_unstuck (Fitted.unsound e l) at h = load_unstuck l at h
fit_unstuck (fits e l o) at h = never (cc)
fit_unstuck (misfits e l o) at h = never (cc)
