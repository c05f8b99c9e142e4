-- How a check goes (document 01; FLUX, figures 4 and 13): the type that each row computes, what it pays and what it asks.
-- Every row: one level of depth, then one unit; then focus, parts, their values, and last the rows written.
use Rattle.std.specs.Prelude.{ℕ, zero, suc, ◌<◌, ◌≤◌, List, [], ◌∷◌, ◌++◌, eqb, get_or}
use Rattle.meaning.specs.Limits.{most_depth, most_width}
use Rattle.meaning.specs.Sheet.{Script}
use Rattle.meaning.specs.Kinds.{Query, Test, Statement, query_at, statement_at, present}
use Rattle.meaning.specs.Types.{Ty, Named, Within, size, Atom, atom_of, declared, names_in}
use Rattle.meaning.specs.Walk.{
  Stop,
  depth,
  wide,
  mismatch,
  outside,
  Place,
  of_query,
  of_statement,
  of_output,
  Walk,
  ret,
  halt,
  tick,
  ask,
  ◌>>=◌,
  Judgement,
  pass,
  stop,
}
use Rattle.meaning.specs.Run.{Fate, misfit, matched, passed, if_so, arguments}

-- ---- questions

-- what an inclusion that does not hold is called: refusal 8 or 9
pub data Number : Type 0 where
  eight nine : Number

abbrev pub unmet : Number → Place → Stop
unmet eight at = mismatch at
unmet nine at = outside at

-- is the found type in the wanted one
pub record Question : Type 0 where
  pub found : Ty
  pub wanted : Ty
  pub number : Number
  pub place : Place

abbrev pub is_in : Ty → Ty → Number → Place → Question
is_in σ τ k at = record { found = σ; wanted = τ; number = k; place = at }

-- Wide first, then 8 or 9. No decision procedure is assumed: inclusion is what it says
pub data Judged (names : ℕ → Named) : Question → Judgement → Type 0 where
  too_wide : {q : Question} → most_width < size q.found → Judged names q (stop (wide q.place))
  holds : {q : Question} → size q.found ≤ most_width → Within names q.found q.wanted → Judged names q pass
  fails : {q : Question} → size q.found ≤ most_width → (Within names q.found q.wanted → ⊥)
      → Judged names q (stop (unmet q.number q.place))

abbrev pub Asking : Type 0 → Type 0
Asking A = Walk Question A

-- the types of the variables, outermost first
abbrev pub Types : Type 0
Types = List Ty

-- a row is written: one unit
abbrev pub written : Ty → Asking Ty
written τ = tick (ret τ)

-- ---- parts of types

-- iter, for and pick: 1 on arrival at each row, the body at each atom, and 1 for each sequence, choice and star rebuilt
unfoldable pub parts : (Ty → Asking Ty) → Ty → Asking Ty
parts go Ty.empty = tick (ret Ty.empty)
parts go Ty.text = tick (go Ty.text)
parts go Ty.bool = tick (go Ty.bool)
parts go (Ty.label n τ) = tick (go (Ty.label n τ))
parts go (Ty.seq τ σ) = tick (parts go τ >>= λ x. parts go σ >>= λ y. written (Ty.seq x y))
parts go (Ty.choice τ σ) = tick (parts go τ >>= λ x. parts go σ >>= λ y. written (Ty.choice x y))
parts go (Ty.star τ) = tick (parts go τ >>= λ x. written (Ty.star x))
parts go (Ty.name x) = tick (go (Ty.name x))

-- does a test match an atom
unfoldable pub tests : Test → Atom → Fate
tests Test.text Atom.no_atom = misfit
tests Test.text Atom.text = matched
tests Test.text Atom.bool = passed
tests Test.text (Atom.label n τ) = passed
tests Test.any Atom.no_atom = misfit
tests Test.any Atom.text = matched
tests Test.any Atom.bool = matched
tests Test.any (Atom.label n τ) = matched
tests (Test.label l) Atom.no_atom = misfit
tests (Test.label l) Atom.text = passed
tests (Test.label l) Atom.bool = passed
tests (Test.label l) (Atom.label n τ) = if_so (eqb n l)

-- an atom under pick: kept, or picked away for one unit
unfoldable pub picked : Fate → Ty → Asking Ty
picked misfit α = ret α
picked matched α = ret α
picked passed α = written Ty.empty

-- ---- where a focus is tested: an atom as written

unfoldable pub test_type : Place → Fate → Ty → (Ty → Asking Ty) → Asking Ty
test_type at misfit τ go = halt (mismatch at)
test_type at matched τ go = go τ
test_type at passed τ go = ret τ

unfoldable pub rename_type : Place → ℕ → Atom → Asking Ty
rename_type at l Atom.no_atom = halt (mismatch at)
rename_type at l Atom.text = halt (mismatch at)
rename_type at l Atom.bool = halt (mismatch at)
rename_type at l (Atom.label n τ) = written (Ty.label l τ)

unfoldable pub children_type : Place → Atom → (Ty → Asking Ty) → Asking Ty
children_type at Atom.no_atom go = halt (mismatch at)
children_type at Atom.text go = halt (mismatch at)
children_type at Atom.bool go = halt (mismatch at)
children_type at (Atom.label n τ) go = go τ >>= λ x. written (Ty.label n x)

-- query 11, by the atom of its variable: the walk's parameter (`rule`)
abbrev pub Rule : Type 0
Rule = Place → Atom → Asking Ty

-- the rule that holds: a label's content; (), a row written, for text and bool. A tree variable has an atom, so it is never Mismatch
-- (Theorems/Sound/Unstuck)
unfoldable pub inside_type : Rule
inside_type at Atom.no_atom = halt (mismatch at)
inside_type at Atom.text = written Ty.empty
inside_type at Atom.bool = written Ty.empty
inside_type at (Atom.label n τ) = ret τ

-- the rule before: a label, else Mismatch. What passed by it still passes (Theorems/Before)
unfoldable pub inside_before : Rule
inside_before at Atom.no_atom = halt (mismatch at)
inside_before at Atom.text = halt (mismatch at)
inside_before at Atom.bool = halt (mismatch at)
inside_before at (Atom.label n τ) = ret τ

-- a call's arguments, asked about in order (Shape gives a call as many as there are parameters)
unfoldable pub ask_all : Place → List Ty → List Ty → Asking Ty → Asking Ty
ask_all at [] [] w = w
ask_all at [] (τ ∷ m) w = halt (mismatch at)
ask_all at (σ ∷ l) [] w = halt (mismatch at)
ask_all at (σ ∷ l) (τ ∷ m) w = ask (is_in σ τ nine at) (ask_all at l m w)

-- ---- queries, figure 13

module _ (rule : Rule) (names : ℕ → Named) where
  unfoldable pub query_by : Query → ℕ → (Types → ℕ → Asking Ty) → Types → Asking Ty
  query_by Query.none i go Γ = halt (mismatch (of_query i))
  query_by Query.empty i go Γ = written Ty.empty
  query_by (Query.join p q) i go Γ = go Γ p >>= λ x. go Γ q >>= λ y. written (Ty.seq x y)
  query_by (Query.tree n q) i go Γ = go Γ q >>= λ x. written (Ty.label n x)
  query_by (Query.text p q) i go Γ = written Ty.text
  query_by (Query.bool b) i go Γ = written Ty.bool
  query_by (Query.variable v) i go Γ = ret (get_or Γ v Ty.empty)
  query_by (Query.letin p q) i go Γ = go Γ p >>= λ x. go (Γ ++ x ∷ []) q
  query_by (Query.if p q r) i go Γ = go Γ p >>= λ c. ask (is_in c Ty.bool eight (of_query i))
      (go Γ q >>= λ x. go Γ r >>= λ y. written (Ty.choice x y))
  query_by (Query.same p q) i go Γ = go Γ p >>= λ x. go Γ q >>= λ y. ask (is_in x Ty.text eight (of_query i))
      (ask (is_in y Ty.text eight (of_query i)) (written Ty.bool))
  query_by (Query.children v) i go Γ = rule (of_query i) (atom_of names (get_or Γ v Ty.empty))
  query_by (Query.pick p l) i go Γ = go Γ p >>= parts (λ α. picked (tests (Test.label l) (atom_of names α)) α)
  query_by (Query.for p q) i go Γ = go Γ p >>= parts (λ α. go (Γ ++ α ∷ []) q)

-- by the rule that holds
unfoldable pub query_type : (ℕ → Named) → Query → ℕ → (Types → ℕ → Asking Ty) → Types → Asking Ty
unfolding query_by
query_type names = query_by inside_type names

-- ---- statements, figure 4

-- a procedure's declaration
pub record Declaration : Type 0 where
  pub parameters : List Ty
  pub input : Ty
  pub output : Ty

module _ (names : ℕ → Named) (declares : ℕ → Declaration) where
  unfoldable pub statement_type : Statement → ℕ → (Types → ℕ → Ty → Asking Ty) → (Types → ℕ → Asking Ty) → Types → Ty → Asking Ty
  statement_type Statement.none i go asks Γ τ = halt (mismatch (of_statement i))
  statement_type Statement.skip i go asks Γ τ = ret τ
  statement_type (Statement.then p q) i go asks Γ τ = go Γ p τ >>= go Γ q
  statement_type (Statement.if p q r) i go asks Γ τ =
      asks Γ p >>= λ c. ask (is_in c Ty.bool eight (of_statement i)) (go Γ q τ >>= λ x. go Γ r τ >>= λ y. written (Ty.choice x y))
  statement_type (Statement.insert p) i go asks Γ τ = ask (is_in τ Ty.empty eight (of_statement i)) (asks Γ p)
  statement_type Statement.delete i go asks Γ τ = written Ty.empty
  statement_type (Statement.rename l) i go asks Γ τ = rename_type (of_statement i) l (atom_of names τ)
  statement_type (Statement.letin p q) i go asks Γ τ = asks Γ p >>= λ x. go (Γ ++ x ∷ []) q τ
  statement_type (Statement.snapshot p) i go asks Γ τ = go (Γ ++ τ ∷ []) p τ
  statement_type (Statement.test t r) i go asks Γ τ = test_type (of_statement i) (tests t (atom_of names τ)) τ (go Γ r)
  statement_type (Statement.children p) i go asks Γ τ = children_type (of_statement i) (atom_of names τ) (go Γ p)
  statement_type (Statement.left p) i go asks Γ τ = go Γ p Ty.empty >>= λ x. written (Ty.seq x τ)
  statement_type (Statement.right p) i go asks Γ τ = go Γ p Ty.empty >>= λ x. written (Ty.seq τ x)
  statement_type (Statement.iter p) i go asks Γ τ = parts (go Γ p) τ
  statement_type (Statement.call c l) i go asks Γ τ =
      ask (is_in τ (declares c).input nine (of_statement i))
      (arguments (asks Γ) l >>= λ x. ask_all (of_statement i) x (declares c).parameters (ret (declares c).output))

-- ---- rows, by the levels of depth that are left

unfoldable pub types_at : Script → List ℕ → List Ty
types_at S [] = []
types_at S (r ∷ l) = declared S r ∷ types_at S l

abbrev pub declaration : Script → ℕ → Declaration
declaration S c = record {
  parameters = types_at S (present (S.procedure_row c).first (S.procedure_row c).second);
  input = declared S (S.procedure_row c).input;
  output = declared S (S.procedure_row c).output;
}

module _ (rule : Rule) (S : Script) where
  unfoldable pub infer_by : ℕ → Types → ℕ → Asking Ty
  infer_by zero Γ i = halt depth
  infer_by (suc d) Γ i = tick (query_by rule (names_in S) (query_at S i) i (infer_by d) Γ)

  unfoldable pub typing_by : ℕ → Types → ℕ → Ty → Asking Ty
  typing_by zero Γ i τ = halt depth
  typing_by (suc d) Γ i τ = tick (statement_type (names_in S) (declaration S) (statement_at S i) i (typing_by d) (infer_by d) Γ τ)

  -- a body, or main, against its declared output
  unfoldable pub body_by : Types → ℕ → Ty → Ty → Asking Ty
  body_by Γ i τ σ = typing_by most_depth Γ i τ >>= λ x. ask (is_in x σ nine of_output) (ret x)

  -- procedures 1 to n, in number order, and then what follows
  unfoldable pub bodies_by : ℕ → Asking Ty → Asking Ty
  bodies_by zero w = w
  bodies_by (suc n) w = bodies_by n (body_by (declaration S (suc n)).parameters (S.procedure_row (suc n)).body
      (declaration S (suc n)).input (declaration S (suc n)).output >>= λ x. w)

  -- the whole: every procedure, then main from A to B
  unfoldable pub check_by : Asking Ty
  check_by = bodies_by S.procedures (body_by [] S.main (declared S S.a) (declared S S.b))

-- by the rule that holds
abbrev pub infer : Script → ℕ → Types → ℕ → Asking Ty
infer S = infer_by inside_type S

abbrev pub typing : Script → ℕ → Types → ℕ → Ty → Asking Ty
typing S = typing_by inside_type S

abbrev pub body : Script → Types → ℕ → Ty → Ty → Asking Ty
body S = body_by inside_type S

abbrev pub bodies : Script → ℕ → Asking Ty → Asking Ty
bodies S = bodies_by inside_type S

abbrev pub check_walk : Script → Asking Ty
check_walk S = check_by inside_type S

-- and by the rule before
abbrev pub check_before : Script → Asking Ty
check_before S = check_by inside_before S
