-- How a run goes (document 01; FLUX, figures 3 and 12): what each row gives, when its units fall due, and where it is stuck.
-- Every row: one level of depth, then one unit; then the focus is tested, then parts run, then their values are tested, then copies take
-- their units.
use Rattle.std.specs.Prelude.{ℕ, zero, suc, Bool, true, false, cond, List, [], ◌∷◌, ◌++◌, eqb, get_or}
use Rattle.meaning.specs.Limits.{most_depth}
use Rattle.meaning.specs.Sheet.{Script, Sheet}
use Rattle.meaning.specs.Kinds.{Query, Test, Statement, query_at, statement_at}
use Rattle.meaning.specs.Forest.{Text, Tree, Forest, nil, cons, only, ◌⊕◌, count, text_at, equal_bytes, forest_of}
use Rattle.meaning.specs.Walk.{depth, stuck, Place, of_query, of_statement, Walk, ret, halt, tick, ◌>>=◌, pay, Quiet}

-- the values of the variables, outermost first
abbrev pub Env : Type 0
Env = List Forest

-- ---- what is looked at

-- a focus, a condition or a side of `same`
pub data Seen : Type 0 where
  nothing many : Seen
  a_text : Text → Seen
  a_bool : Bool → Seen
  a_node : ℕ → Forest → Seen

unfoldable pub seen : Forest → Seen
seen nil = nothing
seen (cons (Tree.text w) nil) = a_text w
seen (cons (Tree.bool b) nil) = a_bool b
seen (cons (Tree.node n f) nil) = a_node n f
seen (cons t (cons u f)) = many

-- does the test match the one tree in focus
pub data Fate : Type 0 where
  misfit matched passed : Fate

abbrev pub if_so : Bool → Fate
if_so b = cond b matched passed

unfoldable pub tested : Test → Seen → Fate
tested Test.text nothing = misfit
tested Test.text many = misfit
tested Test.text (a_text w) = matched
tested Test.text (a_bool b) = passed
tested Test.text (a_node n f) = passed
tested Test.any nothing = misfit
tested Test.any many = misfit
tested Test.any (a_text w) = matched
tested Test.any (a_bool b) = matched
tested Test.any (a_node n f) = matched
tested (Test.label l) nothing = misfit
tested (Test.label l) many = misfit
tested (Test.label l) (a_text w) = passed
tested (Test.label l) (a_bool b) = passed
tested (Test.label l) (a_node n f) = if_so (eqb n l)

-- ---- what is made

-- children of a tree variable; of a text or a bool: ()
unfoldable pub inside : Seen → Forest
inside nothing = nil
inside many = nil
inside (a_text w) = nil
inside (a_bool b) = nil
inside (a_node n f) = f

-- the trees with the label
unfoldable pub kept : ℕ → Forest → Forest
kept l nil = nil
kept l (cons (Tree.text w) f) = kept l f
kept l (cons (Tree.bool b) f) = kept l f
kept l (cons (Tree.node n k) f) = cond (eqb n l) (cons (Tree.node n k) (kept l f)) (kept l f)

-- a copy: its units, then its value
abbrev pub copied : ℕ → Forest → Quiet Forest
copied n f = pay n (ret f)

-- for and iter: 1 at each tree before its body, and then the trees of that body's result
unfoldable pub each : (Forest → Quiet Forest) → Forest → Quiet Forest
each body nil = ret nil
each body (cons t f) = tick (body (only t) >>= λ x. pay (count x) (each body f >>= λ y. ret (x ⊕ y)))

-- ---- where a value is tested

-- a condition is one bool, else Stuck at the if
unfoldable pub branch : Place → Seen → Quiet Forest → Quiet Forest → Quiet Forest
branch at nothing yes_arm no_arm = halt (stuck at)
branch at many yes_arm no_arm = halt (stuck at)
branch at (a_text w) yes_arm no_arm = halt (stuck at)
branch at (a_bool true) yes_arm no_arm = yes_arm
branch at (a_bool false) yes_arm no_arm = no_arm
branch at (a_node n f) yes_arm no_arm = halt (stuck at)

-- both sides are single texts, else Stuck
unfoldable pub same_texts : Place → Seen → Seen → Quiet Forest
same_texts at nothing y = halt (stuck at)
same_texts at many y = halt (stuck at)
same_texts at (a_bool b) y = halt (stuck at)
same_texts at (a_node n f) y = halt (stuck at)
same_texts at (a_text w) nothing = halt (stuck at)
same_texts at (a_text w) many = halt (stuck at)
same_texts at (a_text w) (a_bool b) = halt (stuck at)
same_texts at (a_text w) (a_node n f) = halt (stuck at)
same_texts at (a_text w) (a_text v) = copied 1 (only (Tree.bool (equal_bytes w.bytes v.bytes)))

-- ---- queries, figure 12

-- what a query row does, given what the rows below it do
unfoldable pub query_of : (ℕ → ℕ) → Query → ℕ → (Env → ℕ → Quiet Forest) → Env → Quiet Forest
query_of byte Query.none i go γ = halt (stuck (of_query i))
query_of byte Query.empty i go γ = ret nil
query_of byte (Query.join p q) i go γ = go γ p >>= λ x. go γ q >>= λ y. copied (count x) (x ⊕ y)
query_of byte (Query.tree n q) i go γ = go γ q >>= λ x. copied 1 (only (Tree.node n x))
query_of byte (Query.text p q) i go γ = copied 1 (only (Tree.text (text_at byte p q)))
query_of byte (Query.bool b) i go γ = copied 1 (only (Tree.bool b))
query_of byte (Query.variable v) i go γ = ret (get_or γ v nil)
query_of byte (Query.letin p q) i go γ = go γ p >>= λ x. go (γ ++ x ∷ []) q
query_of byte (Query.if p q r) i go γ = go γ p >>= λ c. branch (of_query i) (seen c) (go γ q) (go γ r)
query_of byte (Query.same p q) i go γ = go γ p >>= λ x. go γ q >>= λ y. same_texts (of_query i) (seen x) (seen y)
query_of byte (Query.children v) i go γ = ret (inside (seen (get_or γ v nil)))
query_of byte (Query.pick p l) i go γ = go γ p >>= λ x. copied (count (kept l x)) (kept l x)
query_of byte (Query.for p q) i go γ = go γ p >>= each (λ t. go (γ ++ t ∷ []) q)

-- ---- statements, figure 3

unfoldable pub insert_of : Place → Forest → Quiet Forest → Quiet Forest
insert_of at nil w = w
insert_of at (cons t f) w = halt (stuck at)

unfoldable pub rename_of : Place → ℕ → Seen → Quiet Forest
rename_of at l nothing = halt (stuck at)
rename_of at l many = halt (stuck at)
rename_of at l (a_text w) = halt (stuck at)
rename_of at l (a_bool b) = halt (stuck at)
rename_of at l (a_node n f) = copied 1 (only (Tree.node l f))

unfoldable pub test_of : Place → Fate → Forest → (Forest → Quiet Forest) → Quiet Forest
test_of at misfit f go = halt (stuck at)
test_of at matched f go = go f
test_of at passed f go = ret f

unfoldable pub children_of : Place → Seen → (Forest → Quiet Forest) → Quiet Forest
children_of at nothing go = halt (stuck at)
children_of at many go = halt (stuck at)
children_of at (a_text w) go = halt (stuck at)
children_of at (a_bool b) go = halt (stuck at)
children_of at (a_node n f) go = go f >>= λ x. copied 1 (only (Tree.node n x))

-- a call's queries, in order
unfoldable pub arguments : {Q A : Type 0} → (ℕ → Walk Q A) → List ℕ → Walk Q (List A)
arguments go [] = ret []
arguments go (q ∷ l) = go q >>= λ x. arguments go l >>= λ y. ret (x ∷ y)

-- what a statement row does, given what the statements and queries below it do, and what a call's body does
unfoldable pub statement_of : Statement → ℕ → (Env → ℕ → Forest → Quiet Forest) → (Env → ℕ → Quiet Forest) → (ℕ → ℕ) → Env → Forest
    → Quiet Forest
statement_of Statement.none i go asks body γ f = halt (stuck (of_statement i))
statement_of Statement.skip i go asks body γ f = ret f
statement_of (Statement.then p q) i go asks body γ f = go γ p f >>= go γ q
statement_of (Statement.if p q r) i go asks body γ f = asks γ p >>= λ c. branch (of_statement i) (seen c) (go γ q f) (go γ r f)
statement_of (Statement.insert p) i go asks body γ f = insert_of (of_statement i) f (asks γ p)
statement_of Statement.delete i go asks body γ f = ret nil
statement_of (Statement.rename l) i go asks body γ f = rename_of (of_statement i) l (seen f)
statement_of (Statement.letin p q) i go asks body γ f = asks γ p >>= λ x. go (γ ++ x ∷ []) q f
statement_of (Statement.snapshot p) i go asks body γ f = go (γ ++ f ∷ []) p f
statement_of (Statement.test t r) i go asks body γ f = test_of (of_statement i) (tested t (seen f)) f (go γ r)
statement_of (Statement.children p) i go asks body γ f = children_of (of_statement i) (seen f) (go γ p)
statement_of (Statement.left p) i go asks body γ f = go γ p nil >>= λ x. copied (count x) (x ⊕ f)
statement_of (Statement.right p) i go asks body γ f = go γ p nil >>= λ x. copied (count f) (f ⊕ x)
statement_of (Statement.iter p) i go asks body γ f = each (go γ p) f
statement_of (Statement.call c l) i go asks body γ f = arguments (asks γ) l >>= λ x. go x (body c) f

-- ---- rows, by the levels of depth that are left

module _ (S : Script) (byte : ℕ → ℕ) where
  unfoldable pub query : ℕ → Env → ℕ → Quiet Forest
  query zero γ i = halt depth
  query (suc d) γ i = tick (query_of byte (query_at S i) i (query d) γ)

  unfoldable pub statement : ℕ → Env → ℕ → Forest → Quiet Forest
  statement zero γ i f = halt depth
  statement (suc d) γ i f = tick (statement_of (statement_at S i) i (statement d) (query d) (λ c. (S.procedure_row c).body) γ f)

-- the whole: main, on the sheet's forest
unfoldable pub run_walk : Sheet → Quiet Forest
run_walk s = statement s.script s.grove.byte most_depth [] s.script.main (forest_of s.grove)
