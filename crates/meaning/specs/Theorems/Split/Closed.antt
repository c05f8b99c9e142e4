-- A statement without free variables: no row under it names a variable of the n places that are in scope where it stands. What it binds
-- itself stands behind those places, for variables count outermost first;
-- the body of a procedure that it calls sees its parameters only, and is not looked at.
use Rattle.std.specs.Prelude.{ℕ, zero, suc, Bool, true, ◌&&◌, leb}
use Rattle.meaning.specs.Sheet.{Script}
use Rattle.meaning.specs.Kinds.{Query, Statement, query_at, statement_at}
use Rattle.meaning.specs.Shape.{arguments_scope}

-- given what is so of the rows below
module _ (n : ℕ) where
  unfoldable pub query_names_none : Query → (ℕ → Bool) → Bool
  query_names_none Query.none go = true
  query_names_none Query.empty go = true
  query_names_none (Query.join p q) go = go p && go q
  query_names_none (Query.tree l q) go = go q
  query_names_none (Query.text p q) go = true
  query_names_none (Query.bool b) go = true
  query_names_none (Query.variable v) go = leb n v
  query_names_none (Query.letin p q) go = go p && go q
  query_names_none (Query.if p q r) go = go p && (go q && go r)
  query_names_none (Query.same p q) go = go p && go q
  query_names_none (Query.children v) go = leb n v
  query_names_none (Query.pick p l) go = go p
  query_names_none (Query.for p q) go = go p && go q

unfoldable pub statement_names_none : Statement → (ℕ → Bool) → (ℕ → Bool) → Bool
statement_names_none Statement.none go asks = true
statement_names_none Statement.skip go asks = true
statement_names_none (Statement.then p q) go asks = go p && go q
statement_names_none (Statement.if p q r) go asks = asks p && (go q && go r)
statement_names_none (Statement.insert p) go asks = asks p
statement_names_none Statement.delete go asks = true
statement_names_none (Statement.rename l) go asks = true
statement_names_none (Statement.letin p q) go asks = asks p && go q
statement_names_none (Statement.snapshot p) go asks = go p
statement_names_none (Statement.test t r) go asks = go r
statement_names_none (Statement.children p) go asks = go p
statement_names_none (Statement.left p) go asks = go p
statement_names_none (Statement.right p) go asks = go p
statement_names_none (Statement.iter p) go asks = go p
statement_names_none (Statement.call c l) go asks = arguments_scope asks l

-- the row and those under it, in at most k steps down: a walk goes no further than it has levels of depth
module _ (S : Script) (n : ℕ) where
  unfoldable pub query_closed : ℕ → ℕ → Bool
  query_closed zero i = true
  query_closed (suc k) i = query_names_none n (query_at S i) (query_closed k)

  unfoldable pub statement_closed : ℕ → ℕ → Bool
  statement_closed zero i = true
  statement_closed (suc k) i = statement_names_none (statement_at S i) (statement_closed k) (query_closed k)
