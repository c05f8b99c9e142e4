-- One walk of a run goes as another does, up to where it stops for depth. So do the walks of one row from fewer levels of depth and from
-- more, in scopes that differ only in what no row under it names.
use Prim.Native.Nat.{ℕ, zero, suc, ◌+◌, ◌≤◌}
use Rattle.std.specs.Prelude.{◌≡◌, refl, Bool, true, false, ◌&&◌, leb, get_or, length}
use Rattle.std.proofs.Common.{sym, ◌∙◌, ap, arith, length-append, leb-true}
use mathlib.Core.List.{List, [], ◌∷◌, ◌++◌}
use Rattle.meaning.specs.Sheet.{Script}
use Rattle.meaning.specs.Kinds.{Query, Statement, query_at, statement_at}
use Rattle.meaning.specs.Forest.{Text, Tree, Forest, nil, cons, only, ◌⊕◌, count, text_at}
use Rattle.meaning.specs.Walk.{depth, wide, mismatch, outside, stuck, Place, of_query, of_statement, ret, halt, tick, ◌>>=◌}
use Rattle.meaning.specs.Walk.{pay, Quiet, Unasked, Verdict, gives, fuel, stops, Settles, done, halted, short, paid}
use Rattle.meaning.specs.Run.{Env, Seen, nothing, many, a_text, a_bool, a_node, seen, Fate, misfit, matched, passed, tested, inside}
use Rattle.meaning.specs.Run.{kept, copied, each, branch, same_texts, query_of, insert_of, rename_of, test_of, children_of, arguments}
use Rattle.meaning.specs.Run.{statement_of, query, statement}
use Rattle.meaning.specs.Shape.{arguments_scope}
use Rattle.meaning.specs.Laws.Bools.{and_left, and_right}
use Rattle.meaning.specs.Theorems.Split.Closed.{query_names_none, statement_names_none, query_closed, statement_closed}

pub data UpTo {A : Type 0} : Quiet A → Quiet A → Type 0 where
  too_deep : (w : Quiet A) → UpTo (halt depth) w
  same_ret : (x : A) → UpTo (ret x) (ret x)
  same_stuck : (at : Place) → UpTo (halt (stuck at)) (halt (stuck at))
  same_tick : {w w' : Quiet A} → UpTo w w' → UpTo (tick w) (tick w')

-- ---- how such walks end

-- a walk that stops neither for fuel nor for depth
abbrev pub Went : {A : Type 0} → Verdict A → Type 0
Went (gives x) = Unit {0}
Went fuel = ⊥
Went (stops depth) = ⊥
Went (stops (wide at)) = Unit {0}
Went (stops (mismatch at)) = Unit {0}
Went (stops (outside at)) = Unit {0}
Went (stops (stuck at)) = Unit {0}

-- it finishes, or is stuck: a run asks nothing that could be refused otherwise
pub data Ended {A : Type 0} : Verdict A → Type 0 where
  finishes : (x : A) → Ended (gives x)
  is_stuck : (at : Place) → Ended (stops (stuck at))

-- and so does the walk that it goes as
pub up_settles : {A : Type 0} {w w' : Quiet A} {n m : ℕ} {v : Verdict A} → UpTo w w' → Settles Unasked w n v m → Went v
    → Settles Unasked w' n v m × Ended v
up_settles (too_deep w) halted went = absurd went
up_settles (same_ret x) done went = (done, finishes x)
up_settles (same_stuck at) halted went = (halted, is_stuck at)
up_settles (same_tick u) short went = absurd went
up_settles (same_tick u) (paid s) went = let k = up_settles u s went in (paid k.0, k.1)

-- ---- of walks put together

up_ret : {A : Type 0} {x y : A} → x ≡ y → UpTo (ret x) (ret y)
up_ret {x = x} e = rw (← e) (same_ret x)

up_then : {A B : Type 0} {w w' : Quiet A} {k k' : A → Quiet B} → UpTo w w' → ((x : A) → UpTo (k x) (k' x)) → UpTo (w >>= k) (w' >>= k')
unfolding ◌>>=◌
up_then {k' = k'} (too_deep w) f = too_deep (w >>= k')
up_then (same_ret x) f = f x
up_then (same_stuck at) f = same_stuck at
up_then (same_tick u) f = same_tick (up_then u f)

up_pay : {A : Type 0} (n : ℕ) {w w' : Quiet A} → UpTo w w' → UpTo (pay n w) (pay n w')
unfolding pay
up_pay zero u = u
up_pay (suc n) u = same_tick (up_pay n u)

up_copied : (n : ℕ) (f : Forest) → UpTo (copied n f) (copied n f)
up_copied n f = up_pay n (same_ret f)

up_each : {body body' : Forest → Quiet Forest} → ((t : Forest) → UpTo (body t) (body' t)) → (f : Forest) → UpTo (each body f) (each body' f)
unfolding each
up_each h nil = same_ret nil
up_each h (cons t f) = same_tick (up_then (h (only t)) λ x. up_pay (count x) (up_then (up_each h f) λ y. same_ret (x ⊕ y)))

up_branch : (at : Place) (c : Seen) {y y' z z' : Quiet Forest} → UpTo y y' → UpTo z z' → UpTo (branch at c y z) (branch at c y' z')
unfolding branch
up_branch at nothing u v = same_stuck at
up_branch at many u v = same_stuck at
up_branch at (a_text w) u v = same_stuck at
up_branch at (a_bool true) u v = u
up_branch at (a_bool false) u v = v
up_branch at (a_node n f) u v = same_stuck at

up_same : (at : Place) (x y : Seen) → UpTo (same_texts at x y) (same_texts at x y)
unfolding same_texts
up_same at nothing y = same_stuck at
up_same at many y = same_stuck at
up_same at (a_bool b) y = same_stuck at
up_same at (a_node n f) y = same_stuck at
up_same at (a_text w) nothing = same_stuck at
up_same at (a_text w) many = same_stuck at
up_same at (a_text w) (a_bool b) = same_stuck at
up_same at (a_text w) (a_node n f) = same_stuck at
up_same at (a_text w) (a_text v) = up_copied 1 _

up_insert : (at : Place) (f : Forest) {w w' : Quiet Forest} → UpTo w w' → UpTo (insert_of at f w) (insert_of at f w')
unfolding insert_of
up_insert at nil u = u
up_insert at (cons t f) u = same_stuck at

up_rename : (at : Place) (l : ℕ) (c : Seen) → UpTo (rename_of at l c) (rename_of at l c)
unfolding rename_of
up_rename at l nothing = same_stuck at
up_rename at l many = same_stuck at
up_rename at l (a_text w) = same_stuck at
up_rename at l (a_bool b) = same_stuck at
up_rename at l (a_node n f) = up_copied 1 _

up_test : (at : Place) (k : Fate) (f : Forest) {go go' : Forest → Quiet Forest} → ((f : Forest) → UpTo (go f) (go' f))
    → UpTo (test_of at k f go) (test_of at k f go')
unfolding test_of
up_test at misfit f h = same_stuck at
up_test at matched f h = h f
up_test at passed f h = same_ret f

up_children : (at : Place) (c : Seen) {go go' : Forest → Quiet Forest} → ((f : Forest) → UpTo (go f) (go' f))
    → UpTo (children_of at c go) (children_of at c go')
unfolding children_of
up_children at nothing h = same_stuck at
up_children at many h = same_stuck at
up_children at (a_text w) h = same_stuck at
up_children at (a_bool b) h = same_stuck at
up_children at (a_node n f) h = up_then (h f) λ x. up_copied 1 _

-- ---- scopes

-- two scopes for a row: the same one; or two that agree behind the first n places, where no row under it names one of those (`closed`)
pub data Scopes (n : ℕ) (closed : Bool) (γ γ' : Env) : Type 0 where
  same : γ ≡ γ' → Scopes n closed γ γ'
  behind : length γ ≡ length γ' → ((v : ℕ) → n ≤ v → get_or γ v nil ≡ get_or γ' v nil) → closed ≡ true → Scopes n closed γ γ'

past_end : (γ : Env) (v : ℕ) → length γ ≤ v → get_or γ v nil ≡ nil
past_end [] v h = refl
past_end (x ∷ γ) zero h = absurd (omega arith)
past_end (x ∷ γ) (suc v) h = past_end γ v (omega arith)

-- two scopes of n places
pub of_places : {n : ℕ} {closed : Bool} {γ γ' : Env} → length γ ≡ n → length γ' ≡ n → closed ≡ true → Scopes n closed γ γ'
of_places {γ = γ} {γ' = γ'} e e' t = behind (e ∙ sym e') (λ v h. past_end γ v (omega arith) ∙ sym (past_end γ' v (omega arith))) t

module _ {n : ℕ} {γ γ' : Env} where
  for_first : (a b : Bool) → Scopes n (a && b) γ γ' → Scopes n a γ γ'
  for_first a b (same e) = same e
  for_first a b (behind l h t) = behind l h (and_left a b t)

  for_rest : (a b : Bool) → Scopes n (a && b) γ γ' → Scopes n b γ γ'
  for_rest a b (same e) = same e
  for_rest a b (behind l h t) = behind l h (and_right a b t)

  named : (v : ℕ) → Scopes n (leb n v) γ γ' → get_or γ v nil ≡ get_or γ' v nil
  named v (same e) = ap (λ (γ : Env). get_or γ v nil) e
  named v (behind l h t) = h v (leb-true n v t)

-- one more place, of one value
pushed : (x : Forest) (γ γ' : Env) (v : ℕ) → length γ ≡ length γ' → get_or γ v nil ≡ get_or γ' v nil
    → get_or (γ ++ x ∷ []) v nil ≡ get_or (γ' ++ x ∷ []) v nil
pushed x [] [] v l e = refl
pushed x [] (y ∷ γ') v l e = absurd (omega arith)
pushed x (y ∷ γ) [] v l e = absurd (omega arith)
pushed x (y ∷ γ) (z ∷ γ') zero l e = e
pushed x (y ∷ γ) (z ∷ γ') (suc v) l e = pushed x γ γ' v (omega arith) e

with_place : {n : ℕ} {closed : Bool} {γ γ' : Env} (x : Forest) → Scopes n closed γ γ' → Scopes n closed (γ ++ x ∷ []) (γ' ++ x ∷ [])
with_place x (same e) = same (ap (λ (γ : Env). γ ++ x ∷ []) e)
with_place {γ = γ} {γ' = γ'} x (behind l h t) =
    behind (length-append γ (x ∷ []) ∙ ap (λ k. k + 1) l ∙ sym (length-append γ' (x ∷ []))) (λ v k. pushed x γ γ' v l (h v k)) t

-- ---- rows

-- the texts that a query row names have the same bytes in two pools
abbrev pub SameText : (ℕ → ℕ) → (ℕ → ℕ) → Query → Type 0
SameText byte byte' Query.none = Unit {0}
SameText byte byte' Query.empty = Unit {0}
SameText byte byte' (Query.join p q) = Unit {0}
SameText byte byte' (Query.tree n q) = Unit {0}
SameText byte byte' (Query.text p q) = text_at byte p q ≡ text_at byte' p q
SameText byte byte' (Query.bool b) = Unit {0}
SameText byte byte' (Query.variable v) = Unit {0}
SameText byte byte' (Query.letin p q) = Unit {0}
SameText byte byte' (Query.if p q r) = Unit {0}
SameText byte byte' (Query.same p q) = Unit {0}
SameText byte byte' (Query.children v) = Unit {0}
SameText byte byte' (Query.pick p l) = Unit {0}
SameText byte byte' (Query.for p q) = Unit {0}

-- in one pool
pub itself : (byte : ℕ → ℕ) (c : Query) → SameText byte byte c
itself byte Query.none = tt
itself byte Query.empty = tt
itself byte (Query.join p q) = tt
itself byte (Query.tree n q) = tt
itself byte (Query.text p q) = refl
itself byte (Query.bool b) = tt
itself byte (Query.variable v) = tt
itself byte (Query.letin p q) = tt
itself byte (Query.if p q r) = tt
itself byte (Query.same p q) = tt
itself byte (Query.children v) = tt
itself byte (Query.pick p l) = tt
itself byte (Query.for p q) = tt

module _ (n : ℕ) (asks asks' : Env → ℕ → Quiet Forest) (open-for : ℕ → Bool)
    (ah : (γ γ' : Env) (i : ℕ) → Scopes n (open-for i) γ γ' → UpTo (asks γ i) (asks' γ' i)) where
  up_query_of : (byte byte' : ℕ → ℕ) (c : Query) (i : ℕ) (γ γ' : Env) → SameText byte byte' c
      → Scopes n (query_names_none n c open-for) γ γ' → UpTo (query_of byte c i asks γ) (query_of byte' c i asks' γ')
  unfolding query_of query_names_none
  up_query_of byte byte' Query.none i γ γ' t s = same_stuck (of_query i)
  up_query_of byte byte' Query.empty i γ γ' t s = same_ret nil
  up_query_of byte byte' (Query.join p q) i γ γ' t s =
      up_then (ah γ γ' p (for_first (open-for p) _ s)) λ x. up_then (ah γ γ' q (for_rest (open-for p) _ s)) λ y. up_copied (count x) (x ⊕ y)
  up_query_of byte byte' (Query.tree l q) i γ γ' t s = up_then (ah γ γ' q s) λ x. up_copied 1 (only (Tree.node l x))
  up_query_of byte byte' (Query.text p q) i γ γ' t s = up_pay 1 (up_ret (ap (λ (w : Text). only (Tree.text w)) t))
  up_query_of byte byte' (Query.bool b) i γ γ' t s = up_copied 1 (only (Tree.bool b))
  up_query_of byte byte' (Query.variable v) i γ γ' t s = up_ret (named v s)
  up_query_of byte byte' (Query.letin p q) i γ γ' t s =
      up_then (ah γ γ' p (for_first (open-for p) _ s)) λ x. ah (γ ++ x ∷ []) (γ' ++ x ∷ []) q (with_place x (for_rest (open-for p) _ s))
  up_query_of byte byte' (Query.if p q r) i γ γ' t s =
      let rest = for_rest (open-for p) (open-for q && open-for r) s in
      up_then (ah γ γ' p (for_first (open-for p) _ s)) λ c.
      up_branch (of_query i) (seen c) (ah γ γ' q (for_first (open-for q) (open-for r) rest))
      (ah γ γ' r (for_rest (open-for q) (open-for r) rest))
  up_query_of byte byte' (Query.same p q) i γ γ' t s =
      up_then (ah γ γ' p (for_first (open-for p) _ s)) λ x.
      up_then (ah γ γ' q (for_rest (open-for p) _ s)) λ y. up_same (of_query i) (seen x) (seen y)
  up_query_of byte byte' (Query.children v) i γ γ' t s = up_ret (ap (λ (f : Forest). inside (seen f)) (named v s))
  up_query_of byte byte' (Query.pick p l) i γ γ' t s = up_then (ah γ γ' p s) λ x. up_copied (count (kept l x)) (kept l x)
  up_query_of byte byte' (Query.for p q) i γ γ' t s =
      up_then (ah γ γ' p (for_first (open-for p) _ s)) λ x.
      up_each (λ f. ah (γ ++ f ∷ []) (γ' ++ f ∷ []) q (with_place f (for_rest (open-for p) _ s))) x

  up_arguments : (l : List ℕ) (γ γ' : Env) → Scopes n (arguments_scope open-for l) γ γ'
      → UpTo (arguments (asks γ) l) (arguments (asks' γ') l)
  unfolding arguments arguments_scope
  up_arguments [] γ γ' s = same_ret []
  up_arguments (q ∷ l) γ γ' s =
      up_then (ah γ γ' q (for_first (open-for q) _ s)) λ x.
      up_then (up_arguments l γ γ' (for_rest (open-for q) _ s)) λ y. same_ret (x ∷ y)

  module _ (go go' : Env → ℕ → Forest → Quiet Forest) (open-on : ℕ → Bool)
      (h : (γ γ' : Env) (i : ℕ) (f : Forest) → Scopes n (open-on i) γ γ' → UpTo (go γ i f) (go' γ' i f)) (body : ℕ → ℕ) where
    up_statement_of : (c : Statement) (i : ℕ) (γ γ' : Env) (f : Forest) → Scopes n (statement_names_none c open-on open-for) γ γ'
        → UpTo (statement_of c i go asks body γ f) (statement_of c i go' asks' body γ' f)
    unfolding statement_of statement_names_none
    up_statement_of Statement.none i γ γ' f s = same_stuck (of_statement i)
    up_statement_of Statement.skip i γ γ' f s = same_ret f
    up_statement_of (Statement.then p q) i γ γ' f s =
        up_then (h γ γ' p f (for_first (open-on p) _ s)) λ x. h γ γ' q x (for_rest (open-on p) _ s)
    up_statement_of (Statement.if p q r) i γ γ' f s =
        let rest = for_rest (open-for p) (open-on q && open-on r) s in
        up_then (ah γ γ' p (for_first (open-for p) _ s)) λ c.
        up_branch (of_statement i) (seen c) (h γ γ' q f (for_first (open-on q) (open-on r) rest))
        (h γ γ' r f (for_rest (open-on q) (open-on r) rest))
    up_statement_of (Statement.insert p) i γ γ' f s = up_insert (of_statement i) f (ah γ γ' p s)
    up_statement_of Statement.delete i γ γ' f s = same_ret nil
    up_statement_of (Statement.rename l) i γ γ' f s = up_rename (of_statement i) l (seen f)
    up_statement_of (Statement.letin p q) i γ γ' f s =
        up_then (ah γ γ' p (for_first (open-for p) _ s)) λ x. h (γ ++ x ∷ []) (γ' ++ x ∷ []) q f (with_place x (for_rest (open-for p) _ s))
    up_statement_of (Statement.snapshot p) i γ γ' f s = h (γ ++ f ∷ []) (γ' ++ f ∷ []) p f (with_place f s)
    up_statement_of (Statement.test t r) i γ γ' f s = up_test (of_statement i) (tested t (seen f)) f λ g. h γ γ' r g s
    up_statement_of (Statement.children p) i γ γ' f s = up_children (of_statement i) (seen f) λ g. h γ γ' p g s
    up_statement_of (Statement.left p) i γ γ' f s = up_then (h γ γ' p nil s) λ x. up_copied (count x) (x ⊕ f)
    up_statement_of (Statement.right p) i γ γ' f s = up_then (h γ γ' p nil s) λ x. up_copied (count f) (f ⊕ x)
    up_statement_of (Statement.iter p) i γ γ' f s = up_each (λ t. h γ γ' p t s) f
    -- a body sees the arguments alone
    up_statement_of (Statement.call c l) i γ γ' f s = up_then (up_arguments l γ γ' s) λ x. h x x (body c) f (same refl)

-- from fewer levels of depth and from more
module _ (S : Script) (byte byte' : ℕ → ℕ) (texts : (i : ℕ) → SameText byte byte' (query_at S i)) (n : ℕ) where
  up_query : (d d' : ℕ) → d ≤ d' → (γ γ' : Env) (i : ℕ) → Scopes n (query_closed S n d' i) γ γ'
      → UpTo (query S byte d γ i) (query S byte' d' γ' i)
  unfolding query query_closed
  up_query zero d' l γ γ' i s = too_deep _
  up_query (suc d) zero l γ γ' i s = absurd (omega arith)
  up_query (suc d) (suc d') l γ γ' i s =
      same_tick (up_query_of n (query S byte d) (query S byte' d') (query_closed S n d') (up_query d d' (omega arith)) byte byte'
      (query_at S i) i γ γ' (texts i) s)

  pub up_statement : (d d' : ℕ) → d ≤ d' → (γ γ' : Env) (i : ℕ) (f : Forest) → Scopes n (statement_closed S n d' i) γ γ'
      → UpTo (statement S byte d γ i f) (statement S byte' d' γ' i f)
  unfolding statement statement_closed
  up_statement zero d' l γ γ' i f s = too_deep _
  up_statement (suc d) zero l γ γ' i f s = absurd (omega arith)
  up_statement (suc d) (suc d') l γ γ' i f s =
      same_tick (up_statement_of n (query S byte d) (query S byte' d') (query_closed S n d') (up_query d d' (omega arith))
      (statement S byte d) (statement S byte' d') (statement_closed S n d') (up_statement d d' (omega arith))
      (λ c. (S.procedure_row c).body) (statement_at S i) i γ γ' f s)
