-- A law for each way in which an evaluator of the cycle makes its answer: a part, a place more, a condition, a test, a side, a call, a turn, the loop.
use Prim.Native.Nat.{ℕ}
use Rattle.std.specs.Prelude.{Result, Ok, Err, IsErrAnd}
use native.Mathlib.Omega.{arith}
use mathlib.Core.Path.{◌≡◌, refl, sym, ap, ◌∙◌, subst}
use mathlib.Core.Bool.{Bool, true, false, ◌&&◌}
use mathlib.Core.List.{List, [], ◌∷◌, ◌++◌}
use borrow.Author.Tests.{eq-eqb, ne_eqb}
use lib.Dec.{eqb}
use Rattle.std.specs.Prelude.{cond}
use Rattle.meaning.specs.Sheet.{Cells, script_of}
use Rattle.meaning.specs.Kinds.{Statement, present}
use Rattle.meaning.specs.Forest.{Tree, Forest, nil, only, forest_at}
use Rattle.meaning.specs.Shape.{Holds, a_forest, arguments_scope, parameters_scope, query_scoped, statement_scope, statement_scoped}
use Rattle.meaning.specs.Walk.{Quiet, halt, ret, ◌>>=◌, of_statement, stuck}
use Rattle.meaning.specs.Run.{Seen, a_text, a_bool, a_node, nothing, many, seen, tested, branch, insert_of, rename_of, test_of, children_of, arguments, copied, query, statement, statement_of}
use Rattle.meaning.specs.Run as meaning
use Rattle.meaning.specs.Laws.Bools.{and_left, and_right}
use Rattle.meaning.specs.Laws.Rows.{LowRows, SameRows, forest_at_zero}
use Rattle.meaning.specs.Laws.Walk.{then_assoc}
use Rattle.meaning.specs.Theorems.ReadBack.{lent_row}
use Rattle.sheet.specs.Forms.{test_said}
use Rattle.sheet.specs.declared.forms.Test as forms
use Rattle.walk.specs.Scope.{Fresh, More, Scoped, env_of, env_with, env_fresh}
use Rattle.walk.specs.Meets.{Ready, Finished, Stopped, Meets, met_as, met_of, met_ret, met_then, met_stop, met_exit, stop_then, stop_stuck, forest_kept}
use Rattle.walk.specs.declared.Scope.{Scope}
use Rattle.walk.specs.declared.Purse.{Purse}
use Rattle.walk.specs.declared.Concern.TheVariants as concern
use Rattle.walk.specs.declared.Got.{Got}
use Rattle.walk.specs.declared.Stop.{Stop}
use Rattle.walk.specs.declared.Stop.TheVariants.{Stuck}
use Rattle.forest_rows.specs.Rows.{Pushed, Sees, made}
use Rattle.forest_rows.specs.declared.Seen as looks
use Rattle.forest_rows.specs.Asks.{Arm, arm_branch, branch_stuck}
use Rattle.forest_rows.specs.Each.{Looping}
use Rattle.forest_rows.specs.Table.{read_forest, forest_none}
use Rattle.walk.specs.Fits as walk
use Rattle.walk.specs.Fits.{shape_of, held, shape_with}
use Rattle.run_query.specs.Ask.{pool, asked, env_after, asked_after}
use Rattle.run_statement.specs.Edit.{fits, fits_row, on, went, row_went, body_went, fate_of, fate_told}
use Rattle.run_statement.specs.declared.Fate.{Fate}
use Rattle.run_statement.specs.declared.Fate.TheVariants.{Misfit, Matched, Passed}

-- Stuck at a statement row
pub met_stuck : {w : Quiet Forest} {byte : ℕ → ℕ} {used : ℕ} {old new : List ℕ} (at : ℕ) (p : Purse) → w ≡ halt (stuck (of_statement at)) → Meets w byte p.left used old new (Err (Stuck (concern.Statement at) p))
met_stuck at p h = met_as h (met_stop (stop_stuck (concern.Statement at) p))

-- ---- a test

labelled : (b : Bool) → fate_of (cond b Matched Passed) ≡ meaning.if_so b
labelled true = refl
labelled false = refl

pub fate_is : {byte : ℕ → ℕ} {rows : List ℕ} {root : ℕ} (a : looks.Seen) (t : forms.Test) → Sees byte rows root a → fate_of (fate_told a t) ≡ tested (test_said t) (seen (forest_at byte (lent_row rows) root))
unfolding tested
fate_is looks.Seen.Nothing forms.Test.Text m = rw m.by refl
fate_is looks.Seen.Nothing (forms.Test.Label l) m = rw m.by refl
fate_is looks.Seen.Nothing forms.Test.Any m = rw m.by refl
fate_is looks.Seen.Many forms.Test.Text m = rw m.by refl
fate_is looks.Seen.Many (forms.Test.Label l) m = rw m.by refl
fate_is looks.Seen.Many forms.Test.Any m = rw m.by refl
fate_is (looks.Seen.Text o n) forms.Test.Text m = rw m.by.is refl
fate_is (looks.Seen.Text o n) (forms.Test.Label l) m = rw m.by.is refl
fate_is (looks.Seen.Text o n) forms.Test.Any m = rw m.by.is refl
fate_is (looks.Seen.Bool b) forms.Test.Text m = rw m.by refl
fate_is (looks.Seen.Bool b) (forms.Test.Label l) m = rw m.by refl
fate_is (looks.Seen.Bool b) forms.Test.Any m = rw m.by refl
fate_is (looks.Seen.Node n c) forms.Test.Text m = rw m.by.is refl
fate_is (looks.Seen.Node n c) (forms.Test.Label l) m = rw m.by.is (labelled (eqb n l))
fate_is (looks.Seen.Node n c) forms.Test.Any m = rw m.by.is refl

-- ---- what is no labelled tree

pub rename_none : {v : Seen} (at label : ℕ) → ((n : ℕ) (f : Forest) → v ≡ a_node n f → ⊥) → rename_of (of_statement at) label v ≡ halt (stuck (of_statement at))
unfolding rename_of
rename_none {v = nothing} at label h = refl
rename_none {v = many} at label h = refl
rename_none {v = a_text w} at label h = refl
rename_none {v = a_bool b} at label h = refl
rename_none {v = a_node n f} at label h = absurd (h n f refl)

children_none : {v : Seen} (at : ℕ) (k : Forest → Quiet Forest) → ((n : ℕ) (f : Forest) → v ≡ a_node n f → ⊥) → children_of (of_statement at) v k ≡ halt (stuck (of_statement at))
unfolding children_of
children_none {v = nothing} at k h = refl
children_none {v = many} at k h = refl
children_none {v = a_text w} at k h = refl
children_none {v = a_bool b} at k h = refl
children_none {v = a_node n f} at k h = absurd (h n f refl)

-- ---- parts: rows and t are the rows before and after the first

module _ (s : List ℕ) (d : ℕ) {rows : List ℕ} {e : Scope} {used focus left : ℕ} (ready : Ready rows e used focus left) where
  abbrev go : List Forest → ℕ → Forest → Quiet Forest
  go = statement (script_of s) (pool s) d

  abbrev before : Forest
  before = on s rows focus

  -- the focus as a variable
  pub snapshot_met : {e' : Scope} {u : List ℕ} {a : Result Got Stop} (p : ℕ) → More e e' 1 focus → Meets (went s rows e' d p focus) (pool s) left used rows u a → Meets (row_went s rows e d 0 (Statement.snapshot p) focus) (pool s) left used rows u a
  unfolding statement_of
  snapshot_met p m b = met_as (ap (λ (γ : List Forest). go γ p before) (sym (env_with (pool s) rows m))) b

  -- a test
  module _ {f : Fate} (at : ℕ) (t : forms.Test) (r : ℕ) (is : fate_of f ≡ tested (test_said t) (seen (on s rows focus))) where
    test_is : {g : Fate} → f ≡ g → test_of (of_statement at) (fate_of g) before (go (env_of (pool s) rows e) r) ≡ row_went s rows e d at (Statement.test (test_said t) r) focus
    unfolding statement_of
    test_is {g} h = ap (λ (v : meaning.Fate). test_of (of_statement at) v before (go (env_of (pool s) rows e) r)) (sym (ap fate_of h) ∙ is)

    pub test_misfit : {old new : List ℕ} {byte : ℕ → ℕ} {n : ℕ} (pu : Purse) → f ≡ Misfit → Meets (row_went s rows e d at (Statement.test (test_said t) r) focus) byte pu.left n old new (Err (Stuck (concern.Statement at) pu))
    unfolding test_of
    test_misfit pu h = met_stuck at pu (sym (test_is h))

    pub test_matched : {byte : ℕ → ℕ} {old new : List ℕ} {m n : ℕ} {a : Result Got Stop} → f ≡ Matched → Meets (went s rows e d r focus) byte m n old new a → Meets (row_went s rows e d at (Statement.test (test_said t) r) focus) byte m n old new a
    unfolding test_of
    test_matched h b = met_as (sym (test_is h)) b

    pub test_passed : f ≡ Passed → (pu : Purse) → Meets (row_went s rows e d at (Statement.test (test_said t) r) focus) (pool s) pu.left used rows rows (Ok (record { root = focus; left = record { used = used; purse = pu } }))
    unfolding test_of
    test_passed h pu = met_as (sym (test_is h)) (met_of (met_ret pu.left ready.roomy.low ready.focus))

  -- children
  module _ (at p : ℕ) {v : Seen} (is : seen (on s rows focus) ≡ v) where
    children_is : children_of (of_statement at) v (go (env_of (pool s) rows e) p) ≡ row_went s rows e d at (Statement.children p) focus
    unfolding statement_of
    children_is = ap (λ (x : Seen). children_of (of_statement at) x (go (env_of (pool s) rows e) p)) (sym is)

  module _ (at p : ℕ) (other : (n : ℕ) (f : Forest) → seen (on s rows focus) ≡ a_node n f → ⊥) where
    pub children_stuck : {byte : ℕ → ℕ} {n : ℕ} {old new : List ℕ} (pu : Purse) → Meets (row_went s rows e d at (Statement.children p) focus) byte pu.left n old new (Err (Stuck (concern.Statement at) pu))
    children_stuck pu = met_stuck at pu (sym (children_is at p refl) ∙ children_none at (go (env_of (pool s) rows e) p) other)

  module _ (at p : ℕ) {label : ℕ} (c : ℕ) (is : seen (on s rows focus) ≡ a_node label (on s rows c)) where
    pub children_stop : {why : Stop} → Stopped (went s rows e d p c) left why → Stopped (row_went s rows e d at (Statement.children p) focus) left why
    unfolding children_of
    children_stop {why} m = subst (λ (w : Quiet Forest). Stopped w left why) (children_is at p is) (stop_then (λ (x : Forest). copied 1 (only (Tree.node label x))) m)

    pub children_met : {t u : List ℕ} {root n left' : ℕ} {a : Result Got Stop} → Finished (went s rows e d p c) (pool s) left used rows t root n left' → Meets (made (pool s) t 4 label root) (pool s) left' n t u a → Meets (row_went s rows e d at (Statement.children p) focus) (pool s) left used rows u a
    unfolding children_of
    children_met f m = met_as (sym (children_is at p is)) (met_then (λ (x : Forest). copied 1 (only (Tree.node label x))) f m)

  -- what is made on () beside the focus
  module _ (p : ℕ) (k : Forest → Forest → Quiet Forest) where
    abbrev beside : Quiet Forest
    beside = go (env_of (pool s) rows e) p nil >>= λ x. k x before

    beside_is : (went s rows e d p 0 >>= λ x. k x before) ≡ beside
    beside_is = ap (λ (f : Forest). go (env_of (pool s) rows e) p f >>= λ x. k x before) (forest_at_zero (pool s) (lent_row rows))

    pub beside_stop : {why : Stop} → Stopped (went s rows e d p 0) left why → Stopped beside left why
    beside_stop {why} m = subst (λ (w : Quiet Forest). Stopped w left why) beside_is (stop_then (λ (x : Forest). k x before) m)

  module _ {w : Quiet Forest} {t : List ℕ} {root n left' : ℕ} (f : Finished w (pool s) left used rows t root n left') where
    env_kept : env_of (pool s) t e ≡ env_of (pool s) rows e
    env_kept = env_after s rows t ready.roomy.low f.same ready.scoped

    focus_kept : on s t focus ≡ on s rows focus
    focus_kept = forest_kept (pool s) used (lent_row rows) (lent_row t) focus ready.roomy.low f.same ready.focus

    went_kept : (q : ℕ) → went s t e d q focus ≡ went s rows e d q focus
    went_kept q = ap (λ (γ : List Forest). go γ q (on s t focus)) env_kept ∙ ap (go (env_of (pool s) rows e) q) focus_kept

    -- a scope of other places, whose environment is known
    went_env : (e' : Scope) (γ : List Forest) (q : ℕ) → env_of (pool s) t e' ≡ γ → went s t e' d q focus ≡ go γ q before
    went_env e' γ q h = ap (λ (γ : List Forest). go γ q (on s t focus)) h ∙ ap (go γ q) focus_kept

  pub beside_met : {t u : List ℕ} {root n left' : ℕ} {a : Result Got Stop} (p : ℕ) (k : Forest → Forest → Quiet Forest) → Finished (went s rows e d p 0) (pool s) left used rows t root n left' → Meets (k (on s t root) (on s t focus)) (pool s) left' n t u a → Meets (beside p k) (pool s) left used rows u a
  beside_met {t} {root = root} p k f m = met_as (sym (beside_is p k)) (met_then (λ (x : Forest). k x before) f (met_as (ap (k (on s t root)) (sym (focus_kept f))) m))

  -- two statements
  pub then_met : {t u : List ℕ} {root n left' : ℕ} {a : Result Got Stop} (p q : ℕ) → Finished (went s rows e d p focus) (pool s) left used rows t root n left' → Meets (went s t e d q root) (pool s) left' n t u a → Meets (row_went s rows e d 0 (Statement.then p q) focus) (pool s) left used rows u a
  unfolding statement_of
  then_met {t} {root = root} p q f m = met_then (go (env_of (pool s) rows e) q) f (met_as (ap (λ (γ : List Forest). go γ q (on s t root)) (sym (env_kept f))) m)

  -- after a query
  module _ {t : List ℕ} {root n left' : ℕ} (p : ℕ) (f : Finished (asked s rows e d p) (pool s) left used rows t root n left') where
    -- a variable more
    pub let_met : {e' : Scope} {u : List ℕ} {a : Result Got Stop} (q : ℕ) → More e e' 1 root → Meets (went s t e' d q focus) (pool s) left' n t u a → Meets (row_went s rows e d 0 (Statement.letin p q) focus) (pool s) left used rows u a
    unfolding statement_of
    let_met {e'} q m b =
        let γ : List Forest = env_of (pool s) rows e ++ on s t root ∷ [] in
        met_then (λ (x : Forest). go (env_of (pool s) rows e ++ x ∷ []) q before) f
        (met_as (sym (went_env f e' γ q (env_with (pool s) t m ∙ ap (λ (γ : List Forest). γ ++ on s t root ∷ []) (env_kept f)))) b)

    -- a condition
    module _ (at q r : ℕ) where
      abbrev chosen : Forest → Quiet Forest
      chosen x = branch (of_statement at) (seen x) (went s rows e d q focus) (went s rows e d r focus)

      pub choose_met : {u : List ℕ} {a : Result Got Stop} {b : Bool} {arm : ℕ} → seen (on s t root) ≡ a_bool b → Arm b q r arm → Meets (went s t e d arm focus) (pool s) left' n t u a → Meets (row_went s rows e d at (Statement.if p q r) focus) (pool s) left used rows u a
      unfolding statement_of
      choose_met {arm = arm} is so m = met_then chosen f (met_as (ap (λ (v : Seen). branch (of_statement at) v (went s rows e d q focus) (went s rows e d r focus)) is
          ∙ arm_branch (of_statement at) (λ (i : ℕ). went s rows e d i focus) so ∙ sym (went_kept f arm)) m)

      pub choose_stuck : ((b : Bool) → seen (on s t root) ≡ a_bool b → ⊥) → (pu : Purse) → left' ≡ pu.left → Meets (row_went s rows e d at (Statement.if p q r) focus) (pool s) left used rows t (Err (Stuck (concern.Statement at) pu))
      unfolding statement_of
      choose_stuck other pu el = met_then chosen f (subst (λ (j : ℕ). Meets (chosen (on s t root)) (pool s) j n t t (Err (Stuck (concern.Statement at) pu))) (sym el)
          (met_stuck at pu (branch_stuck (of_statement at) (went s rows e d q focus) (went s rows e d r focus) other)))

-- ---- a call

present_none : (q r : ℕ) → q ≡ 0 → present q r ≡ []
present_none q r e = rw (eq-eqb q 0 e)

present_one : (q r : ℕ) → (q ≡ 0 → ⊥) → r ≡ 0 → present q r ≡ q ∷ []
present_one q r f e = rw (ne_eqb q 0 f, eq-eqb r 0 e)

present_two : (q r : ℕ) → (q ≡ 0 → ⊥) → (r ≡ 0 → ⊥) → present q r ≡ q ∷ r ∷ []
present_two q r f g = rw (ne_eqb q 0 f, ne_eqb r 0 g)

-- with a first argument
first_of : (q r : ℕ) → (q ≡ 0 → ⊥) → (l : List ℕ) × (present q r ≡ q ∷ l)
first_of q r f = go (eqb r 0) refl
  where
    go : (b : Bool) → eqb r 0 ≡ b → (l : List ℕ) × (present q r ≡ q ∷ l)
    go true h = ([], rw (ne_eqb q 0 f, h))
    go false h = (r ∷ [], rw (ne_eqb q 0 f, h))

shape_none : {g : Scope} → Fresh g → shape_of g ≡ []
unfolding held
shape_none {g} fresh = rw fresh.none

shape_one : {g g1 : Scope} {x : ℕ} → Fresh g → More g g1 1 x → shape_of g1 ≡ a_forest ∷ []
shape_one {g} fresh m = shape_with m ∙ ap (λ (l : List Holds). l ++ a_forest ∷ []) (shape_none fresh)

shape_two : {g g1 g2 : Scope} {x y : ℕ} → Fresh g → More g g1 1 x → More g1 g2 1 y → shape_of g2 ≡ a_forest ∷ a_forest ∷ []
shape_two fresh m n = shape_with n ∙ ap (λ (l : List Holds). l ++ a_forest ∷ []) (shape_one fresh m)

-- the body finds its parameters
module _ (s : List ℕ) (d c q r : ℕ) {body : ℕ} (is : body ≡ ((script_of s).procedure_row c).body) (h : statement_scoped (script_of s) d (parameters_scope (present q r)) ((script_of s).procedure_row c).body ≡ true) where
  finds : (g : Scope) (l : List ℕ) → present q r ≡ l → shape_of g ≡ parameters_scope l → fits s d g body ≡ true
  finds g l e i = rw (i, is, ← e) h

  pub finds_none : {g : Scope} → Fresh g → q ≡ 0 → fits s d g body ≡ true
  unfolding parameters_scope
  finds_none {g} fresh e = finds g [] (present_none q r e) (shape_none fresh)

  pub finds_one : {g g1 : Scope} {x : ℕ} → Fresh g → More g g1 1 x → (q ≡ 0 → ⊥) → r ≡ 0 → fits s d g1 body ≡ true
  unfolding parameters_scope
  finds_one {g1 = g1} fresh m f e = finds g1 (q ∷ []) (present_one q r f e) (shape_one fresh m)

  pub finds_two : {g g1 g2 : Scope} {x y : ℕ} → Fresh g → More g g1 1 x → More g1 g2 1 y → (q ≡ 0 → ⊥) → (r ≡ 0 → ⊥) → fits s d g2 body ≡ true
  unfolding parameters_scope
  finds_two {g2 = g2} fresh m n f e = finds g2 (q ∷ r ∷ []) (present_two q r f e) (shape_two fresh m n)

-- ---- what a call goes as

-- two arguments, one after the other
two_args : (w : Quiet Forest) (x : Forest) (k : List Forest → Quiet Forest) → (((w >>= λ z. ret (z ∷ [])) >>= λ y. ret (x ∷ y)) >>= k) ≡ (w >>= λ z. k (x ∷ z ∷ []))
unfolding ◌>>=◌
two_args w x k = ap (λ (v : Quiet (List Forest)). v >>= k) (then_assoc w (λ z. ret (z ∷ [])) (λ y. ret (x ∷ y))) ∙ then_assoc w (λ z. ret (x ∷ z ∷ [])) k

module _ (s : List ℕ) (d c q r : ℕ) {rows : List ℕ} {e : Scope} {used focus left body : ℕ} (ready : Ready rows e used focus left) (is : body ≡ ((script_of s).procedure_row c).body) where
  abbrev goes : List Forest → Quiet Forest
  goes x = statement (script_of s) (pool s) d x body (on s rows focus)

  abbrev asks : ℕ → Quiet Forest
  asks p = query (script_of s) (pool s) d (env_of (pool s) rows e) p

  called : (l : List ℕ) → present q r ≡ l → row_went s rows e d 0 (Statement.call c (present q r)) focus ≡ (arguments asks l >>= goes)
  unfolding statement_of
  called l h = rw (h, is)

  pub call_none : {g : Scope} {u : List ℕ} {a : Result Got Stop} → Fresh g → q ≡ 0 → Meets (went s rows g d body focus) (pool s) left used rows u a → Meets (row_went s rows e d 0 (Statement.call c (present q r)) focus) (pool s) left used rows u a
  unfolding arguments ◌>>=◌
  call_none {g} fresh z m = met_as (called [] (present_none q r z) ∙ ap goes (sym (env_fresh (pool s) rows fresh))) m

  -- the first argument, then the rest
  called_first : (l : List ℕ) → present q r ≡ q ∷ l → row_went s rows e d 0 (Statement.call c (present q r)) focus ≡ (asks q >>= λ x. (arguments asks l >>= λ y. ret (x ∷ y)) >>= goes)
  unfolding arguments
  called_first l h = called (q ∷ l) h ∙ then_assoc (asks q) (λ x. arguments asks l >>= λ y. ret (x ∷ y)) goes

  pub call_stop : {why : Stop} → (q ≡ 0 → ⊥) → Stopped (asked s rows e d q) left why → Stopped (row_went s rows e d 0 (Statement.call c (present q r)) focus) left why
  call_stop {why} f m =
      let l = first_of q r f in
      subst (λ (w : Quiet Forest). Stopped w left why) (sym (called_first l.0 l.1)) (stop_then (λ (x : Forest). (arguments asks l.0 >>= λ y. ret (x ∷ y)) >>= goes) m)

  module _ {t : List ℕ} {x n left' : ℕ} (f : Finished (asked s rows e d q) (pool s) left used rows t x n left') (some : q ≡ 0 → ⊥) {g g1 : Scope} (fresh : Fresh g) (one : More g g1 1 x) where
    pub call_one : {u : List ℕ} {a : Result Got Stop} → r ≡ 0 → Meets (went s t g1 d body focus) (pool s) left' n t u a → Meets (row_went s rows e d 0 (Statement.call c (present q r)) focus) (pool s) left used rows u a
    unfolding arguments ◌>>=◌
    call_one z m =
        let env : env_of (pool s) t g1 ≡ on s t x ∷ [] = env_with (pool s) t one ∙ ap (λ (γ : List Forest). γ ++ on s t x ∷ []) (env_fresh (pool s) t fresh) in
        met_as (called_first [] (present_one q r some z))
        (met_then (λ (x : Forest). goes (x ∷ [])) f (met_as (sym (went_env s d ready f g1 (on s t x ∷ []) body env)) m))

    module _ (more : r ≡ 0 → ⊥) where
      abbrev second : Forest → Forest → Quiet Forest
      second x y = goes (x ∷ y ∷ [])

      called_second : row_went s rows e d 0 (Statement.call c (present q r)) focus ≡ (asks q >>= λ x. (asks r >>= λ z. ret (z ∷ [])) >>= (λ y. ret (x ∷ y)) >>= goes)
      unfolding arguments ◌>>=◌
      called_second = called_first (r ∷ []) (present_two q r some more)

      asks_kept : asked s t e d r ≡ asks r
      asks_kept = asked_after s rows t ready.roomy.low f.same ready.scoped d r

      then_second : {u : List ℕ} {a : Result Got Stop} → Meets (asked s t e d r >>= second (on s t x)) (pool s) left' n t u a → Meets (row_went s rows e d 0 (Statement.call c (present q r)) focus) (pool s) left used rows u a
      then_second m =
          met_as called_second (met_then (λ (x : Forest). (asks r >>= λ z. ret (z ∷ [])) >>= (λ y. ret (x ∷ y)) >>= goes) f
          (met_as (two_args (asks r) (on s t x) goes ∙ ap (λ (w : Quiet Forest). w >>= second (on s t x)) (sym asks_kept)) m))

      pub call_second_stop : {why : Stop} {u : List ℕ} (a : Result Got Stop) → IsErrAnd a (λ e. e ≡ why) → Stopped (asked s t e d r) left' why
          → Meets (row_went s rows e d 0 (Statement.call c (present q r)) focus) (pool s) left used rows u a
      call_second_stop a i m = then_second (met_exit a i (stop_then (second (on s t x)) m))

      pub call_two : {g2 : Scope} {v u : List ℕ} {a : Result Got Stop} {y m left'' : ℕ} → Finished (asked s t e d r) (pool s) left' n t v y m left'' → More g1 g2 1 y → Meets (went s v g2 d body focus) (pool s) left'' m v u a → Meets (row_went s rows e d 0 (Statement.call c (present q r)) focus) (pool s) left used rows u a
      call_two {g2} {v} {y = y} h two b =
          let first : on s v x ≡ on s t x = forest_kept (pool s) n (lent_row t) (lent_row v) x f.low h.same f.inside in
          let kept : on s v focus ≡ on s rows focus = forest_kept (pool s) n (lent_row t) (lent_row v) focus f.low h.same (omega (arith, ready.focus, f.grown)) ∙ focus_kept s d ready f in
          let env : env_of (pool s) v g2 ≡ on s t x ∷ on s v y ∷ [] =
          env_with (pool s) v two ∙ ap (λ (γ : List Forest). γ ++ on s v y ∷ []) (env_with (pool s) v one ∙ ap (λ (γ : List Forest). γ ++ on s v x ∷ []) (env_fresh (pool s) v fresh)) ∙ ap (λ (o : Forest). o ∷ on s v y ∷ []) first in
          then_second (met_then (second (on s t x)) h (met_as (sym (ap (λ (γ : List Forest). statement (script_of s) (pool s) d γ body (on s v focus)) env ∙ ap (λ (o : Forest). statement (script_of s) (pool s) d (on s t x ∷ on s v y ∷ []) body o) kept)) b))

-- a call's queries are in scope
module _ (s : List ℕ) (d : ℕ) (e : Scope) (c q r : ℕ) (some : q ≡ 0 → ⊥) where
  pub first_fits : fits_row s d e (Statement.call c (present q r)) ≡ true → walk.fits s d e q ≡ true
  unfolding statement_scope arguments_scope
  first_fits h =
      let l = first_of q r some in
      and_left (walk.fits s d e q) (arguments_scope (query_scoped (script_of s) d (shape_of e)) l.0) (rw l.1 at h)

  pub both_fit : (r ≡ 0 → ⊥) → fits_row s d e (Statement.call c (present q r)) ≡ true → walk.fits s d e r ≡ true
  unfolding statement_scope arguments_scope
  both_fit more h = and_left (walk.fits s d e r) true (and_right (walk.fits s d e q) (walk.fits s d e r && true) (rw (present_two q r some more) at h))

-- ---- an insert

module _ (s : List ℕ) (d : ℕ) {rows : List ℕ} {e : Scope} {used focus left : ℕ} (ready : Ready rows e used focus left) (at p : ℕ) where
  pub insert_stuck : {byte : ℕ → ℕ} {n : ℕ} {new : List ℕ} (pu : Purse) → (focus ≡ 0 → ⊥) → Meets (row_went s rows e d at (Statement.insert p) focus) byte pu.left n rows new (Err (Stuck (concern.Statement at) pu))
  unfolding statement_of insert_of
  insert_stuck pu some =
      met_stuck at pu (ap (λ (f : Forest). insert_of (of_statement at) f (asked s rows e d p)) (read_forest (pool s) (lent_row rows) used focus (lent_row rows focus) ready.roomy.low (omega arith) ready.focus refl))

  pub insert_met : {byte : ℕ → ℕ} {m n : ℕ} {new : List ℕ} {a : Result Got Stop} → focus ≡ 0 → Meets (asked s rows e d p) byte m n rows new a → Meets (row_went s rows e d at (Statement.insert p) focus) byte m n rows new a
  unfolding statement_of insert_of
  insert_met none m = met_as (ap (λ (f : Forest). insert_of (of_statement at) f (asked s rows e d p)) (forest_none (pool s) (lent_row rows) focus none)) m

-- ---- the loop's body in the rows as they are

module _ (s rows : List ℕ) {e : Scope} {n : ℕ} (low : LowRows (lent_row rows) n) (scoped : Scoped n e) (d body : ℕ) where
  body_kept : (t : List ℕ) → SameRows (lent_row rows) (lent_row t) n → body_went s t e d body ≡ body_went s rows e d body
  body_kept t same = ap (λ (γ : List Forest). λ (x : Forest). statement (script_of s) (pool s) d γ body x) (env_after s rows t low same scoped)

  -- in a turn, and where a turn's tree is written
  pub body_looped : {t : List ℕ} {b : Forest → Quiet Forest} {focus left at link m left' : ℕ} → Looping b (pool s) rows t n focus left at link m left' → body_went s t e d body ≡ body_went s rows e d body
  body_looped {t} g = body_kept t g.same

  pub body_on : {t : List ℕ} {c : Cells} (row : ℕ) → Pushed rows t n c → went s t e d body row ≡ body_went s rows e d body (on s t row)
  body_on {t} row p = ap (λ (b : Forest → Quiet Forest). b (on s t row)) (body_kept t p.same)
