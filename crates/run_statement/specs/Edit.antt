-- What a statement asks and what it goes as: the walk of a row on the forest at a row of those lent. The scope finds its places by Shape's test, in as many steps as there are levels of depth left.
use Rattle.std.specs.Prelude.{ℕ, suc, ◌+◌, ◌-◌, ◌≤◌, ◌<◌, ◌≡◌, refl, Bool, true, ◌&&◌, cond, eqb, List, [], ◌∷◌, ◌++◌, length, Result}
use Rattle.std.proofs.Common.{arith, sym, ◌∙◌}
use Rattle.std.proofs.Math.Path.{ap, subst}
use Rattle.meaning.specs.Sheet.{Cells, script_of}
use Rattle.meaning.specs.Kinds as kinds
use Rattle.meaning.specs.Kinds.{Statement, statement_form, statement_at, present}
use Rattle.meaning.specs.Forest.{Forest, forest_at}
use Rattle.meaning.specs.Shape.{Holds, a_forest, has_place, parameters_scope, query_scoped, statement_scope, statement_scoped, shapely}
use Rattle.meaning.specs.Walk.{Quiet, tick}
use Rattle.meaning.specs.Run as meaning
use Rattle.meaning.specs.Run.{query, statement, statement_of}
use Rattle.meaning.specs.Laws.Bools.{and_left, and_right}
use Rattle.meaning.specs.Laws.Scoped.{statement_parts, call_in_scope}
use Rattle.meaning.specs.Theorems.ReadBack.{lent_row}
use Rattle.sheet.specs.declared.forms.Test.{Test}
use Rattle.forest_rows.specs.declared.Seen.{Seen}
use Rattle.walk.specs.Scope.{Fresh, More, env_of, scoped_fresh}
use Rattle.walk.specs.Meets.{Finished, Stopped, Meets, Ran, ready_scope, ran_tick, stop_tick, stop_depth}
use Rattle.walk.specs.declared.Scope.{Scope}
use Rattle.walk.specs.declared.Purse.{Purse}
use Rattle.walk.specs.declared.Got.{Got}
use Rattle.walk.specs.declared.Stop.{Stop}
use Rattle.walk.specs.declared.Stop.TheVariants.{Fuel, Depth}
use Rattle.walk.specs.Fits.{shape_of, holds_of, shape_with}
use Rattle.run_query.specs.Ask.{Asks, pool, asks_less, asks_after, asks_with}
use Rattle.walk.specs.Fits as walk
use Rattle.run_statement.specs.declared.Fate.{Fate}
use Rattle.run_statement.specs.declared.Fate.TheVariants.{Misfit, Matched, Passed}

-- Shape's test of a statement row, of what a row says, and of a call's body with its arguments alone
abbrev pub fits : List ℕ → ℕ → Scope → ℕ → Bool
fits s d e at = statement_scoped (script_of s) d (shape_of e) at

abbrev pub fits_row : List ℕ → ℕ → Scope → Statement → Bool
fits_row s d e form = statement_scope form (statement_scoped (script_of s) d) (query_scoped (script_of s) d) (shape_of e)

abbrev pub fits_called : List ℕ → ℕ → ℕ → ℕ → ℕ → Type 0
fits_called s d c q r = statement_scoped (script_of s) d (parameters_scope (present q r)) ((script_of s).procedure_row c).body ≡ true

-- ---- the walks

-- the forest at a row
abbrev pub on : List ℕ → List ℕ → ℕ → Forest
on s rows focus = forest_at (pool s) (lent_row rows) focus

-- of a statement row, of what a row says, and of a body on a tree
abbrev pub went : List ℕ → List ℕ → Scope → ℕ → ℕ → ℕ → Quiet Forest
went s rows e d at focus = statement (script_of s) (pool s) d (env_of (pool s) rows e) at (on s rows focus)

abbrev pub row_went : List ℕ → List ℕ → Scope → ℕ → ℕ → Statement → ℕ → Quiet Forest
row_went s rows e d at form focus = statement_of form at (statement (script_of s) (pool s) d) (query (script_of s) (pool s) d) (λ c. ((script_of s).procedure_row c).body) (env_of (pool s) rows e)
    (on s rows focus)

abbrev pub body_went : List ℕ → List ℕ → Scope → ℕ → ℕ → Forest → Quiet Forest
body_went s rows e d at = λ t. statement (script_of s) (pool s) d (env_of (pool s) rows e) at t

-- ---- what an evaluator asks

-- what a query asks, of a sheet that passes Shape
pub record Edits (s : List ℕ) (rows : List ℕ) (e : Scope) (used focus left : ℕ) (fit : Bool) : Type 0 where
  pub shaped : shapely s ≡ true
  pub asks : Asks s rows e used focus left fit

module _ {s : List ℕ} {rows : List ℕ} {e : Scope} {used focus left : ℕ} {fit : Bool} (h : Edits s rows e used focus left fit) where
  -- a part, at once, on a focus that is in use
  pub edits_part : {fit' : Bool} (focus' : ℕ) → focus' ≤ used → fit' ≡ true → Edits s rows e used focus' left fit'
  edits_part focus' i g = record { shaped = h.shaped; asks = asks_less h.asks left 0 focus' (omega arith) i g }

  -- a query
  pub edits_query : {fit' : Bool} → fit' ≡ true → Asks s rows e used 0 left fit'
  edits_query g = (edits_part 0 (omega arith) g).asks

  -- with a unit paid
  pub edits_less : {fit' : Bool} (left' : ℕ) → left' + 1 ≡ left → fit' ≡ true → Edits s rows e used focus left' fit'
  edits_less left' p g = record { shaped = h.shaped; asks = asks_less h.asks left' 1 focus p h.asks.ready.focus g }

  -- from where a part left off
  pub edits_after : {w : Quiet Forest} {byte : ℕ → ℕ} {t : List ℕ} {fit' : Bool} {root used' left' : ℕ} (focus' : ℕ) → length t ≡ length rows → Finished w byte left used rows t root used' left'
      → focus' ≤ used' → fit' ≡ true → Edits s t e used' focus' left' fit'
  edits_after focus' n f i g = record { shaped = h.shaped; asks = asks_after h.asks focus' n f i g }

  -- with a place more
  pub edits_with : {e' : Scope} {fit' : Bool} {k v : ℕ} → More e e' k v → e.count < 16 → v ≤ used → fit' ≡ true → Edits s rows e' used focus left fit'
  edits_with m i j g = record { shaped = h.shaped; asks = asks_with h.asks m i j g }

  -- with no place
  pub edits_fresh : {e' : Scope} {fit' : Bool} → Fresh e' → fit' ≡ true → Edits s rows e' used focus left fit'
  edits_fresh {e'} fresh g = record { shaped = h.shaped; asks = record { ready = ready_scope e' h.asks.ready (scoped_fresh used fresh); scope = g } }

-- ---- Shape's test, taken apart

module _ (s : List ℕ) (d : ℕ) (e : Scope) where
  abbrev go : List Holds → ℕ → Bool
  go = statement_scoped (script_of s) d

  pub fits_then : (p q : ℕ) → fits_row s d e (Statement.then p q) ≡ true → (fits s d e p ≡ true) × (fits s d e q ≡ true)
  unfolding statement_scope
  fits_then p q h = (and_left (fits s d e p) (fits s d e q) h, and_right (fits s d e p) (fits s d e q) h)

  pub fits_if : (p q r : ℕ) → fits_row s d e (Statement.if p q r) ≡ true → (walk.fits s d e p ≡ true) × (fits s d e q ≡ true) × (fits s d e r ≡ true)
  unfolding statement_scope
  fits_if p q r h =
      let pq = and_left (walk.fits s d e p && fits s d e q) (fits s d e r) h in
      (and_left (walk.fits s d e p) (fits s d e q) pq, and_right (walk.fits s d e p) (fits s d e q) pq, and_right (walk.fits s d e p && fits s d e q) (fits s d e r) h)

  pub fits_let : (p q : ℕ) → fits_row s d e (Statement.letin p q) ≡ true → (walk.fits s d e p ≡ true) × (has_place (shape_of e) ≡ true) × (go (shape_of e ++ a_forest ∷ []) q ≡ true)
  unfolding statement_scope
  fits_let p q h =
      let pq = and_left (walk.fits s d e p && has_place (shape_of e)) (go (shape_of e ++ a_forest ∷ []) q) h in (
        and_left (walk.fits s d e p) (has_place (shape_of e)) pq,
        and_right (walk.fits s d e p) (has_place (shape_of e)) pq,
        and_right (walk.fits s d e p && has_place (shape_of e)) (go (shape_of e ++ a_forest ∷ []) q) h,
      )

  pub fits_snapshot : (p : ℕ) → fits_row s d e (Statement.snapshot p) ≡ true → (has_place (shape_of e) ≡ true) × (go (shape_of e ++ a_forest ∷ []) p ≡ true)
  unfolding statement_scope
  fits_snapshot p h = (and_left (has_place (shape_of e)) (go (shape_of e ++ a_forest ∷ []) p) h, and_right (has_place (shape_of e)) (go (shape_of e ++ a_forest ∷ []) p) h)

  pub fits_test : (t : kinds.Test) (r : ℕ) → fits_row s d e (Statement.test t r) ≡ true → fits s d e r ≡ true
  unfolding statement_scope
  fits_test t r h = h

  pub fits_insert : (p : ℕ) → fits_row s d e (Statement.insert p) ≡ true → walk.fits s d e p ≡ true
  unfolding statement_scope
  fits_insert p h = h

  pub fits_children : (p : ℕ) → fits_row s d e (Statement.children p) ≡ true → fits s d e p ≡ true
  unfolding statement_scope
  fits_children p h = h

  pub fits_left : (p : ℕ) → fits_row s d e (Statement.left p) ≡ true → fits s d e p ≡ true
  unfolding statement_scope
  fits_left p h = h

  pub fits_right : (p : ℕ) → fits_row s d e (Statement.right p) ≡ true → fits s d e p ≡ true
  unfolding statement_scope
  fits_right p h = h

  pub fits_iter : (p : ℕ) → fits_row s d e (Statement.iter p) ≡ true → fits s d e p ≡ true
  unfolding statement_scope
  fits_iter p h = h

  -- with the place
  pub fits_more : {e' : Scope} {k v : ℕ} (q : ℕ) → More e e' k v → go (shape_of e ++ holds_of k ∷ []) q ≡ true → fits s d e' q ≡ true
  fits_more q m h = ap (λ (x : List Holds). go x q) (shape_with m) ∙ h

-- ---- a test

abbrev pub fate_of : Fate → meaning.Fate
fate_of Misfit = meaning.misfit
fate_of Matched = meaning.matched
fate_of Passed = meaning.passed

-- of what is seen
abbrev pub fate_told : Seen → Test → Fate
fate_told Seen.Nothing t = Misfit
fate_told Seen.Many t = Misfit
fate_told (Seen.Text o n) Test.Text = Matched
fate_told (Seen.Text o n) (Test.Label l) = Passed
fate_told (Seen.Text o n) Test.Any = Matched
fate_told (Seen.Bool b) Test.Text = Passed
fate_told (Seen.Bool b) (Test.Label l) = Passed
fate_told (Seen.Bool b) Test.Any = Matched
fate_told (Seen.Node n c) Test.Text = Passed
fate_told (Seen.Node n c) (Test.Label l) = cond (eqb n l) Matched Passed
fate_told (Seen.Node n c) Test.Any = Matched

-- ---- what a row says

pub statement_is : (s : List ℕ) (at : ℕ) {c : Cells} → c ≡ (script_of s).statement_row at → {form : Statement} → form ≡ statement_form c → statement_at (script_of s) at ≡ form
statement_is s at is e = ap statement_form (sym is) ∙ sym e

pub called_is : (s : List ℕ) (at : ℕ) {c : Cells} → c ≡ (script_of s).statement_row at → {p q r : ℕ} → c ≡ record { kind = 14; p = p; q = q; r = r }
    → (d : ℕ) → shapely s ≡ true → fits_called s d p q r
called_is s at is {p} {q} {r} e d h = call_in_scope s h d at p q r (sym is ∙ e)

module _ (s : List ℕ) (e : Scope) (d at : ℕ) {form : Statement} (some : d ≡ 0 → ⊥) (is : statement_at (script_of s) at ≡ form) where
  deeper : d ≡ suc (d - 1)
  deeper = omega arith

  pub fits_form : shapely s ≡ true → fits s d e at ≡ true → fits_row s (d - 1) e form ≡ true
  fits_form h f = ap (λ (x : Statement). fits_row s (d - 1) e x) (sym is) ∙ statement_parts s h (d - 1) at (shape_of e) (ap (λ (n : ℕ). fits s n e at) (sym deeper) ∙ f)

  went_is : (rows : List ℕ) (focus : ℕ) → went s rows e d at focus ≡ tick (row_went s rows e (d - 1) at form focus)
  unfolding statement
  went_is rows focus = ap (λ (n : ℕ). went s rows e n at focus) deeper ∙ ap (λ (x : Statement). tick (row_went s rows e (d - 1) at x focus)) is

  pub went_as : {rows new : List ℕ} {left' used : ℕ} {a : Result Got Stop} (focus left : ℕ) → left' + 1 ≡ left → Meets (row_went s rows e (d - 1) at form focus) (pool s) left' used rows new a
      → Ran (went s rows e d at focus) (pool s) left used rows new a
  went_as {rows} {new} {left'} {used} {a} focus left p m = subst (λ (w : Quiet Forest). Ran w (pool s) left used rows new a) (sym (went_is rows focus)) (ran_tick left p m)

-- what the evaluator of a form is asked: a level of depth and a unit less
pub edits_row : {s rows : List ℕ} {e : Scope} {d used focus left left' : ℕ} (at : ℕ) {c : Cells} {form : Statement} → (d ≡ 0 → ⊥) → c ≡ (script_of s).statement_row at → form ≡ statement_form c
    → left' + 1 ≡ left
    → Edits s rows e used focus left (fits s d e at) → Edits s rows e used focus left' (fits_row s (d - 1) e form)
edits_row {s} {e = e} {d} {left' = left'} at some is says paid h = edits_less h left' paid (fits_form s e d at some (statement_is s at is says) h.shaped h.asks.scope)

module _ (s rows : List ℕ) (e : Scope) (d at focus : ℕ) where
  pub went_deep : (p : Purse) → d ≡ 0 → Stopped (went s rows e d at focus) p.left (Depth p)
  unfolding statement
  went_deep p h = subst (λ (n : ℕ). Stopped (went s rows e n at focus) p.left (Depth p)) (sym h) (stop_depth p)

  pub went_fuel : (left : ℕ) → (d ≡ 0 → ⊥) → left < 1 → Stopped (went s rows e d at focus) left Fuel
  went_fuel left some h = subst (λ (w : Quiet Forest). Stopped w left Fuel) (sym (went_is s e d at some refl rows focus))
      (stop_tick (row_went s rows e (d - 1) at (statement_at (script_of s) at) focus) left h)
