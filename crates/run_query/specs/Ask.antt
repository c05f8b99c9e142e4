-- What a query asks and what it goes as: the walk of a row in the rows as they are. The scope finds its places by Shape's test (walk/specs/Fits).
use Rattle.std.specs.Prelude.{ℕ, ◌+◌, ◌-◌, ◌≤◌, ◌<◌, ◌≡◌, refl, Bool, true, List, [], ◌∷◌, ◌++◌, length, Result}
use Rattle.std.proofs.Common.{arith, sym, ◌∙◌}
use Rattle.std.proofs.Math.Path.{ap, subst}
use Rattle.meaning.specs.Sheet.{Cells, script_of, grove_of}
use Rattle.meaning.specs.Kinds.{Query, query_form, query_at}
use Rattle.meaning.specs.Forest.{Forest, forest_at}
use Rattle.meaning.specs.Walk.{Quiet, tick}
use Rattle.meaning.specs.Run.{query, query_of}
use Rattle.meaning.specs.Laws.Rows.{LowRows, SameRows}
use Rattle.meaning.specs.Theorems.ReadBack.{lent_row}
use Rattle.walk.specs.Scope.{env_of, Scoped, More, scoped_with, env_same, env_with}
use Rattle.walk.specs.Fits.{deeper, fits, fits_row, fits_form, query_is}
use Rattle.walk.specs.Meets.{Ready, Finished, Stopped, Meets, Ran, ran_tick, stop_tick, stop_depth, ready_after, ready_less}
use Rattle.walk.specs.declared.Scope.{Scope}
use Rattle.walk.specs.declared.Purse.{Purse}
use Rattle.walk.specs.declared.Got.{Got}
use Rattle.walk.specs.declared.Stop.{Stop}
use Rattle.walk.specs.declared.Stop.TheVariants.{Fuel, Depth}

-- ---- the walks

abbrev pub pool : List ℕ → ℕ → ℕ
pool s = (grove_of s).byte

-- of a query row, of what a row says, and of a body on a tree
abbrev pub asked : List ℕ → List ℕ → Scope → ℕ → ℕ → Quiet Forest
asked s rows e d at = query (script_of s) (pool s) d (env_of (pool s) rows e) at

abbrev pub row_asked : List ℕ → List ℕ → Scope → ℕ → ℕ → Query → Quiet Forest
row_asked s rows e d at form = query_of (pool s) form at (query (script_of s) (pool s) d) (env_of (pool s) rows e)

abbrev pub body_asked : List ℕ → List ℕ → Scope → ℕ → ℕ → Forest → Quiet Forest
body_asked s rows e d at = λ t. query (script_of s) (pool s) d (env_of (pool s) rows e ++ t ∷ []) at

-- ---- what an evaluator asks

pub record Asks (s : List ℕ) (rows : List ℕ) (e : Scope) (used focus left : ℕ) (fit : Bool) : Type 0 where
  pub ready : Ready rows e used focus left
  pub scope : fit ≡ true

module _ {s : List ℕ} {rows : List ℕ} {e : Scope} {used focus left : ℕ} {fit : Bool} (a : Asks s rows e used focus left fit) where
  -- a part, at once
  pub asks_part : {fit' : Bool} → fit' ≡ true → Asks s rows e used focus left fit'
  asks_part h = record { ready = a.ready; scope = h }

  -- with units paid
  pub asks_less : {fit' : Bool} (left' n focus' : ℕ) → left' + n ≡ left → focus' ≤ used → fit' ≡ true → Asks s rows e used focus' left' fit'
  asks_less left' n focus' p h f = record { ready = ready_less left' n focus' a.ready p h; scope = f }

  -- from where an evaluator left off
  pub asks_after : {w : Quiet Forest} {byte : ℕ → ℕ} {t : List ℕ} {fit' : Bool} {root used' left' : ℕ} (focus' : ℕ) → length t ≡ length rows → Finished w byte left used rows t root used' left'
      → focus' ≤ used' → fit' ≡ true → Asks s t e used' focus' left' fit'
  asks_after focus' n f h g = record { ready = ready_after focus' a.ready n f h; scope = g }

  -- with a place more
  pub asks_with : {e' : Scope} {fit' : Bool} {k v : ℕ} → More e e' k v → e.count < 16 → v ≤ used → fit' ≡ true → Asks s rows e' used focus left fit'
  asks_with {e'} m h i g = record { ready = record { roomy = a.ready.roomy; scoped = scoped_with a.ready.scoped h i m; focus = a.ready.focus }; scope = g }

-- by what a row says, with a level of depth and a unit less
pub asks_row : {s rows : List ℕ} {e : Scope} {d used left left' : ℕ} (at : ℕ) {c : Cells} {form : Query} → (d ≡ 0 → ⊥) → c ≡ (script_of s).query_row at → form ≡ query_form c → left' + 1 ≡ left
    → Asks s rows e used 0 left (fits s d e at) → Asks s rows e used 0 left' (fits_row s (d - 1) e form)
asks_row {s} {e = e} {d} {left' = left'} at some is says paid a = asks_less a left' 1 0 paid (omega arith) (fits_form s e d at some (query_is s at is says) a.scope)

-- ---- what a row says

module _ (s : List ℕ) (e : Scope) (d at : ℕ) {form : Query} (some : d ≡ 0 → ⊥) (is : query_at (script_of s) at ≡ form) where
  asked_is : (rows : List ℕ) → asked s rows e d at ≡ tick (row_asked s rows e (d - 1) at form)
  unfolding query
  asked_is rows = ap (λ (n : ℕ). asked s rows e n at) (deeper d some) ∙ ap (λ (x : Query). tick (row_asked s rows e (d - 1) at x)) is

  pub ask_as : {rows new : List ℕ} {left' used : ℕ} {a : Result Got Stop} (left : ℕ) → left' + 1 ≡ left → Meets (row_asked s rows e (d - 1) at form) (pool s) left' used rows new a
      → Ran (asked s rows e d at) (pool s) left used rows new a
  ask_as {rows} {new} {left'} {used} {a} left p m = subst (λ (w : Quiet Forest). Ran w (pool s) left used rows new a) (sym (asked_is rows)) (ran_tick left p m)

module _ (s rows : List ℕ) (e : Scope) (d at : ℕ) where
  pub ask_deep : (p : Purse) → d ≡ 0 → Stopped (asked s rows e d at) p.left (Depth p)
  unfolding query
  ask_deep p h = subst (λ (n : ℕ). Stopped (asked s rows e n at) p.left (Depth p)) (sym h) (stop_depth p)

  pub ask_fuel : (left : ℕ) → (d ≡ 0 → ⊥) → left < 1 → Stopped (asked s rows e d at) left Fuel
  ask_fuel left some h = subst (λ (w : Quiet Forest). Stopped w left Fuel) (sym (asked_is s e d at some refl rows)) (stop_tick (row_asked s rows e (d - 1) at (query_at (script_of s) at)) left h)

-- ---- after a part: the environment is as it was

module _ (s rows t : List ℕ) {e : Scope} {n : ℕ} (low : LowRows (lent_row rows) n) (same : SameRows (lent_row rows) (lent_row t) n) (scoped : Scoped n e) where
  pub env_after : env_of (pool s) t e ≡ env_of (pool s) rows e
  env_after = env_same (pool s) rows t low same scoped

  pub asked_after : (d at : ℕ) → asked s t e d at ≡ asked s rows e d at
  asked_after d at = ap (λ (γ : List Forest). query (script_of s) (pool s) d γ at) env_after

  pub body_after : (d at : ℕ) → body_asked s t e d at ≡ body_asked s rows e d at
  body_after d at = ap (λ (γ : List Forest). λ (x : Forest). query (script_of s) (pool s) d (γ ++ x ∷ []) at) env_after

  -- with a place more
  pub asked_with : {e' : Scope} {k v : ℕ} (d at : ℕ) → More e e' k v → asked s t e' d at ≡ body_asked s rows e d at (forest_at (pool s) (lent_row t) v)
  asked_with {e'} {k} {v} d at m = ap (λ (γ : List Forest). query (script_of s) (pool s) d γ at)
      (env_with (pool s) t m ∙ ap (λ (γ : List Forest). γ ++ forest_at (pool s) (lent_row t) v ∷ []) env_after)
