-- What a query asks of a check and what it goes as: the walk of a row with the types of the variables as they stand. The scope finds its places by Shape's test.
use Rattle.std.specs.Prelude.{ℕ, ◌+◌, ◌-◌, ◌≤◌, ◌<◌, ◌≡◌, refl, Bool, true, List, [], ◌∷◌, ◌++◌, length, Result}
use Rattle.std.proofs.Common.{arith, sym, ◌∙◌}
use Rattle.std.proofs.Math.Path.{ap, subst}
use Rattle.meaning.specs.Sheet.{script_of}
use Rattle.meaning.specs.Kinds.{Query, query_at}
use Rattle.meaning.specs.Types.{Ty, names_in}
use Rattle.meaning.specs.Reply.{done, Loads}
use Rattle.meaning.specs.Walk.{of_query, ask, tick, ◌>>=◌}
use Rattle.meaning.specs.Check.{Asking, eight, is_in, written, query_type, infer, infer_by}
use Rattle.walk.specs.Scope.{More, scoped_with}
use Rattle.walk.specs.Fits.{deeper}
use Rattle.walk.specs.declared.Scope.{Scope}
use Rattle.walk.specs.declared.Purse.{Purse}
use Rattle.type_rows.specs.Grown.{ty_in}
use Rattle.type_rows.specs.Finds.{top, Ready, Typed, Halted, Finds, types_of, finds_as, finds_tick, halt_tick, halt_depth, ready_after, ready_less, types_after, types_with}
use Rattle.walk.specs.declared.Got.{Got}
use Rattle.type_rows.specs.declared.Halt.{Halt}
use Rattle.type_rows.specs.declared.Halt.TheVariants.{Fuel, Depth}

-- ---- the walks

-- of a query row, of what a row says, of a body with an atom as a variable, of the two queries of an if, and of two types that have to be texts
abbrev pub asked : List ℕ → List ℕ → ℕ → Scope → ℕ → ℕ → Asking Ty
asked s work n e d at = infer (script_of s) d (types_of s work n e) at

abbrev pub row_asked : List ℕ → List ℕ → ℕ → Scope → ℕ → ℕ → Query → Asking Ty
row_asked s work n e d at form = query_type (names_in (script_of s)) form at (infer (script_of s) d) (types_of s work n e)

abbrev pub body_asked : List ℕ → List ℕ → ℕ → Scope → ℕ → ℕ → Ty → Asking Ty
body_asked s work n e d at = λ α. infer (script_of s) d (types_of s work n e ++ α ∷ []) at

abbrev pub either_asked : List ℕ → List ℕ → ℕ → Scope → ℕ → ℕ → ℕ → Asking Ty
either_asked s work n e d q r = asked s work n e d q >>= λ x. asked s work n e d r >>= λ y. written (Ty.choice x y)

abbrev pub texts_asked : List ℕ → List ℕ → ℕ → ℕ → ℕ → ℕ → Asking Ty
texts_asked s work n at x y = ask (is_in (ty_in s work n x) Ty.text eight (of_query at)) (ask (is_in (ty_in s work n y) Ty.text eight (of_query at)) (written Ty.bool))

-- ---- what an evaluator asks

pub record Asks (s work : List ℕ) (e : Scope) (used left : ℕ) (fit : Bool) : Type 0 where
  pub loads : Loads s done
  pub ready : Ready s work e used 0 left
  pub scope : fit ≡ true

module _ {s work : List ℕ} {e : Scope} {used left : ℕ} {fit : Bool} (a : Asks s work e used left fit) where
  -- a part, at once
  pub asks_part : {fit' : Bool} → fit' ≡ true → Asks s work e used left fit'
  asks_part h = record { loads = a.loads; ready = a.ready; scope = h }

  -- with a unit paid
  pub asks_less : {fit' : Bool} (left' : ℕ) → left' + 1 ≡ left → fit' ≡ true → Asks s work e used left' fit'
  asks_less left' p f = record { loads = a.loads; ready = ready_less left' 1 0 a.ready p (omega arith); scope = f }

  -- from where an evaluator left off
  pub asks_after : {w : Asking Ty} {new : List ℕ} {fit' : Bool} {root used' left' : ℕ} → length new ≡ length work → Typed w s left used work new root used' left' → fit' ≡ true
      → Asks s new e used' left' fit'
  asks_after n f g = record { loads = a.loads; ready = ready_after n f 0 a.ready (omega arith); scope = g }

  -- with a place more
  pub asks_with : {e' : Scope} {fit' : Bool} {k v : ℕ} → More e e' k v → e.count < 16 → v ≤ top s + used → fit' ≡ true → Asks s work e' used left fit'
  asks_with m h i g = record { loads = a.loads; ready = record { room = a.ready.room; scoped = scoped_with a.ready.scoped h i m; focus = a.ready.focus }; scope = g }

-- ---- a row

module _ (s work : List ℕ) (n : ℕ) (e : Scope) (d at : ℕ) where
  asked_is : {form : Query} → (d ≡ 0 → ⊥) → query_at (script_of s) at ≡ form → asked s work n e d at ≡ tick (row_asked s work n e (d - 1) at form)
  unfolding infer_by query_type
  asked_is some is = ap (λ (k : ℕ). asked s work n e k at) (deeper d some) ∙ ap (λ (x : Query). tick (row_asked s work n e (d - 1) at x)) is

  -- by what it says, for one unit
  pub ask_as : {form : Query} → (d ≡ 0 → ⊥) → query_at (script_of s) at ≡ form → {new : List ℕ} {left' : ℕ} {a : Result Got Halt} (left : ℕ) → left' + 1 ≡ left
      → Finds (row_asked s work n e (d - 1) at form) s left' n work new a → Finds (asked s work n e d at) s left n work new a
  ask_as some is left p m = finds_as (asked_is some is) (finds_tick left p m)

  pub ask_deep : (p : Purse) → d ≡ 0 → Halted (asked s work n e d at) s p.left (Depth p)
  unfolding infer_by query_type
  ask_deep p h = subst (λ (k : ℕ). Halted (asked s work n e k at) s p.left (Depth p)) (sym h) (halt_depth s p)

  pub ask_fuel : (left : ℕ) → (d ≡ 0 → ⊥) → left < 1 → Halted (asked s work n e d at) s left Fuel
  ask_fuel left some h = subst (λ (w : Asking Ty). Halted w s left Fuel) (sym (asked_is some refl)) (halt_tick (row_asked s work n e (d - 1) at (query_at (script_of s) at)) s left h)

-- ---- after a part: the types of the variables are as they were

module _ {w : Asking Ty} {s old new : List ℕ} {left used root used' left' : ℕ} {e : Scope} {on left₀ : ℕ} (r : Ready s old e used on left₀) (f : Typed w s left used old new root used' left') where
  same_types : types_of s new used' e ≡ types_of s old used e
  same_types = types_after r.room.grows f r.scoped

  pub asked_after : (d at : ℕ) → asked s new used' e d at ≡ asked s old used e d at
  asked_after d at = ap (λ (Γ : List Ty). infer (script_of s) d Γ at) same_types

  pub body_after : (d at : ℕ) → body_asked s new used' e d at ≡ body_asked s old used e d at
  body_after d at = ap (λ (Γ : List Ty). λ (α : Ty). infer (script_of s) d (Γ ++ α ∷ []) at) same_types

-- with a place more
pub asked_with : {e e' : Scope} {k v : ℕ} (s work : List ℕ) (n d at : ℕ) → More e e' k v → asked s work n e' d at ≡ body_asked s work n e d at (ty_in s work n v)
asked_with {e} {e'} {k} {v} s work n d at m = ap (λ (Γ : List Ty). infer (script_of s) d Γ at) (types_with s work n m)
