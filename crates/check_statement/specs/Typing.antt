-- What a statement asks of a check and what it goes as: the walk of a row on the type at a row, with the types of the variables as they stand. The scope finds its places by Shape's test.
use Rattle.std.specs.Prelude.{ℕ, ◌+◌, ◌-◌, ◌≤◌, ◌<◌, ◌≡◌, refl, Bool, true, List, [], ◌∷◌, ◌++◌, length, Result, cond, eqb}
use Rattle.std.proofs.Common.{arith, sym, ◌∙◌}
use Rattle.std.proofs.Math.Path.{ap, subst}
use Rattle.meaning.specs.Sheet.{script_of}
use Rattle.meaning.specs.Kinds.{Statement, statement_at}
use Rattle.meaning.specs.Types.{Ty, names_in, atom_of}
use Rattle.meaning.specs.Reply.{done, Loads}
use Rattle.meaning.specs.Run as meaning
use Rattle.meaning.specs.Walk.{of_statement, tick, ◌>>=◌}
use Rattle.meaning.specs.Check.{Asking, written, parts, tests, rename_type, statement_type, declaration, infer, typing, typing_by}
use Rattle.sheet.specs.Forms.{test_said}
use Rattle.sheet.specs.declared.forms.Test.{Test}
use Rattle.walk.specs.Scope.{More, scoped_with}
use Rattle.walk.specs.Fits.{deeper}
use Rattle.walk.specs.declared.Scope.{Scope}
use Rattle.walk.specs.declared.Purse.{Purse}
use Rattle.walk.specs.declared.Got.{Got}
use Rattle.type_rows.specs.Grown.{ty_in, Grows}
use Rattle.type_rows.specs.Finds.{top, Ready, Typed, Halted, Finds, types_of, finds_as, finds_tick, halt_tick, halt_depth, ready_after, ready_less, type_after, types_after, types_with}
use Rattle.type_rows.specs.declared.Atom.{Atom}
use Rattle.type_rows.specs.declared.Halt.{Halt}
use Rattle.type_rows.specs.declared.Halt.TheVariants.{Fuel, Depth}
use Rattle.check_query.specs.Infer.{Asks}
use Rattle.check_statement.specs.declared.Fate.{Fate}
use Rattle.check_statement.specs.declared.Fate.TheVariants.{Misfit, Matched, Passed}

-- ---- the walks

-- of a statement row, of what a row says, of a body on an atom, and of the two statements of an if
abbrev pub goes : List ℕ → List ℕ → ℕ → Scope → ℕ → ℕ → ℕ → Asking Ty
goes s work n e d at focus = typing (script_of s) d (types_of s work n e) at (ty_in s work n focus)

abbrev pub row_goes : List ℕ → List ℕ → ℕ → Scope → ℕ → ℕ → Statement → ℕ → Asking Ty
row_goes s work n e d at form focus =
    statement_type (names_in (script_of s)) (declaration (script_of s)) form at (typing (script_of s) d) (infer (script_of s) d) (types_of s work n e) (ty_in s work n focus)

abbrev pub body_goes : List ℕ → List ℕ → ℕ → Scope → ℕ → ℕ → Ty → Asking Ty
body_goes s work n e d at = λ α. typing (script_of s) d (types_of s work n e) at α

abbrev pub either_goes : List ℕ → List ℕ → ℕ → Scope → ℕ → ℕ → ℕ → ℕ → Asking Ty
either_goes s work n e d q r focus = goes s work n e d q focus >>= λ x. goes s work n e d r focus >>= λ y. written (Ty.choice x y)

-- ---- what an evaluator gives: the rows before and after, the scope, the lent rows that count, the depth, the row or what it says, the focus, the purse

abbrev pub Gives : List ℕ → List ℕ → List ℕ → Scope → ℕ → ℕ → ℕ → ℕ → ℕ → Result Got Halt → Type 0
Gives s old new e n d at focus left a = Finds (goes s old n e d at focus) s left n old new a

abbrev pub RowGives : List ℕ → List ℕ → List ℕ → Scope → ℕ → ℕ → ℕ → Statement → ℕ → ℕ → Result Got Halt → Type 0
RowGives s old new e n d at form focus left a = Finds (row_goes s old n e d at form focus) s left n old new a

abbrev pub EitherGives : List ℕ → List ℕ → List ℕ → Scope → ℕ → ℕ → ℕ → ℕ → ℕ → ℕ → Result Got Halt → Type 0
EitherGives s old new e n d q r focus left a = Finds (either_goes s old n e d q r focus) s left n old new a

abbrev pub PartsGive : List ℕ → List ℕ → List ℕ → Scope → ℕ → ℕ → ℕ → ℕ → ℕ → Result Got Halt → Type 0
PartsGive s old new e n d body of left a = Finds (parts (body_goes s old n e d body) (ty_in s old n of)) s left n old new a

abbrev pub RenameGives : List ℕ → List ℕ → List ℕ → ℕ → ℕ → ℕ → ℕ → ℕ → Result Got Halt → Type 0
RenameGives s old new n at label focus left a = Finds (rename_type (of_statement at) label (atom_of (names_in (script_of s)) (ty_in s old n focus))) s left n old new a

-- a test, of a focus among the rows that count
abbrev pub fate_of : Fate → meaning.Fate
fate_of Misfit = meaning.misfit
fate_of Matched = meaning.matched
fate_of Passed = meaning.passed

-- of what an atom acts as
abbrev pub fate_told : Atom → Test → Fate
fate_told Atom.Other t = Misfit
fate_told Atom.Text Test.Text = Matched
fate_told Atom.Text (Test.Label l) = Passed
fate_told Atom.Text Test.Any = Matched
fate_told Atom.Bool Test.Text = Passed
fate_told Atom.Bool (Test.Label l) = Passed
fate_told Atom.Bool Test.Any = Matched
fate_told (Atom.Label n c) Test.Text = Passed
fate_told (Atom.Label n c) (Test.Label l) = cond (eqb n l) Matched Passed
fate_told (Atom.Label n c) Test.Any = Matched

abbrev pub Tested : List ℕ → List ℕ → Test → ℕ → Fate → Type 0
Tested s work t focus f = (n : ℕ) → Grows s work n → focus ≤ top s + n → fate_of f ≡ tests (test_said t) (atom_of (names_in (script_of s)) (ty_in s work n focus))

-- ---- what it asks

pub record Checks (s work : List ℕ) (e : Scope) (used focus left : ℕ) (fit : Bool) : Type 0 where
  pub loads : Loads s done
  pub ready : Ready s work e used focus left
  pub scope : fit ≡ true

module _ {s work : List ℕ} {e : Scope} {used focus left : ℕ} {fit : Bool} (h : Checks s work e used focus left fit) where
  -- a part, at once, on a focus that is a type already
  pub checks_part : {fit' : Bool} (focus' : ℕ) → focus' ≤ top s + used → fit' ≡ true → Checks s work e used focus' left fit'
  checks_part focus' i g = record { loads = h.loads; ready = ready_less left 0 focus' h.ready (omega arith) i; scope = g }

  -- a query
  pub checks_query : {fit' : Bool} → fit' ≡ true → Asks s work e used left fit'
  checks_query g = record { loads = h.loads; ready = ready_less left 0 0 h.ready (omega arith) (omega arith); scope = g }

  -- with a unit paid
  pub checks_less : {fit' : Bool} (left' : ℕ) → left' + 1 ≡ left → fit' ≡ true → Checks s work e used focus left' fit'
  checks_less left' p g = record { loads = h.loads; ready = ready_less left' 1 focus h.ready p h.ready.focus; scope = g }

  -- from where a part left off
  pub checks_after : {w : Asking Ty} {new : List ℕ} {fit' : Bool} {root used' left' : ℕ} (focus' : ℕ) → length new ≡ length work → Typed w s left used work new root used' left'
      → focus' ≤ top s + used' → fit' ≡ true → Checks s new e used' focus' left' fit'
  checks_after focus' n f i g = record { loads = h.loads; ready = ready_after n f focus' h.ready i; scope = g }

  -- with a place more
  pub checks_with : {e' : Scope} {fit' : Bool} {k v : ℕ} → More e e' k v → e.count < 16 → v ≤ top s + used → fit' ≡ true → Checks s work e' used focus left fit'
  checks_with m i j g = record { loads = h.loads; ready = record { room = h.ready.room; scoped = scoped_with h.ready.scoped i j m; focus = h.ready.focus }; scope = g }

-- ---- a row

module _ (s work : List ℕ) (n : ℕ) (e : Scope) (d at focus : ℕ) where
  goes_is : {form : Statement} → (d ≡ 0 → ⊥) → statement_at (script_of s) at ≡ form → goes s work n e d at focus ≡ tick (row_goes s work n e (d - 1) at form focus)
  unfolding typing_by
  goes_is some is = ap (λ (k : ℕ). goes s work n e k at focus) (deeper d some) ∙ ap (λ (x : Statement). tick (row_goes s work n e (d - 1) at x focus)) is

  -- by what it says, for one unit
  pub goes_as : {form : Statement} → (d ≡ 0 → ⊥) → statement_at (script_of s) at ≡ form → {new : List ℕ} {left' : ℕ} {a : Result Got Halt} (left : ℕ) → left' + 1 ≡ left
      → Finds (row_goes s work n e (d - 1) at form focus) s left' n work new a → Finds (goes s work n e d at focus) s left n work new a
  goes_as some is left p m = finds_as (goes_is some is) (finds_tick left p m)

  pub goes_deep : (p : Purse) → d ≡ 0 → Halted (goes s work n e d at focus) s p.left (Depth p)
  unfolding typing_by
  goes_deep p h = subst (λ (k : ℕ). Halted (goes s work n e k at focus) s p.left (Depth p)) (sym h) (halt_depth s p)

  pub goes_fuel : (left : ℕ) → (d ≡ 0 → ⊥) → left < 1 → Halted (goes s work n e d at focus) s left Fuel
  goes_fuel left some h = subst (λ (w : Asking Ty). Halted w s left Fuel) (sym (goes_is some refl)) (halt_tick (row_goes s work n e (d - 1) at (statement_at (script_of s) at) focus) s left h)

-- ---- after a part: the types of the variables and of the rows before are as they were

module _ {w : Asking Ty} {s old new : List ℕ} {left used root used' left' : ℕ} {e : Scope} {on left₀ : ℕ} (r : Ready s old e used on left₀) (f : Typed w s left used old new root used' left') where
  -- on any type
  pub body_kept : (d at : ℕ) → body_goes s new used' e d at ≡ body_goes s old used e d at
  body_kept d at = ap (λ (Γ : List Ty). λ (α : Ty). typing (script_of s) d Γ at α) (types_after r.room.grows f r.scoped)

  pub on_kept : (d at : ℕ) (τ : Ty) → body_goes s new used' e d at τ ≡ body_goes s old used e d at τ
  on_kept d at τ = ap (λ (g : Ty → Asking Ty). g τ) (body_kept d at)

  pub focus_kept : ty_in s new used' on ≡ ty_in s old used on
  focus_kept = type_after r.room.grows f on r.focus

  -- on the same focus
  pub goes_kept : (d at : ℕ) → goes s new used' e d at on ≡ goes s old used e d at on
  goes_kept d at = on_kept d at (ty_in s new used' on) ∙ ap (body_goes s old used e d at) focus_kept

-- with a place more
pub goes_with : {e e' : Scope} {k v : ℕ} (s work : List ℕ) (n d at : ℕ) (τ : Ty) → More e e' k v
    → body_goes s work n e' d at τ ≡ typing (script_of s) d (types_of s work n e ++ ty_in s work n v ∷ []) at τ
goes_with s work n d at τ m = ap (λ (Γ : List Ty). typing (script_of s) d Γ at τ) (types_with s work n m)
