-- What a statement row finds, from what its parts find, by the laws of walks: rows written on the way leave the types of the variables and of the focus as they were.
use Prim.Native.Nat.{ℕ}
use mathlib.Core.Path.{◌≡◌, refl, sym, ap, ◌∙◌, subst}
use mathlib.Core.List.{List, [], ◌∷◌, ◌++◌}
use mathlib.Core.Bool.{Bool, true, false}
use lib.Dec.{eqb}
use Rattle.std.specs.Prelude.{Result, Ok, Err, cond}
use Rattle.meaning.specs.Sheet.{script_of}
use Rattle.meaning.specs.Kinds.{Statement, type_form}
use Rattle.meaning.specs.Types.{Ty, names_in, atom_of, ty_form}
use Rattle.meaning.specs.Types as types
use Rattle.meaning.specs.Run as meaning
use Rattle.meaning.specs.Walk.{of_statement, mismatch, halt, ask, pass, ◌>>=◌}
use Rattle.meaning.specs.Laws.Walk.{leads_then}
use Rattle.meaning.specs.Check.{Asking, Question, eight, is_in, written, typing, statement_type, tests, test_type, rename_type, children_type}
use Rattle.sheet.specs.Forms.{test_said}
use Rattle.sheet.specs.declared.forms.Test as forms
use Rattle.walk.specs.Scope.{More}
use Rattle.walk.specs.declared.Scope.{Scope}
use Rattle.walk.specs.declared.Purse.{Purse}
use Rattle.walk.specs.declared.Concern.TheVariants as concern
use Rattle.walk.specs.declared.Got.{Got}
use Rattle.type_rows.specs.Grown.{ty_in}
use Rattle.type_rows.specs.Finds.{Judges, Ready, Typed, Halted, Finds, Acts, ActsBy, types_of, finds_as, finds_of, finds_halt, finds_then, halt_then, halt_leads, halt_mismatch, typed_ret, types_after}
use Rattle.type_rows.specs.declared.Atom as looks
use Rattle.type_rows.specs.declared.Atom.TheVariants.{Label}
use Rattle.type_rows.specs.declared.Halt.{Halt}
use Rattle.type_rows.specs.declared.Halt.TheVariants.{Mismatch}
use Rattle.type_rows.specs.Both.{halted_as, both_halt, both_finds, type_zero}
use Rattle.check_query.specs.Infer.{asked}
use Rattle.check_query.specs.Questions.{ask_finds}
use Rattle.check_statement.specs.Typing.{goes, row_goes, body_goes, either_goes, fate_of, fate_told, on_kept, focus_kept, goes_kept, goes_with}
use Rattle.check_statement.specs.declared.Fate.{Fate}
use Rattle.check_statement.specs.declared.Fate.TheVariants.{Misfit, Matched, Passed}

-- ---- a test of an atom

labelled : (b : Bool) → fate_of (cond b Matched Passed) ≡ meaning.if_so b
labelled true = refl
labelled false = refl

pub fate_is : {s work : List ℕ} {n r : ℕ} (a : looks.Atom) (t : forms.Test) → Acts s work n r a → fate_of (fate_told a t) ≡ tests (test_said t) (atom_of (names_in (script_of s)) (ty_in s work n r))
unfolding tests
fate_is looks.Atom.Other forms.Test.Text m = rw m.by refl
fate_is looks.Atom.Other (forms.Test.Label l) m = rw m.by refl
fate_is looks.Atom.Other forms.Test.Any m = rw m.by refl
fate_is looks.Atom.Text forms.Test.Text m = rw m.by refl
fate_is looks.Atom.Text (forms.Test.Label l) m = rw m.by refl
fate_is looks.Atom.Text forms.Test.Any m = rw m.by refl
fate_is looks.Atom.Bool forms.Test.Text m = rw m.by refl
fate_is looks.Atom.Bool (forms.Test.Label l) m = rw m.by refl
fate_is looks.Atom.Bool forms.Test.Any m = rw m.by refl
fate_is (looks.Atom.Label n c) forms.Test.Text m = rw m.by.is refl
fate_is (looks.Atom.Label n c) (forms.Test.Label l) m = rw m.by.is (labelled (eqb n l))
fate_is (looks.Atom.Label n c) forms.Test.Any m = rw m.by.is refl

-- ---- a rename

module _ (s work : List ℕ) (used focus at label : ℕ) where
  abbrev renamed : types.Atom → Asking Ty
  renamed t = rename_type (of_statement at) label t

  abbrev focused : types.Atom
  focused = atom_of (names_in (script_of s)) (ty_in s work used focus)

  pub rename_finds : {k c left : ℕ} {new : List ℕ} {a : Result Got Halt} → ActsBy s work used focus (Label k c) → Finds (written (ty_form (type_form (record { kind = 4; p = label; q = c; r = 0 })) (ty_in s work used))) s left used work new a → Finds (renamed focused) s left used work new a
  unfolding rename_type ty_form
  rename_finds h m = finds_as (ap renamed h.is) m

  rename_not : {t : types.Atom} {new : List ℕ} (p : Purse) → focused ≡ t → renamed t ≡ halt (mismatch (of_statement at)) → Finds (renamed focused) s p.left used work new (Err (Mismatch (concern.Statement at) p))
  rename_not p e h = finds_as (ap renamed e ∙ h) (finds_halt (halt_mismatch s (concern.Statement at) p))

  -- no labelled atom
  pub rename_else : {new : List ℕ} (p : Purse) (a : looks.Atom) → ((k c : ℕ) → a ≡ Label k c → ⊥) → Acts s work used focus a → Finds (renamed focused) s p.left used work new (Err (Mismatch (concern.Statement at) p))
  unfolding rename_type
  rename_else p looks.Atom.Other other h = rename_not p h.by refl
  rename_else p looks.Atom.Text other h = rename_not p h.by refl
  rename_else p looks.Atom.Bool other h = rename_not p h.by refl
  rename_else p (looks.Atom.Label k c) other h = absurd (other k c refl)

-- ---- parts

module _ (s : List ℕ) (d : ℕ) {work : List ℕ} {e : Scope} {used focus left : ℕ} (ready : Ready s work e used focus left) where
  abbrev go : ℕ → Ty → Asking Ty
  go p = body_goes s work used e d p

  abbrev before : Ty
  before = ty_in s work used focus

  -- a type as it stands
  pub skip_finds : (at : ℕ) (p : Purse) → Finds (row_goes s work used e d at Statement.skip focus) s p.left used work work (Ok (record { root = focus; left = record { used = used; purse = p } }))
  unfolding statement_type
  skip_finds at p = finds_of (typed_ret p.left ready.room.grows ready.focus)

  -- the focus as a variable
  pub snapshot_finds : {e' : Scope} {new : List ℕ} {a : Result Got Halt} (p : ℕ) → More e e' 1 focus → Finds (goes s work used e' d p focus) s left used work new a → Finds (row_goes s work used e d 0 (Statement.snapshot p) focus) s left used work new a
  unfolding statement_type
  snapshot_finds p m b = finds_as (sym (goes_with s work used d p before m)) b

  -- a test
  module _ {f : Fate} (at : ℕ) (t : forms.Test) (r : ℕ) (is : fate_of f ≡ tests (test_said t) (atom_of (names_in (script_of s)) before)) where
    test_is : {g : Fate} → f ≡ g → row_goes s work used e d at (Statement.test (test_said t) r) focus ≡ test_type (of_statement at) (fate_of g) before (go r)
    unfolding statement_type
    test_is {g} h = ap (λ (v : meaning.Fate). test_type (of_statement at) v before (go r)) (sym is ∙ ap fate_of h)

    pub test_misfit : (pu : Purse) → f ≡ Misfit → Halted (row_goes s work used e d at (Statement.test (test_said t) r) focus) s pu.left (Mismatch (concern.Statement at) pu)
    unfolding test_type
    test_misfit pu h = halted_as (test_is h) (halt_mismatch s (concern.Statement at) pu)

    pub test_matched : {new : List ℕ} {a : Result Got Halt} → f ≡ Matched → Finds (goes s work used e d r focus) s left used work new a → Finds (row_goes s work used e d at (Statement.test (test_said t) r) focus) s left used work new a
    unfolding test_type
    test_matched h b = finds_as (test_is h) b

    pub test_passed : (pu : Purse) → f ≡ Passed → Finds (row_goes s work used e d at (Statement.test (test_said t) r) focus) s pu.left used work work (Ok (record { root = focus; left = record { used = used; purse = pu } }))
    unfolding test_type
    test_passed pu h = finds_as (test_is h) (finds_of (typed_ret pu.left ready.room.grows ready.focus))

  -- children
  module _ (at p : ℕ) {v : types.Atom} (is : atom_of (names_in (script_of s)) before ≡ v) where
    children_is : row_goes s work used e d at (Statement.children p) focus ≡ children_type (of_statement at) v (go p)
    unfolding statement_type
    children_is = ap (λ (x : types.Atom). children_type (of_statement at) x (go p)) is

    children_not : (pu : Purse) → children_type (of_statement at) v (go p) ≡ halt (mismatch (of_statement at)) → {new : List ℕ} → Finds (row_goes s work used e d at (Statement.children p) focus) s pu.left used work new (Err (Mismatch (concern.Statement at) pu))
    children_not pu h = finds_as (children_is ∙ h) (finds_halt (halt_mismatch s (concern.Statement at) pu))

  -- no labelled atom
  pub children_else : {new : List ℕ} (at p : ℕ) (pu : Purse) (a : looks.Atom) → ((k c : ℕ) → a ≡ Label k c → ⊥) → Acts s work used focus a → Finds (row_goes s work used e d at (Statement.children p) focus) s pu.left used work new (Err (Mismatch (concern.Statement at) pu))
  unfolding children_type
  children_else at p pu looks.Atom.Other other h = children_not at p h.by pu refl
  children_else at p pu looks.Atom.Text other h = children_not at p h.by pu refl
  children_else at p pu looks.Atom.Bool other h = children_not at p h.by pu refl
  children_else at p pu (looks.Atom.Label k c) other h = absurd (other k c refl)

  module _ (at p : ℕ) {label : ℕ} (c : ℕ) (is : atom_of (names_in (script_of s)) before ≡ types.Atom.label label (ty_in s work used c)) where
    pub children_halts : {why : Halt} → Halted (goes s work used e d p c) s left why → Halted (row_goes s work used e d at (Statement.children p) focus) s left why
    unfolding children_type
    children_halts h = halted_as (children_is at p is) (halt_then (λ (x : Ty). written (Ty.label label x)) h)

    pub children_finds : {mid new : List ℕ} {root n left' : ℕ} {a : Result Got Halt} → Typed (goes s work used e d p c) s left used work mid root n left'
        → Finds (written (ty_form (type_form (record { kind = 4; p = label; q = root; r = 0 })) (ty_in s mid n))) s left' n mid new a → Finds (row_goes s work used e d at (Statement.children p) focus) s left used work new a
    unfolding children_type ty_form
    children_finds f m = finds_as (children_is at p is) (finds_then (λ (x : Ty). written (Ty.label label x)) f m)

  -- what is made on () beside the focus
  module _ (p : ℕ) (k : Ty → Ty → Ty) where
    abbrev beside : Asking Ty
    beside = go p Ty.empty >>= λ x. written (k x before)

    beside_is : beside ≡ (goes s work used e d p 0 >>= λ x. written (k x before))
    beside_is = ap (λ (τ : Ty). go p τ >>= λ x. written (k x before)) (sym (type_zero s work used))

    beside_halts : {why : Halt} → Halted (goes s work used e d p 0) s left why → Halted beside s left why
    beside_halts h = halted_as beside_is (halt_then (λ (x : Ty). written (k x before)) h)

    beside_finds : {mid new : List ℕ} {root n left' : ℕ} {a : Result Got Halt} → Typed (goes s work used e d p 0) s left used work mid root n left' → Finds (written (k (ty_in s mid n root) (ty_in s mid n focus))) s left' n mid new a → Finds beside s left used work new a
    beside_finds {mid} {new} {root} {n} f m = finds_as beside_is (finds_then (λ (x : Ty). written (k x before)) f (finds_as (ap (λ (τ : Ty). written (k (ty_in s mid n root) τ)) (sym (focus_kept ready f))) m))

  module _ (p : ℕ) where
    pub left_halts : {why : Halt} → Halted (goes s work used e d p 0) s left why → Halted (row_goes s work used e d 0 (Statement.left p) focus) s left why
    unfolding statement_type
    left_halts h = beside_halts p (λ x τ. Ty.seq x τ) h

    pub right_halts : {why : Halt} → Halted (goes s work used e d p 0) s left why → Halted (row_goes s work used e d 0 (Statement.right p) focus) s left why
    unfolding statement_type
    right_halts h = beside_halts p (λ x τ. Ty.seq τ x) h

    module _ {mid new : List ℕ} {root n left' : ℕ} {a : Result Got Halt} (f : Typed (goes s work used e d p 0) s left used work mid root n left') where
      pub left_finds : Finds (written (ty_form (type_form (record { kind = 5; p = root; q = focus; r = 0 })) (ty_in s mid n))) s left' n mid new a → Finds (row_goes s work used e d 0 (Statement.left p) focus) s left used work new a
      unfolding statement_type ty_form
      left_finds m = beside_finds p (λ x τ. Ty.seq x τ) f m

      pub right_finds : Finds (written (ty_form (type_form (record { kind = 5; p = focus; q = root; r = 0 })) (ty_in s mid n))) s left' n mid new a → Finds (row_goes s work used e d 0 (Statement.right p) focus) s left used work new a
      unfolding statement_type ty_form
      right_finds m = beside_finds p (λ x τ. Ty.seq τ x) f m

  -- after a statement
  module _ {mid : List ℕ} {root n left' : ℕ} (p : ℕ) (f : Typed (goes s work used e d p focus) s left used work mid root n left') (q : ℕ) where
    pub then_finds : {new : List ℕ} {a : Result Got Halt} → Finds (goes s mid n e d q root) s left' n mid new a → Finds (row_goes s work used e d 0 (Statement.then p q) focus) s left used work new a
    unfolding statement_type
    then_finds m = finds_then (go q) f (finds_as (sym (on_kept ready f d q (ty_in s mid n root))) m)

    pub either_halts : {why : Halt} → Halted (goes s mid n e d q focus) s left' why → Halted (either_goes s work used e d p q focus) s left why
    either_halts h = both_halt f (λ x y. written (Ty.choice x y)) (halted_as (sym (goes_kept ready f d q)) h)

    pub either_finds : {new end : List ℕ} {y m left'' : ℕ} {a : Result Got Halt} → Typed (goes s mid n e d q focus) s left' n mid new y m left''
        → Finds (written (ty_form (type_form (record { kind = 6; p = root; q = y; r = 0 })) (ty_in s new m))) s left'' m new end a → Finds (either_goes s work used e d p q focus) s left used work end a
    unfolding ty_form
    either_finds {new} {end} {y} {m} {left''} g b = both_finds f (λ x y. written (Ty.choice x y)) (subst (λ (w : Asking Ty). Typed w s left' n mid new y m left'') (goes_kept ready f d q) g) b

  -- after a query
  module _ {mid : List ℕ} {root n left' : ℕ} (p : ℕ) (f : Typed (asked s work used e d p) s left used work mid root n left') where
    -- a variable more
    pub let_finds : {e' : Scope} {new : List ℕ} {a : Result Got Halt} (q : ℕ) → More e e' 1 root → Finds (goes s mid n e' d q focus) s left' n mid new a → Finds (row_goes s work used e d 0 (Statement.letin p q) focus) s left used work new a
    unfolding statement_type
    let_finds q m b =
        finds_then (λ (x : Ty). typing (script_of s) d (types_of s work used e ++ x ∷ []) q before) f
        (finds_as (sym (goes_with s mid n d q (ty_in s mid n focus) m
        ∙ ap (λ (Γ : List Ty). typing (script_of s) d (Γ ++ ty_in s mid n root ∷ []) q (ty_in s mid n focus)) (types_after ready.room.grows f ready.scoped)
        ∙ ap (typing (script_of s) d (types_of s work used e ++ ty_in s mid n root ∷ []) q) (focus_kept ready f))) b)

  -- a condition
  module _ {mid : List ℕ} {root n left' : ℕ} (at p q r : ℕ) (f : Typed (asked s work used e d p) s left used work mid root n left') where
    abbrev condition : Question
    condition = is_in (ty_in s mid n root) Ty.bool eight (of_statement at)

    abbrev chosen : Ty → Asking Ty
    chosen x = ask (is_in x Ty.bool eight (of_statement at)) (either_goes s work used e d q r focus)

    pub choose_halts : {why : Halt} → ((w : Asking Ty) → Halted (ask condition w) s left' why) → Halted (row_goes s work used e d at (Statement.if p q r) focus) s left why
    unfolding statement_type
    choose_halts h = halt_leads (leads_then (Judges s) chosen f.settles) (h (either_goes s work used e d q r focus))

    either_kept : either_goes s work used e d q r focus ≡ either_goes s mid n e d q r focus
    either_kept =
        ap (λ (w : Asking Ty). w >>= λ x. goes s work used e d r focus >>= λ y. written (Ty.choice x y)) (sym (goes_kept ready f d q))
        ∙ ap (λ (w : Asking Ty). goes s mid n e d q focus >>= λ x. w >>= λ y. written (Ty.choice x y)) (sym (goes_kept ready f d r))

    pub choose_finds : {new : List ℕ} {a : Result Got Halt} → Judges s condition pass → Finds (either_goes s mid n e d q r focus) s left' n mid new a → Finds (row_goes s work used e d at (Statement.if p q r) focus) s left used work new a
    unfolding statement_type
    choose_finds j b = finds_then chosen f (ask_finds j (finds_as either_kept b))

  -- an insert
  module _ (at p : ℕ) where
    abbrev emptied : Question
    emptied = is_in before Ty.empty eight (of_statement at)

    pub insert_halts : {why : Halt} → ((w : Asking Ty) → Halted (ask emptied w) s left why) → Halted (row_goes s work used e d at (Statement.insert p) focus) s left why
    unfolding statement_type
    insert_halts h = h (asked s work used e d p)

    pub insert_finds : {new : List ℕ} {a : Result Got Halt} → Judges s emptied pass → Finds (asked s work used e d p) s left used work new a → Finds (row_goes s work used e d at (Statement.insert p) focus) s left used work new a
    unfolding statement_type
    insert_finds j m = ask_finds j m
