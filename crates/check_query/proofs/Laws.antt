-- What a query row finds, from what its parts find, by the laws of walks: rows written on the way leave the types of the variables as they were.
use Prim.Native.Nat.{ℕ, ◌+◌, ◌≤◌}
use native.Mathlib.Omega.{arith}
use mathlib.Core.Path.{◌≡◌, sym, ap, ◌∙◌, subst}
use mathlib.Core.List.{List}
use Rattle.std.specs.Prelude.{Result, Ok, Err}
use lib.ListN.{get_or}
use Rattle.meaning.specs.Sheet.{script_of}
use Rattle.meaning.specs.Kinds.{Query, type_form}
use Rattle.meaning.specs.Types.{Ty, names_in, atom_of, ty_form}
use Rattle.meaning.specs.Types as types
use Rattle.meaning.specs.Walk.{of_query, ret, ask, pass, ◌>>=◌}
use Rattle.meaning.specs.Laws.Walk.{leads_then}
use Rattle.meaning.specs.Check.{Asking, Question, eight, is_in, written, parts, query_type, inside_type}
use Rattle.walk.specs.Scope.{live, value_of, More, values_at, value_within}
use Rattle.walk.specs.declared.Concern.TheVariants as concern
use Rattle.walk.specs.declared.Got.{Got}
use Rattle.walk.specs.declared.Scope.{Scope}
use Rattle.walk.specs.declared.Purse.{Purse}
use Rattle.type_rows.specs.Grown.{ty_in, Grows}
use Rattle.type_rows.specs.Finds.{top, Judges, Ready, Typed, Halted, Finds, ActsBy, types_of, finds_as, finds_of, finds_halt, finds_then, halt_leads, halt_mismatch, typed_ret}
use Rattle.type_rows.specs.declared.Atom.TheVariants.{Label}
use Rattle.type_rows.specs.declared.Halt.{Halt}
use Rattle.type_rows.specs.declared.Halt.TheVariants.{Mismatch}
use Rattle.type_rows.specs.Both.{halted_as, both_halt, both_finds, type_zero}
use Rattle.type_rows.specs.Picked.{pick_of}
use Rattle.check_query.specs.Infer.{asked, row_asked, body_asked, either_asked, texts_asked, asked_after, body_after, asked_with}
use Rattle.check_query.specs.Questions.{ask_finds, ask_halts}

-- ---- after a first part

module _ (s : List ℕ) (d : ℕ) {work mid : List ℕ} {e : Scope} {used left root n left' : ℕ} (ready : Ready s work e used 0 left) (p : ℕ) (f : Typed (asked s work used e d p) s left used work mid root n left') where
  -- two parts, then what follows
  module _ (q : ℕ) (k : Ty → Ty → Asking Ty) where
    two_halts : {why : Halt} → Halted (asked s mid n e d q) s left' why → Halted (asked s work used e d p >>= λ x. asked s work used e d q >>= λ y. k x y) s left why
    two_halts h = both_halt f k (halted_as (sym (asked_after ready f d q)) h)

    two_finds : {new end : List ℕ} {y m left'' : ℕ} {a : Result Got Halt} → Typed (asked s mid n e d q) s left' n mid new y m left'' → Finds (k (ty_in s new m root) (ty_in s new m y)) s left'' m new end a
        → Finds (asked s work used e d p >>= λ x. asked s work used e d q >>= λ y. k x y) s left used work end a
    two_finds {new} {end} {y} {m} {left''} g b = both_finds f k (subst (λ (w : Asking Ty). Typed w s left' n mid new y m left'') (asked_after ready f d q) g) b

  module _ (q : ℕ) where
    pub join_halts : {why : Halt} → Halted (asked s mid n e d q) s left' why → Halted (row_asked s work used e d 0 (Query.join p q)) s left why
    unfolding query_type
    join_halts h = two_halts q (λ x y. written (Ty.seq x y)) h

    pub either_halts : {why : Halt} → Halted (asked s mid n e d q) s left' why → Halted (either_asked s work used e d p q) s left why
    either_halts h = two_halts q (λ x y. written (Ty.choice x y)) h

    pub same_halts : (at : ℕ) {why : Halt} → Halted (asked s mid n e d q) s left' why → Halted (row_asked s work used e d at (Query.same p q)) s left why
    unfolding query_type
    same_halts at h = two_halts q (λ x y. ask (is_in x Ty.text eight (of_query at)) (ask (is_in y Ty.text eight (of_query at)) (written Ty.bool))) h

    module _ {new end : List ℕ} {y m left'' : ℕ} {a : Result Got Halt} (g : Typed (asked s mid n e d q) s left' n mid new y m left'') where
      pub join_finds : Finds (written (ty_form (type_form (record { kind = 5; p = root; q = y; r = 0 })) (ty_in s new m))) s left'' m new end a → Finds (row_asked s work used e d 0 (Query.join p q)) s left used work end a
      unfolding query_type ty_form
      join_finds b = two_finds q (λ x y. written (Ty.seq x y)) g b

      pub either_finds : Finds (written (ty_form (type_form (record { kind = 6; p = root; q = y; r = 0 })) (ty_in s new m))) s left'' m new end a → Finds (either_asked s work used e d p q) s left used work end a
      unfolding ty_form
      either_finds b = two_finds q (λ x y. written (Ty.choice x y)) g b

      pub same_finds : (at : ℕ) → Finds (texts_asked s new m at root y) s left'' m new end a → Finds (row_asked s work used e d at (Query.same p q)) s left used work end a
      unfolding query_type
      same_finds at b = two_finds q (λ x y. ask (is_in x Ty.text eight (of_query at)) (ask (is_in y Ty.text eight (of_query at)) (written Ty.bool))) g b

  pub tree_finds : {new : List ℕ} {a : Result Got Halt} (label : ℕ) → Finds (written (ty_form (type_form (record { kind = 4; p = label; q = root; r = 0 })) (ty_in s mid n))) s left' n mid new a → Finds (row_asked s work used e d 0 (Query.tree label p)) s left used work new a
  unfolding query_type ty_form
  tree_finds label b = finds_then (λ (x : Ty). written (Ty.label label x)) f b

  -- a variable more
  pub let_finds : {e' : Scope} {new : List ℕ} {a : Result Got Halt} (q : ℕ) → More e e' 1 root → Finds (asked s mid n e' d q) s left' n mid new a → Finds (row_asked s work used e d 0 (Query.letin p q)) s left used work new a
  unfolding query_type
  let_finds q m b = finds_then (body_asked s work used e d q) f (finds_as (sym (asked_with s mid n d q m ∙ ap (λ (h : Ty → Asking Ty). h (ty_in s mid n root)) (body_after ready f d q))) b)

  pub pick_finds : {new : List ℕ} {a : Result Got Halt} (label : ℕ) → Finds (parts (pick_of s label) (ty_in s mid n root)) s left' n mid new a → Finds (row_asked s work used e d 0 (Query.pick p label)) s left used work new a
  unfolding query_type
  pick_finds label b = finds_then (parts (pick_of s label)) f b

  pub for_finds : {new : List ℕ} {a : Result Got Halt} (q : ℕ) → Finds (parts (body_asked s mid n e d q) (ty_in s mid n root)) s left' n mid new a → Finds (row_asked s work used e d 0 (Query.for p q)) s left used work new a
  unfolding query_type
  for_finds q b = finds_then (parts (body_asked s work used e d q)) f (finds_as (ap (λ (h : Ty → Asking Ty). parts h (ty_in s mid n root)) (sym (body_after ready f d q))) b)

-- a condition
module _ (s : List ℕ) (d : ℕ) {work mid : List ℕ} {e : Scope} {used left root n left' : ℕ} (ready : Ready s work e used 0 left) (at p q r : ℕ) (f : Typed (asked s work used e d p) s left used work mid root n left') where
  abbrev condition : Question
  condition = is_in (ty_in s mid n root) Ty.bool eight (of_query at)

  abbrev chosen : Ty → Asking Ty
  chosen x = ask (is_in x Ty.bool eight (of_query at)) (either_asked s work used e d q r)

  pub choose_halts : {why : Halt} → ((w : Asking Ty) → Halted (ask condition w) s left' why) → Halted (row_asked s work used e d at (Query.if p q r)) s left why
  unfolding query_type
  choose_halts h = halt_leads (leads_then (Judges s) chosen f.settles) (h (either_asked s work used e d q r))

  either_after : either_asked s work used e d q r ≡ either_asked s mid n e d q r
  either_after =
      ap (λ (w : Asking Ty). w >>= λ x. asked s work used e d r >>= λ y. written (Ty.choice x y)) (sym (asked_after ready f d q))
      ∙ ap (λ (w : Asking Ty). asked s mid n e d q >>= λ x. w >>= λ y. written (Ty.choice x y)) (sym (asked_after ready f d r))

  pub choose_finds : {new : List ℕ} {a : Result Got Halt} → Judges s condition pass → Finds (either_asked s mid n e d q r) s left' n mid new a → Finds (row_asked s work used e d at (Query.if p q r)) s left used work new a
  unfolding query_type
  choose_finds j b = finds_then chosen f (ask_finds j (finds_as either_after b))

-- ---- two texts

module _ (s work : List ℕ) (used at x y : ℕ) where
  abbrev text_at : ℕ → Question
  text_at r = is_in (ty_in s work used r) Ty.text eight (of_query at)

  pub texts_halt : {left : ℕ} {why : Halt} → Judges s (text_at x) pass → ((w : Asking Ty) → Halted (ask (text_at y) w) s left why) → Halted (texts_asked s work used at x y) s left why
  texts_halt j h = ask_halts j (h (written Ty.bool))

  pub texts_found : {left : ℕ} {new : List ℕ} {a : Result Got Halt} → Judges s (text_at x) pass → Judges s (text_at y) pass → Finds (written (ty_form (type_form (record { kind = 3; p = 0; q = 0; r = 0 })) (ty_in s work used))) s left used work new a → Finds (texts_asked s work used at x y) s left used work new a
  unfolding ty_form
  texts_found j k b = ask_finds j (ask_finds k b)

-- ---- variables

module _ (s : List ℕ) (d at v : ℕ) {work : List ℕ} {e : Scope} {used left r : ℕ} (ready : Ready s work e used 0 left) (is : r ≡ value_of e v) where
  type_at : get_or (types_of s work used e) v Ty.empty ≡ ty_in s work used r
  type_at = values_at (ty_in s work used) Ty.empty (type_zero s work used) (live e) v ∙ ap (ty_in s work used) (sym is)

  pub value_inside : r ≤ top s + used
  value_inside = omega (arith, value_within v ready.scoped)

  pub variable_finds : (p : Purse) → Finds (row_asked s work used e d at (Query.variable v)) s p.left used work work (Ok (record { root = r; left = record { used = used; purse = p } }))
  unfolding query_type
  variable_finds p = finds_as (ap (λ (τ : Ty). ret τ) type_at) (finds_of (typed_ret p.left ready.room.grows value_inside))

  pub inside_finds : {left' : ℕ} {new : List ℕ} {a : Result Got Halt} → Finds (inside_type (of_query at) (atom_of (names_in (script_of s)) (ty_in s work used r))) s left' used work new a → Finds (row_asked s work used e d at (Query.children v)) s left' used work new a
  unfolding query_type
  inside_finds b = finds_as (ap (λ (τ : Ty). inside_type (of_query at) (atom_of (names_in (script_of s)) τ)) type_at) b

-- ---- what is inside an atom

module _ (s work : List ℕ) (used root at : ℕ) where
  abbrev atom : types.Atom
  atom = atom_of (names_in (script_of s)) (ty_in s work used root)

  pub inside_label : (p : Purse) {k c : ℕ} → Grows s work used → ActsBy s work used root (Label k c) → Finds (inside_type (of_query at) atom) s p.left used work work (Ok (record { root = c; left = record { used = used; purse = p } }))
  unfolding inside_type
  inside_label p g h = finds_as (ap (inside_type (of_query at)) h.is) (finds_of (typed_ret p.left g h.inside))

  pub inside_other : (p : Purse) → atom ≡ types.Atom.no_atom → Finds (inside_type (of_query at) atom) s p.left used work work (Err (Mismatch (concern.Query at) p))
  unfolding inside_type
  inside_other p e = finds_as (ap (inside_type (of_query at)) e) (finds_halt (halt_mismatch s (concern.Query at) p))

  -- () is written
  module _ {left : ℕ} {new : List ℕ} {a : Result Got Halt} (m : Finds (written (ty_form (type_form (record { kind = 1; p = 0; q = 0; r = 0 })) (ty_in s work used))) s left used work new a) where
    pub inside_text : atom ≡ types.Atom.text → Finds (inside_type (of_query at) atom) s left used work new a
    unfolding inside_type ty_form
    inside_text e = finds_as (ap (inside_type (of_query at)) e) m

    pub inside_bool : atom ≡ types.Atom.bool → Finds (inside_type (of_query at) atom) s left used work new a
    unfolding inside_type ty_form
    inside_bool e = finds_as (ap (inside_type (of_query at)) e) m
