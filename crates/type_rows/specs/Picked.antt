-- What pick asks, and what it does at an atom.
use Rattle.std.specs.Prelude.{ℕ, ◌+◌, ◌≤◌, ◌<◌, ◌≡◌, Bool, true, List, length, Result, Ok}
use Rattle.std.proofs.Common.{arith, ◌∙◌, eq-eqb, ne_eqb}
use Rattle.std.proofs.Math.Path.{ap}
use Rattle.meaning.specs.Sheet.{script_of}
use Rattle.meaning.specs.Kinds.{Test, type_form}
use Rattle.meaning.specs.Shape.{shapely}
use Rattle.meaning.specs.Types.{Ty, names_in, atom_of, ty_form}
use Rattle.meaning.specs.Types as types
use Rattle.meaning.specs.Run.{if_so}
use Rattle.meaning.specs.Check.{Asking, picked, tests, written}
use Rattle.meaning.specs.Walk.{ret}
use Rattle.type_rows.specs.Grown.{ty_in, Grows}
use Rattle.type_rows.specs.Finds.{top, Room, Typed, Finds, finds_as, finds_of, typed_ret, room_less, room_after}
use Rattle.type_rows.specs.declared.Halt.{Halt}
use Rattle.walk.specs.declared.Got.{Got}
use Rattle.walk.specs.declared.Purse.{Purse}

abbrev pub pick_of : List ℕ → ℕ → Ty → Asking Ty
pick_of s label α = picked (tests (Test.label label) (atom_of (names_in (script_of s)) α)) α

pub record Picks (s work : List ℕ) (used of left : ℕ) : Type 0 where
  pub shaped : shapely s ≡ true
  pub room : Room s work used left
  pub inside : of ≤ top s + used

module _ {s work : List ℕ} {used of left : ℕ} (h : Picks s work used of left) where
  -- a row's number
  pub picks_small : of < 65536
  picks_small = omega (arith, h.inside, h.room.small)

  -- a part, with a unit paid
  pub picks_less : (left' of' : ℕ) → left' + 1 ≡ left → of' < of → Picks s work used of' left'
  picks_less left' of' p i = record { shaped = h.shaped; room = room_less left' 1 h.room p; inside = omega (arith, h.inside) }

  pub picks_paid : (left' : ℕ) → left' + 1 ≡ left → Picks s work used of left'
  picks_paid left' p = record { shaped = h.shaped; room = room_less left' 1 h.room p; inside = h.inside }

  -- from where a part left off
  pub picks_after : {w : Asking Ty} {new : List ℕ} {root used' left' : ℕ} (of' : ℕ) → length new ≡ length work → Typed w s left used work new root used' left' → of' ≤ of
      → Picks s new used' of' left'
  picks_after of' n f i = record { shaped = h.shaped; room = room_after n f h.room; inside = omega (arith, h.inside, f.grown) }

-- ---- at an atom

module _ (s work : List ℕ) (used label of : ℕ) where
  acting : {t : types.Atom} → atom_of (names_in (script_of s)) (ty_in s work used of) ≡ t → pick_of s label (ty_in s work used of) ≡ picked (tests (Test.label label) t) (ty_in s work used of)
  acting e = ap (λ (t : types.Atom). picked (tests (Test.label label) t) (ty_in s work used of)) e

  stays : (p : Purse) → Grows s work used → of ≤ top s + used → pick_of s label (ty_in s work used of) ≡ ret (ty_in s work used of)
      → Finds (pick_of s label (ty_in s work used of)) s p.left used work work (Ok (record { root = of; left = record { used = used; purse = p } }))
  stays p g h e = finds_as e (finds_of (typed_ret p.left g h))

  pub kept_other : (p : Purse) → Grows s work used → of ≤ top s + used → atom_of (names_in (script_of s)) (ty_in s work used of) ≡ types.Atom.no_atom
      → Finds (pick_of s label (ty_in s work used of)) s p.left used work work (Ok (record { root = of; left = record { used = used; purse = p } }))
  unfolding tests picked
  kept_other p g h e = stays p g h (acting e)

  pub kept_label : {n : ℕ} {τ : Ty} (p : Purse) → Grows s work used → of ≤ top s + used → atom_of (names_in (script_of s)) (ty_in s work used of) ≡ types.Atom.label n τ → n ≡ label
      → Finds (pick_of s label (ty_in s work used of)) s p.left used work work (Ok (record { root = of; left = record { used = used; purse = p } }))
  unfolding tests picked
  kept_label {n} {τ} p g h e is = stays p g h (acting e ∙ ap (λ (b : Bool). picked (if_so b) (ty_in s work used of)) (eq-eqb n label is))

  -- picked away
  pub away_text : {left : ℕ} {new : List ℕ} {a : Result Got Halt} → atom_of (names_in (script_of s)) (ty_in s work used of) ≡ types.Atom.text
      → Finds (written (ty_form (type_form (record { kind = 1; p = 0; q = 0; r = 0 })) (ty_in s work used))) s left used work new a
      → Finds (pick_of s label (ty_in s work used of)) s left used work new a
  unfolding tests picked ty_form
  away_text e m = finds_as (acting e) m

  pub away_bool : {left : ℕ} {new : List ℕ} {a : Result Got Halt} → atom_of (names_in (script_of s)) (ty_in s work used of) ≡ types.Atom.bool
      → Finds (written (ty_form (type_form (record { kind = 1; p = 0; q = 0; r = 0 })) (ty_in s work used))) s left used work new a
      → Finds (pick_of s label (ty_in s work used of)) s left used work new a
  unfolding tests picked ty_form
  away_bool e m = finds_as (acting e) m

  pub away_label : {left n : ℕ} {τ : Ty} {new : List ℕ} {a : Result Got Halt} → atom_of (names_in (script_of s)) (ty_in s work used of) ≡ types.Atom.label n τ → (n ≡ label → ⊥)
      → Finds (written (ty_form (type_form (record { kind = 1; p = 0; q = 0; r = 0 })) (ty_in s work used))) s left used work new a
      → Finds (pick_of s label (ty_in s work used of)) s left used work new a
  unfolding tests picked ty_form
  away_label {n = n} e is m = finds_as (acting e ∙ ap (λ (b : Bool). picked (if_so b) (ty_in s work used of)) (ne_eqb n label is)) m
