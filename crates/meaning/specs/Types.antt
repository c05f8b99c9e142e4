-- Types with names, and what is of a type: FLUX, section 3.1, the least fixed point as an inductive family. Atoms, heads, and the size of a
-- type written out.
use Rattle.std.specs.Prelude.{ℕ, zero, suc, ◌+◌, Bool}
use Rattle.meaning.specs.Sheet.{Script}
use Rattle.meaning.specs.Kinds.{TypeRow, type_at}
use Rattle.meaning.specs.Forest.{Text, Tree, Forest, nil, only, ◌⊕◌}

pub data Ty : Type 0 where
  empty text bool : Ty
  label : ℕ → Ty → Ty
  seq choice : Ty → Ty → Ty
  star : Ty → Ty
  name : ℕ → Ty

-- what a name stands for: one row of kind 4
pub record Named : Type 0 where
  pub label : ℕ
  pub content : Ty

abbrev pub opened : Named → Ty
opened n = Ty.label n.label n.content

-- f is of the type τ
pub data Of (names : ℕ → Named) : Ty → Forest → Type 0 where
  of_empty : Of names Ty.empty nil
  of_text : {w : Text} → Of names Ty.text (only (Tree.text w))
  of_bool : {b : Bool} → Of names Ty.bool (only (Tree.bool b))
  of_label : {n : ℕ} {τ : Ty} {f : Forest} → Of names τ f → Of names (Ty.label n τ) (only (Tree.node n f))
  of_seq : {τ σ : Ty} {f g : Forest} → Of names τ f → Of names σ g → Of names (Ty.seq τ σ) (f ⊕ g)
  of_left : {τ σ : Ty} {f : Forest} → Of names τ f → Of names (Ty.choice τ σ) f
  of_right : {τ σ : Ty} {f : Forest} → Of names σ f → Of names (Ty.choice τ σ) f
  of_none : {τ : Ty} → Of names (Ty.star τ) nil
  of_more : {τ : Ty} {f g : Forest} → Of names τ f → Of names (Ty.star τ) g → Of names (Ty.star τ) (f ⊕ g)
  of_name : {x : ℕ} {f : Forest} → Of names (opened (names x)) f → Of names (Ty.name x) f

-- inclusion: every forest of the one is of the other
abbrev pub Within : (ℕ → Named) → Ty → Ty → Type 0
Within names σ τ = (f : Forest) → Of names σ f → Of names τ f

-- no finite forest is of the name x
abbrev pub Barren : (ℕ → Named) → ℕ → Type 0
Barren names x = (f : Forest) → Of names (Ty.name x) f → ⊥

-- some finite forest is
abbrev pub Fertile : (ℕ → Named) → ℕ → Type 0
Fertile names x = (f : Forest) × Of names (Ty.name x) f

-- the rows of a type written out, names not opened
unfoldable pub size : Ty → ℕ
size Ty.empty = 1
size Ty.text = 1
size Ty.bool = 1
size (Ty.label n τ) = suc (size τ)
size (Ty.seq τ σ) = suc (size τ + size σ)
size (Ty.choice τ σ) = suc (size τ + size σ)
size (Ty.star τ) = suc (size τ)
size (Ty.name x) = 1

-- the head of an atom
pub data Head : Type 0 where
  text bool : Head
  label : ℕ → Head
  deriving Discrete as Head-discrete

-- an atom as written: its head, and the content of a labelled one; a name acts as its label row
pub data Atom : Type 0 where
  no_atom text bool : Atom
  label : ℕ → Ty → Atom

unfoldable pub atom_of : (ℕ → Named) → Ty → Atom
atom_of names Ty.empty = Atom.no_atom
atom_of names Ty.text = Atom.text
atom_of names Ty.bool = Atom.bool
atom_of names (Ty.label n τ) = Atom.label n τ
atom_of names (Ty.seq τ σ) = Atom.no_atom
atom_of names (Ty.choice τ σ) = Atom.no_atom
atom_of names (Ty.star τ) = Atom.no_atom
atom_of names (Ty.name x) = Atom.label (names x).label (names x).content

-- the type at a row, in at most k steps down
unfoldable pub ty_form : TypeRow → (ℕ → Ty) → Ty
ty_form TypeRow.none at = Ty.empty
ty_form TypeRow.empty at = Ty.empty
ty_form TypeRow.text at = Ty.text
ty_form TypeRow.bool at = Ty.bool
ty_form (TypeRow.label n q) at = Ty.label n (at q)
ty_form (TypeRow.seq p q) at = Ty.seq (at p) (at q)
ty_form (TypeRow.choice p q) at = Ty.choice (at p) (at q)
ty_form (TypeRow.star p) at = Ty.star (at p)
ty_form (TypeRow.name x) at = Ty.name x

unfoldable pub ty : (ℕ → TypeRow) → ℕ → ℕ → Ty
ty row zero r = Ty.empty
ty row (suc k) r = ty_form (row r) (ty row k)

-- rows refer to lower rows, so the row's own number is steps enough
unfoldable pub ty_at : (ℕ → TypeRow) → ℕ → Ty
ty_at row r = ty row r r

-- the declared types of a script
abbrev pub declared : Script → ℕ → Ty
declared S r = ty_at (type_at S) r

-- what each name stands for: its row, of kind 4
unfoldable pub names_in : Script → ℕ → Named
names_in S x = record { label = (S.type_row (S.name_row x)).p; content = declared S (S.type_row (S.name_row x)).q }
