-- Any type as a side: its atoms, numbered from left to right, are its places, each once, and the types inside them are types again. Found: any type over names that are not barren. Wanted: (), text
-- and bool.
use Rattle.std.specs.Prelude.{ℕ, suc, ◌+◌, ◌≤◌, ◌<◌, ◌≡◌, Bool, true, false, cond, List, ◌↔◌, eqb, leb, ltb}
use Rattle.std.proofs.Math.Path.{refl, sym}
use Rattle.std.proofs.lemmas.Bool.{false≢true}
use Rattle.std.proofs.Common.{inl, inr, arith}
use borrow.Author.Tests.{eqb-true, ltb-true, lt-ltb, le-leb, lt-leb}
use Rattle.meaning.specs.Sheet.{script_of}
use Rattle.meaning.specs.Forest.{Text, Tree, Forest, nil, cons, only}
use Rattle.meaning.specs.Types.{Ty, Named, Head, Atom, atom_of, Of, of_empty, of_text, of_bool, of_label, of_seq, of_left, of_right, of_none, of_more, of_name, Fertile, names_in}
use Rattle.meaning.specs.Places.{Model, nullable, first, last, follows, Set, start, next, same_head, NoneBarren}
use Rattle.meaning.specs.Shape.{shapely}
use Rattle.meaning.specs.Figures.{Atomic, is_text, is_bool, is_label, is_name}
use Rattle.meaning.specs.Laws.Bools.{or_cases, or_false, and_left, and_right, and_both}
use Rattle.meaning.specs.Laws.Barren.{Over, over_map, Name, forest_over, contents_over}
use Rattle.meaning.specs.Laws.Wired.{has, Wired, ends, In, in_empty, in_atom, in_seq, in_left, in_right, in_none, in_more, Lang, places}
use Rattle.meaning.specs.Laws.Apart.{Apart, next_wired}
use Rattle.meaning.specs.Laws.Pairs.{Side, Suits, Admitted, Lives, Comes, comes_wanted}
use Rattle.meaning.specs.Laws.Points.{
  heads_differ,
  on_has,
  Family,
  Point,
  begin,
  point_side,
  Sort,
  sort_text,
  sort_bool,
  sort_label,
  Place,
  Reached,
  at_start,
  reached_asked,
  reached_on,
  reached_after,
  reached_into,
  comes_lives,
  table_side,
  Shows,
  table_alike,
}
use Rattle.meaning.specs.Theorems.Within.Sides.{Found, Sought, sought_by}

unfoldable pub atoms_in : Ty → ℕ
atoms_in Ty.empty = 0
atoms_in Ty.text = 1
atoms_in Ty.bool = 1
atoms_in (Ty.label n τ) = 1
atoms_in (Ty.seq τ σ) = atoms_in τ + atoms_in σ
atoms_in (Ty.choice τ σ) = atoms_in τ + atoms_in σ
atoms_in (Ty.star τ) = atoms_in τ
atoms_in (Ty.name x) = 1

-- the model of a type whose places begin behind n
unfoldable pub numbered : ℕ → Ty → Model
numbered n Ty.empty = Model.empty
numbered n Ty.text = Model.atom (suc n)
numbered n Ty.bool = Model.atom (suc n)
numbered n (Ty.label l τ) = Model.atom (suc n)
numbered n (Ty.seq τ σ) = Model.seq (numbered n τ) (numbered (n + atoms_in τ) σ)
numbered n (Ty.choice τ σ) = Model.choice (numbered n τ) (numbered (n + atoms_in τ) σ)
numbered n (Ty.star τ) = Model.star (numbered n τ)
numbered n (Ty.name x) = Model.atom (suc n)

-- the atom at place a
unfoldable pub atom_at : ℕ → Ty → ℕ → Ty
atom_at n Ty.empty a = Ty.text
atom_at n Ty.text a = Ty.text
atom_at n Ty.bool a = Ty.bool
atom_at n (Ty.label l τ) a = Ty.label l τ
atom_at n (Ty.seq τ σ) a = cond (leb a (n + atoms_in τ)) (atom_at n τ a) (atom_at (n + atoms_in τ) σ a)
atom_at n (Ty.choice τ σ) a = cond (leb a (n + atoms_in τ)) (atom_at n τ a) (atom_at (n + atoms_in τ) σ a)
atom_at n (Ty.star τ) a = atom_at n τ a
atom_at n (Ty.name x) a = Ty.name x

abbrev pub atom_head : Atom → Head
atom_head Atom.no_atom = Head.text
atom_head Atom.text = Head.text
atom_head Atom.bool = Head.bool
atom_head (Atom.label n τ) = Head.label n

abbrev pub atom_content : Atom → Ty
atom_content Atom.no_atom = Ty.empty
atom_content Atom.text = Ty.empty
atom_content Atom.bool = Ty.empty
atom_content (Atom.label n τ) = τ

abbrev pub all_types : (ℕ → Named) → Family
all_types names = record { Key = Ty; model = numbered 0; head = λ τ a. atom_head (atom_of names (atom_at 0 τ a)); content = λ τ a. atom_content (atom_of names (atom_at 0 τ a)) }

pick_atomic : (b : Bool) (α β : Ty) → Atomic α → Atomic β → Atomic (cond b α β)
pick_atomic true α β h g = h
pick_atomic false α β h g = g

atom_atomic : (n : ℕ) (τ : Ty) (a : ℕ) → Atomic (atom_at n τ a)
unfolding atom_at
atom_atomic n Ty.empty a = is_text
atom_atomic n Ty.text a = is_text
atom_atomic n Ty.bool a = is_bool
atom_atomic n (Ty.label l τ) a = is_label
atom_atomic n (Ty.seq τ σ) a = pick_atomic (leb a (n + atoms_in τ)) _ _ (atom_atomic n τ a) (atom_atomic (n + atoms_in τ) σ a)
atom_atomic n (Ty.choice τ σ) a = pick_atomic (leb a (n + atoms_in τ)) _ _ (atom_atomic n τ a) (atom_atomic (n + atoms_in τ) σ a)
atom_atomic n (Ty.star τ) a = atom_atomic n τ a
atom_atomic n (Ty.name x) a = is_name

pick_over : (P : ℕ → Type 0) (b : Bool) (α β : Ty) → Over P α → Over P β → Over P (cond b α β)
pick_over P true α β h g = h
pick_over P false α β h g = g

pub atom_over : (P : ℕ → Type 0) (n : ℕ) (τ : Ty) (a : ℕ) → Over P τ → Over P (atom_at n τ a)
unfolding atom_at Over
atom_over P n Ty.empty a h = tt
atom_over P n Ty.text a h = tt
atom_over P n Ty.bool a h = tt
atom_over P n (Ty.label l τ) a h = h
atom_over P n (Ty.seq τ σ) a h = pick_over P (leb a (n + atoms_in τ)) _ _ (atom_over P n τ a h.0) (atom_over P (n + atoms_in τ) σ a h.1)
atom_over P n (Ty.choice τ σ) a h = pick_over P (leb a (n + atoms_in τ)) _ _ (atom_over P n τ a h.0) (atom_over P (n + atoms_in τ) σ a h.1)
atom_over P n (Ty.star τ) a h = atom_over P n τ a h
atom_over P n (Ty.name x) a h = h

-- ---- each place once

pub numbered_range : (n : ℕ) (τ : Ty) (a : ℕ) → has (numbered n τ) a ≡ true → (n < a) × (a ≤ n + atoms_in τ)
unfolding numbered atoms_in has
numbered_range n Ty.empty a e = absurd (false≢true e)
numbered_range n Ty.text a e = let h = eqb-true (suc n) a e in (omega arith, omega arith)
numbered_range n Ty.bool a e = let h = eqb-true (suc n) a e in (omega arith, omega arith)
numbered_range n (Ty.label l τ) a e = let h = eqb-true (suc n) a e in (omega arith, omega arith)
numbered_range n (Ty.seq τ σ) a e = elim (or_cases (has (numbered n τ) a) (has (numbered (n + atoms_in τ) σ) a) e) [
  | inl h ↦ (let z = numbered_range n τ a h in (z.0, omega (arith, z.1)))
  | inr h ↦ (let z = numbered_range (n + atoms_in τ) σ a h in (omega (arith, z.0), omega (arith, z.1)))
]
numbered_range n (Ty.choice τ σ) a e = elim (or_cases (has (numbered n τ) a) (has (numbered (n + atoms_in τ) σ) a) e) [
  | inl h ↦ (let z = numbered_range n τ a h in (z.0, omega (arith, z.1)))
  | inr h ↦ (let z = numbered_range (n + atoms_in τ) σ a h in (omega (arith, z.0), omega (arith, z.1)))
]
numbered_range n (Ty.star τ) a e = numbered_range n τ a e
numbered_range n (Ty.name x) a e = let h = eqb-true (suc n) a e in (omega arith, omega arith)

numbered_apart : (n : ℕ) (τ : Ty) → Apart (numbered n τ)
unfolding numbered Apart
numbered_apart n Ty.empty = tt
numbered_apart n Ty.text = tt
numbered_apart n Ty.bool = tt
numbered_apart n (Ty.label l τ) = tt
numbered_apart n (Ty.seq τ σ) = (numbered_apart n τ, numbered_apart (n + atoms_in τ) σ, λ a p q. omega (arith, (numbered_range n τ a p).1, (numbered_range (n + atoms_in τ) σ a q).0))
numbered_apart n (Ty.choice τ σ) = (numbered_apart n τ, numbered_apart (n + atoms_in τ) σ, λ a p q. omega (arith, (numbered_range n τ a p).1, (numbered_range (n + atoms_in τ) σ a q).0))
numbered_apart n (Ty.star τ) = numbered_apart n τ
numbered_apart n (Ty.name x) = tt

numbered_wired : (τ : Ty) → Wired (next (numbered 0 τ)) (numbered 0 τ) ends
numbered_wired τ = next_wired (numbered 0 τ) (numbered_apart 0 τ) (λ a e. (numbered_range 0 τ a e).0)

-- ---- the forests of a type are those of its model

module _ (at : ℕ → Ty) where
  -- m is τ with its places for the atoms
  data Laid : Ty → Model → Type 0 where
    l_empty : Laid Ty.empty Model.empty
    l_text : {a : ℕ} → at a ≡ Ty.text → Laid Ty.text (Model.atom a)
    l_bool : {a : ℕ} → at a ≡ Ty.bool → Laid Ty.bool (Model.atom a)
    l_label : {a n : ℕ} {τ : Ty} → at a ≡ Ty.label n τ → Laid (Ty.label n τ) (Model.atom a)
    l_seq : {τ σ : Ty} {m n : Model} → Laid τ m → Laid σ n → Laid (Ty.seq τ σ) (Model.seq m n)
    l_choice : {τ σ : Ty} {m n : Model} → Laid τ m → Laid σ n → Laid (Ty.choice τ σ) (Model.choice m n)
    l_star : {τ : Ty} {m : Model} → Laid τ m → Laid (Ty.star τ) (Model.star m)
    l_name : {a x : ℕ} → at a ≡ Ty.name x → Laid (Ty.name x) (Model.atom a)

  numbered_laid : (n : ℕ) (τ : Ty) → ((a : ℕ) → n < a → a ≤ n + atoms_in τ → at a ≡ atom_at n τ a) → Laid τ (numbered n τ)
  unfolding numbered atoms_in atom_at
  numbered_laid n Ty.empty h = l_empty
  numbered_laid n Ty.text h = l_text (h (suc n) (omega arith) (omega arith))
  numbered_laid n Ty.bool h = l_bool (h (suc n) (omega arith) (omega arith))
  numbered_laid n (Ty.label l τ) h = l_label (h (suc n) (omega arith) (omega arith))
  numbered_laid n (Ty.seq τ σ) h = l_seq
      (numbered_laid n τ (λ a p q. rw (le-leb a (n + atoms_in τ) q) at (h a p (omega arith))))
      (numbered_laid (n + atoms_in τ) σ (λ a p q. rw (lt-leb a (n + atoms_in τ) p) at (h a (omega arith) (omega arith))))
  numbered_laid n (Ty.choice τ σ) h = l_choice
      (numbered_laid n τ (λ a p q. rw (le-leb a (n + atoms_in τ) q) at (h a p (omega arith))))
      (numbered_laid (n + atoms_in τ) σ (λ a p q. rw (lt-leb a (n + atoms_in τ) p) at (h a (omega arith) (omega arith))))
  numbered_laid n (Ty.star τ) h = l_star (numbered_laid n τ h)
  numbered_laid n (Ty.name x) h = l_name (h (suc n) (omega arith) (omega arith))

  module _ (names : ℕ → Named) where
    abbrev OfAtom : ℕ → Tree → Type 0
    OfAtom a t = Of names (at a) (only t)

    of_in : {τ : Ty} {m : Model} {f : Forest} → Of names τ f → Laid τ m → In OfAtom m f
    of_in of_empty l_empty = in_empty
    of_in (of_text {w = w}) (l_text {a = a} e) = in_atom {a = a} {t = Tree.text w} (rw e of_text)
    of_in (of_bool {b = b}) (l_bool {a = a} e) = in_atom {a = a} {t = Tree.bool b} (rw e of_bool)
    of_in (of_label {n = n} {f = f} i) (l_label {a = a} e) = in_atom {a = a} {t = Tree.node n f} (rw e (of_label i))
    of_in (of_name (of_label {n = n} {f = f} i)) (l_name {a = a} e) = in_atom {a = a} {t = Tree.node n f} (rw e (of_name (of_label i)))
    of_in (of_seq i j) (l_seq p q) = in_seq (of_in i p) (of_in j q)
    of_in (of_left i) (l_choice p q) = in_left (of_in i p)
    of_in (of_right i) (l_choice p q) = in_right (of_in i q)
    of_in of_none (l_star p) = in_none
    of_in (of_more i j) (l_star p) = in_more (of_in i p) (of_in j (l_star p))

    in_of : {τ : Ty} {m : Model} {f : Forest} → In OfAtom m f → Laid τ m → Of names τ f
    in_of in_empty l_empty = of_empty
    in_of (in_atom i) (l_text e) = rw e at i
    in_of (in_atom i) (l_bool e) = rw e at i
    in_of (in_atom i) (l_label e) = rw e at i
    in_of (in_atom i) (l_name e) = rw e at i
    in_of (in_seq i j) (l_seq {τ = τ} {σ = σ} p q) = of_seq (in_of {τ = τ} i p) (in_of {τ = σ} j q)
    in_of (in_left i) (l_choice {τ = τ} {σ = σ} p q) = of_left (in_of {τ = τ} i p)
    in_of (in_right i) (l_choice {τ = τ} {σ = σ} p q) = of_right (in_of {τ = σ} i q)
    in_of in_none (l_star p) = of_none
    in_of (in_more i j) (l_star {τ = τ} p) = of_more (in_of {τ = τ} i p) (in_of {τ = Ty.star τ} j (l_star p))

-- ---- what a point of a type admits

abbrev tree_head : Tree → Head
tree_head (Tree.text w) = Head.text
tree_head (Tree.bool b) = Head.bool
tree_head (Tree.node n f) = Head.label n

module _ (names : ℕ → Named) where
  abbrev pub type_side : Side
  type_side = point_side (all_types names)

  abbrev pub type_start : Ty → Point Ty
  type_start τ = begin (all_types names) τ

  abbrev head_of_ty : Ty → Head
  head_of_ty α = atom_head (atom_of names α)

  abbrev inside_ty : Ty → Ty
  inside_ty α = atom_content (atom_of names α)

  -- a tree of an atom has its head, and what is inside is of its content
  of_head : {α : Ty} {t : Tree} → Atomic α → Of names α (only t) → head_of_ty α ≡ tree_head t
  unfolding atom_of
  of_head is_text of_text = refl
  of_head is_bool of_bool = refl
  of_head is_label (of_label i) = refl
  of_head is_name (of_name (of_label i)) = refl

  of_inside : {α : Ty} {n : ℕ} {f : Forest} → Atomic α → Of names α (only (Tree.node n f)) → Of names (inside_ty α) f
  unfolding atom_of
  of_inside is_text x = elim x [ ]
  of_inside is_bool x = elim x [ ]
  of_inside is_label (of_label i) = i
  of_inside is_name (of_name (of_label i)) = i

  head_text : {α : Ty} → Atomic α → head_of_ty α ≡ Head.text → (w : Text) → Of names α (only (Tree.text w))
  unfolding atom_of same_head
  head_text is_text e w = of_text
  head_text is_bool e w = absurd (heads_differ e refl)
  head_text is_label e w = absurd (heads_differ e refl)
  head_text is_name e w = absurd (heads_differ e refl)

  head_bool : {α : Ty} → Atomic α → head_of_ty α ≡ Head.bool → (b : Bool) → Of names α (only (Tree.bool b))
  unfolding atom_of same_head
  head_bool is_text e b = absurd (heads_differ e refl)
  head_bool is_bool e b = of_bool
  head_bool is_label e b = absurd (heads_differ e refl)
  head_bool is_name e b = absurd (heads_differ e refl)

  head_label : {α : Ty} {n : ℕ} {f : Forest} → Atomic α → head_of_ty α ≡ Head.label n → Of names (inside_ty α) f → Of names α (only (Tree.node n f))
  unfolding atom_of same_head
  head_label is_text e i = absurd (heads_differ e refl)
  head_label is_bool e i = absurd (heads_differ e refl)
  head_label {n = n} (is_label {n = l} {τ = τ}) e i = let z : l ≡ n = cc in rw (← z) (of_label i)
  head_label {n = n} (is_name {x = x}) e i = let z : (names x).label ≡ n = cc in rw (← z) (of_name (of_label i))

  -- the model of a type admits what is of it
  lang_of : (τ : Ty) (f : Forest) → Lang (λ a t. Of names (atom_at 0 τ a) (only t)) (next (numbered 0 τ)) (start (numbered 0 τ)) f ↔ Of names τ f
  lang_of τ f =
      let p = places (λ a t. Of names (atom_at 0 τ a) (only t)) (next (numbered 0 τ)) (numbered 0 τ) (numbered_wired τ) f in
      let l = numbered_laid (atom_at 0 τ) 0 τ (λ a h g. refl) in
      ((λ i. in_of (atom_at 0 τ) names (p.0 i) l), (λ i. p.1 (of_in (atom_at 0 τ) names i l)))

  mutual
    unfolding Suits Admitted Lang

    suits_of : (t : Tree) (x : Point Ty) (a : ℕ) → Suits type_side t x a ↔ Of names (atom_at 0 x.key a) (only t)
    suits_of (Tree.text w) x a = let h = atom_atomic 0 x.key a in ((λ e. head_text h e w), (λ i. of_head h i))
    suits_of (Tree.bool b) x a = let h = atom_atomic 0 x.key a in ((λ e. head_bool h e b), (λ i. of_head h i))
    suits_of (Tree.node n f) x a =
        let h = atom_atomic 0 x.key a in
        let σ = inside_ty (atom_at 0 x.key a) in
        let g = admitted_lang f (type_start σ) in
        let l = lang_of σ f in
        ((λ p. head_label h p.0 (l.0 (g.0 p.1))), (λ i. (of_head h i, g.1 (l.1 (of_inside h i)))))

    admitted_lang : (f : Forest) (x : Point Ty) → Admitted type_side f x ↔ Lang (λ a t. Of names (atom_at 0 x.key a) (only t)) (next (numbered 0 x.key)) x.set f
    admitted_lang nil x = (λ i. i, λ i. i)
    admitted_lang (cons t f) x = (
      (λ i. (
        i.0,
        ltb-true 0 i.0 (and_left (ltb 0 i.0) (x.set i.0) i.1),
        and_right (ltb 0 i.0) (x.set i.0) i.1,
        (suits_of t x i.0).0 i.2,
        (admitted_lang f (type_side.after x i.0)).0 i.3,
      )),
      (λ i. (i.0, and_both (ltb 0 i.0) (x.set i.0) (lt-ltb 0 i.0 i.1) i.2, (suits_of t x i.0).1 i.3, (admitted_lang f (type_side.after x i.0)).1 i.4)),
    )

  -- what is admitted where a type begins is what is of it
  pub type_exact : (τ : Ty) (f : Forest) → Admitted type_side f (type_start τ) ↔ Of names τ f
  type_exact τ f = let g = admitted_lang f (type_start τ) in let l = lang_of τ f in ((λ i. l.0 (g.0 i)), (λ i. g.1 (l.1 i)))

  -- ---- the found side: over names that are not barren, and whose contents name such names
  module _ (P : ℕ → Type 0) (fertile : (x : ℕ) → P x → Fertile names x) (known : (x : ℕ) → P x → Over P (names x).content) where
    atom_sort : (τ : Ty) (a : ℕ) {α : Ty} → atom_at 0 τ a ≡ α → Atomic α → Over P α → Sort (all_types names) (Over P) τ a
    unfolding atom_of Over
    atom_sort τ a e is_text h = sort_text (rw e)
    atom_sort τ a e is_bool h = sort_bool (rw e)
    atom_sort τ a e (is_label {n = n} {τ = σ}) h = let c : Over P (inside_ty (atom_at 0 τ a)) = rw e h in sort_label n (rw e) c
    atom_sort τ a e (is_name {x = x}) h = let c : Over P (inside_ty (atom_at 0 τ a)) = rw e (known x h) in sort_label (names x).label (rw e) c

    type_each : (τ : Ty) → Over P τ → (a : ℕ) → has (numbered 0 τ) a ≡ true → Place (all_types names) (Over P) τ a
    type_each τ h a e = record { low = (numbered_range 0 τ a e).0; sort = atom_sort τ a refl (atom_atomic 0 τ a) (atom_over P 0 τ a h) }

    type_lives : (W : Side) (y : W.State) (σ : Ty) → Over P σ → (u : Point Ty) (v : W.State) → Comes type_side W (type_start σ) y u v → (a : ℕ) → type_side.has u a ≡ true → Lives type_side u a
    type_lives = comes_lives (all_types names) (Over P) type_each
        (λ τ h. let x = forest_over names τ (over_map P (Fertile names) fertile τ h) in (x.0, (type_exact τ x.0).1 x.1))

    pub found_type : (σ : Ty) → Over P σ → Found names type_side (type_start σ) σ
    found_type σ h = record { exact = type_exact σ; lives = λ W y. type_lives W y σ h }

-- ---- the wanted types that are no rows: (), text and bool

pub data Plain : Ty → Type 0 where
  plain_empty : Plain Ty.empty
  plain_text : Plain Ty.text
  plain_bool : Plain Ty.bool

-- they have one place at most
pub plain_place : {τ : Ty} → Plain τ → (a : ℕ) → has (numbered 0 τ) a ≡ true → 1 ≡ a
unfolding numbered has
plain_place plain_empty a e = absurd (false≢true e)
plain_place plain_text a e = eqb-true 1 a e
plain_place plain_bool a e = eqb-true 1 a e

abbrev pub plain_head : {τ : Ty} → Plain τ → Head
plain_head plain_empty = Head.text
plain_head plain_text = Head.text
plain_head plain_bool = Head.bool

abbrev pub plain_from : {τ : Ty} → Plain τ → Set
plain_from plain_empty = ends
plain_from plain_text = λ b. eqb 1 b
plain_from plain_bool = λ b. eqb 1 b

-- no other type is asked about
pub data Just (τ : Ty) : Ty → Type 0 where
  just : Just τ τ

module _ (names : ℕ → Named) where
  pub plain_each : {τ : Ty} → Plain τ → (k : Ty) → Just τ k → (a : ℕ) → has (numbered 0 k) a ≡ true → Place (all_types names) (Just τ) k a
  unfolding numbered has atom_of atom_at
  plain_each plain_empty k just a e = absurd (false≢true e)
  plain_each plain_text k just a e = record { low = omega (arith, eqb-true 1 a e); sort = sort_text refl }
  plain_each plain_bool k just a e = record { low = omega (arith, eqb-true 1 a e); sort = sort_bool refl }

  plain_one : {τ : Ty} → Plain τ → {v : Point Ty} → Reached (all_types names) (Just τ) v → (b : ℕ) → (type_side names).has v b ≡ true → 1 ≡ b
  plain_one {τ} p k b e = go (reached_asked (all_types names) (Just τ) k) (on_has (reached_on (all_types names) (Just τ) k b e))
    where
      go : {σ : Ty} → Just τ σ → has (numbered 0 σ) b ≡ true → 1 ≡ b
      go just h = plain_place p b h

  pub sought_plain : (τ : Ty) → Plain τ → Sought names (type_side names) (type_start names τ) τ
  sought_plain τ p = record {
    exact = type_exact names τ;
    top = 1;
    low = λ F x u v c b e. (let z = plain_one p (reached F x c) b e in (omega arith, omega arith));
    free = λ F x u v c a b e g h. (let z = plain_one p (reached F x c) a e in let y = plain_one p (reached F x c) b g in omega arith);
  }
    where
      reached : (F : Side) (x : F.State) {u : F.State} {v : Point Ty} → Comes F (type_side names) x (type_start names τ) u v → Reached (all_types names) (Just τ) v
      reached F x c = comes_wanted F (type_side names) x (type_start names τ) (Reached (all_types names) (Just τ)) (at_start τ just)
          (reached_after (all_types names) (Just τ) (plain_each p)) (reached_into (all_types names) (Just τ) (plain_each p)) c

  -- ---- the same by tables: one place, 1, and End behind it

  plain_heads : {τ : Ty} (p : Plain τ) (k : Ty) → Just τ k → (a : ℕ) → has (numbered 0 k) a ≡ true → plain_head p ≡ atom_head (atom_of names (atom_at 0 k a))
  unfolding numbered has atom_of atom_at
  plain_heads plain_empty k just a e = absurd (false≢true e)
  plain_heads plain_text k just a e = refl
  plain_heads plain_bool k just a e = refl

  plain_insides : {τ : Ty} (p : Plain τ) (k : Ty) → Just τ k → (a n : ℕ) → has (numbered 0 k) a ≡ true → atom_head (atom_of names (atom_at 0 k a)) ≡ Head.label n
      → (b : ℕ) → ends b ≡ start (numbered 0 (atom_content (atom_of names (atom_at 0 k a)))) b
  unfolding numbered has atom_of atom_at same_head
  plain_insides plain_empty k just a n e h b = absurd (false≢true e)
  plain_insides plain_text k just a n e h b = absurd (heads_differ h refl)
  plain_insides plain_bool k just a n e h b = absurd (heads_differ h refl)

  plain_nexts : {τ : Ty} (p : Plain τ) (k : Ty) → Just τ k → (a : ℕ) → has (numbered 0 k) a ≡ true → (b : ℕ) → ends b ≡ next (numbered 0 k) a b
  unfolding numbered has follows last
  plain_nexts plain_empty k just a e b = absurd (false≢true e)
  plain_nexts plain_text k just a e b = rw e
  plain_nexts plain_bool k just a e b = rw e

  plain_begins : {τ : Ty} (p : Plain τ) (b : ℕ) → plain_from p b ≡ start (numbered 0 τ) b
  unfolding numbered first nullable
  plain_begins plain_empty b = refl
  plain_begins plain_text b = sym (or_false (eqb 1 b))
  plain_begins plain_bool b = sym (or_false (eqb 1 b))

  pub sought_plain_kept : (τ : Ty) (p : Plain τ) → Sought names (table_side (λ a. plain_head p) (λ a. ends) (λ a. ends)) (plain_from p) τ
  sought_plain_kept τ p = sought_by (table_side (λ a. plain_head p) (λ a. ends) (λ a. ends)) (type_side names)
      (Shows (all_types names) (Just τ) (plain_each p) (λ a. plain_head p) (λ a. ends) (λ a. ends))
      (table_alike (all_types names) (Just τ) (plain_each p) (λ a. plain_head p) (λ a. ends) (λ a. ends) (plain_heads p) (plain_insides p) (plain_nexts p))
      (plain_from p) (type_start names τ) (at_start τ just, plain_begins p) (sought_plain τ p)

-- ---- any found type over the names of a sheet that passes 2 to 4

pub found_over : (s : List ℕ) → shapely s ≡ true → NoneBarren (script_of s) → (σ : Ty) → Over (Name (script_of s).names) σ
    → Found (names_in (script_of s)) (type_side (names_in (script_of s))) (type_start (names_in (script_of s)) σ) σ
found_over s e fertile = found_type (names_in (script_of s)) (Name (script_of s).names) fertile (contents_over s e)
