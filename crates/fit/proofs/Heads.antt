-- Heads by number: a tree and a place have one number exactly if they have one head. By cases on kinds.
use Prim.Native.Nat.{ℕ, ◌≤◌, ◌<◌}
use mathlib.Core.Path.{◌≡◌, refl, sym, ◌∙◌, ap}
use mathlib.Core.Logic.{inl, inr}
use native.Mathlib.Omega.{arith}
use mathlib.Core.List.{List}
use Rattle.meaning.specs.Sheet.{Cells}
use Rattle.meaning.specs.Forest.{Tree, Forest, tree_form}
use Rattle.meaning.specs.Types.{Head}
use Rattle.meaning.specs.Places.{head_of}
use Rattle.meaning.specs.Faults.{tree_head}
use Rattle.type_heads.specs.Heads.{head_no, acting_at, head_number, head_number_lem, Acts, acts_text, acts_bool, acts_label}
use Rattle.fit.specs.Fitting.{tree_number}
use Rattle.meaning.specs.Laws.Trees.{Sort, a_text, a_bool, a_node}

abbrev pub number_of : Head → ℕ
number_of Head.text = 1024
number_of Head.bool = 1025
number_of (Head.label n) = n

-- labels go to 1,023
abbrev pub Small : Head → Type 0
Small Head.text = Unit {0}
Small Head.bool = Unit {0}
Small (Head.label n) = n ≤ 1023

pub small_number : (h : Head) → Small h → number_of h < 1026
small_number Head.text x = omega arith
small_number Head.bool x = omega arith
small_number (Head.label n) x = omega arith

pub one_head : (g h : Head) → Small g → Small h → number_of g ≡ number_of h → g ≡ h
one_head Head.text Head.text x y e = refl
one_head Head.text Head.bool x y e = absurd (omega arith)
one_head Head.text (Head.label n) x y e = absurd (omega arith)
one_head Head.bool Head.text x y e = absurd (omega arith)
one_head Head.bool Head.bool x y e = refl
one_head Head.bool (Head.label n) x y e = absurd (omega arith)
one_head (Head.label m) Head.text x y e = absurd (omega arith)
one_head (Head.label m) Head.bool x y e = absurd (omega arith)
one_head (Head.label m) (Head.label n) x y e = ap Head.label e

-- ---- places

acts_number : (n : ℕ) (c : Cells) → Acts n c → head_no c ≡ number_of (head_of c)
acts_number n c (acts_text e) = rw e
acts_number n c (acts_bool e) = rw e
acts_number n c (acts_label e p q) = rw e

pub place_number : (n : ℕ) (s : List ℕ) (a : ℕ) → Acts n (acting_at s a) → head_number s a ≡ number_of (head_of (acting_at s a))
place_number n s a x = sym (head_number_lem s a (acting_at s a) refl) ∙ acts_number n (acting_at s a) x

pub place_small : (n : ℕ) (c : Cells) → Acts n c → Small (head_of c)
place_small n c (acts_text e) = rw e tt
place_small n c (acts_bool e) = rw e tt
place_small n c (acts_label e p q) = rw e p

-- ---- trees

module _ (byte : ℕ → ℕ) (c : Cells) (r : ℕ) (f : Forest) where
  abbrev tree : Tree
  tree = tree_form byte c f

  pub tree_number_lem : Sort c r → tree_number c ≡ number_of (tree_head tree)
  tree_number_lem (a_text e) = rw e
  tree_number_lem (a_bool (inl e)) = rw e
  tree_number_lem (a_bool (inr e)) = rw e
  tree_number_lem (a_node e p q) = rw e

  pub tree_small : Sort c r → Small (tree_head tree)
  tree_small (a_text e) = rw e tt
  tree_small (a_bool (inl e)) = rw e tt
  tree_small (a_bool (inr e)) = rw e tt
  tree_small (a_node e p q) = rw e p
