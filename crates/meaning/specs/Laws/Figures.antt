-- The figures' own relations and the functions of run and check say the same: tests, children, pick, same, and atoms as written.
use Rattle.std.specs.Prelude.{ℕ, ◌≡◌, Bool, cond, List, [], ◌∷◌, ◌⊎◌}
use Rattle.std.proofs.Math.Path.{refl}
use Rattle.std.proofs.Common.{ap}
use Rattle.std.proofs.Math.Bool.{true, false}
use Rattle.std.proofs.Math.Logic.{inl, inr}
use Rattle.std.proofs.Math.Dec.{eqb}
use borrow.Author.Tests.{eqb-true, eq-eqb}
use Rattle.meaning.specs.Kinds.{Test}
use Rattle.meaning.specs.Forest.{Text, Tree, Forest, nil, cons, only, equal_bytes}
use Rattle.meaning.specs.Types.{Ty, Named, Atom, atom_of}
use Rattle.meaning.specs.Run.{seen, Fate, misfit, matched, passed, if_so, tested, inside, kept}
use Rattle.meaning.specs.Check.{tests}
use Rattle.meaning.specs.Figures.{Matches, m_text, m_any, m_label, Differs, Inside, in_node, in_other, Kept, k_none, k_tree, k_other, Same, same_bytes, other_bytes}
use Rattle.meaning.specs.Figures.{Atomic, is_text, is_bool, is_label, is_name, Labelled, l_label, l_name, Childless, c_text, c_bool, TestMatches, a_text, a_any, a_label, TestDiffers}
use Rattle.meaning.specs.Laws.Bools.{and_left, and_right, and_both, never}

-- ---- a test and a tree

pub matches_tested : {φ : Test} {t : Tree} → Matches φ t → tested φ (seen (only t)) ≡ matched
unfolding tested seen
matches_tested m_text = refl
matches_tested (m_any {t = Tree.text w}) = refl
matches_tested (m_any {t = Tree.bool b}) = refl
matches_tested (m_any {t = Tree.node n f}) = refl
matches_tested (m_label {n = n}) = rw (eq-eqb n n refl)

pub tested_matches : (φ : Test) (t : Tree) → tested φ (seen (only t)) ≡ matched → Matches φ t
unfolding tested seen
tested_matches Test.text (Tree.text w) e = m_text
tested_matches Test.text (Tree.bool b) e = never (cc)
tested_matches Test.text (Tree.node n f) e = never (cc)
tested_matches Test.any t e = m_any
tested_matches (Test.label l) (Tree.text w) e = never (cc)
tested_matches (Test.label l) (Tree.bool b) e = never (cc)
tested_matches (Test.label l) (Tree.node n f) e = go (eqb n l) refl e
  where
    go : (b : Bool) → eqb n l ≡ b → if_so b ≡ matched → Matches (Test.label l) (Tree.node n f)
    go true h e = rw (eqb-true n l h) m_label
    go false h e = never (cc)

pub tested_differs : (φ : Test) (t : Tree) → tested φ (seen (only t)) ≡ passed → Differs φ t
tested_differs φ t e m = let h = matches_tested m in never (cc)

-- one tree is no misfit
pub one_fits : (φ : Test) (t : Tree) → tested φ (seen (only t)) ≡ misfit → ⊥
unfolding tested seen
one_fits Test.text (Tree.text w) e = never (cc)
one_fits Test.text (Tree.bool b) e = never (cc)
one_fits Test.text (Tree.node n f) e = never (cc)
one_fits Test.any (Tree.text w) e = never (cc)
one_fits Test.any (Tree.bool b) e = never (cc)
one_fits Test.any (Tree.node n f) e = never (cc)
one_fits (Test.label l) (Tree.text w) e = never (cc)
one_fits (Test.label l) (Tree.bool b) e = never (cc)
one_fits (Test.label l) (Tree.node n f) e = go (eqb n l) e
  where
    go : (b : Bool) → if_so b ≡ misfit → ⊥
    go true e = never (cc)
    go false e = never (cc)

pub differs_tested : (φ : Test) (t : Tree) → Differs φ t → tested φ (seen (only t)) ≡ passed
differs_tested φ t d = go (tested φ (seen (only t))) refl
  where
    go : (k : Fate) → tested φ (seen (only t)) ≡ k → k ≡ passed
    go misfit e = absurd (one_fits φ t e)
    go matched e = absurd (d (tested_matches φ t e))
    go passed e = refl

-- ---- children, pick and same

pub inside_is : (f : Forest) → Inside f (inside (seen f))
unfolding inside seen
inside_is nil = in_other {v = nil} λ n g e. never (cc)
inside_is (cons (Tree.text w) nil) = in_other {v = only (Tree.text w)} λ n g e. never (cc)
inside_is (cons (Tree.bool b) nil) = in_other {v = only (Tree.bool b)} λ n g e. never (cc)
inside_is (cons (Tree.node n f) nil) = in_node
inside_is (cons t (cons u f)) = in_other {v = cons t (cons u f)} λ n g e. never (cc)

pub inside_one : {f g : Forest} → Inside f g → inside (seen f) ≡ g
unfolding inside seen
inside_one in_node = refl
inside_one (in_other {v = nil} d) = refl
inside_one (in_other {v = cons (Tree.text w) nil} d) = refl
inside_one (in_other {v = cons (Tree.bool b) nil} d) = refl
inside_one (in_other {v = cons (Tree.node n f) nil} d) = absurd (d n f refl)
inside_one (in_other {v = cons t (cons u f)} d) = refl

pub kept_is : (l : ℕ) (f : Forest) → Kept l f (kept l f)
unfolding kept tested seen
kept_is l nil = k_none
kept_is l (cons (Tree.text w) f) = k_other (tested_differs (Test.label l) (Tree.text w) refl) (kept_is l f)
kept_is l (cons (Tree.bool b) f) = k_other (tested_differs (Test.label l) (Tree.bool b) refl) (kept_is l f)
kept_is l (cons (Tree.node n k) f) = go (eqb n l) refl (kept_is l f)
  where
    go : (b : Bool) → eqb n l ≡ b → Kept l f (kept l f)
        → Kept l (cons (Tree.node n k) f) (cond b (cons (Tree.node n k) (kept l f)) (kept l f))
    go true e h = k_tree (tested_matches (Test.label l) (Tree.node n k) (rw e)) h
    go false e h = k_other (tested_differs (Test.label l) (Tree.node n k) (rw e)) h

pub kept_one : {l : ℕ} {f g : Forest} → Kept l f g → kept l f ≡ g
unfolding kept
kept_one k_none = refl
kept_one (k_tree (m_label {n = n} {f = k}) h) = rw (eq-eqb n n refl) (ap (cons (Tree.node n k)) (kept_one h))
kept_one (k_other {t = Tree.text w} d h) = kept_one h
kept_one (k_other {t = Tree.bool b} d h) = kept_one h
kept_one {l} (k_other {t = Tree.node n k} {f = f} {g = g} d h) = go (eqb n l) refl (kept_one h)
  where
    go : (b : Bool) → eqb n l ≡ b → kept l f ≡ g → cond b (cons (Tree.node n k) (kept l f)) (kept l f) ≡ g
    go true e r = absurd (d (rw (eqb-true n l e) m_label))
    go false e r = r

bytes_same : (k l : List ℕ) → equal_bytes k l ≡ true → k ≡ l
unfolding equal_bytes
bytes_same [] [] e = refl
bytes_same [] (y ∷ l) e = never (cc)
bytes_same (x ∷ k) [] e = never (cc)
bytes_same (x ∷ k) (y ∷ l) e = rw (eqb-true x y (and_left (eqb x y) (equal_bytes k l) e), bytes_same k l (and_right (eqb x y) (equal_bytes k l) e))

same_refl : (k : List ℕ) → equal_bytes k k ≡ true
unfolding equal_bytes
same_refl [] = refl
same_refl (x ∷ k) = and_both (eqb x x) (equal_bytes k k) (eq-eqb x x refl) (same_refl k)

pub same_is : (w v : Text) → Same w v (equal_bytes w.bytes v.bytes)
same_is w v = go (equal_bytes w.bytes v.bytes) refl
  where
    go : (b : Bool) → equal_bytes w.bytes v.bytes ≡ b → Same w v b
    go true e = same_bytes (bytes_same w.bytes v.bytes e)
    go false e = other_bytes λ h. let k : equal_bytes w.bytes v.bytes ≡ true = rw h (same_refl v.bytes) in never (cc)

pub same_one : {w v : Text} {b : Bool} → Same w v b → equal_bytes w.bytes v.bytes ≡ b
same_one {w} {v} (same_bytes e) = rw e (same_refl v.bytes)
same_one {w} {v} (other_bytes d) = go (equal_bytes w.bytes v.bytes) refl
  where
    go : (b : Bool) → equal_bytes w.bytes v.bytes ≡ b → b ≡ false
    go true e = absurd (d (bytes_same w.bytes v.bytes e))
    go false e = refl

-- ---- atoms as written

-- a test that finds no atom
pub no_atom : (φ : Test) → tests φ Atom.no_atom ≡ misfit
unfolding tests
no_atom Test.text = refl
no_atom Test.any = refl
no_atom (Test.label l) = refl

module _ (names : ℕ → Named) where
  pub labelled_atom : {α : Ty} {n : ℕ} {τ : Ty} → Labelled names α n τ → atom_of names α ≡ Atom.label n τ
  unfolding atom_of
  labelled_atom l_label = refl
  labelled_atom l_name = refl

  pub atom_labelled : (α : Ty) (n : ℕ) (τ : Ty) → atom_of names α ≡ Atom.label n τ → Labelled names α n τ
  unfolding atom_of
  atom_labelled Ty.empty n τ e = never (cc)
  atom_labelled Ty.text n τ e = never (cc)
  atom_labelled Ty.bool n τ e = never (cc)
  atom_labelled (Ty.label m σ) n τ e = let p : m ≡ n = cc in let q : σ ≡ τ = cc in rw (p, q) l_label
  atom_labelled (Ty.seq σ ρ) n τ e = never (cc)
  atom_labelled (Ty.choice σ ρ) n τ e = never (cc)
  atom_labelled (Ty.star σ) n τ e = never (cc)
  atom_labelled (Ty.name x) n τ e = let p : (names x).label ≡ n = cc in let q : (names x).content ≡ τ = cc in rw (← p, ← q) l_name

  -- text and bool are the atoms without children
  pub childless_atom : {α : Ty} → Childless α → (atom_of names α ≡ Atom.text) ⊎ (atom_of names α ≡ Atom.bool)
  unfolding atom_of
  childless_atom c_text = inl refl
  childless_atom c_bool = inr refl

  pub text_childless : (α : Ty) → atom_of names α ≡ Atom.text → Childless α
  unfolding atom_of
  text_childless Ty.empty e = never (cc)
  text_childless Ty.text e = c_text
  text_childless Ty.bool e = c_bool
  text_childless (Ty.label n τ) e = never (cc)
  text_childless (Ty.seq σ ρ) e = never (cc)
  text_childless (Ty.choice σ ρ) e = never (cc)
  text_childless (Ty.star σ) e = never (cc)
  text_childless (Ty.name x) e = never (cc)

  pub bool_childless : (α : Ty) → atom_of names α ≡ Atom.bool → Childless α
  unfolding atom_of
  bool_childless Ty.empty e = never (cc)
  bool_childless Ty.text e = c_text
  bool_childless Ty.bool e = c_bool
  bool_childless (Ty.label n τ) e = never (cc)
  bool_childless (Ty.seq σ ρ) e = never (cc)
  bool_childless (Ty.choice σ ρ) e = never (cc)
  bool_childless (Ty.star σ) e = never (cc)
  bool_childless (Ty.name x) e = never (cc)

  -- a type is no atom, or an atom
  atom_or : (α : Ty) → (atom_of names α ≡ Atom.no_atom) ⊎ Atomic α
  unfolding atom_of
  atom_or Ty.empty = inl refl
  atom_or Ty.text = inr is_text
  atom_or Ty.bool = inr is_bool
  atom_or (Ty.label n τ) = inr is_label
  atom_or (Ty.seq τ σ) = inl refl
  atom_or (Ty.choice τ σ) = inl refl
  atom_or (Ty.star τ) = inl refl
  atom_or (Ty.name x) = inr is_name

  pub matches_tests : {φ : Test} {α : Ty} → TestMatches names φ α → tests φ (atom_of names α) ≡ matched
  unfolding tests atom_of
  matches_tests a_text = refl
  matches_tests (a_any is_text) = refl
  matches_tests (a_any is_bool) = refl
  matches_tests (a_any is_label) = refl
  matches_tests (a_any is_name) = refl
  matches_tests (a_label {n = n} l) = rw (labelled_atom l, eq-eqb n n refl)

  pub matches_atom : {φ : Test} {α : Ty} → TestMatches names φ α → Atomic α
  matches_atom a_text = is_text
  matches_atom (a_any a) = a
  matches_atom (a_label l_label) = is_label
  matches_atom (a_label l_name) = is_name

  -- on an atom a test matches or passes by
  abbrev Judges : Test → Ty → Type 0
  Judges φ α = TestMatches names φ α ⊎ ((TestMatches names φ α → ⊥) × (tests φ (atom_of names α) ≡ passed))

  other_judges : (φ : Test) {α : Ty} → tests φ (atom_of names α) ≡ passed → Judges φ α
  other_judges φ e = inr ((λ m. let q = matches_tests m in never (cc)), e)

  label_judges : (l : ℕ) {α : Ty} {n : ℕ} {τ : Ty} → Labelled names α n τ → Judges (Test.label l) α
  unfolding tests
  label_judges l {α} {n} {τ} h = go (eqb n l) refl
    where
      go : (b : Bool) → eqb n l ≡ b → Judges (Test.label l) α
      go true e = inl (rw (eqb-true n l e) at (a_label h))
      go false e = other_judges (Test.label l) (rw (labelled_atom h, e))

  judges : {α : Ty} → Atomic α → (φ : Test) → Judges φ α
  unfolding tests atom_of
  judges a Test.any = inl (a_any a)
  judges is_text Test.text = inl a_text
  judges is_bool Test.text = other_judges Test.text refl
  judges is_label Test.text = other_judges Test.text refl
  judges is_name Test.text = other_judges Test.text refl
  judges is_text (Test.label l) = other_judges (Test.label l) refl
  judges is_bool (Test.label l) = other_judges (Test.label l) refl
  judges is_label (Test.label l) = label_judges l l_label
  judges is_name (Test.label l) = label_judges l l_name

  pub tests_matches : (φ : Test) (α : Ty) → tests φ (atom_of names α) ≡ matched → TestMatches names φ α
  tests_matches φ α e = elim (atom_or α) [
    | inl h ↦ (let q = no_atom φ in never (cc))
    | inr a ↦ elim (judges a φ) [ inl m ↦ m | inr d ↦ (let q = d.1 in never (cc)) ]
  ]

  pub tests_differs : (φ : Test) (α : Ty) → tests φ (atom_of names α) ≡ passed → TestDiffers names φ α
  tests_differs φ α e = elim (atom_or α) [
    | inl h ↦ (let q = no_atom φ in never (cc))
    | inr a ↦ record { atom = a; differs = λ m. let q = matches_tests m in never (cc) }
  ]

  pub differs_tests : {φ : Test} {α : Ty} → TestDiffers names φ α → tests φ (atom_of names α) ≡ passed
  differs_tests {φ} d = elim (judges d.atom φ) [ inl m ↦ absurd (d.differs m) | inr p ↦ p.1 ]

  -- an atom is no misfit
  pub atom_fits : {α : Ty} → Atomic α → (φ : Test) → tests φ (atom_of names α) ≡ misfit → ⊥
  atom_fits a φ e = elim (judges a φ) [ inl m ↦ (let q = matches_tests m in never (cc)) | inr p ↦ (let q = p.1 in never (cc)) ]
