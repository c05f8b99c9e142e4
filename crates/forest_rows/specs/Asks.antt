-- What the evaluators hand to the functions of this crate, and what each side of a test of what `look` sees says.
use Rattle.std.specs.Prelude.{ℕ, ◌≤◌, ◌<◌, ◌≡◌, true, false, List, Some, None, ◌⊎◌}
use Rattle.std.proofs.Common.{inl, inr, arith, sym, ◌∙◌, subst, ap, refl}
use Rattle.std.proofs.lemmas.Bool.{false≢true}
use Rattle.std.proofs.Math.Bool as bool
use Rattle.meaning.specs.Tests.{in_table}
use Rattle.meaning.specs.Forest as forest
use Rattle.meaning.specs.Forest.{Forest, forest_at}
use Rattle.meaning.specs.Run as run
use Rattle.meaning.specs.Run.{seen, nothing, many, a_text, a_bool, a_node, branch}
use Rattle.meaning.specs.Walk.{Place, Quiet, halt, stuck}
use Rattle.meaning.specs.Theorems.ReadBack.{lent_row}
use Rattle.walk.specs.Meets.{Roomy}
use Rattle.forest_rows.specs.Rows.{Readable, MakeAsks, SeesBy, Sees, bool_of, text_of, node_of}
use Rattle.forest_rows.specs.declared.Seen.{Seen}
use Rattle.forest_rows.specs.declared.Seen.TheVariants.{Nothing, Many, Text, Bool, Node}

-- a row in use can be read
pub readable : {s : List ℕ} {used left : ℕ} (a : ℕ) → Roomy s used left → a ≤ used → Readable s a
readable a r h = record { low = λ i p q. r.low i p (omega arith); small = omega (arith, r.small); there = omega (arith, r.room) }

-- a labelled tree over a row in use; a text or a bool
pub node_asks : {s : List ℕ} {used left : ℕ} (l q : ℕ) → Roomy s used left → l < 65536 → q ≤ used → MakeAsks s used 4 l q left
node_asks l q r small h = record { roomy = r; small_kind = omega arith; small_p = small; small_q = omega (arith, r.small); child = λ e. h }

pub leaf_asks : {s : List ℕ} {used left : ℕ} (k p q : ℕ) → in_table 3 k ≡ true → Roomy s used left → k < 65536 → p < 65536 → q < 65536 → MakeAsks s used k p q left
leaf_asks k p q e r a b c = record { roomy = r; small_kind = a; small_p = b; small_q = c; child = λ i. absurd (false≢true (sym i ∙ e)) }

some_is : {A : Type 0} {x y : A} → Some x ≡ Some y → y ≡ x
some_is e = cc

-- what the forest is where `look` sees one bool, one text, one labelled tree, and what it is not elsewhere
module _ (byte : ℕ → ℕ) (s : List ℕ) (root : ℕ) where
  abbrev there : run.Seen
  there = seen (forest_at byte (lent_row s) root)

  pub sees_bool : (a : Seen) {b : bool.Bool} → Some b ≡ bool_of a → Sees byte s root a → there ≡ a_bool b
  sees_bool Nothing e m = cc
  sees_bool Many e m = cc
  sees_bool (Text o n) e m = cc
  sees_bool (Bool b) e m = m.by ∙ ap (λ (x : bool.Bool). a_bool x) (cc)
  sees_bool (Node l c) e m = cc

  pub no_bool : (a : Seen) → None ≡ bool_of a → Sees byte s root a → (b : bool.Bool) → there ≡ a_bool b → ⊥
  no_bool Nothing e m b h = let i = m.by in cc
  no_bool Many e m b h = let i = m.by in cc
  no_bool (Text o n) e m b h = let i = m.by.is in cc
  no_bool (Bool x) e m b h = cc
  no_bool (Node l c) e m b h = let i = m.by.is in cc

  pub sees_text : (a : Seen) {o n : ℕ} → Some (o, n) ≡ text_of a → Sees byte s root a → SeesBy byte s root (Text o n)
  sees_text Nothing e m = cc
  sees_text Many e m = cc
  sees_text (Text x y) {o} {n} e m = let i = ap (λ (p : ℕ × ℕ). p.0) (some_is e) in let j = ap (λ (p : ℕ × ℕ). p.1) (some_is e) in
      subst (λ (z : ℕ). SeesBy byte s root (Text z n)) i (subst (λ (z : ℕ). SeesBy byte s root (Text x z)) j m.by)
  sees_text (Bool b) e m = cc
  sees_text (Node l c) e m = cc

  pub no_text : (a : Seen) → None ≡ text_of a → Sees byte s root a → (w : forest.Text) → there ≡ a_text w → ⊥
  no_text Nothing e m w h = let i = m.by in cc
  no_text Many e m w h = let i = m.by in cc
  no_text (Text o n) e m w h = cc
  no_text (Bool x) e m w h = let i = m.by in cc
  no_text (Node l c) e m w h = let i = m.by.is in cc

  pub sees_node : (a : Seen) {l c : ℕ} → Some (l, c) ≡ node_of a → Sees byte s root a → SeesBy byte s root (Node l c)
  sees_node Nothing e m = cc
  sees_node Many e m = cc
  sees_node (Text x y) e m = cc
  sees_node (Bool b) e m = cc
  sees_node (Node x y) {l} {c} e m = let i = ap (λ (p : ℕ × ℕ). p.0) (some_is e) in let j = ap (λ (p : ℕ × ℕ). p.1) (some_is e) in
      subst (λ (z : ℕ). SeesBy byte s root (Node z c)) i (subst (λ (z : ℕ). SeesBy byte s root (Node x z)) j m.by)

  pub no_node : (a : Seen) → None ≡ node_of a → Sees byte s root a → (l : ℕ) (f : Forest) → there ≡ a_node l f → ⊥
  no_node Nothing e m l f h = let i = m.by in cc
  no_node Many e m l f h = let i = m.by in cc
  no_node (Text o n) e m l f h = let i = m.by.is in cc
  no_node (Bool x) e m l f h = let i = m.by in cc
  no_node (Node x y) e m l f h = cc

-- a condition that is no one bool
pub branch_stuck : {v : run.Seen} (at : Place) (y z : Quiet Forest) → ((b : bool.Bool) → v ≡ a_bool b → ⊥) → branch at v y z ≡ halt (stuck at)
unfolding branch
branch_stuck {v = nothing} at y z h = refl
branch_stuck {v = many} at y z h = refl
branch_stuck {v = a_text w} at y z h = refl
branch_stuck {v = a_bool b} at y z h = absurd (h b refl)
branch_stuck {v = a_node l f} at y z h = refl

-- the arm that a condition takes
abbrev pub Arm : bool.Bool → ℕ → ℕ → ℕ → Type 0
Arm b q r arm = ((b ≡ true) × (arm ≡ q)) ⊎ ((b ≡ false) × (arm ≡ r))

pub arm_branch : {b : bool.Bool} {q r arm : ℕ} (at : Place) (go : ℕ → Quiet Forest) → Arm b q r arm → branch at (a_bool b) (go q) (go r) ≡ go arm
unfolding branch
arm_branch {b} {q} {r} {arm} at go h = elim h [
  | inl x ↦ ap (λ (c : bool.Bool). branch at (a_bool c) (go q) (go r)) x.0 ∙ ap go (sym x.1)
  | inr x ↦ ap (λ (c : bool.Bool). branch at (a_bool c) (go q) (go r)) x.0 ∙ ap go (sym x.1)
]

pub arm_both : {b : bool.Bool} {q r arm : ℕ} (P : ℕ → Type 0) → Arm b q r arm → P q → P r → P arm
arm_both P h x y = elim h [ inl i ↦ subst P (sym i.1) x | inr i ↦ subst P (sym i.1) y ]
