-- One step of the walk: a place with the tree's head that may stand at a point is found in the tables (`Ready`), or there is none.
use Prim.Native.Nat.{ℕ, ◌≤◌, ◌<◌}
use mathlib.Core.Path.{◌≡◌, refl, sym, ◌∙◌, ap}
use mathlib.Core.Bool.{Bool, true, false, cond}
use mathlib.Core.List.{List}
use mathlib.Core.Logic.{inl, inr}
use native.Mathlib.Omega.{arith}
use lib.Dec.{eqb, ltb}
use lib.ListN.{get_or}
use borrow.Author.Tests.{eqb-true, eq-eqb, lt-ltb}
use Rattle.meaning.specs.Tests.{in_table}
use Rattle.meaning.specs.Sheet.{Cells, script_of, grove_of}
use Rattle.meaning.specs.Forest.{Tree}
use Rattle.meaning.specs.Types.{Head}
use Rattle.meaning.specs.Places.{Model, first, follows, start, next, head_of, head_at, Fits, Admits}
use Rattle.meaning.specs.Faults.{trees_at, tree_at, tree_head}
use Rattle.meaning.specs.Faults as faults
use Rattle.meaning.specs.Laws.Bools.{and_left, and_right, and_both, not_both}
use Rattle.meaning.specs.Laws.Tests.{in_table_lem, table_high}
use Rattle.meaning.specs.Laws.Wired.{has}
use Rattle.meaning.specs.Laws.Apart.{first_has, follows_has, model_placed, model_below, shaped_lower}
use Rattle.meaning.specs.Laws.Points.{has_first, has_follows}
use Rattle.meaning.specs.Laws.Shaped.{few_types}
use Rattle.bits.specs.Sets.{in_set}
use Rattle.type_places.specs.Tables.{model_of}
use Rattle.type_heads.specs.Heads.{acting_at, head_number, Acts, acts_text, acts_bool, acts_label}
use Rattle.fit.specs.Fitting.{tree_number, Looked, point, GoesOn, GoesWrong, Inside, Ready, Walks, Walking}
use Rattle.meaning.specs.Theorems.Faults.{grows}
use Rattle.meaning.specs.Laws.Trees.{Sort, a_text, a_bool, a_node, tree_row_lem, head_fits}
use Rattle.fit.proofs.Shaped.{acts}
use Rattle.fit.proofs.Heads.{number_of, Small, small_number, one_head, place_number, place_small, tree_number_lem, tree_small}

-- ---- what stands at a point is a place

start_first : (m : Model) (b : ℕ) → 1 ≤ b → start m b ≡ true → first m b ≡ true
start_first m b l h = has_first m b (and_both (ltb 0 b) (start m b) (lt-ltb 0 b l) h)

next_follows : (m : Model) (a b : ℕ) → 1 ≤ b → next m a b ≡ true → follows m a b ≡ true
next_follows m a b l h = has_follows m a b (and_both (ltb 0 b) (next m a b) (lt-ltb 0 b l) h)

-- a place with a label's number has a content
content_row : (n : ℕ) (d : Cells) → Acts n d → number_of (head_of d) ≤ 1023 → (d.kind ≡ 4) × (in_table n d.q ≡ true)
content_row n d (acts_text e) l = let g : 1024 ≤ 1023 = rw e at l in absurd (omega arith)
content_row n d (acts_bool e) l = let g : 1025 ≤ 1023 = rw e at l in absurd (omega arith)
content_row n d (acts_label e p q) l = (e, q)

node_row : (c : Cells) (r : ℕ) → Sort c r → c.kind ≡ 4 → (tree_number c ≤ 1023) × (c.q < r)
node_row c r (a_text e) k = absurd (omega arith)
node_row c r (a_bool (inl e)) k = absurd (omega arith)
node_row c r (a_bool (inr e)) k = absurd (omega arith)
node_row c r (a_node e p q) k = (rw e p, q)

-- ---- a point of the model at row k, in the tables

module _ {s : List ℕ} {firsts behind class same : List ℕ} (R : Ready s firsts behind class same) {r₀ k : ℕ} {t : List ℕ} (W : Walks s r₀ k t) where
  K : in_table (script_of s).types k ≡ true
  K = W.is_type

  abbrev m : Model
  m = model_of s k

  abbrev head : ℕ → Head
  head a = head_at (script_of s).type_row (script_of s).name_row a

  pub place_low : (a : ℕ) → has m a ≡ true → 1 ≤ a
  place_low a h = model_placed (script_of s).type_row (script_of s).name_row (shaped_lower s R.shaped) k a h

  pub place_high : (a : ℕ) → has m a ≡ true → a ≤ 512
  place_high a h = omega (arith, model_below (script_of s).type_row (script_of s).name_row (shaped_lower s R.shaped) k a h, table_high (script_of s).types k K, few_types s R.shaped)

  -- where the walk stands: at the start, or behind a place
  abbrev Stands : Bool → ℕ → Type 0
  Stands fresh a = (fresh ≡ true → a ≡ k) × (fresh ≡ false → has m a ≡ true)

  pub point_index : (fresh : Bool) (a : ℕ) → Stands fresh a → a ≤ 512
  point_index true a w = omega (arith, w.0 refl, table_high (script_of s).types k K, few_types s R.shaped)
  point_index false a w = place_high a (w.1 refl)

  -- the tables have the point's set, End among it
  pub point_set : (fresh : Bool) (a : ℕ) → Stands fresh a → (b : ℕ) → b < 576 → in_set (cond fresh firsts t) a b ≡ point m fresh a b
  point_set true a w b h = rw (w.0 refl) (rw (lt-ltb b 576 h) at (R.points.begins k K b))
  point_set false a w b h = W.nexts a (w.1 refl) b h

  point_has : (fresh : Bool) (a b : ℕ) → 1 ≤ b → point m fresh a b ≡ true → has m b ≡ true
  point_has true a b l h = first_has m b (start_first m b l h)
  point_has false a b l h = follows_has m a b (next_follows m a b l h)

  module _ {parent r : ℕ} {fresh : Bool} {a : ℕ} (Y : Walking s parent r₀ k r fresh a) (z : r ≡ 0 → ⊥) {b : ℕ}
      (L : Looked (cond fresh firsts t) a (tree_number ((grove_of s).row r)) class same b) where
    w : Stands fresh a
    w = (Y.at_start, Y.at_place)

    low : 1 ≤ r
    low = omega arith

    high : r ≤ (grove_of s).rows
    high = omega (arith, Y.low, W.is_tree)

    abbrev c : Cells
    c = (grove_of s).row r

    abbrev tree : Tree
    tree = tree_at (grove_of s) r

    sort : Sort c r
    sort = (tree_row_lem s R.shaped r low high).sort

    number : tree_number c ≡ number_of (tree_head tree)
    number = tree_number_lem (grove_of s).byte c r (trees_at (grove_of s) c.q) sort

    small : Small (tree_head tree)
    small = tree_small (grove_of s).byte c r (trees_at (grove_of s) c.q) sort

    numbered : tree_number c < 1026
    numbered = omega (arith, number, small_number (tree_head tree) small)

    -- a place has the tree's number exactly if it has its head
    has_head : (x : ℕ) → has m x ≡ true → head_number s x ≡ tree_number c → head x ≡ tree_head tree
    has_head x h e = let z = acts s R.shaped k x h in
        one_head (head x) (tree_head tree) (place_small (script_of s).types (acting_at s x) z) small (sym (place_number (script_of s).types s x z) ∙ e ∙ number)

    has_number : (x : ℕ) → has m x ≡ true → head x ≡ tree_head tree → head_number s x ≡ tree_number c
    has_number x h e = place_number (script_of s).types s x (acts s R.shaped k x h) ∙ ap number_of e ∙ sym number

    -- a place with the tree's number is in its class, and what is in the class has the number
    in_class : (x : ℕ) → has m x ≡ true → head_number s x ≡ tree_number c → in_set same (get_or class (tree_number c) 0) x ≡ true
    in_class x h e =
        let u = place_high x h in
        let t = in_table_lem (script_of s).types x (place_low x h) (omega (arith, model_below (script_of s).type_row (script_of s).name_row (shaped_lower s R.shaped) k x h, table_high (script_of s).types k K)) in
        R.classes.members (tree_number c) numbered x (omega arith) ∙ and_both (in_table (script_of s).types x) (eqb (head_number s x) (tree_number c)) t (eq-eqb (head_number s x) (tree_number c) e)

    class_number : (x : ℕ) → x < 576 → in_set same (get_or class (tree_number c) 0) x ≡ true → head_number s x ≡ tree_number c
    class_number x l h = eqb-true (head_number s x) (tree_number c) (and_right (in_table (script_of s).types x) _ (sym (R.classes.members (tree_number c) numbered x l) ∙ h))

    -- no place has the tree's head
    pub missed : 576 ≤ b → GoesWrong s parent r m (point m fresh a) r
    missed n = faults.Fault.head low (λ x d.
        let h = point_has fresh a x d.is_place d.may_stand in
        let u = place_high x h in
        not_both (and_both (in_set (cond fresh firsts t) a x) (in_set same (get_or class (tree_number c) 0) x) (point_set fresh a w x (omega arith) ∙ d.may_stand)
        (in_class x h (has_number x h d.has_head))) (L.none n numbered x d.is_place (omega arith)))

    -- a place is found: the tree's head stands there
    module _ (n : b < 576) where
      found_low : 1 ≤ b
      found_low = (L.here n).1

      at_point : point m fresh a b ≡ true
      at_point = sym (point_set fresh a w b n) ∙ and_left _ _ (L.here n).2

      pub found_has : has m b ≡ true
      found_has = point_has fresh a b found_low at_point

      found_number : head_number s b ≡ tree_number c
      found_number = class_number b n (and_right (in_set (cond fresh firsts t) a b) (in_set same (get_or class (tree_number c) 0) b) (L.here n).2)

      found_head : head b ≡ tree_head tree
      found_head = has_head b found_has found_number

      stands : faults.Stands (script_of s).type_row (script_of s).name_row (grove_of s) (point m fresh a) r b
      stands = record { is_place = found_low; may_stand = at_point; has_head = found_head }

      -- its children are of the place's content
      abbrev Filled : Type 0
      Filled = c.kind ≡ 4 → Inside s c.q (acting_at s b).q

      fitting : Filled → Fits (script_of s).type_row (script_of s).name_row tree b
      fitting y = head_fits (grove_of s).byte c r (trees_at (grove_of s) c.q) (script_of s).type_row (script_of s).name_row b sort found_head y

      pub taken : Filled → GoesOn s c.r m (next m b) → GoesOn s r m (point m fresh a)
      unfolding Admits
      taken y g = rw (grows s R.shaped r low high) (b, found_low, at_point, fitting y, g)

      -- the fault is behind the tree, or inside it
      pub wrong_behind : Filled → (x : ℕ) → GoesWrong s parent c.r m (next m b) x → GoesWrong s parent r m (point m fresh a) x
      wrong_behind y x g = faults.Fault.behind low stands (fitting y) g

      pub wrong_inside : c.kind ≡ 4 → (x : ℕ) → GoesWrong s r c.q (model_of s (acting_at s b).q) (start (model_of s (acting_at s b).q)) x → GoesWrong s parent r m (point m fresh a) x
      wrong_inside e x g = faults.Fault.inside low stands e g

      pub found_content : c.kind ≡ 4 → ((acting_at s b).kind ≡ 4) × (in_table (script_of s).types (acting_at s b).q ≡ true)
      found_content e = let z = acts s R.shaped k b found_has in
          content_row (script_of s).types (acting_at s b) z (omega (arith, place_number (script_of s).types s b z, found_number, (node_row c r sort e).0))

      pub found_child : c.kind ≡ 4 → c.q < r
      found_child e = (node_row c r sort e).1

    pub next_lower : c.r < r
    next_lower = (tree_row_lem s R.shaped r low high).next
