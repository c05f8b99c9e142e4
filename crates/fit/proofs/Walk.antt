-- The walk over the trees at a row, place by place: what each place of the code holds, from one step's laws (Step).
use Prim.Native.Nat.{ℕ, ◌≤◌, ◌<◌}
use mathlib.Core.Path.{◌≡◌, refl, sym, ◌∙◌, ap}
use mathlib.Core.Bool.{Bool, true, false, cond, false≢true}
use mathlib.Core.List.{List}
use mathlib.Core.Logic.{inl, inr}
use Rattle.std.specs.Prelude.{Result, Ok, Err, IsErrAnd}
use native.Mathlib.Omega.{arith}
use lib.ListN.{get_or}
use Rattle.meaning.specs.Sheet.{Cells, grove_of}
use Rattle.meaning.specs.Places.{Model, Admits}
use Rattle.meaning.specs.Faults as faults
use Rattle.meaning.specs.Laws.Rows.{forest_at_zero}
use Rattle.meaning.specs.Laws.Shaped.{few_types}
use Rattle.meaning.specs.Laws.Trees.{Sort, a_text, a_bool, a_node, tree_row_lem}
use Rattle.bits.specs.Sets.{in_set}
use Rattle.sheet.specs.Laid.{cells_of}
use Rattle.sheet.specs.declared.forms.Tree.{Tree}
use Rattle.sheet.specs.Forms.{tree_said}
use Rattle.sheet.specs.declared.Row.{Row}
use Rattle.type_places.specs.Tables.{model_of}
use Rattle.type_heads.specs.Heads.{acting_at}
use Rattle.fit.specs.declared.Fault.{Fault as Found}
use Rattle.fit.specs.Fitting.{tree_number, said_number, Looked, point, GoesOn, Inside, Finds, Ready, Walks, Walking}
use Rattle.fit.proofs.Whole.{contents}
use Rattle.fit.proofs.Step as step

-- what is found, handed on
as_err : {s : List ℕ} {parent r k : ℕ} {f : Found} {x : Result Unit Found} → IsErrAnd x (λ y. y ≡ f) → Finds s parent r k (Err f) → Finds s parent r k x
as_err {x = Err y} e v = rw e v
as_err {x = Ok u} e v = elim e [ ]

-- ---- what a tree's row says

number_is : {d : Cells} {r : ℕ} → Sort d r → said_number (tree_said d) ≡ tree_number d
number_is (a_text e) = rw e
number_is (a_bool (inl e)) = rw e
number_is (a_bool (inr e)) = rw e
number_is (a_node e p q) = rw e

node_is : (d : Cells) {r : ℕ} → Sort d r → {l q : ℕ} → Tree.Node l q ≡ tree_said d → (d.kind ≡ 4) × (q ≡ d.q)
node_is d (a_text e) n = let z = rw e at n in cc
node_is d (a_bool (inl e)) n = let z = rw e at n in cc
node_is d (a_bool (inr e)) n = let z = rw e at n in cc
node_is d (a_node e p q) n = let z = rw e at n in (e, cc)

no_node : (d : Cells) → d.kind ≡ 4 → {tree : Tree} → tree ≡ tree_said d → ((l q : ℕ) → tree ≡ Tree.Node l q → ⊥) → ⊥
no_node d e z x = x d.p d.q (z ∙ rw e)

module _ {s : List ℕ} {firsts behind class same : List ℕ} (R : Ready s firsts behind class same) {r₀ k : ℕ} {t : List ℕ} (W : Walks s r₀ k t) where
  pub begins : {parent : ℕ} → Walking s parent r₀ k r₀ true k
  begins = record { low = omega arith; at_start = λ e. refl; at_place = λ e. absurd (false≢true (sym e)); fits = λ x. x; fault = λ x w. w }

  -- every class is a set of the table
  pub few : (h : ℕ) → h < 1026 → get_or class h 0 ≤ 512
  few h l = omega (arith, R.classes.leader h l, few_types s R.shaped)

  module _ {parent r : ℕ} {fresh : Bool} {a : ℕ} (Y : Walking s parent r₀ k r fresh a) where
    abbrev m : Model
    m = model_of s k

    pub index : a ≤ 512
    index = step.point_index R W fresh a (Y.at_start, Y.at_place)

    -- no tree is left: the content may end, or ends too soon
    none_left : r ≡ 0 → point m fresh a 0 ≡ true → GoesOn s r m (point m fresh a)
    unfolding Admits
    none_left e x = rw (e, forest_at_zero (grove_of s).byte (grove_of s).row) x

    module _ (z : r ≡ 0) {sets : List ℕ} (E : sets ≡ cond fresh firsts t) {x : Bool} (e : x ≡ in_set sets a 0) where
      at_end : x ≡ point m fresh a 0
      at_end = (rw E at e) ∙ step.point_set R W fresh a (Y.at_start, Y.at_place) 0 (omega arith)

      pub ended : x ≡ true → Finds s parent r₀ k (Ok tt)
      ended y = record { by = Y.fits (none_left z (sym at_end ∙ y)) }

      pub too_soon : x ≡ false → {f : Found} → f.row ≡ parent → Finds s parent r₀ k (Err f)
      too_soon y g = record { by = rw g (Y.fault parent (faults.Fault.ends z (sym at_end ∙ y))) }

    module _ (z : r ≡ 0 → ⊥) where
      abbrev d : Cells
      d = (grove_of s).row r

      sort : Sort d r
      sort = (tree_row_lem s R.shaped r (omega arith) (omega (arith, Y.low, W.is_tree))).sort

      module _ (c : Row) (C : cells_of c ≡ d) {tree : Tree} (T : tree ≡ tree_said (cells_of c)) {h : ℕ} (H : h ≡ said_number tree) {sets : List ℕ} (E : sets ≡ cond fresh firsts t) {b : ℕ}
          (L : Looked sets a h class same b) where
        said : tree ≡ tree_said d
        said = T ∙ ap tree_said C

        here : Looked (cond fresh firsts t) a (tree_number d) class same b
        here = rw (H ∙ ap said_number said ∙ number_is sort) at (rw E at L)

        -- no place has the tree's head
        pub missed : 576 ≤ b → {f : Found} → f.row ≡ r → Finds s parent r₀ k (Err f)
        missed n e = record { by = rw e (Y.fault r (step.missed R W Y z here n)) }

        next_is : c.r ≡ d.r
        next_is = ap (λ (x : Cells). x.r) C

        module _ (n : b < 576) where
          -- the tree's children are of the place's content
          abbrev Filled : Type 0
          Filled = d.kind ≡ 4 → Inside s d.q (acting_at s b).q

          pub leaf : ((l q : ℕ) → tree ≡ Tree.Node l q → ⊥) → Filled
          leaf x e = absurd (no_node d e said x)

          pub next_lower : c.r < r
          next_lower = omega (arith, next_is, step.next_lower R W Y z here)

          pub goes_on : Filled → Walking s parent r₀ k c.r false b
          goes_on f = record {
            low = omega (arith, Y.low, next_lower);
            at_start = λ e. absurd (false≢true e);
            at_place = λ e. step.found_has R W Y z here n;
            fits = λ x. Y.fits (step.taken R W Y z here n f (rw next_is at x));
            fault = λ x w. Y.fault x (step.wrong_behind R W Y z here n f x (rw next_is at w));
          }

          module _ {q : ℕ} (Q : q ≡ (acting_at s b).q) {l i : ℕ} (N : Tree.Node l i ≡ tree_said (cells_of c)) where
            node : (d.kind ≡ 4) × (i ≡ d.q)
            node = node_is d sort (N ∙ ap tree_said C)

            pub child : i < r
            child = omega (arith, node.1, step.found_child R W Y z here n node.0)

            pub walks : Walks s i q behind
            walks = let x = step.found_content R W Y z here n node.0 in record {
              is_tree = omega (arith, child, Y.low, W.is_tree);
              is_type = rw Q x.1;
              nexts = rw Q (contents s R.shaped R.points b x.0);
            }

            pub filled : {u : Unit} → Finds s r i q (Ok u) → Filled
            filled f e = rw (node.1, Q) at f.by

            -- the fault is inside the tree
            pub wrong : {f : Found} → Finds s r i q (Err f) → {x : Result Unit Found} → IsErrAnd x (λ y. y ≡ f) → Finds s parent r₀ k x
            wrong {f} v e = as_err e (record { by = Y.fault f.row (step.wrong_inside R W Y z here n node.0 f.row (rw (node.1, Q) at v.by)) })
