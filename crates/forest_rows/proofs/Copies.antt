-- A list of trees is copied downwards: what is still to be written below row `to + 1` is continued by the rows above it. `copy` and gather share it.
use Prim.Native.Nat.{ℕ, zero, suc, ◌+◌, ◌-◌, ◌≤◌, ◌<◌}
use native.Mathlib.Omega.{arith}
use mathlib.Core.Path.{◌≡◌, refl, sym, ap, ◌∙◌, subst}
use mathlib.Core.Bool.{Bool, true, false, cond}
use borrow.Author.Tests.{eq-eqb, ne_eqb}
use Rattle.std.proofs.Math.Decide.{dec_le}
use mathlib.Core.List.{List}
use lib.ListN.{length}
use Rattle.meaning.specs.Tests.{in_table}
use Rattle.meaning.specs.Sheet.{Cells}
use Rattle.meaning.specs.Forest.{Tree, Forest, nil, cons, ◌⊕◌, count, tree_form, forest_at}
use Rattle.meaning.specs.Laws.Forest.{⊕-nil, ⊕-assoc, count-⊕}
use Rattle.meaning.specs.Laws.Rows.{node_form, LowRow, LowRows, SameRows, tree_same, forest_at_zero}
use Rattle.meaning.specs.Theorems.ReadBack.{lent_row}
use Rattle.walk.specs.Meets.{low_same, same_trans, forest_kept}
use Rattle.walk.specs.Loop.{Links, gathered}
use Rattle.forest_rows.specs.Rows.{Pushed, CopyAsks, Copied, Takes, GatherAsks, Gathered, chosen, link}
use Rattle.forest_rows.specs.declared.Which.{Which}
use Rattle.forest_rows.specs.declared.Which.TheVariants.{All}
use Rattle.forest_rows.specs.Table.{read_next, read_child, read_forest, read_count, forest_none, count_none, push_low, push_forest}
use Rattle.forest_rows.proofs.Labels.{out_three, chosen_yes, chosen_no, count_chosen_none}

-- ---- counts

count_any : (byte : ℕ → ℕ) (a : ℕ → Cells) (k r : ℕ) → LowRows a r → r ≤ k → count (forest_at byte a r) ≤ r
count_any byte a zero zero low h = omega (arith, count_none byte a 0 refl)
count_any byte a (suc k) zero low h = omega (arith, count_none byte a 0 refl)
count_any byte a zero (suc r) low h = absurd (omega arith)
count_any byte a (suc k) (suc r) low h =
    let next = read_next a (suc r) (suc r) (a (suc r)) low (omega arith) (omega arith) refl in
    omega (arith, read_count byte a (suc r) (suc r) (a (suc r)) low (omega arith) (omega arith) refl, count_any byte a k (a (suc r)).r (λ i p q. low i p (omega arith)) (omega arith))

-- no more trees than rows
pub count_le : (byte : ℕ → ℕ) (a : ℕ → Cells) (n r : ℕ) → LowRows a n → r ≤ n → count (forest_at byte a r) ≤ r
count_le byte a n r low h = count_any byte a r r (λ i p q. low i p (omega arith)) (omega arith)

-- ---- copying: what is still to be written, below row `to`, is continued by the rows above it

count_zero : (f : Forest) → count f ≡ 0 → f ≡ nil
unfolding count
count_zero nil e = refl
count_zero (cons t f) e = absurd (omega arith)

module _ (used b to : ℕ) where
  pub link_none : to ≡ used → link used b to ≡ b
  link_none e = ap (λ (t : Bool). cond t b to) (eq-eqb to used e)

  pub link_some : (to ≡ used → ⊥) → link used b to ≡ to
  link_some h = ap (λ (t : Bool). cond t b to) (ne_eqb to used h)

pub link_low : (used b to : ℕ) → b ≤ used → used ≤ to → link used b to ≤ to
link_low used b to hb h = elim (dec_le to used) [ yes i ↦ omega (arith, link_none used b to (omega arith)) | no i ↦ omega (arith, link_some used b to (λ e. i (omega arith))) ]

pub record Copying (byte : ℕ → ℕ) (s t : List ℕ) (used b : ℕ) (all rest : Forest) (top to : ℕ) : Type 0 where
  pub todo : to ≡ used + count rest
  pub below : to ≤ top
  pub same : SameRows (lent_row s) (lent_row t) used
  pub whole : (u : ℕ → Cells) → SameRows (lent_row s) u used → ((r : ℕ) → to < r → r ≤ top → lent_row t r ≡ u r) → LowRows u to → forest_at byte u (link used b to) ≡ rest ⊕ forest_at byte (lent_row s) b
      → (LowRows u top) × (forest_at byte u (link used b top) ≡ all ⊕ forest_at byte (lent_row s) b)

pub copy_start : (byte : ℕ → ℕ) (s : List ℕ) (used b : ℕ) (all : Forest) (top : ℕ) → top ≡ used + count all → Copying byte s s used b all all top top
copy_start byte s used b all top is = record { todo = is; below = omega arith; same = λ r i j. refl; whole = λ u su ba lo v. (lo, v) }

-- a tree that is not meant
pub copy_skip : {byte : ℕ → ℕ} {s t : List ℕ} {used b : ℕ} {all rest after : Forest} {top to : ℕ} → rest ≡ after → Copying byte s t used b all rest top to → Copying byte s t used b all after top to
copy_skip {byte} {s} {t} {used} {b} {all} {top = top} {to} e g = subst (λ (f : Forest). Copying byte s t used b all f top to) e g

-- the next tree meant is that of the row c
pub copy_more : {byte : ℕ → ℕ} {s t : List ℕ} {used b : ℕ} {all rest : Forest} {top to : ℕ} → Copying byte s t used b all rest top to → LowRows (lent_row s) used → b ≤ used → (c : Cells) (after : Forest)
    → (in_table 3 c.kind ≡ false → c.q ≤ used) → rest ≡ cons (tree_form byte c (forest_at byte (lent_row s) c.q)) after
    → {t' : List ℕ} → used < to → Pushed t t' (to - 1) (record { kind = c.kind; p = c.p; q = c.q; r = link used b (to - 1) }) → Copying byte s t' used b all after top (to - 1)
unfolding ◌⊕◌ count
copy_more {byte} {s} {t} {used} {b} {all} {rest} {top} {to} g low hb c after child f {t'} h w =
    let cn : count rest ≡ suc (count after) = ap count f in
    let td = g.todo in
    let bl = g.below in
    let e : to - 1 + 1 ≡ to = omega arith in
    let c' : Cells = record { kind = c.kind; p = c.p; q = c.q; r = link used b (to - 1) } in
    let ll = link_low used b (to - 1) hb (omega arith) in
    let lower : LowRow c' (to - 1 + 1) = record { child = λ k. omega (arith, child k); next = omega arith } in
    let old : Forest = forest_at byte (lent_row s) b in
    record {
      todo = omega arith;
      below = omega arith;
      same = same_trans used (to - 1) (lent_row s) (lent_row t) (lent_row t') (omega arith) g.same w.same;
      whole = λ u su ba lo v.
          let here : u (to - 1 + 1) ≡ c' = sym (ba (to - 1 + 1) (omega arith) (omega arith)) ∙ w.row in
          let fp = push_forest u u (to - 1) c' lo (λ r i j. refl) here lower byte in
          let fq = tree_same byte c (forest_at byte u c.q) (forest_at byte (lent_row s) c.q) (λ k. forest_kept byte used (lent_row s) u c.q low su (child k)) in
          g.whole u su (λ r i j. w.above r (omega arith) ∙ ba r (omega arith) j) (subst (LowRows u) e (push_low u u (to - 1) c' lo (λ r i j. refl) here lower))
          (ap (forest_at byte u) (link_some used b to (λ z. omega arith) ∙ sym e) ∙ fp ∙ ap (λ (x : Tree). cons x (forest_at byte u (link used b (to - 1)))) fq
          ∙ ap (cons (tree_form byte c (forest_at byte (lent_row s) c.q))) v ∙ sym (ap (λ (y : Forest). y ⊕ old) f));
    }

-- none is left
pub copy_done : {byte : ℕ → ℕ} {s t : List ℕ} {used b : ℕ} {all rest : Forest} {top to : ℕ} → Copying byte s t used b all rest top to → LowRows (lent_row s) used → b ≤ used → (used < to → ⊥)
    → (LowRows (lent_row t) top) × (forest_at byte (lent_row t) (link used b top) ≡ all ⊕ forest_at byte (lent_row s) b)
unfolding ◌⊕◌
copy_done {byte} {s} {t} {used} {b} {all} {rest} {top} {to} g low hb h =
    let td = g.todo in
    let e : used ≡ to = omega arith in
    let z : rest ≡ nil = count_zero rest (omega arith) in
    g.whole (lent_row t) g.same (λ r i j. refl) (subst (LowRows (lent_row t)) e (low_same used (lent_row s) (lent_row t) low g.same))
    (ap (forest_at byte (lent_row t)) (link_none used b to (sym e)) ∙ forest_kept byte used (lent_row s) (lent_row t) b low g.same hb ∙ sym (ap (λ (y : Forest). y ⊕ forest_at byte (lent_row s) b) z))

-- the row at `at` is read in later rows
module _ (s t : List ℕ) (used at : ℕ) (c : Cells) (low : LowRows (lent_row s) used) (same : SameRows (lent_row s) (lent_row t) used) (some : 0 < at) (within : at ≤ used) (is : c ≡ lent_row t at) where
  pub here_row : c ≡ lent_row s at
  here_row = is ∙ sym (same at some within)

  pub here_next : c.r < at
  here_next = read_next (lent_row s) used at c low some within here_row

  pub here_child : in_table 3 c.kind ≡ false → c.q ≤ used
  here_child k = omega (arith, read_child (lent_row s) used at c low some within here_row k)

  pub here_is : (byte : ℕ → ℕ) → forest_at byte (lent_row s) at ≡ cons (tree_form byte c (forest_at byte (lent_row s) c.q)) (forest_at byte (lent_row s) c.r)
  here_is byte = read_forest byte (lent_row s) used at c low some within here_row

-- how far a copy is, for every pool
pub record Copies (s t : List ℕ) (used : ℕ) (which : Which) (a b at top to : ℕ) : Type 0 where
  pub copy : (byte : ℕ → ℕ) → Copying byte s t used b (chosen which (forest_at byte (lent_row s) a)) (chosen which (forest_at byte (lent_row s) at)) top to
  pub within : at ≤ used
  pub long : length t ≡ length s

any : ℕ → ℕ
any i = 0

module _ {s : List ℕ} {used a b : ℕ} {which : Which} (j : CopyAsks s used which a b) where
  module _ {t : List ℕ} {at top to : ℕ} (g : Copies s t used which a b at top to) where
    pub copies_some : used < to → 0 < at
    copies_some h = positive at (λ z. omega (arith, (g.copy any).todo, count_chosen_none any (lent_row s) which at z))
      where
        positive : (y : ℕ) → (y ≡ 0 → ⊥) → 0 < y
        positive zero h = absurd (h refl)
        positive (suc y) h = omega arith

    pub copies_done : (used < to → ⊥) → ((byte : ℕ → ℕ) → top ≡ used + count (chosen which (forest_at byte (lent_row s) a))) → (byte : ℕ → ℕ) → Copied byte s t used which a b (link used b top) top
    copies_done h istop byte =
        let d = copy_done (g.copy byte) j.low j.second h in
        record { value = d.1; rows = istop byte; inside = link_low used b top j.second (omega (arith, istop byte)); low = d.0; same = (g.copy byte).same }

    module _ (c : Cells) (is : c ≡ lent_row t at) {m : Bool} (takes : Takes which c m) (h : used < to) where
      same_now : SameRows (lent_row s) (lent_row t) used
      same_now = (g.copy any).same

      here : c ≡ lent_row s at
      here = here_row s t used at c j.low same_now (copies_some h) g.within is

      pub copies_next : c.r < at
      copies_next = here_next s t used at c j.low same_now (copies_some h) g.within is

      pub copies_skip : m ≡ false → Copies s t used which a b c.r top to
      copies_skip e = record {
        copy = λ byte. copy_skip (chosen_no byte (lent_row s) which used at c j.low (copies_some h) g.within here takes e) (g.copy byte);
        within = omega (arith, copies_next, g.within);
        long = g.long;
      }

      pub copies_more : {t' : List ℕ} → m ≡ true → length t' ≡ length t → Pushed t t' (to - 1) (record { kind = c.kind; p = c.p; q = c.q; r = link used b (to - 1) }) → Copies s t' used which a b c.r top (to - 1)
      copies_more e l w = record {
        copy = λ byte. copy_more (g.copy byte) j.low j.second c (chosen which (forest_at byte (lent_row s) c.r)) (here_child s t used at c j.low same_now (copies_some h) g.within is)
            (chosen_yes byte (lent_row s) which used at c j.low (copies_some h) g.within here takes e) h w;
        within = omega (arith, copies_next, g.within);
        long = l ∙ g.long;
      }

-- ---- gather: the links are gone through from the last

links_node : (byte : ℕ → ℕ) (c : Cells) (f rest : Forest) → Links (cons (tree_form byte c f) rest) → (k : ℕ) → c.kind ≡ k → in_table 3 k ≡ false
unfolding Links
links_node byte c f rest h zero e = refl
links_node byte c f rest h (suc zero) e = absurd (subst (λ (d : Cells). Links (cons (tree_form byte d f) rest)) (ap (λ (k : ℕ). record { kind = k; p = c.p; q = c.q; r = c.r }) e) h)
links_node byte c f rest h (suc (suc zero)) e = absurd (subst (λ (d : Cells). Links (cons (tree_form byte d f) rest)) (ap (λ (k : ℕ). record { kind = k; p = c.p; q = c.q; r = c.r }) e) h)
links_node byte c f rest h (suc (suc (suc zero))) e = absurd (subst (λ (d : Cells). Links (cons (tree_form byte d f) rest)) (ap (λ (k : ℕ). record { kind = k; p = c.p; q = c.q; r = c.r }) e) h)
links_node byte c f rest h (suc (suc (suc (suc k)))) e = out_three (suc (suc (suc (suc k)))) (λ i j. omega arith)

links_rest : (t : Tree) (rest : Forest) → Links (cons t rest) → Links rest
unfolding Links
links_rest (Tree.text w) rest h = absurd h
links_rest (Tree.bool b) rest h = absurd h
links_rest (Tree.node l x) rest h = h

gathered_node : (byte : ℕ → ℕ) (c : Cells) (f rest : Forest) → in_table 3 c.kind ≡ false → gathered (cons (tree_form byte c f) rest) ≡ gathered rest ⊕ f
unfolding gathered
gathered_node byte c f rest e = ap (λ (t : Tree). gathered (cons t rest)) (node_form byte c f e)

gathered_none : (byte : ℕ → ℕ) (a : ℕ → Cells) (r : ℕ) → r ≡ 0 → gathered (forest_at byte a r) ≡ nil
unfolding gathered
gathered_none byte a r e = ap gathered (forest_none byte a r e)

-- one pool's account of how far it is
pub record Gathering (byte : ℕ → ℕ) (s t : List ℕ) (used link at root n : ℕ) : Type 0 where
  pub value : gathered (forest_at byte (lent_row s) at) ⊕ forest_at byte (lent_row t) root ≡ gathered (forest_at byte (lent_row s) link)
  pub rows : n + count (gathered (forest_at byte (lent_row s) at)) ≡ used + count (gathered (forest_at byte (lent_row s) link))

-- and what all pools share; `pool` is the one by which the room is counted
pub record Going (pool : ℕ → ℕ) (s t : List ℕ) (used link at root n : ℕ) : Type 0 where
  pub each : (byte : ℕ → ℕ) → Gathering byte s t used link at root n
  pub among : at ≤ used
  pub links : Links (forest_at pool (lent_row s) at)
  pub inside : root ≤ n
  pub grown : used ≤ n
  pub low : LowRows (lent_row t) n
  pub same : SameRows (lent_row s) (lent_row t) used
  pub long : length t ≡ length s

module _ {s : List ℕ} {used link : ℕ} (j : GatherAsks s used link) where
  pub gather_start : Going j.byte s s used link link 0 used
  gather_start = record {
    each = λ byte. record { value = ap (λ (f : Forest). gathered (forest_at byte (lent_row s) link) ⊕ f) (forest_at_zero byte (lent_row s)) ∙ ⊕-nil (gathered (forest_at byte (lent_row s) link)); rows = refl };
    among = j.inside;
    links = j.links;
    inside = omega arith;
    grown = omega arith;
    low = j.low;
    same = λ r i k. refl;
    long = refl;
  }

  module _ {t : List ℕ} {at root n : ℕ} (g : Going j.byte s t used link at root n) where
    pub gather_done : at ≡ 0 → (byte : ℕ → ℕ) → Gathered byte s t used link root n
    unfolding ◌⊕◌ count
    gather_done e byte =
        let z = gathered_none byte (lent_row s) at e in
        record {
          value = sym (ap (λ (y : Forest). y ⊕ forest_at byte (lent_row t) root) z) ∙ (g.each byte).value;
          rows = omega (arith, (g.each byte).rows, ap count z);
          inside = g.inside;
          low = g.low;
          same = g.same;
        }

    module _ (c : Cells) (some : 0 < at) (is : c ≡ lent_row t at) where
      pub gather_next : c.r < at
      gather_next = here_next s t used at c j.low g.same some g.among is

      here_links : Links (cons (tree_form j.byte c (forest_at j.byte (lent_row s) c.q)) (forest_at j.byte (lent_row s) c.r))
      here_links = subst Links (here_is s t used at c j.low g.same some g.among is j.byte) g.links

      gather_kind : in_table 3 c.kind ≡ false
      gather_kind = links_node j.byte c (forest_at j.byte (lent_row s) c.q) (forest_at j.byte (lent_row s) c.r) here_links c.kind refl

      gather_child : c.q ≤ used
      gather_child = here_child s t used at c j.low g.same some g.among is gather_kind

      module _ (byte : ℕ → ℕ) where
        gather_is : gathered (forest_at byte (lent_row s) at) ≡ gathered (forest_at byte (lent_row s) c.r) ⊕ forest_at byte (lent_row s) c.q
        gather_is = ap gathered (here_is s t used at c j.low g.same some g.among is byte) ∙ gathered_node byte c (forest_at byte (lent_row s) c.q) (forest_at byte (lent_row s) c.r) gather_kind

        gather_kept : forest_at byte (lent_row t) c.q ≡ forest_at byte (lent_row s) c.q
        gather_kept = forest_kept byte used (lent_row s) (lent_row t) c.q j.low g.same gather_child

        gather_count : n + count (gathered (forest_at byte (lent_row s) c.r)) + count (forest_at byte (lent_row t) c.q) ≡ used + count (gathered (forest_at byte (lent_row s) link))
        gather_count = omega (arith, (g.each byte).rows, ap count gather_is, count-⊕ (gathered (forest_at byte (lent_row s) c.r)) (forest_at byte (lent_row s) c.q), ap count gather_kept)

      pub gather_asks : CopyAsks t n All c.q root
      gather_asks = record {
        byte = j.byte;
        low = g.low;
        first = omega (arith, gather_child, g.grown);
        second = g.inside;
        room = omega (arith, j.room, gather_count j.byte, g.long);
        small = omega (arith, j.small, gather_count j.byte);
      }

      pub gather_more : {u : List ℕ} {root' n' : ℕ} → length u ≡ length t → ((byte : ℕ → ℕ) → Copied byte t u n All c.q root root' n') → Going j.byte s u used link c.r root' n'
      gather_more {u} {root'} {n'} e m = record {
        each = λ byte. record {
          value = ap (λ (f : Forest). gathered (forest_at byte (lent_row s) c.r) ⊕ f) ((m byte).value ∙ ap (λ (y : Forest). y ⊕ forest_at byte (lent_row t) root) (gather_kept byte))
              ∙ sym (⊕-assoc (gathered (forest_at byte (lent_row s) c.r)) (forest_at byte (lent_row s) c.q) (forest_at byte (lent_row t) root))
              ∙ sym (ap (λ (y : Forest). y ⊕ forest_at byte (lent_row t) root) (gather_is byte)) ∙ (g.each byte).value;
          rows = omega (arith, (m byte).rows, gather_count byte);
        };
        among = omega (arith, gather_next, g.among);
        links = links_rest (tree_form j.byte c (forest_at j.byte (lent_row s) c.q)) (forest_at j.byte (lent_row s) c.r) here_links;
        inside = (m j.byte).inside;
        grown = omega (arith, (m j.byte).rows, g.grown);
        low = (m j.byte).low;
        same = same_trans used n (lent_row s) (lent_row t) (lent_row u) g.grown g.same (m j.byte).same;
        long = e ∙ g.long;
      }
