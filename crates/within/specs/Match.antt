-- A walk over pairs of places and the two sides of Theorems/Within: a pair that arrives is reached, a walk that is lost has reached a bad pair, and what has been looked at is looked at. For any
-- table of found places whose sets the found side shows (`Matches`).
use Rattle.std.specs.Prelude.{ℕ, ◌≤◌, ◌<◌, ◌≡◌, refl, Bool, true, ◌&&◌, List, ◌⊎◌, ltb, get_or}
use Rattle.std.proofs.Common.{sym, ◌∙◌, inl, inr, arith, lt-ltb, ltb-true}
use Rattle.meaning.specs.Tests.{in_table}
use Rattle.meaning.specs.Sheet.{Cells, script_of}
use Rattle.meaning.specs.Types.{Head}
use Rattle.meaning.specs.Places.{Set, model_at, head_at}
use Rattle.meaning.specs.Shape.{shapely}
use Rattle.meaning.specs.Laws.Bools.{and_left, and_right, and_both}
use Rattle.meaning.specs.Laws.Tests.{table_high}
use Rattle.meaning.specs.Laws.Shaped.{few_types}
use Rattle.meaning.specs.Laws.Apart.{shaped_lower, shaped_labelled, atom_kind}
use Rattle.meaning.specs.Laws.Pairs.{Side, Comes, behind, inside, Bad, bad_end, bad_place, Looked}
use Rattle.meaning.specs.Laws.Points.{table_side}
use Rattle.meaning.specs.Theorems.Within.Rows.{acting_kind}
use Rattle.bits.specs.Sets.{in_set}
use Rattle.type_places.specs.Tables.{set_of}
use Rattle.type_models.specs.Roots.{is_root}
use Rattle.type_heads.specs.Heads.{stands_for, acting_at}
use Rattle.within_pairs.specs.Meet.{Rival, Faced, Clash, at_end, at_place}
use Rattle.type_tables.specs.Points.{SheetPoints}
use Rattle.type_tables.specs.Sides.{wanted_inner, acting_content}
use Rattle.within_pairs.specs.Reach.{Placed, Asked, placed_low, placed_after, placed_first, Seen, Arrives, waits, onward, inward, Turned, Failed, not_after, not_inside, Lost}

-- X is set j of t, its places moved by k
pub record Image (k : ℕ → ℕ) (X : Set) (t : List ℕ) (j : ℕ) : Type 0 where
  pub end : X 0 ≡ in_set t j 0
  pub put : (a : ℕ) → 1 ≤ a → a < 576 → in_set t j a ≡ true → (1 ≤ k a) × (X (k a) ≡ true)
  pub get : (b : ℕ) → 1 ≤ b → X b ≡ true → (a : ℕ) × (1 ≤ a) × (a < 576) × (b ≡ k a) × (in_set t j a ≡ true)

-- a set is its own image
pub image_self : (t : List ℕ) (j : ℕ) → Image (λ a. a) (set_of t j) t j
image_self t j = record {
  end = refl;
  put = λ a l h e. (l, and_both (ltb a 576) (in_set t j a) (lt-ltb a 576 h) e);
  get = λ b l e. (b, l, ltb-true b 576 (and_left (ltb b 576) (in_set t j b) e), refl, and_right (ltb b 576) (in_set t j b) e);
}

-- the tables are right for the types asked about of a sheet
pub sheet_asked : {s opens nexts : List ℕ} → shapely s ≡ true → SheetPoints s opens nexts → (r : ℕ) → in_table (script_of s).types r ≡ true → is_root s r ≡ true
    → Asked (script_of s).type_row opens nexts r
sheet_asked {s} e P r h k = record { high = omega (arith, table_high (script_of s).types r h, few_types s e); wired = P.roots r h k; begins = P.begins r h }

module _ (hd : ℕ → Head) (inner nx : ℕ → Set) (from : Set) (s opens nexts same : List ℕ) (w : ℕ) where
  abbrev S : ℕ → Cells
  S = (script_of s).type_row

  abbrev N : ℕ → ℕ
  N = (script_of s).name_row

  abbrev F : Side
  F = table_side hd inner nx

  abbrev W : Side
  W = table_side (head_at S N) (wanted_inner s opens) (set_of nexts)

  -- the found side shows the sets of a table of found places: row a is its place k a
  pub record Matches (k : ℕ → ℕ) (row : ℕ → Cells) (firsts laters kin : List ℕ) : Type 0 where
    pub after : (a : ℕ) → Placed row laters a → Image k (nx (k a)) laters a
    pub inside : (a : ℕ) → Placed row laters a → (row a).kind ≡ 4 → Image k (inner (k a)) firsts (row a).q
    pub named : (a : ℕ) → Placed row laters a → (row a).kind ≡ 8 → (inner (k a) ≡ set_of opens (stands_for s (row a)).q) × Asked S opens nexts (stands_for s (row a)).q
    pub content : (a : ℕ) → (row a).kind ≡ 4 → Asked row firsts laters (row a).q
    pub label : (a : ℕ) → Placed row laters a → ((row a).kind ≡ 4) ⊎ ((row a).kind ≡ 8) → (n : ℕ) × (hd (k a) ≡ Head.label n)
    pub sort : (a n : ℕ) → Placed row laters a → hd (k a) ≡ Head.label n → ((row a).kind ≡ 4) ⊎ ((row a).kind ≡ 8)
    pub like : (a b : ℕ) → Placed row laters a → b < 576 → in_set same (get_or kin a 0) b ≡ true → hd (k a) ≡ head_at S N b
    pub back : (a b : ℕ) → Placed row laters a → Placed S nexts b → hd (k a) ≡ head_at S N b → in_set same (get_or kin a 0) b ≡ true

  -- a pair of points that is reached: set j of t of the found places, set i of u of the sheet's
  pub record Pointed (k : ℕ → ℕ) (row : ℕ → Cells) (laters : List ℕ) (t : List ℕ) (j : ℕ) (u : List ℕ) (i : ℕ) : Type 0 where
    pub at : Set
    pub high : i ≤ 512
    pub comes : Comes F W from (set_of opens w) at (set_of u i)
    pub shown : Image k at t j
    pub found : (x : ℕ) → 1 ≤ x → x < 576 → in_set t j x ≡ true → Placed row laters x
    pub wanted : (y : ℕ) → 1 ≤ y → y < 576 → in_set u i y ≡ true → Placed S nexts y

  -- a pair of places that is reached
  pub record Reached (k : ℕ → ℕ) (row : ℕ → Cells) (laters : List ℕ) (a b : ℕ) : Type 0 where
    pub at : Set
    pub to : Set
    pub comes : Comes F W from (set_of opens w) at to
    pub has : ltb 0 (k a) && at (k a) ≡ true
    pub stands : ltb 0 b && to b ≡ true
    pub same_head : hd (k a) ≡ head_at S N b
    pub placed : Placed row laters a
    pub wanted : Placed S nexts b

  -- what refutes
  pub record Refuted : Type 0 where
    pub at : Set
    pub to : Set
    pub comes : Comes F W from (set_of opens w) at to
    pub bad : Bad F W at to

  member : (u : List ℕ) (i y : ℕ) → 1 ≤ y → y < 576 → in_set u i y ≡ true → ltb 0 y && set_of u i y ≡ true
  member u i y l h e = and_both (ltb 0 y) (set_of u i y) (lt-ltb 0 y l) (and_both (ltb y 576) (in_set u i y) (lt-ltb y 576 h) e)

  module _ {k : ℕ → ℕ} {row : ℕ → Cells} {firsts laters kin : List ℕ} (M : Matches k row firsts laters kin) where
    -- a place and its rival at such points
    pub pointed_reached : {t u : List ℕ} {j i : ℕ} → Pointed k row laters t j u i → (x y : ℕ) → 1 ≤ x → x < 576 → in_set t j x ≡ true → Rival t j u i kin same x y → Reached k row laters x y
    pointed_reached {t} {u} {j} {i} p x y l h e r =
        let v = p.found x l h e in
        let z = p.shown.put x l h e in record {
          at = p.at;
          to = set_of u i;
          comes = p.comes;
          has = and_both (ltb 0 (k x)) (p.at (k x)) (lt-ltb 0 (k x) z.0) z.1;
          stands = member u i y r.low r.high r.stands;
          same_head = M.like x y v r.high r.like;
          placed = v;
          wanted = p.wanted y r.low r.high r.stands;
        }

    -- a place without a rival, or End without End
    pub pointed_clash : {t u : List ℕ} {j i : ℕ} → Pointed k row laters t j u i → Clash t j u i kin same → Refuted
    pointed_clash {t} {u} {j} {i} p (at_end e n) = record { at = p.at; to = set_of u i; comes = p.comes; bad = bad_end (p.shown.end ∙ e) n }
    pointed_clash {t} {u} {j} {i} p (at_place a l h e n) = let z = p.shown.put a l h e in record {
      at = p.at;
      to = set_of u i;
      comes = p.comes;
      bad = bad_place (k a) (and_both (ltb 0 (k a)) (p.at (k a)) (lt-ltb 0 (k a) z.0) z.1) (λ b m g.
          let q = ltb-true 0 b (and_left (ltb 0 b) (set_of u i b) m) in
          let o = and_right (ltb 0 b) (set_of u i b) m in
          let r = ltb-true b 576 (and_left (ltb b 576) (in_set u i b) o) in
          let v = and_right (ltb b 576) (in_set u i b) o in
          n b (record { low = q; high = r; stands = v; like = M.back a b (p.found a l h e) (p.wanted b q r v) g }));
    }

    module _ (e : shapely s ≡ true) (P : SheetPoints s opens nexts) {a b : ℕ} (r : Reached k row laters a b) where
      -- behind a pair
      pub after_pointed : Pointed k row laters laters a nexts b
      after_pointed = record {
        at = nx (k a);
        high = (placed_low (shaped_lower s e) r.wanted).1;
        comes = behind (k a) b r.comes r.has r.stands r.same_head;
        shown = M.after a r.placed;
        found = placed_after r.placed;
        wanted = placed_after r.wanted;
      }

      -- the content of its wanted place
      wanted_content : ((row a).kind ≡ 4) ⊎ ((row a).kind ≡ 8) → Asked S opens nexts (acting_at s b).q
      unfolding model_at
      wanted_content z =
          let n = M.label a r.placed z in
          let v = r.wanted in
          let c = acting_content s e b (acting_kind S N (shaped_labelled s e) b (atom_kind S v.root v.root b v.is) n.0 (sym r.same_head ∙ n.1)) in
          sheet_asked e P (acting_at s b).q c.0 c.1

      -- inside it
      pub inside_pointed : (row a).kind ≡ 4 → Pointed k row laters firsts (row a).q opens (acting_at s b).q
      inside_pointed z = let n = M.label a r.placed (inl z) in record {
        at = inner (k a);
        high = (wanted_content (inl z)).high;
        comes = inside n.0 (k a) b r.comes r.has r.stands r.same_head n.1;
        shown = M.inside a r.placed z;
        found = placed_first (M.content a z);
        wanted = placed_first (wanted_content (inl z));
      }

      pub named_pointed : (row a).kind ≡ 8 → Pointed (λ x. x) S nexts opens (stands_for s (row a)).q opens (acting_at s b).q
      named_pointed z = let n = M.label a r.placed (inr z) in let o = M.named a r.placed z in record {
        at = set_of opens (stands_for s (row a)).q;
        high = (wanted_content (inr z)).high;
        comes = rw (← o.0) (inside n.0 (k a) b r.comes r.has r.stands r.same_head n.1);
        shown = image_self opens (stands_for s (row a)).q;
        found = placed_first o.1;
        wanted = placed_first (wanted_content (inr z));
      }

    module _ (e : shapely s ≡ true) (P : SheetPoints s opens nexts) where
      failed_refuted : {a b : ℕ} → Reached k row laters a b → Failed row firsts laters kin s opens nexts same a b → Refuted
      failed_refuted r (not_after c) = pointed_clash (after_pointed e P r) c
      failed_refuted r (not_inside z c) = pointed_clash (inside_pointed e P r z) c

    -- ---- a walk

    module _ (e : shapely s ≡ true) (P : SheetPoints s opens nexts) {p : List ℕ} (given : (x y : ℕ) → 1 ≤ x → x ≤ 512 → y < 576 → in_set p x y ≡ true → Reached k row laters x y) where
      pub arrives_reached : {a b : ℕ} → Arrives row firsts laters kin s opens nexts same p a b → Reached k row laters a b
      arrives_reached (waits l h q m) = given _ _ l h q m
      arrives_reached (onward {x = x} {y = y} c l h z) = pointed_reached (after_pointed e P (arrives_reached c)) x y l (omega arith) z.0 z.1
      arrives_reached (inward {x = x} {y = y} c l h z) = pointed_reached (inside_pointed e P (arrives_reached c) z.0) x y l (omega arith) z.1 z.2

      pub lost_refuted : Lost row firsts laters kin s opens nexts same p → Refuted
      lost_refuted l = failed_refuted e P (arrives_reached l.arrives) l.failed

    -- ---- what has been looked at

    pub faced_looked : (seen : ℕ → ℕ → Bool) {X : Set} {t u : List ℕ} {j i : ℕ} {d : List ℕ} → Image k X t j → ((x : ℕ) → 1 ≤ x → x < 576 → in_set t j x ≡ true → Placed row laters x)
        → ((x y : ℕ) → Placed row laters x → y < 576 → in_set d x y ≡ true → seen (k x) y ≡ true) → Faced t j u i kin same d d → Looked F W seen X (set_of u i)
    faced_looked seen {X} {t} {u} {j} {i} {d} m p sees f = record {
      end = λ z. f.end (sym m.end ∙ z);
      at = λ a z. (
          let g = m.get a (ltb-true 0 a (and_left (ltb 0 a) (X a) z)) (and_right (ltb 0 a) (X a) z) in
          let r = f.each g.0 g.1 g.2 g.4 in
          let v = r.is in
          let q : in_set d g.0 r.rival ≡ true = elim r.seen [ inl o ↦ o | inr o ↦ o ] in
          let c = p g.0 g.1 g.2 g.4 in
          rw g.3 (r.rival, member u i r.rival v.low v.high v.stands, M.like g.0 r.rival c v.high v.like, sees g.0 r.rival c v.high q));
    }

    -- behind a pair that has been looked at, and inside it
    pub turned_looked : shapely s ≡ true → SheetPoints s opens nexts → (seen : ℕ → ℕ → Bool) {d f m : List ℕ} → ((x y : ℕ) → Placed row laters x → y < 576 → in_set d x y ≡ true → seen (k x) y ≡ true)
        → ((x y : ℕ) → 1 ≤ x → x ≤ 512 → y < 576 → Seen f m x y → Looked F W seen (set_of opens x) (set_of opens y))
        → {a b : ℕ} → Reached k row laters a b → Turned row firsts laters kin s opens nexts same d d f m a b
        → Looked F W seen (nx (k a)) (set_of nexts b) × ((n : ℕ) → hd (k a) ≡ Head.label n → Looked F W seen (inner (k a)) (wanted_inner s opens b))
    turned_looked e P seen sees names {a} {b} r t = (
      faced_looked seen (M.after a r.placed) (placed_after r.placed) sees t.after,
      λ n z. elim (M.sort a n r.placed z) [
        | inl y ↦ faced_looked seen (M.inside a r.placed y) (placed_first (M.content a y)) sees (t.inside y)
        | inr y ↦ (let o = t.named y in let v = M.named a r.placed y in rw v.0 (names (stands_for s (row a)).q (acting_at s b).q o.0 v.1.high o.1 o.2))
      ],
    )
