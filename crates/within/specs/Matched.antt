-- The places of a type written out and those of the sheet are places of the found side, in the numbering of the joined table: own place a is T + a, T the sheet's type rows, a place of the sheet is
-- itself. And the tables are such as a walk asks for.
use Rattle.std.specs.Prelude.{ℕ, ◌+◌, ◌-◌, ◌≤◌, ◌≡◌, true, cond, List, ◌⊎◌, eqb, ltb}
use Rattle.std.proofs.Common.{sym, ◌∙◌, ap, inl, inr, arith, lt-ltb, ltb-true, le-leb}
use Rattle.std.proofs.lemmas.Bool.{lt-leb}
use Rattle.meaning.specs.Tests.{in_table}
use Rattle.meaning.specs.Sheet.{Cells, script_of}
use Rattle.meaning.specs.Places.{Set, model_at, acting, head_of, head_at}
use Rattle.meaning.specs.Shape.{shapely}
use Rattle.meaning.specs.Laws.Bools.{and_left, and_right, and_both}
use Rattle.meaning.specs.Laws.Tests.{table_low, table_high}
use Rattle.meaning.specs.Laws.Shaped.{kind_in, named, few_types}
use Rattle.meaning.specs.Laws.Apart.{AtomKind, a_text, a_bool, a_label, a_name, atom_kind, shaped_lower, shaped_labelled}
use Rattle.meaning.specs.Theorems.Within.Rows.{named_low}
use Rattle.bits.specs.Sets.{in_set}
use Rattle.type_places.specs.Tables.{set_of}
use Rattle.type_ties.specs.Users.{has_place}
use Rattle.type_heads.specs.Heads.{stands_for, acting_at, named_for}
use Rattle.type_heads.specs.Classes.{Classes}
use Rattle.type_rows.specs.Writing.{own_row, Written}
use Rattle.type_tables.specs.Points.{SheetPoints, OwnPoints}
use Rattle.type_tables.specs.Joined.{own_apart, joined, moved, sheet_row, own_row_lem}
use Rattle.type_tables.specs.Lifted.{lift, lift_end, lift_high, lift_place}
use Rattle.type_tables.specs.Sides.{found_from, found_next, found_inner, sheet_content}
use Rattle.type_heads.specs.Kin.{Kins, kin_low}
use Rattle.type_heads.specs.Heading.{Stands, stands, label_head, head_label, like_head, like_low, like_content, head_like}
use Rattle.within_pairs.specs.Reach.{Placed, Asked, placed_low, Tabled}
use Rattle.within.specs.Match.{Image, image_self, sheet_asked, Matches}

-- a type written out from rows whose names are the sheet's
pub record Standing (s own : List ℕ) : Type 0 where
  pub g : ℕ → Cells
  pub found : ℕ
  pub known : (i : ℕ) → (g i).kind ≡ 8 → in_table (script_of s).names (g i).p ≡ true
  pub written : Written g found own

-- what all the tables hold
pub record Setting (s own opens nexts first behind class same own-kin kin : List ℕ) : Type 0 where
  pub shape : shapely s ≡ true
  pub standing : Standing s own
  pub sheet : SheetPoints s opens nexts
  pub mine : OwnPoints own first behind
  pub classes : Classes s class same
  pub own_kins : Kins (own_row own) 512 s class own-kin
  pub kins : Kins (script_of s).type_row (script_of s).types s class kin

-- a set moved up
pub image_lift : (n : ℕ) (t : List ℕ) (j : ℕ) → Image (λ a. n + a) (lift n (set_of t j)) t j
image_lift n t j = record {
  end = lift_end n (set_of t j);
  put = λ a l h e. (omega arith, lift_high n (set_of t j) a l ∙ and_both (ltb a 576) (in_set t j a) (lt-ltb a 576 h) e);
  get = λ b l e. (let z = lift_place n (set_of t j) b l e in (
    z.0,
    z.1,
    ltb-true z.0 576 (and_left (ltb z.0 576) (in_set t j z.0) z.3),
    z.2,
    and_right (ltb z.0 576) (in_set t j z.0) z.3,
  ));
}

placed_kind : {row : ℕ → Cells} {laters : List ℕ} {a : ℕ} → Placed row laters a → AtomKind (row a)
unfolding model_at
placed_kind {row} {a = a} p = atom_kind row p.root p.root a p.is

module _ {s own opens nexts first behind class same own-kin kin : List ℕ} (X : Setting s own opens nexts first behind class same own-kin kin) where
  abbrev T : ℕ
  T = (script_of s).types

  abbrev S : ℕ → Cells
  S = (script_of s).type_row

  abbrev N : ℕ → ℕ
  N = (script_of s).name_row

  abbrev J : ℕ → Cells
  J = joined s own

  abbrev O : ℕ → Cells
  O = own_row own

  e : shapely s ≡ true
  e = X.shape

  -- a place of the sheet is a row of its table
  pub sheet_in_lem : (a : ℕ) → Placed S nexts a → in_table T a ≡ true
  sheet_in_lem a p = go (placed_kind p)
    where
      go : AtomKind (S a) → in_table T a ≡ true
      go (a_text k) = kind_in s a 1 k
      go (a_bool k) = kind_in s a 2 k
      go (a_label k) = kind_in s a 3 k
      go (a_name k) = kind_in s a 7 k

  -- ---- names

  own_known : (a : ℕ) → (O a).kind ≡ 8 → (S (N (O a).p)).kind ≡ 4
  own_known a k = let z = X.standing.written.atoms a (inr k) in
      rw (← z.3) (named s e (X.standing.g z.0).p (X.standing.known z.0 (z.2 ∙ k))).1

  name_row_lem : (x : ℕ) → J (N x) ≡ S (N x)
  name_row_lem x = sheet_row s own (N x) (named_low s e x)

  name_asked : (x : ℕ) → (S (N x)).kind ≡ 4 → Asked S opens nexts (S (N x)).q
  name_asked x k = let c = sheet_content s e (N x) k in sheet_asked e X.sheet (S (N x)).q c.0 c.1

  name_opens : (x : ℕ) → (S (N x)).kind ≡ 4 → found_from s opens first (S (N x)).q ≡ set_of opens (S (N x)).q
  name_opens x k = rw (le-leb (S (N x)).q T (table_high T (S (N x)).q (sheet_content s e (N x) k).0))

  -- ---- what a row acts as

  sort_of : (c : Cells) → AtomKind c → (stands_for s c).kind ≡ 4 → (c.kind ≡ 4) ⊎ (c.kind ≡ 8)
  sort_of c (a_text k) z = absurd (let y : ◌≡◌ {A = ℕ} 2 4 = rw k at z in omega arith)
  sort_of c (a_bool k) z = absurd (let y : ◌≡◌ {A = ℕ} 3 4 = rw k at z in omega arith)
  sort_of c (a_label k) z = inl k
  sort_of c (a_name k) z = inr k

  label_of : (c : Cells) → (c.kind ≡ 8 → (S (N c.p)).kind ≡ 4) → (c.kind ≡ 4) ⊎ (c.kind ≡ 8) → (stands_for s c).kind ≡ 4
  label_of c n (inl k) = rw k
  label_of c n (inr k) = rw k (n k)

  -- a row moved up
  abbrev moved_as : Cells → Cells
  moved_as c = cond (eqb (moved T c).kind 8) (J (N (moved T c).p)) (moved T c)

  moved_head : (c : Cells) → AtomKind c → head_of (moved_as c) ≡ head_of (stands_for s c)
  moved_head c (a_text k) = rw k
  moved_head c (a_bool k) = rw k
  moved_head c (a_label k) = rw k
  moved_head c (a_name k) = rw (k, name_row_lem c.p)

  moved_inner : (c : Cells) → c.kind ≡ 4 → (moved_as c).q ≡ T + c.q
  moved_inner c k = rw k

  moved_name : (c : Cells) → c.kind ≡ 8 → (moved_as c).q ≡ (S (N c.p)).q
  moved_name c k = rw (k, name_row_lem c.p)

  -- ---- own places

  own_stands : (a : ℕ) → Placed O behind a → Stands (stands_for s (O a))
  own_stands a p = stands s (O a) (own_known a) (placed_kind p)

  own_head : (a : ℕ) → 1 ≤ a → AtomKind (O a) → head_at J N (T + a) ≡ head_of (stands_for s (O a))
  own_head a l k = rw (own_row_lem s own a l) (moved_head (O a) k)

  pub own_low : (a : ℕ) → Placed O behind a → (1 ≤ a) × (a ≤ 512)
  own_low a p = placed_low X.standing.written.lower p

  own_headed : (a : ℕ) → Placed O behind a → head_at J N (T + a) ≡ head_of (stands_for s (O a))
  own_headed a p = own_head a (own_low a p).0 (placed_kind p)

  own_asked : (a : ℕ) → (O a).kind ≡ 4 → Asked O first behind (O a).q
  own_asked a k = let h = (own_apart X.standing.written).content a k in record { high = table_high 512 (O a).q h; wired = X.mine.contents a k; begins = X.mine.insides a k }

  own_next : (a : ℕ) → 1 ≤ a → found_next s nexts behind (T + a) ≡ lift T (set_of behind a)
  own_next a l = let z : T + a - T ≡ a = omega arith in rw (lt-leb (T + a) T (omega arith), z)

  pub own_from : (r : ℕ) → 1 ≤ r → found_from s opens first (T + r) ≡ lift T (set_of first r)
  own_from r l = let z : T + r - T ≡ r = omega arith in rw (lt-leb (T + r) T (omega arith), z)

  own_inner : (a : ℕ) → 1 ≤ a → (O a).kind ≡ 4 → found_inner s own opens first (T + a) ≡ found_from s opens first (T + (O a).q)
  own_inner a l k = rw (own_row_lem s own a l) (ap (λ r. found_from s opens first r) (moved_inner (O a) k))

  own_name : (a : ℕ) → 1 ≤ a → (O a).kind ≡ 8 → found_inner s own opens first (T + a) ≡ found_from s opens first (S (N (O a).p)).q
  own_name a l k = rw (own_row_lem s own a l) (ap (λ r. found_from s opens first r) (moved_name (O a) k))

  pub own_matches : (from : Set) (w : ℕ) → Matches (head_at J N) (found_inner s own opens first) (found_next s nexts behind) from s opens nexts same w (λ a. T + a) O first behind own-kin
  own_matches from w = record {
    after = λ a p. rw (own_next a (own_low a p).0) (image_lift T behind a);
    inside = λ a p k. rw (own_inner a (own_low a p).0 k, own_from (O a).q (table_low 512 (O a).q ((own_apart X.standing.written).content a k))) (image_lift T first (O a).q);
    named = λ a p k. rw (← named_for s (O a) k) (own_name a (own_low a p).0 k ∙ name_opens (O a).p (own_known a k), name_asked (O a).p (own_known a k));
    content = own_asked;
    label = λ a p k. ((stands_for s (O a)).p, own_headed a p ∙ label_head (stands_for s (O a)) (label_of (O a) (own_known a) k));
    sort = λ a n p z. sort_of (O a) (placed_kind p) (head_label n (own_stands a p) (sym (own_headed a p) ∙ z));
    like = λ a b p l m. own_headed a p ∙ like_head s e X.classes X.own_kins a b l m;
    back = λ a b p q z. head_like s e X.classes X.own_kins a b (own_low a p).0 (own_low a p).1 (own_stands a p) (sheet_in_lem b q) (has_place s e q.root b q.is) (sym (own_headed a p) ∙ z);
  }

  -- ---- places of the sheet

  sheet_acting : (a : ℕ) → a ≤ T → acting J N a ≡ acting_at s a
  sheet_acting a l = rw (sheet_row s own a l, name_row_lem (S a).p)

  sheet_headed : (a : ℕ) → Placed S nexts a → head_at J N a ≡ head_of (stands_for s (S a))
  sheet_headed a p = ap head_of (sheet_acting a (table_high T a (sheet_in_lem a p)))

  sheet_stands : (a : ℕ) → Placed S nexts a → Stands (stands_for s (S a))
  sheet_stands a p = stands s (S a) (shaped_labelled s e a) (placed_kind p)

  sheet_asks : (a : ℕ) → (S a).kind ≡ 4 → Asked S opens nexts (S a).q
  sheet_asks a k = let c = sheet_content s e a k in sheet_asked e X.sheet (S a).q c.0 c.1

  sheet_next : (a : ℕ) → a ≤ T → found_next s nexts behind a ≡ set_of nexts a
  sheet_next a l = rw (le-leb a T l)

  sheet_inner : (a : ℕ) → a ≤ T → (S a).kind ≡ 4 → found_inner s own opens first a ≡ set_of opens (S a).q
  sheet_inner a l k = let z : acting_at s a ≡ S a = rw k in rw (sheet_acting a l, z, le-leb (S a).q T (table_high T (S a).q (sheet_content s e a k).0))

  sheet_name : (a : ℕ) → a ≤ T → (S a).kind ≡ 8 → found_inner s own opens first a ≡ set_of opens (S (N (S a).p)).q
  sheet_name a l k = let z : acting_at s a ≡ S (N (S a).p) = rw k in rw (sheet_acting a l, z) (name_opens (S a).p (shaped_labelled s e a k))

  pub sheet_matches : (from : Set) (w : ℕ) → Matches (head_at J N) (found_inner s own opens first) (found_next s nexts behind) from s opens nexts same w (λ a. a) S opens nexts kin
  sheet_matches from w = record {
    after = λ a p. rw (sheet_next a (table_high T a (sheet_in_lem a p))) (image_self nexts a);
    inside = λ a p k. rw (sheet_inner a (table_high T a (sheet_in_lem a p)) k) (image_self opens (S a).q);
    named = λ a p k. rw (← named_for s (S a) k) (sheet_name a (table_high T a (sheet_in_lem a p)) k, name_asked (S a).p (shaped_labelled s e a k));
    content = sheet_asks;
    label = λ a p k. ((stands_for s (S a)).p, sheet_headed a p ∙ label_head (stands_for s (S a)) (label_of (S a) (shaped_labelled s e a) k));
    sort = λ a n p z. sort_of (S a) (placed_kind p) (head_label n (sheet_stands a p) (sym (sheet_headed a p) ∙ z));
    like = λ a b p l m. sheet_headed a p ∙ like_head s e X.classes X.kins a b l m;
    back = λ a b p q z. head_like s e X.classes X.kins a b (table_low T a (sheet_in_lem a p)) (table_high T a (sheet_in_lem a p)) (sheet_stands a p) (sheet_in_lem b q) (has_place s e q.root b q.is)
        (sym (sheet_headed a p) ∙ z);
  }

  -- ---- what a walk asks for

  -- the content of a name's label row
  name_content : (c : Cells) → c.kind ≡ 8 → (S (N c.p)).kind ≡ 4 → (1 ≤ (stands_for s c).q) × ((stands_for s c).q ≤ 512)
  name_content c k n = let i = (sheet_content s e (N c.p) n).0 in
      rw (← named_for s c k) (table_low T (S (N c.p)).q i, omega (arith, table_high T (S (N c.p)).q i, few_types s e))

  alike_content : (b : ℕ) → in_table T (acting_at s b).q ≡ true → (1 ≤ (acting_at s b).q) × ((acting_at s b).q ≤ 512)
  alike_content b i = (table_low T (acting_at s b).q i, omega (arith, table_high T (acting_at s b).q i, few_types s e))

  pub own_tabled : Tabled O first behind own-kin s opens nexts same
  own_tabled = record {
    kins = λ a l. kin_low X.classes X.own_kins e a;
    lower = X.standing.written.lower;
    content = own_asked;
    named = λ a k. name_content (O a) k (own_known a k);
    alike = λ a b k l m. (let c = alike_content b (like_content s e X.classes X.own_kins a b (label_of (O a) (own_known a) k) l m) in
        (like_low s e X.classes X.own_kins a b l m, c.0, c.1));
    low = λ a b h l m. like_low s e X.classes X.own_kins a b l m;
  }

  pub sheet_tabled : Tabled S opens nexts kin s opens nexts same
  sheet_tabled = record {
    kins = λ a l. kin_low X.classes X.kins e a;
    lower = shaped_lower s e;
    content = sheet_asks;
    named = λ a k. name_content (S a) k (shaped_labelled s e a k);
    alike = λ a b k l m. (let c = alike_content b (like_content s e X.classes X.kins a b (label_of (S a) (shaped_labelled s e a) k) l m) in
        (like_low s e X.classes X.kins a b l m, c.0, c.1));
    low = λ a b h l m. like_low s e X.classes X.kins a b l m;
  }
