-- A place and one of its kin have one head, and the other way round; so the kin of what has a label have one, with a content.
use Rattle.std.specs.Prelude.{ℕ, ◌≤◌, ◌<◌, ◌≡◌, refl, true, List, get_or}
use Rattle.std.proofs.Math.Path.{sym}
use Rattle.std.proofs.Common.{◌∙◌, arith}
use Rattle.meaning.specs.Tests.{in_table}
use Rattle.meaning.specs.Sheet.{Cells, script_of}
use Rattle.meaning.specs.Types.{Head}
use Rattle.meaning.specs.Places.{head_of, head_at, same_head}
use Rattle.meaning.specs.Shape.{shapely}
use Rattle.meaning.specs.Laws.Tests.{table_high}
use Rattle.meaning.specs.Laws.Shaped.{few_types}
use Rattle.meaning.specs.Laws.Apart.{AtomKind, a_text, a_bool, a_label, a_name, PlaceKind}
use Rattle.meaning.specs.Laws.Points.{heads_differ}
use Rattle.bits.specs.Sets.{in_set}
use Rattle.type_heads.specs.Heads.{head_number, stands_for, acting_at, acts_as, head_place, Acts as ActsIn, acts_text as in-text, acts_bool as in-bool, acts_label as in-label}
use Rattle.type_heads.specs.Classes.{Classes}
use Rattle.type_heads.specs.Kin.{Kins, Says, kin_says, kin_back, Acts, acts_text, acts_bool, acts_label, acts, acts_no, acts_small, acts_number, acts_head}

-- text, bool or a label
pub data Stands (c : Cells) : Type 0 where
  stands_text : c.kind ≡ 2 → Stands c
  stands_bool : c.kind ≡ 3 → Stands c
  stands_label : c.kind ≡ 4 → Stands c

-- an atom's row stands for one of them
pub stands : (s : List ℕ) (c : Cells) → (c.kind ≡ 8 → ((script_of s).type_row ((script_of s).name_row c.p)).kind ≡ 4) → AtomKind c → Stands (stands_for s c)
stands s c n (a_text k) = rw k (stands_text refl)
stands s c n (a_bool k) = rw k (stands_bool refl)
stands s c n (a_label k) = rw k (stands_label refl)
stands s c n (a_name k) = rw k (stands_label (n k))

pub label_head : (c : Cells) → c.kind ≡ 4 → head_of c ≡ Head.label c.p
label_head c k = rw k

pub head_label : {c : Cells} (n : ℕ) → Stands c → head_of c ≡ Head.label n → c.kind ≡ 4
unfolding same_head
head_label n (stands_text k) e = let g : Head.text ≡ Head.label n = rw k at e in absurd (heads_differ g refl)
head_label n (stands_bool k) e = let g : Head.bool ≡ Head.label n = rw k at e in absurd (heads_differ g refl)
head_label n (stands_label k) e = k

to_acts : {n : ℕ} {c : Cells} → ActsIn n c → Acts c
to_acts (in-text k) = acts_text k
to_acts (in-bool k) = acts_bool k
to_acts (in-label k l h) = acts_label k l

-- what has the head of such a row is such a row
acts_like : {c d : Cells} → Stands c → Acts d → head_of c ≡ head_of d → Acts c
unfolding same_head
acts_like (stands_text k) x e = acts_text k
acts_like (stands_bool k) x e = acts_bool k
acts_like {c} {d} (stands_label k) (acts_text z) e = let g : Head.label c.p ≡ Head.text = rw (k, z) at e in absurd (heads_differ g refl)
acts_like {c} {d} (stands_label k) (acts_bool z) e = let g : Head.label c.p ≡ Head.bool = rw (k, z) at e in absurd (heads_differ g refl)
acts_like {c} {d} (stands_label k) (acts_label z l) e = let g : Head.label c.p ≡ Head.label d.p = rw (k, z) at e in let p : c.p ≡ d.p = cc in acts_label k (omega arith)

module _ (s : List ℕ) (e : shapely s ≡ true) {class same : List ℕ} (C : Classes s class same) {row : ℕ → Cells} {n : ℕ} {kin : List ℕ} (K : Kins row n s class kin) where
  like_acts : (a b : ℕ) → Says C K a b → ActsIn (script_of s).types (acting_at s b)
  like_acts a b x = acts_as s e b (head_place s e b (omega (arith, x.number, x.small)))

  pub like_head : (a b : ℕ) → b < 576 → in_set same (get_or kin a 0) b ≡ true → head_of (stands_for s (row a)) ≡ head_at (script_of s).type_row (script_of s).name_row b
  unfolding head_number
  like_head a b l m = let x = kin_says C K a b l m in let v = acts (stands_for s (row a)) x.small in acts_head v (to_acts (like_acts a b x)) (sym (acts_no v) ∙ sym x.number)

  pub like_low : (a b : ℕ) → b < 576 → in_set same (get_or kin a 0) b ≡ true → b ≤ 512
  like_low a b l m = let x = kin_says C K a b l m in omega (arith, table_high (script_of s).types b x.in_types, few_types s e)

  -- the kin of a label have a content
  pub like_content : (a b : ℕ) → (stands_for s (row a)).kind ≡ 4 → b < 576 → in_set same (get_or kin a 0) b ≡ true → in_table (script_of s).types (acting_at s b).q ≡ true
  like_content a b k l m = go (like_acts a b (kin_says C K a b l m)) (sym (label_head (stands_for s (row a)) k) ∙ like_head a b l m)
    where
      go : {c : Cells} → ActsIn (script_of s).types c → Head.label (stands_for s (row a)).p ≡ head_of c → in_table (script_of s).types c.q ≡ true
      go {c} x z = in_of x (head_label {c = c} (stands_for s (row a)).p (by x) (sym z))
        where
          by : ActsIn (script_of s).types c → Stands c
          by (in-text k) = stands_text k
          by (in-bool k) = stands_bool k
          by (in-label k l h) = stands_label k

          in_of : ActsIn (script_of s).types c → c.kind ≡ 4 → in_table (script_of s).types c.q ≡ true
          in_of (in-text k) y = absurd (omega (arith, k, y))
          in_of (in-bool k) y = absurd (omega (arith, k, y))
          in_of (in-label k l h) y = h

  pub head_like : (a b : ℕ) → 1 ≤ a → a ≤ n → Stands (stands_for s (row a)) → in_table (script_of s).types b ≡ true → PlaceKind ((script_of s).type_row b).kind
      → head_of (stands_for s (row a)) ≡ head_at (script_of s).type_row (script_of s).name_row b → in_set same (get_or kin a 0) b ≡ true
  unfolding head_number
  head_like a b l h x i p z =
      let y = to_acts (acts_as s e b p) in
      let v = acts_like x y z in
      let o = acts_no v ∙ acts_number v y z in
      kin_back C K a b (omega (arith, table_high (script_of s).types b i, few_types s e))
      (record { low = l; high = h; small = omega (arith, o, acts_small y); in_types = i; number = sym o })
