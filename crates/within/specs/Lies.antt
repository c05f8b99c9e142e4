-- What the walks settle: when no pair of contents is fresh, every marked pair has been looked at, so the own type lies within the wanted one; a bad pair that is reached refutes it
-- (Theorems/Within).
use Rattle.std.specs.Prelude.{ℕ, ◌+◌, ◌-◌, ◌≤◌, ◌<◌, ◌≡◌, Bool, false, ◌&&◌, cond, List}
use Rattle.std.proofs.Common.{sym, ◌∙◌, inl, inr}
use Rattle.std.proofs.Math.Bool.{true}
use Rattle.std.proofs.lemmas.Bool.{false≢true}
use Rattle.std.proofs.Math.Decide.{dec_le}
use native.Mathlib.Omega.{arith}
use Rattle.std.proofs.Math.Dec.{leb, ltb}
use borrow.Author.Tests.{lt-ltb, ltb-true, le-leb, leb-true, lt-leb}
use Rattle.meaning.specs.Tests.{in_table}
use Rattle.meaning.specs.Sheet.{Cells, script_of}
use Rattle.meaning.specs.Kinds.{type_form}
use Rattle.meaning.specs.Types.{Ty, Head, Within, ty_at, declared, names_in}
use Rattle.meaning.specs.Places.{Set, head_at}
use Rattle.meaning.specs.Reply.{done, Loads, sound}
use Rattle.meaning.specs.Laws.Bools.{and_left, and_right, and_both, not_both}
use Rattle.meaning.specs.Laws.Tests.{table_low, table_high}
use Rattle.meaning.specs.Laws.Shaped.{few_types}
use Rattle.meaning.specs.Laws.Pairs.{Included, Looked}
use Rattle.meaning.specs.Laws.Points.{table_side, tables_ended}
use Rattle.meaning.specs.Theorems.Within.{kept_within}
use Rattle.meaning.specs.Theorems.Within.Sides.{within_included}
use Rattle.meaning.specs.Theorems.Within.Tables.{found_kept as found-by-tables, sought_kept}
use Rattle.bits.specs.Sets.{in_set}
use Rattle.type_places.specs.Tables.{set_of}
use Rattle.type_models.specs.Roots.{is_root}
use Rattle.type_rows.specs.Writing.{own_row}
use Rattle.type_tables.specs.Joined.{joined, beside, found_same}
use Rattle.type_tables.specs.Sides.{wanted_inner, found_from, found_next, found_inner, wanted_kept, found_kept}
use Rattle.within_pairs.specs.Queue.{Idle}
use Rattle.within_pairs.specs.Reach.{Placed, placed_first, Seen}
use Rattle.within.specs.Match.{image_self, faced_looked, turned_looked}
use Rattle.within.specs.Matched.{Setting, own_low, sheet_in_lem, own_matches, sheet_matches}
use Rattle.within.specs.Run.{Run, Bad-reached, own_asked, start_image}

-- the type written out
abbrev pub own_ty : List ℕ → Ty
own_ty own = ty_at (λ i. type_form (own_row own i)) 512

-- whether it lies within the sheet's type at row w
pub record Lies (s own : List ℕ) (w : ℕ) (r : Bool) : Type 0 where
  pub holds : r ≡ true → Within (names_in (script_of s)) (own_ty own) (declared (script_of s) w)
  pub fails : r ≡ false → Within (names_in (script_of s)) (own_ty own) (declared (script_of s) w) → ⊥

module _ {s own opens nexts first behind class same own-kin kin : List ℕ} {w : ℕ} {od p d f m : List ℕ}
    (R : Run s own opens nexts first behind class same own-kin kin w od p d f m) (none : Idle f) where
  abbrev T : ℕ
  T = (script_of s).types

  abbrev S : ℕ → Cells
  S = (script_of s).type_row

  abbrev O : ℕ → Cells
  O = own_row own

  abbrev hd : ℕ → Head
  hd = head_at (joined s own) (script_of s).name_row

  abbrev inner : ℕ → Set
  inner = found_inner s own opens first

  abbrev nx : ℕ → Set
  nx = found_next s nexts behind

  abbrev from : Set
  from = found_from s opens first ((script_of s).types + 512)

  X : Setting s own opens nexts first behind class same own-kin kin
  X = R.setting

  -- the marked pairs
  seen : ℕ → ℕ → Bool
  seen x y = ltb y 576 && cond (leb x T) (ltb 0 x && in_set d x y) (leb (x - T) 512 && in_set od (x - T) y)

  sheet_sees : (x y : ℕ) → Placed S nexts x → y < 576 → in_set d x y ≡ true → seen x y ≡ true
  unfolding seen
  sheet_sees x y c k e = let i = sheet_in_lem X x c in rw (lt-ltb y 576 k, le-leb x T (table_high T x i)) (and_both (ltb 0 x) (in_set d x y) (lt-ltb 0 x (table_low T x i)) e)

  own_sees : (x y : ℕ) → Placed O behind x → y < 576 → in_set od x y ≡ true → seen (T + x) y ≡ true
  unfolding seen
  own_sees x y c k e = let i = own_low X x c in let z : T + x - T ≡ x = omega arith in
      rw (lt-ltb y 576 k, lt-leb (T + x) T (omega (arith, i.0)), z) (and_both (leb x 512) (in_set od x y) (le-leb x 512 i.1) e)

  abbrev Seen-there : Set → Set → Type 0
  Seen-there u v = Looked (table_side hd inner nx) (table_side (head_at S (script_of s).name_row) (wanted_inner s opens) (set_of nexts)) seen u v

  -- a pair of contents
  names : (x y : ℕ) → 1 ≤ x → x ≤ 512 → y < 576 → Seen f m x y → Seen-there (set_of opens x) (set_of opens y)
  names x y l h k (inl e) = absurd (not_both e (none x y l h k))
  names x y l h k (inr e) = faced_looked hd inner nx from s opens nexts same w (sheet_matches X from w) seen (image_self opens x) (R.entered x y l k (inr e)).found sheet_sees (R.met x y l k e)

  abbrev Pair-seen : ℕ → ℕ → Type 0
  Pair-seen a b = Seen-there (nx a) (set_of nexts b) × ((n : ℕ) → hd a ≡ Head.label n → Seen-there (inner a) (wanted_inner s opens b))

  all : (a b : ℕ) → seen a b ≡ true → Pair-seen a b
  unfolding seen
  all a b z = elim (dec_le a T) [
    | yes l ↦ (let v : ltb 0 a && in_set d a b ≡ true = rw (le-leb a T l) at rest in
        let c = R.each a b (ltb-true 0 a (and_left (ltb 0 a) (in_set d a b) v)) (omega (arith, few_types s X.shape)) k (and_right (ltb 0 a) (in_set d a b) v) in
        turned_looked hd inner nx from s opens nexts same w (sheet_matches X from w) X.shape X.sheet seen sheet_sees names c.0 c.1)
    | no l ↦ (let v : leb (a - T) 512 && in_set od (a - T) b ≡ true = rw (lt-leb a T (omega arith)) at rest in
        let c = R.own_each (a - T) b (omega arith) (leb-true (a - T) 512 (and_left (leb (a - T) 512) (in_set od (a - T) b) v)) k (and_right (leb (a - T) 512) (in_set od (a - T) b) v) in
        let y : T + (a - T) ≡ a = omega arith in
        rw y at (turned_looked hd inner nx from s opens nexts same w (own_matches X from w) X.shape X.sheet seen own_sees names c.0 c.1))
  ]
    where
      k : b < 576
      k = ltb-true b 576 (and_left (ltb b 576) (cond (leb a T) (ltb 0 a && in_set d a b) (leb (a - T) 512 && in_set od (a - T) b)) z)

      rest : cond (leb a T) (ltb 0 a && in_set d a b) (leb (a - T) 512 && in_set od (a - T) b) ≡ true
      rest = and_right (ltb b 576) (cond (leb a T) (ltb 0 a && in_set d a b) (leb (a - T) 512 && in_set od (a - T) b)) z

  -- ---- inclusion

  run_included : Included (table_side hd inner nx) (table_side (head_at S (script_of s).name_row) (wanted_inner s opens) (set_of nexts)) from (set_of opens w)
  run_included = tables_ended hd (head_at S (script_of s).name_row) inner nx (wanted_inner s opens) (set_of nexts) from (set_of opens w) seen all
      (faced_looked hd inner nx from s opens nexts same w (own_matches X from w) seen (start_image s own opens nexts first behind class same own-kin kin w X R.asked)
      (placed_first (own_asked s own opens nexts first behind class same own-kin kin w X R.asked)) own_sees R.start)

  pub lies_within : Loads s done → Lies s own w true
  lies_within load = record { holds = λ z. go load; fails = λ z. absurd (false≢true (sym z)) }
    where
      go : Loads s done → Within (names_in (script_of s)) (own_ty own) (declared (script_of s) w)
      go (sound e fertile untied) =
          let G = X.standing.known in
          let D = X.standing.written in
          rw (D.same ∙ sym (found_same s own e G D)) ((within_included
          (found-by-tables s fertile (joined s own) (T + 512) (beside s own e G D) (T + 512) (omega arith) from inner nx (found_kept s e X.sheet X.mine G D))
          (sought_kept s e untied w R.asked (set_of opens w) (wanted_inner s opens) (set_of nexts) (wanted_kept s e X.sheet w R.asked.0 R.asked.1))).1 run_included)

-- a bad pair refutes
pub lies_not : {s own opens nexts first behind class same own-kin kin : List ℕ} {w : ℕ} → Loads s done → Setting s own opens nexts first behind class same own-kin kin
    → (in_table (script_of s).types w ≡ true) × (is_root s w ≡ true)
    → Bad-reached s own opens nexts first behind class same own-kin kin w → Lies s own w false
lies_not {s} {own} {opens} {nexts} {first} {behind} {w = w} load X asked b = record { holds = λ z. absurd (false≢true z); fails = λ z h. go h }
  where
    go : Within (names_in (script_of s)) (own_ty own) (declared (script_of s) w) → ⊥
    go h =
        let e = X.shape in
        let G = X.standing.known in
        let D = X.standing.written in
        (kept_within s load (joined s own) ((script_of s).types + 512) (beside s own e G D) ((script_of s).types + 512) w (omega arith) asked.0 asked.1
        (found_from s opens first ((script_of s).types + 512)) (set_of opens w) (found_inner s own opens first) (found_next s nexts behind) (wanted_inner s opens) (set_of nexts)
        (found_kept s e X.sheet X.mine G D) (wanted_kept s e X.sheet w asked.0 asked.1)).0 (rw (D.same ∙ sym (found_same s own e G D)) at h) b.at b.to b.comes b.bad
