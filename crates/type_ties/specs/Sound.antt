-- What the points say is what the meaning calls tied: at the start of a root, by the first sets; behind a place, by the next sets of the one root whose model has it. So the lowest tie of the points
-- is the lowest tie.
use Rattle.std.specs.Prelude.{ℕ, ◌≤◌, ◌<◌, ◌≡◌, refl, Bool, true, false, ◌&&◌, ◌||◌, not, List, eqb, Option, Some, None, Result, Ok, Err, replicate}
use Rattle.std.proofs.Common.{sym, ◌∙◌, arith, eqb-true, eq-eqb, ne_eqb}
use Rattle.std.proofs.Math.Logic.{inl, inr}
use Rattle.std.proofs.lemmas.Bool.{eqb-false, not-true}
use Rattle.meaning.specs.Tests.{some, in_table}
use Rattle.meaning.specs.Sheet.{script_of}
use Rattle.meaning.specs.Shape.{shapely}
use Rattle.meaning.specs.Places.{Model, Set, first, last, follows, head_at, same_head, rivals, tied, Tie, Untied}
use Rattle.meaning.specs.Reply.{Answer, Loads}
use Rattle.meaning.specs.Reply as reply
use Rattle.meaning.specs.Laws.Bools.{or_left, or_right, or_cases, and_left, and_right, and_both, either}
use Rattle.meaning.specs.Laws.Tests.{in_table_lem, table_low, table_high, some_at, some_of}
use Rattle.meaning.specs.Laws.Wired.{has, behind, ends, wired_next}
use Rattle.meaning.specs.Laws.Apart.{model_below, model_placed, shaped_lower, first_has, follows_has, followed_has}
use Rattle.bits.specs.Sets.{Clear}
use Rattle.sheet.specs.Table.{Table, rows_in, types_in}
use Rattle.type_barren.specs.Flags.{flag}
use Rattle.meaning.specs.Laws.Shaped.{few_types}
use Rattle.type_barren.specs.Marks.{SaysBarren}
use Rattle.type_places.specs.Tables.{model_of, set_of, Free, Wires}
use Rattle.type_places.specs.Tables as places
use Rattle.type_models.specs.Roots.{is_root, Rooted}
use Rattle.meaning.specs.Laws.Apart.{PlaceKind}
use Rattle.type_places.specs.Sheets.{laid_free, laid_wires}
use Rattle.type_ties.specs.Users.{above, has_place, place_has, rooted_free}
use Rattle.type_ties.specs.declared.Tied.{Tied}
use Rattle.type_ties.specs.declared.Tables.{Tables}
use Rattle.type_ties.specs.declared.Unsound.{Unsound}
use Rattle.type_heads.specs.Heads.{head_number, place_head, head_place, heads_same}
use Rattle.type_heads.specs.Apart.{Apart}
use Rattle.type_heads.specs.Classes.{Classes}
use Rattle.type_ties.specs.Points.{PointTie, Least, AtStart, AtPlace, Upto}

module _ (s : List ℕ) (e : shapely s ≡ true) where
  -- a place of the model at row r
  placed : (r a : ℕ) → in_table (script_of s).types r ≡ true → has (model_of s r) a ≡ true → (in_table (script_of s).types a ≡ true) × PlaceKind ((script_of s).type_row a).kind
  placed r a h p = (
    in_table_lem (script_of s).types a (model_placed (script_of s).type_row (script_of s).name_row (shaped_lower s e) r a p)
        (omega (arith, model_below (script_of s).type_row (script_of s).name_row (shaped_lower s e) r a p, table_high (script_of s).types r h)),
    has_place s e r a p,
  )

  -- two places of one head that a point's set has
  tie_at : (P : Set) (r a b : ℕ) → in_table (script_of s).types r ≡ true → has (model_of s r) a ≡ true → has (model_of s r) b ≡ true → (a ≡ b → ⊥)
      → same_head (head_at (script_of s).type_row (script_of s).name_row a) (head_at (script_of s).type_row (script_of s).name_row b) ≡ true → P a ≡ true → P b ≡ true → PointTie s P a b
  tie_at P r a b h p q n z x y = let v = placed r a h p in let w = placed r b h q in record {
    a_row = v.0;
    b_row = w.0;
    ne = n;
    a_in = x;
    b_in = y;
    head = eqb-true (head_number s a) (head_number s b) (sym (heads_same s e a b v.1 w.1) ∙ z);
    small = place_head s e a v.1;
  }

  -- what makes two places rivals in a model
  rival_parts : (m : Model) (a b : ℕ) → rivals (script_of s).type_row (script_of s).name_row (script_of s).types m a b ≡ true
      → (a ≡ b → ⊥) × (same_head (head_at (script_of s).type_row (script_of s).name_row a) (head_at (script_of s).type_row (script_of s).name_row b) ≡ true)
      × (first m a && first m b || some (λ c. follows m c a && follows m c b) (script_of s).types ≡ true)
  rival_parts m a b y = (eqb-false a b (not-true (eqb a b) (and_left (not (eqb a b)) heads both)), and_right (not (eqb a b)) heads both, and_right (not (eqb a b) && heads) _ y)
    where
      heads : Bool
      heads = same_head (head_at (script_of s).type_row (script_of s).name_row a) (head_at (script_of s).type_row (script_of s).name_row b)

      both : not (eqb a b) && heads ≡ true
      both = and_left (not (eqb a b) && heads) _ y

  -- rivals are two places of one head
  no_rivals : Apart s → (r a b : ℕ) → in_table (script_of s).types r ≡ true → rivals (script_of s).type_row (script_of s).name_row (script_of s).types (model_of s r) a b ≡ true → ⊥
  no_rivals A r a b h y = elim (or_cases (first (model_of s r) a && first (model_of s r) b) _ (rival_parts (model_of s r) a b y).2) [
    | inl w ↦ one (first_has (model_of s r) a (and_left (first (model_of s r) a) _ w)) (first_has (model_of s r) b (and_right (first (model_of s r) a) (first (model_of s r) b) w))
    | inr w ↦ (let x = some_of (λ c. follows (model_of s r) c a && follows (model_of s r) c b) (script_of s).types w in
        one (follows_has (model_of s r) x.0 a (and_left (follows (model_of s r) x.0 a) _ x.3))
        (follows_has (model_of s r) x.0 b (and_right (follows (model_of s r) x.0 a) (follows (model_of s r) x.0 b) x.3)))
  ]
    where
      one : has (model_of s r) a ≡ true → has (model_of s r) b ≡ true → ⊥
      one p q = let v = rival_parts (model_of s r) a b y in let t = tie_at (λ x. true) r a b h p q v.0 v.1 refl refl in t.ne (A.one a b t.a_row t.b_row t.head t.small)

  -- so where no two places have one head nothing is tied
  pub apart_untied : Apart s → Untied (script_of s)
  unfolding tied
  apart_untied A a b = elim (either (tied (script_of s) a b)) [
    | inl y ↦ (let x = some_of (λ r. is_root s r && rivals (script_of s).type_row (script_of s).name_row (script_of s).types (model_of s r) a b) (script_of s).types y in
        absurd (no_rivals A x.0 a b (in_table_lem (script_of s).types x.0 x.1 x.2) (and_right (is_root s x.0) _ x.3)))
    | inr y ↦ y
  ]

  module _ {null root : List Bool} {begin behind' : List ℕ} (T : places.Tables (script_of s).type_row (script_of s).types null begin) (R : Rooted s root)
      (W : Wires (script_of s).type_row root behind' (script_of s).types)
    where
      root_flag : (r : ℕ) → in_table (script_of s).types r ≡ true → flag root r ≡ is_root s r
      root_flag r h = R.at r (omega (arith, table_high (script_of s).types r h, few_types s e))

      next_set : (r c b : ℕ) → in_table (script_of s).types r ≡ true → flag root r ≡ true → has (model_of s r) c ≡ true → set_of behind' c b ≡ behind (model_of s r) ends c b
      next_set r c b h z p = wired_next (set_of behind') (model_of s r) ends (W.wired r (table_low (script_of s).types r h) (table_high (script_of s).types r h) z) c p b

      -- tied in the model at a root
      tied_at : (r a b : ℕ) → in_table (script_of s).types r ≡ true → is_root s r ≡ true → rivals (script_of s).type_row (script_of s).name_row (script_of s).types (model_of s r) a b ≡ true
          → Upto s root begin behind' (script_of s).types a b
      tied_at r a b h z y = let v = rival_parts (model_of s r) a b y in elim (or_cases (first (model_of s r) a && first (model_of s r) b) _ v.2) [
        | inl w ↦ (let p = and_left (first (model_of s r) a) _ w in let q = and_right (first (model_of s r) a) (first (model_of s r) b) w in
            record {
              point = r;
              row = h;
              at = inl (
                root_flag r h ∙ z,
                tie_at (set_of begin r) r a b h (first_has (model_of s r) a p) (first_has (model_of s r) b q) v.0 v.1
                    (T.begin r h a ∙ p) (T.begin r h b ∙ q),
              );
            })
        | inr w ↦ (let x = some_of (λ c. follows (model_of s r) c a && follows (model_of s r) c b) (script_of s).types w in
            let c = x.0 in
            let p : follows (model_of s r) c a ≡ true = and_left (follows (model_of s r) c a) _ x.3 in
            let q : follows (model_of s r) c b ≡ true = and_right (follows (model_of s r) c a) (follows (model_of s r) c b) x.3 in
            let m = followed_has (model_of s r) c a p in
            record {
              point = c;
              row = (placed r c h m).0;
              at = inr (
                place_head s e c (placed r c h m).1,
                tie_at (set_of behind' c) r a b h (follows_has (model_of s r) c a p) (follows_has (model_of s r) c b q) v.0 v.1
                    (next_set r c a h (root_flag r h ∙ z) m ∙ or_left _ p) (next_set r c b h (root_flag r h ∙ z) m ∙ or_left _ q),
              );
            })
      ]

      pub tied_upto : (a b : ℕ) → tied (script_of s) a b ≡ true → Upto s root begin behind' (script_of s).types a b
      unfolding tied
      tied_upto a b y =
          let x = some_of (λ r. is_root s r && rivals (script_of s).type_row (script_of s).name_row (script_of s).types (model_of s r) a b) (script_of s).types y in
          tied_at x.0 a b (in_table_lem (script_of s).types x.0 x.1 x.2) (and_left (is_root s x.0) _ x.3) (and_right (is_root s x.0) _ x.3)

      rival_heads : {P : Set} {a b : ℕ} → PointTie s P a b
          → not (eqb a b) && same_head (head_at (script_of s).type_row (script_of s).name_row a) (head_at (script_of s).type_row (script_of s).name_row b)
          ≡ true
      rival_heads {P} {a} {b} p =
          let z : head_number s b < 1026 = rw p.head at p.small in
          rw (ne_eqb a b p.ne) (heads_same s e a b (head_place s e a p.small) (head_place s e b z) ∙ eq-eqb (head_number s a) (head_number s b) p.head)

      tied_by : (r a b : ℕ) → in_table (script_of s).types r ≡ true → is_root s r ≡ true → rivals (script_of s).type_row (script_of s).name_row (script_of s).types (model_of s r) a b ≡ true
          → tied (script_of s) a b ≡ true
      unfolding tied
      tied_by r a b h z y = some_at (λ r. is_root s r && rivals (script_of s).type_row (script_of s).name_row (script_of s).types (model_of s r) a b) (script_of s).types r
          (table_low (script_of s).types r h) (table_high (script_of s).types r h) (and_both (is_root s r) _ z y)

      start_tied : (j a b : ℕ) → in_table (script_of s).types j ≡ true → AtStart s root begin j a b → tied (script_of s) a b ≡ true
      start_tied j a b h (z, p) = tied_by j a b h (sym (root_flag j h) ∙ z) (and_both _ _ (rival_heads p)
          (or_left _ (and_both (first (model_of s j) a) (first (model_of s j) b) (sym (T.begin j h a) ∙ p.a_in) (sym (T.begin j h b) ∙ p.b_in))))

      -- End is no place
      behind_follows : (m : Model) (c a : ℕ) → 1 ≤ a → behind m ends c a ≡ true → follows m c a ≡ true
      behind_follows m c a l y = elim (or_cases (follows m c a) (last m c && ends a) y) [ inl w ↦ w | inr w ↦ absurd (omega (arith, eqb-true 0 a (and_right (last m c) (ends a) w))) ]

      place_tied : (c a b : ℕ) → in_table (script_of s).types c ≡ true → AtPlace s behind' c a b → tied (script_of s) a b ≡ true
      place_tied c a b h (z, p) =
          let u = above s e (script_of s).types c h (omega arith) in
          let r = u.root in
          let m : has (model_of s r) c ≡ true = u.keeps c (place_has s e c (head_place s e c z)) in
          let f : flag root r ≡ true = root_flag r u.in_types ∙ u.is_root_lem in
          tied_by r a b u.in_types u.is_root_lem (and_both _ _ (rival_heads p) (or_right (first (model_of s r) a && first (model_of s r) b)
          (some_at (λ c. follows (model_of s r) c a && follows (model_of s r) c b) (script_of s).types c (table_low (script_of s).types c h) (table_high (script_of s).types c h)
          (and_both (follows (model_of s r) c a) (follows (model_of s r) c b)
          (behind_follows (model_of s r) c a (table_low (script_of s).types a p.a_row) (sym (next_set r c a u.in_types f m) ∙ p.a_in))
          (behind_follows (model_of s r) c b (table_low (script_of s).types b p.b_row) (sym (next_set r c b u.in_types f m) ∙ p.b_in))))))

      pub upto_tied : (a b : ℕ) → Upto s root begin behind' (script_of s).types a b → tied (script_of s) a b ≡ true
      upto_tied a b u = elim u.at [ inl x ↦ start_tied u.point a b u.row x | inr x ↦ place_tied u.point a b u.row x ]

      not_tied : (a b : ℕ) → (Upto s root begin behind' (script_of s).types a b → ⊥) → tied (script_of s) a b ≡ false
      not_tied a b n = elim (either (tied (script_of s) a b)) [ inl y ↦ absurd (n (tied_upto a b y)) | inr y ↦ y ]

      pub untied : {r : Option Tied} → Least (Upto s root begin behind' (script_of s).types) r → r ≡ None → Untied (script_of s)
      untied f z a b = not_tied a b (f.none z a b)

      pub lowest_tie : {r : Option Tied} → Least (Upto s root begin behind' (script_of s).types) r → (t : Tied) → r ≡ Some t → Tie (script_of s) t.row t.rival
      lowest_tie f t z = let h = f.some t z in record {
        is = upto_tied t.row t.rival h.is;
        lowest = λ c d l. not_tied c d (λ u. omega (arith, h.low c d u));
        rival = λ d l. not_tied t.row d (λ u. omega (arith, h.rival d u));
      }

-- ---- the tables of a sheet

-- nothing stands anywhere
pub record Empty (t : Tables) : Type 0 where
  pub first : Clear t.first
  pub behind : Clear t.behind
  pub class : t.class ≡ replicate 1026 0
  pub same : Clear t.same
  pub kin : t.kin ≡ replicate 576 0

pub record Made (s : List ℕ) (null root : List Bool) (t : Tables) : Type 0 where
  pub tables : places.Tables (script_of s).type_row (script_of s).types null t.first
  pub rooted : Rooted s root
  pub wires : Wires (script_of s).type_row root t.behind (script_of s).types
  pub classes : Classes s t.class t.same

-- the rows of the table that the sheet lends
module _ {s : List ℕ} {t : Table} (is : t ≡ types_in s) where
  pub rows_are : t.rows ≡ (script_of s).types
  unfolding script_of
  rows_are = rw is

  pub free_rows : shapely s ≡ true → {root : List Bool} → Rooted s root → {top : ℕ} → top ≡ t.rows → Free (rows_in t) root top
  free_rows e {root} R {top} z = laid_free is root top (λ i j p q x. rooted_free s e R i j p (omega (arith, rows_are)) x)

  pub wires_all : {root : List Bool} {behind' : List ℕ} {top : ℕ} → top ≡ t.rows → Wires (rows_in t) root behind' top → Wires (script_of s).type_row root behind' (script_of s).types
  wires_all z W = rw (z ∙ rows_are) at (laid_wires is W)

-- ---- the answer

-- no two places are tied, or these two are the lowest
pub record SaysTie (s : List ℕ) (r : Option Tied) : Type 0 where
  pub none : r ≡ None → Untied (script_of s)
  pub lowest : (t : Tied) → r ≡ Some t → Tie (script_of s) t.row t.rival

pub says_tie : {s : List ℕ} → shapely s ≡ true → {null root : List Bool} {t : Tables} → Made s null root t → {r : Option Tied}
    → Least (Upto s root t.first t.behind (script_of s).types) r → SaysTie s r
says_tie {s} e M f = record { none = untied s e M.tables M.rooted M.wires f; lowest = lowest_tie s e M.tables M.rooted M.wires f }

-- where no two places have one head
pub says_apart : {s : List ℕ} → shapely s ≡ true → Apart s → SaysTie s None
says_apart {s} e A = record { none = λ z. apart_untied s e A; lowest = λ t z. absurd cc }

abbrev pub unsound_of : Unsound → reply.Refusal
unsound_of (Unsound.Barren x) = reply.Refusal.barren x
unsound_of (Unsound.Tie t) = reply.Refusal.tie t.row t.rival

abbrev pub sound_of : Result Unit Unsound → Answer
sound_of (Ok _) = Answer.done
sound_of (Err why) = Answer.refused (unsound_of why)

pub loads_barren : {s : List ℕ} {x : ℕ} → shapely s ≡ true → SaysBarren s (Some x) → Loads s (Answer.refused (reply.Refusal.barren x))
loads_barren {x = x} e b = reply.Loads.is_barren e (b.lowest x refl)

pub loads_tie : {s : List ℕ} {t : Tied} → shapely s ≡ true → SaysBarren s None → SaysTie s (Some t) → Loads s (Answer.refused (reply.Refusal.tie t.row t.rival))
loads_tie {t = t} e b c = reply.Loads.is_tied e (b.none refl) (c.lowest t refl)

pub loads_sound : {s : List ℕ} → shapely s ≡ true → SaysBarren s None → SaysTie s None → Loads s Answer.done
loads_sound e b c = reply.Loads.sound e (b.none refl) (c.none refl)
