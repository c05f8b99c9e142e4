-- Ties point by point. At one point: a place, the places of its head by their class, the lowest two. Over all points: the lower of two, row by row.
use Rattle.std.specs.Prelude.{ℕ, ◌+◌, ◌≤◌, ◌<◌, ◌≡◌, refl, Bool, true, List, ◌⊎◌, ltb, get_or, Option, Some, None}
use Rattle.std.proofs.Common.{sym, ◌∙◌, inl, inr, arith, eqb-true, eq-eqb, lt-ltb}
use Rattle.std.proofs.Math.Decide.{dec_lt, ℕ_discrete}
use Rattle.meaning.specs.Tests.{in_table}
use Rattle.meaning.specs.Sheet.{script_of}
use Rattle.meaning.specs.Shape.{shapely}
use Rattle.meaning.specs.Places.{Set}
use Rattle.meaning.specs.Laws.Bools.{and_left, and_right, and_both, not_both}
use Rattle.meaning.specs.Laws.Tests.{in_table_lem, table_low, table_high}
use Rattle.bits.specs.Sets.{in_set, in_both, LowestBoth}
use Rattle.bits.specs.Counts.{count_to, count_single, count_two}
use Rattle.type_barren.specs.Flags.{flag}
use Rattle.meaning.specs.Laws.Shaped.{few_types, kind_in}
use Rattle.type_places.specs.Tables.{set_of}
use Rattle.meaning.specs.Laws.Apart.{PlaceKind}
use Rattle.type_ties.specs.declared.Tied.{Tied}
use Rattle.type_heads.specs.Heads.{head_number, head_place}
use Rattle.type_heads.specs.Classes.{Classes}

-- at a point whose set is P both a and b may stand, and they have one head
pub record PointTie (s : List ℕ) (P : Set) (a b : ℕ) : Type 0 where
  pub a_row : in_table (script_of s).types a ≡ true
  pub b_row : in_table (script_of s).types b ≡ true
  pub ne : a ≡ b → ⊥
  pub a_in : P a ≡ true
  pub b_in : P b ≡ true
  pub head : head_number s a ≡ head_number s b
  pub small : head_number s a < 1026

-- i has no rival at the point; or t is the lowest of i's head there, with its lowest rival
pub record OfPlace (s : List ℕ) (P : Set) (i : ℕ) (r : Option Tied) : Type 0 where
  pub none : r ≡ None → (b : ℕ) → PointTie s P i b → ⊥
  pub some : (t : Tied) → r ≡ Some t → (t.row ≤ i) × PointTie s P t.row t.rival × ((b : ℕ) → PointTie s P t.row b → t.rival ≤ b)

-- t is the lowest pair of a relation, by the row and then by the rival
pub record Lowest (R : ℕ → ℕ → Type 0) (t : Tied) : Type 0 where
  pub is : R t.row t.rival
  pub low : (a b : ℕ) → R a b → t.row ≤ a
  pub rival : (b : ℕ) → R t.row b → t.rival ≤ b

-- the lowest, or none where there is none
pub record Least (R : ℕ → ℕ → Type 0) (r : Option Tied) : Type 0 where
  pub none : r ≡ None → (a b : ℕ) → R a b → ⊥
  pub some : (t : Tied) → r ≡ Some t → Lowest R t

pub least_none : {R : ℕ → ℕ → Type 0} → ((a b : ℕ) → R a b → ⊥) → Least R None
least_none n = record { none = λ z. n; some = λ t z. absurd cc }

pub least_some : {R : ℕ → ℕ → Type 0} {t : Tied} → Lowest R t → Least R (Some t)
least_some {R} {t} f = record { none = λ z. absurd cc; some = λ u z. let e : t ≡ u = cc in rw e at f }

-- ---- one place at a point

in_set_lem : (t : List ℕ) (k x : ℕ) → set_of t k x ≡ true → in_set t k x ≡ true
in_set_lem t k x h = and_right (ltb x 576) (in_set t k x) h

set_in : (t : List ℕ) (k x : ℕ) → x < 576 → in_set t k x ≡ true → set_of t k x ≡ true
set_in t k x l h = rw (lt-ltb x 576 l) h

module _ (s : List ℕ) (e : shapely s ≡ true) where
  room : (b : ℕ) → in_table (script_of s).types b ≡ true → b < 576
  room b h = omega (arith, table_high (script_of s).types b h, few_types s e)

  module _ {class same : List ℕ} (C : Classes s class same) (t : List ℕ) (k i : ℕ) where
    pub of_none : 1026 ≤ head_number s i → OfPlace s (set_of t k) i None
    of_none h = record { none = λ z b p. omega (arith, p.small); some = λ u z. absurd cc }

    module _ (h : head_number s i < 1026) where
      -- a place of i's head that is in the set
      member : (b : ℕ) → in_table (script_of s).types b ≡ true → head_number s b ≡ head_number s i → in_set t k b ≡ true → in_both t k same (get_or class (head_number s i) 0) b ≡ true
      member b r z p = and_both (in_set t k b) _ p (C.members (head_number s i) h b (room b r) ∙ rw (r, eq-eqb (head_number s b) (head_number s i) z))

      same_row : (b : ℕ) → b < 576 → in_both t k same (get_or class (head_number s i) 0) b ≡ true → (in_table (script_of s).types b ≡ true) × (head_number s b ≡ head_number s i)
      same_row b l p =
          let w = sym (C.members (head_number s i) h b l) ∙ and_right (in_set t k b) _ p in
          (and_left (in_table (script_of s).types b) _ w, eqb-true (head_number s b) (head_number s i) (and_right (in_table (script_of s).types b) _ w))

      pub of_single : count_to (in_both t k same (get_or class (head_number s i) 0)) 576 < 2 → OfPlace s (set_of t k) i None
      of_single n = record {
        none = λ z b p. p.ne (count_single (in_both t k same (get_or class (head_number s i) 0)) 576 n i b (room i p.a_row) (room b p.b_row)
            (member i p.a_row refl (in_set_lem t k i p.a_in)) (member b p.b_row (sym p.head) (in_set_lem t k b p.b_in)));
        some = λ u z. absurd cc;
      }

      pub of_two : in_set t k i ≡ true → {row rival : ℕ} → LowestBoth t k same (get_or class (head_number s i) 0) 0 row → LowestBoth t k same (get_or class (head_number s i) 0) (row + 1) rival
          → 2 ≤ count_to (in_both t k same (get_or class (head_number s i) 0)) 576 → OfPlace s (set_of t k) i (Some (record { row = row; rival = rival }))
      of_two p {row} {rival} A B n = record {
        none = λ z. absurd cc;
        some = λ u z. let e : row ≡ u.row = cc in let f : rival ≡ u.rival = cc in rw (e, f) at found;
      }
        where
          d : (row < rival) × (rival < 576)
          d = count_two A B n

          small : row < 576
          small = omega (arith, d.0, d.1)

          x : (in_table (script_of s).types row ≡ true) × (head_number s row ≡ head_number s i)
          x = same_row row small (A.here small)

          y : (in_table (script_of s).types rival ≡ true) × (head_number s rival ≡ head_number s i)
          y = same_row rival d.1 (B.here d.1)

          kind : PlaceKind ((script_of s).type_row i).kind
          kind = head_place s e i h

          i_row : in_table (script_of s).types i ≡ true
          i_row = go kind
            where
              go : PlaceKind ((script_of s).type_row i).kind → in_table (script_of s).types i ≡ true
              go (inl z) = kind_in s i 1 z
              go (inr (inl z)) = kind_in s i 2 z
              go (inr (inr (inl z))) = kind_in s i 3 z
              go (inr (inr (inr z))) = kind_in s i 7 z

          first : row ≤ i
          first = elim (dec_lt i row) [ yes l ↦ absurd (not_both (member i i_row refl p) (A.below i (omega arith) l)) | no l ↦ omega arith ]

          between : (b : ℕ) → PointTie s (set_of t k) row b → b < rival → ⊥
          between b q l =
              let m = member b q.b_row (sym q.head ∙ x.1) (in_set_lem t k b q.b_in) in
              elim (dec_lt b row) [
                | yes w ↦ not_both m (A.below b (omega arith) w)
                | no w ↦ not_both m (B.below b (omega (arith, q.ne)) l)
              ]

          found : (row ≤ i) × PointTie s (set_of t k) row rival × ((b : ℕ) → PointTie s (set_of t k) row b → rival ≤ b)
          found = (
            first,
            record {
              a_row = x.0;
              b_row = y.0;
              ne = λ w. omega (arith, d.0);
              a_in = set_in t k row small (and_left (in_set t k row) _ (A.here small));
              b_in = set_in t k rival d.1 (and_left (in_set t k rival) _ (B.here d.1));
              head = x.1 ∙ sym y.1;
              small = rw x.1 h;
            },
            (λ b q. elim (dec_lt b rival) [ yes l ↦ absurd (between b q l) | no l ↦ omega arith ]),
          )

-- ---- the places of a point, one after another

-- no place below i is tied at the point
pub record NoneBelow (s : List ℕ) (P : Set) (i : ℕ) : Type 0 where
  pub at : (a b : ℕ) → a < i → PointTie s P a b → ⊥

module _ (s : List ℕ) (t : List ℕ) (k : ℕ) where
  pub first_here : {i : ℕ} {u : Tied} → NoneBelow s (set_of t k) i → OfPlace s (set_of t k) i (Some u) → Least (PointTie s (set_of t k)) (Some u)
  first_here {i} {u} w o = let x = o.some u refl in least_some (record {
    is = x.1;
    low = λ a b p. elim (dec_lt a u.row) [ yes l ↦ absurd (w.at a b (omega (arith, x.0)) p) | no l ↦ omega arith ];
    rival = x.2;
  })

-- ---- the lower of two

-- by the row, then by the rival
abbrev pub Before : Tied → Tied → Type 0
Before a b = (a.row < b.row) ⊎ (a.row ≡ b.row) × (a.rival < b.rival)

pub data Lower (best found r : Option Tied) : Type 0 where
  no_found : found ≡ None → r ≡ best → Lower best found r
  no_best : best ≡ None → r ≡ found → Lower best found r
  found_first : {b f : Tied} → best ≡ Some b → found ≡ Some f → Before f b → r ≡ found → Lower best found r
  best_first : {b f : Tied} → best ≡ Some b → found ≡ Some f → (Before f b → ⊥) → r ≡ best → Lower best found r

module _ {R Q : ℕ → ℕ → Type 0} {best found : Option Tied} (f : Least R best) (g : Least Q found) where
  pub least_lower : {r : Option Tied} → Lower best found r → Least (λ a b. R a b ⊎ Q a b) r
  least_lower (no_found z e) = rw e (record {
    none = λ w a b x. elim x [ inl y ↦ f.none w a b y | inr y ↦ g.none z a b y ];
    some = λ t w. let h = f.some t w in record {
      is = inl h.is;
      low = λ a b x. elim x [ inl y ↦ h.low a b y | inr y ↦ absurd (g.none z a b y) ];
      rival = λ b x. elim x [ inl y ↦ h.rival b y | inr y ↦ absurd (g.none z _ b y) ];
    };
  })
  least_lower (no_best z e) = rw e (record {
    none = λ w a b x. elim x [ inl y ↦ f.none z a b y | inr y ↦ g.none w a b y ];
    some = λ t w. let h = g.some t w in record {
      is = inr h.is;
      low = λ a b x. elim x [ inl y ↦ absurd (f.none z a b y) | inr y ↦ h.low a b y ];
      rival = λ b x. elim x [ inl y ↦ absurd (f.none z _ b y) | inr y ↦ h.rival b y ];
    };
  })
  least_lower (found_first {b = o} {f = n} x y l e) = rw (e, y) (least_some (let h = f.some o x in let k = g.some n y in elim l [
    | inl l ↦ record {
      is = inr k.is;
      low = λ a b x. elim x [ inl y ↦ omega (arith, h.low a b y) | inr y ↦ k.low a b y ];
      rival = λ b x. elim x [ inl y ↦ absurd (omega (arith, h.low n.row b y)) | inr y ↦ k.rival b y ];
    }
    | inr (z, l) ↦ record {
      is = inr k.is;
      low = λ a b x. elim x [ inl y ↦ omega (arith, h.low a b y) | inr y ↦ k.low a b y ];
      rival = λ b x. elim x [ inl y ↦ omega (arith, h.rival b (rw z at y)) | inr y ↦ k.rival b y ];
    }
  ]))
  least_lower (best_first {b = o} {f = n} x y l e) = rw (e, x) (least_some (let h = f.some o x in let k = g.some n y in elim (dec_lt o.row n.row) [
    | yes d ↦ record {
      is = inl h.is;
      low = λ a b x. elim x [ inl y ↦ h.low a b y | inr y ↦ omega (arith, k.low a b y) ];
      rival = λ b x. elim x [ inl y ↦ h.rival b y | inr y ↦ absurd (omega (arith, k.low o.row b y)) ];
    }
    | no d ↦ (let z : n.row ≡ o.row = elim (dec_lt n.row o.row) [ yes m ↦ absurd (l (inl m)) | no m ↦ omega arith ] in record {
      is = inl h.is;
      low = λ a b x. elim x [ inl y ↦ h.low a b y | inr y ↦ omega (arith, k.low a b y) ];
      rival = λ b x. elim x [
        | inl y ↦ h.rival b y
        | inr y ↦ elim (dec_lt n.rival o.rival) [ yes m ↦ absurd (l (inr (z, m))) | no m ↦ omega (arith, k.rival b (rw (← z) at y)) ]
      ];
    })
  ]))

pub least_as : {R Q : ℕ → ℕ → Type 0} → ((a b : ℕ) → R a b → Q a b) → ((a b : ℕ) → Q a b → R a b) → {r : Option Tied} → Least R r → Least Q r
least_as to from f = record {
  none = λ z a b y. f.none z a b (from a b y);
  some = λ t z. let h = f.some t z in record { is = to t.row t.rival h.is; low = λ a b y. h.low a b (from a b y); rival = λ b y. h.rival b (from t.row b y) };
}

-- ---- all points: where a root begins, and behind each place

abbrev pub AtStart : List ℕ → List Bool → List ℕ → ℕ → ℕ → ℕ → Type 0
AtStart s root begin j a b = (flag root j ≡ true) × PointTie s (set_of begin j) a b

abbrev pub AtPlace : List ℕ → List ℕ → ℕ → ℕ → ℕ → Type 0
AtPlace s behind j a b = (head_number s j < 1026) × PointTie s (set_of behind j) a b

-- at a point of one of the rows 1 to i
pub record Upto (s : List ℕ) (root : List Bool) (begin behind : List ℕ) (i a b : ℕ) : Type 0 where
  pub point : ℕ
  pub row : in_table i point ≡ true
  pub at : AtStart s root begin point a b ⊎ AtPlace s behind point a b

module _ {s : List ℕ} {root : List Bool} {begin behind : List ℕ} where
  pub upto_more : {i : ℕ} {best x y mid r : Option Tied} → Least (Upto s root begin behind i) best → Least (AtStart s root begin (i + 1)) x → Least (AtPlace s behind (i + 1)) y
      → Lower best x mid → Lower mid y r → Least (Upto s root begin behind (i + 1)) r
  upto_more {i} f g h u v = least_as to from (least_lower (least_lower f g u) h v)
    where
      to : (a b : ℕ) → (Upto s root begin behind i a b ⊎ AtStart s root begin (i + 1) a b) ⊎ AtPlace s behind (i + 1) a b → Upto s root begin behind (i + 1) a b
      to a b (inl (inl w)) = record { point = w.point; row = in_table_lem (i + 1) w.point (table_low i w.point w.row) (omega (arith, table_high i w.point w.row)); at = w.at }
      to a b (inl (inr w)) = record { point = i + 1; row = in_table_lem (i + 1) (i + 1) (omega arith) (omega arith); at = inl w }
      to a b (inr w) = record { point = i + 1; row = in_table_lem (i + 1) (i + 1) (omega arith) (omega arith); at = inr w }

      from : (a b : ℕ) → Upto s root begin behind (i + 1) a b → (Upto s root begin behind i a b ⊎ AtStart s root begin (i + 1) a b) ⊎ AtPlace s behind (i + 1) a b
      from a b w = elim (ℕ_discrete w.point (i + 1)) [
        | yes z ↦ elim w.at [ inl q ↦ inl (inr (rw z at q)) | inr q ↦ inr (rw z at q) ]
        | no z ↦ inl (inl (record { point = w.point; row = in_table_lem i w.point (table_low (i + 1) w.point w.row) (omega (arith, table_high (i + 1) w.point w.row)); at = w.at }))
      ]

-- a point that is there, and one that is not
pub least_given : {A : Type 0} {R : ℕ → ℕ → Type 0} → A → {r : Option Tied} → Least R r → Least (λ a b. A × R a b) r
least_given x f = least_as (λ a b y. (x, y)) (λ a b y. y.1) f
