-- Inclusion is decided, of any type over the names of a sheet that passes 2 to 4 in a declared type or a content, or in (), text or bool: the points of both are finitely many.
use Rattle.std.specs.Prelude.{ℕ, suc, ◌+◌, ◌≤◌, ◌<◌, ◌≡◌, refl, Bool, true, false, ◌&&◌, cond, List, ◌⊎◌, leb, ltb}
use Rattle.std.proofs.Common.{sym, ◌∙◌, inl, inr}
use native.Mathlib.Omega.{arith}
use Rattle.meaning.specs.Sheet.{Script, script_of}
use Rattle.meaning.specs.Types.{Ty, Named, Head, atom_of, Within, declared, names_in}
use Rattle.meaning.specs.Places.{same_head}
use Rattle.meaning.specs.Shape.{shapely}
use Rattle.meaning.specs.Reply.{done, Loads, sound}
use Rattle.meaning.specs.Laws.Bools.{never}
use Rattle.meaning.specs.Laws.Tests.{table_high}
use Rattle.meaning.specs.Laws.Barren.{Over, Name, contents_over}
use Rattle.meaning.specs.Laws.Wired.{has}
use Rattle.meaning.specs.Laws.Apart.{first_has, follows_has, model_below, shaped_lower}
use Rattle.meaning.specs.Laws.Pairs.{Side, Lives, Free, Included, Comes}
use Rattle.meaning.specs.Laws.Points.{heads_differ, has_first, has_follows, Family, Point, begin, beyond, point_side, Sort, sort_text, sort_bool, sort_label}
use Rattle.meaning.specs.Laws.Decide.{Finite, sum_below, below_le, below_lt, included_decided}
use Rattle.meaning.specs.Theorems.Within.Sides.{Found, Sought, within_included}
use Rattle.meaning.specs.Theorems.Within.Rows.{types_of, points_of, start_of, Wanted, wanted_each, sought_row}
use Rattle.meaning.specs.Theorems.Within.Whole.{atoms_in, numbered, atom_at, atom_head, atom_content, all_types, atom_over, numbered_range, type_side}
use Rattle.meaning.specs.Theorems.Within.Whole.{type_start, Plain, plain_place, Just, just, plain_each, sought_plain, found_over}

-- ---- the points of finitely many types

module _ (T : Family) (K : Finite T.Key) (bound : T.Key → ℕ) where
  data InPoint : Point T.Key → Type 0 where
    in_begin : (k : T.Key) → K.In k → InPoint (begin T k)
    in_beyond : (k : T.Key) (a : ℕ) → K.In k → a < bound k → InPoint (beyond T k a)

  point_sum : (Point T.Key → ℕ) → T.Key → ℕ
  point_sum f k = f (begin T k) + sum_below (bound k) (λ a. f (beyond T k a))

  points_le : (f g : Point T.Key → ℕ) → ((x : Point T.Key) → f x ≤ g x) → (k : T.Key) → point_sum f k ≤ point_sum g k
  unfolding point_sum
  points_le f g h k = omega (arith, h (begin T k), below_le (bound k) (λ a. f (beyond T k a)) (λ a. g (beyond T k a)) (λ a. h (beyond T k a)))

  points_lt : (f g : Point T.Key → ℕ) → ((x : Point T.Key) → f x ≤ g x) → (x : Point T.Key) → InPoint x → f x < g x → K.sum (point_sum f) < K.sum (point_sum g)
  unfolding point_sum
  points_lt f g h x (in_begin k i) l = K.sum_lt _ _ (points_le f g h) k i
      (omega (arith, below_le (bound k) (λ a. f (beyond T k a)) (λ a. g (beyond T k a)) (λ a. h (beyond T k a))))
  points_lt f g h x (in_beyond k a i j) l = K.sum_lt _ _ (points_le f g h) k i
      (omega (arith, h (begin T k), below_lt (bound k) (λ a. f (beyond T k a)) (λ a. g (beyond T k a)) (λ a. h (beyond T k a)) a j l))

  abbrev points_in : Finite (Point T.Key)
  points_in = record { In = InPoint; sum = λ f. K.sum (point_sum f); sum_le = λ f g h. K.sum_le _ _ (points_le f g h); sum_lt = points_lt }

  in_key : (x : Point T.Key) → InPoint x → K.In x.key
  in_key x (in_begin k i) = i
  in_key x (in_beyond k a i j) = i

  in_has : (x : Point T.Key) → InPoint x → (a : ℕ) → ltb 0 a && x.set a ≡ true → has (T.model x.key) a ≡ true
  in_has x (in_begin k i) a e = first_has (T.model k) a (has_first (T.model k) a e)
  in_has x (in_beyond k c i j) a e = follows_has (T.model k) c a (has_follows (T.model k) c a e)

  -- types whose places are below their bound, and whose contents are of them
  record Known : Type 0 where
    low : (k : T.Key) → K.In k → (a : ℕ) → has (T.model k) a ≡ true → a < bound k
    contents : (k : T.Key) → K.In k → (a n : ℕ) → has (T.model k) a ≡ true → T.head k a ≡ Head.label n → K.In (T.content k a)

-- two such families
module _ (T U : Family) (K : Finite T.Key) (L : Finite U.Key) (b : T.Key → ℕ) (c : U.Key → ℕ) (t : Known T K b) (u : Known U L c) where
  points_decided : (k : T.Key) (l : U.Key) → K.In k → L.In l
      → ((x : Point T.Key) (y : Point U.Key) → Comes (point_side T) (point_side U) (begin T k) (begin U l) x y → (a : ℕ) → (point_side T).has x a ≡ true → Lives (point_side T) x a)
      → ((x : Point T.Key) (y : Point U.Key) → Comes (point_side T) (point_side U) (begin T k) (begin U l) x y → Free (point_side U) y)
      → Included (point_side T) (point_side U) (begin T k) (begin U l) ⊎ (Included (point_side T) (point_side U) (begin T k) (begin U l) → ⊥)
  points_decided k l i j lives free = included_decided (point_side T) (point_side U) (points_in T K b) (points_in U L c) (λ x. b x.key) (λ y. c y.key) (begin T k) (begin U l)
      (λ x h a e. t.low x.key (in_key T K b x h) a (in_has T K b x h a e))
      (λ y h a e. u.low y.key (in_key U L c y h) a (in_has U L c y h a e))
      (λ x h a e. in_beyond x.key a (in_key T K b x h) (t.low x.key (in_key T K b x h) a (in_has T K b x h a e)))
      (λ y h a e. in_beyond y.key a (in_key U L c y h) (u.low y.key (in_key U L c y h) a (in_has U L c y h a e)))
      (λ x h a n e g. in_begin (T.content x.key a) (t.contents x.key (in_key T K b x h) a n (in_has T K b x h a e) g))
      (λ y h a n e g. in_begin (U.content y.key a) (u.contents y.key (in_key U L c y h) a n (in_has U L c y h a e) g))
      lives free (in_begin k i) (in_begin l j)

-- ---- the types inside a type, and inside the names

-- the content of a label in it, at any depth
data Sub : Ty → Ty → Type 0 where
  sub_here : {n : ℕ} {τ : Ty} → Sub (Ty.label n τ) τ
  sub_in : {n : ℕ} {τ ρ : Ty} → Sub τ ρ → Sub (Ty.label n τ) ρ
  sub_first : {τ σ ρ : Ty} → Sub τ ρ → Sub (Ty.seq τ σ) ρ
  sub_then : {τ σ ρ : Ty} → Sub σ ρ → Sub (Ty.seq τ σ) ρ
  sub_left : {τ σ ρ : Ty} → Sub τ ρ → Sub (Ty.choice τ σ) ρ
  sub_right : {τ σ ρ : Ty} → Sub σ ρ → Sub (Ty.choice τ σ) ρ
  sub_star : {τ ρ : Ty} → Sub τ ρ → Sub (Ty.star τ) ρ

sub_trans : {τ σ ρ : Ty} → Sub τ σ → Sub σ ρ → Sub τ ρ
sub_trans sub_here t = sub_in t
sub_trans (sub_in s) t = sub_in (sub_trans s t)
sub_trans (sub_first s) t = sub_first (sub_trans s t)
sub_trans (sub_then s) t = sub_then (sub_trans s t)
sub_trans (sub_left s) t = sub_left (sub_trans s t)
sub_trans (sub_right s) t = sub_right (sub_trans s t)
sub_trans (sub_star s) t = sub_star (sub_trans s t)

unfoldable sum_in : Ty → (Ty → ℕ) → ℕ
sum_in Ty.empty f = 0
sum_in Ty.text f = 0
sum_in Ty.bool f = 0
sum_in (Ty.label n τ) f = f τ + sum_in τ f
sum_in (Ty.seq τ σ) f = sum_in τ f + sum_in σ f
sum_in (Ty.choice τ σ) f = sum_in τ f + sum_in σ f
sum_in (Ty.star τ) f = sum_in τ f
sum_in (Ty.name x) f = 0

module _ (f g : Ty → ℕ) (h : (τ : Ty) → f τ ≤ g τ) where
  in_le : (τ : Ty) → sum_in τ f ≤ sum_in τ g
  unfolding sum_in
  in_le Ty.empty = omega arith
  in_le Ty.text = omega arith
  in_le Ty.bool = omega arith
  in_le (Ty.label n τ) = omega (arith, h τ, in_le τ)
  in_le (Ty.seq τ σ) = omega (arith, in_le τ, in_le σ)
  in_le (Ty.choice τ σ) = omega (arith, in_le τ, in_le σ)
  in_le (Ty.star τ) = in_le τ
  in_le (Ty.name x) = omega arith

  in_lt : {τ ρ : Ty} → Sub τ ρ → f ρ < g ρ → sum_in τ f < sum_in τ g
  unfolding sum_in
  in_lt (sub_here {τ = τ}) l = omega (arith, in_le τ)
  in_lt (sub_in {τ = τ} s) l = omega (arith, h τ, in_lt s l)
  in_lt (sub_first {σ = σ} s) l = omega (arith, in_lt s l, in_le σ)
  in_lt (sub_then {τ = τ} s) l = omega (arith, in_lt s l, in_le τ)
  in_lt (sub_left {σ = σ} s) l = omega (arith, in_lt s l, in_le σ)
  in_lt (sub_right {τ = τ} s) l = omega (arith, in_lt s l, in_le τ)
  in_lt (sub_star s) l = in_lt s l

-- a label atom of a type is a label in it
atom_sub : (m : ℕ) (τ : Ty) (a l : ℕ) (ρ : Ty) → atom_at m τ a ≡ Ty.label l ρ → Sub τ ρ
unfolding atom_at
atom_sub m Ty.empty a l ρ e = never (cc)
atom_sub m Ty.text a l ρ e = never (cc)
atom_sub m Ty.bool a l ρ e = never (cc)
atom_sub m (Ty.label n τ) a l ρ e = let z : τ ≡ ρ = cc in rw z sub_here
atom_sub m (Ty.seq τ σ) a l ρ e = go (leb a (m + atoms_in τ)) e (atom_sub m τ a l ρ) (atom_sub (m + atoms_in τ) σ a l ρ)
  where
    go : (b : Bool) → cond b (atom_at m τ a) (atom_at (m + atoms_in τ) σ a) ≡ Ty.label l ρ
        → (atom_at m τ a ≡ Ty.label l ρ → Sub τ ρ) → (atom_at (m + atoms_in τ) σ a ≡ Ty.label l ρ → Sub σ ρ) → Sub (Ty.seq τ σ) ρ
    go true e p q = sub_first (p e)
    go false e p q = sub_then (q e)
atom_sub m (Ty.choice τ σ) a l ρ e = go (leb a (m + atoms_in τ)) e (atom_sub m τ a l ρ) (atom_sub (m + atoms_in τ) σ a l ρ)
  where
    go : (b : Bool) → cond b (atom_at m τ a) (atom_at (m + atoms_in τ) σ a) ≡ Ty.label l ρ
        → (atom_at m τ a ≡ Ty.label l ρ → Sub τ ρ) → (atom_at (m + atoms_in τ) σ a ≡ Ty.label l ρ → Sub σ ρ) → Sub (Ty.choice τ σ) ρ
    go true e p q = sub_left (p e)
    go false e p q = sub_right (q e)
atom_sub m (Ty.star τ) a l ρ e = sub_star (atom_sub m τ a l ρ e)
atom_sub m (Ty.name x) a l ρ e = never (cc)

module _ (names : ℕ → Named) (n : ℕ) (known : (x : ℕ) → Name n x → Over (Name n) (names x).content) (σ : Ty) where
  -- the type itself, the types inside it, the contents of the names and the types inside these
  data KeyOf : Ty → Type 0 where
    key_top : KeyOf σ
    key_in : {τ : Ty} → Sub σ τ → KeyOf τ
    key_name : (x : ℕ) → Name n x → KeyOf (names x).content
    key_inside : (x : ℕ) {τ : Ty} → Name n x → Sub (names x).content τ → KeyOf τ

  key_down : {k ρ : Ty} → KeyOf k → Sub k ρ → KeyOf ρ
  key_down key_top s = key_in s
  key_down (key_in t) s = key_in (sub_trans t s)
  key_down (key_name x h) s = key_inside x h s
  key_down (key_inside x h t) s = key_inside x h (sub_trans t s)

  name_sum : (Ty → ℕ) → ℕ → ℕ
  name_sum f x = f (names x).content + sum_in (names x).content f

  key_sum : (Ty → ℕ) → ℕ
  key_sum f = f σ + sum_in σ f + sum_below (suc n) (name_sum f)

  names_le : (f g : Ty → ℕ) → ((τ : Ty) → f τ ≤ g τ) → (x : ℕ) → name_sum f x ≤ name_sum g x
  unfolding name_sum
  names_le f g h x = omega (arith, h (names x).content, in_le f g h (names x).content)

  keys_le : (f g : Ty → ℕ) → ((τ : Ty) → f τ ≤ g τ) → key_sum f ≤ key_sum g
  unfolding key_sum
  keys_le f g h = omega (arith, h σ, in_le f g h σ, below_le (suc n) (name_sum f) (name_sum g) (names_le f g h))

  keys_lt : (f g : Ty → ℕ) → ((τ : Ty) → f τ ≤ g τ) → (τ : Ty) → KeyOf τ → f τ < g τ → key_sum f < key_sum g
  unfolding key_sum name_sum
  keys_lt f g h τ key_top l = omega (arith, in_le f g h σ, below_le (suc n) (name_sum f) (name_sum g) (names_le f g h))
  keys_lt f g h τ (key_in s) l = omega (arith, h σ, in_lt f g h s l, below_le (suc n) (name_sum f) (name_sum g) (names_le f g h))
  keys_lt f g h τ (key_name x i) l =
      let k : name_sum f x < name_sum g x = omega (arith, in_le f g h (names x).content) in
      omega (arith, h σ, in_le f g h σ, below_lt (suc n) (name_sum f) (name_sum g) (names_le f g h) x (omega (arith, table_high n x i)) k)
  keys_lt f g h τ (key_inside x i s) l =
      let k : name_sum f x < name_sum g x = omega (arith, h (names x).content, in_lt f g h s l) in
      omega (arith, h σ, in_le f g h σ, below_lt (suc n) (name_sum f) (name_sum g) (names_le f g h) x (omega (arith, table_high n x i)) k)

  abbrev keys_of : Finite Ty
  keys_of = record { In = λ τ. KeyOf τ × Over (Name n) τ; sum = key_sum; sum_le = keys_le; sum_lt = λ f g h τ i l. keys_lt f g h τ i.0 l }

  -- the contents of their places are of them
  content_of : (k : Ty) → KeyOf k → (a m : ℕ) (α : Ty) → atom_at 0 k a ≡ α → Over (Name n) α → atom_head (atom_of names α) ≡ Head.label m
      → KeyOf (atom_content (atom_of names α)) × Over (Name n) (atom_content (atom_of names α))
  unfolding atom_of Over same_head
  content_of k i a m Ty.empty e o h = absurd (heads_differ h refl)
  content_of k i a m Ty.text e o h = absurd (heads_differ h refl)
  content_of k i a m Ty.bool e o h = absurd (heads_differ h refl)
  content_of k i a m (Ty.label l ρ) e o h = (key_down i (atom_sub 0 k a l ρ e), o)
  content_of k i a m (Ty.seq τ ρ) e o h = absurd (heads_differ h refl)
  content_of k i a m (Ty.choice τ ρ) e o h = absurd (heads_differ h refl)
  content_of k i a m (Ty.star τ) e o h = absurd (heads_differ h refl)
  content_of k i a m (Ty.name x) e o h = (key_name x o, known x o)

  found_known : Known (all_types names) keys_of (λ τ. suc (atoms_in τ))
  found_known = record {
    low = λ k i a e. omega (arith, (numbered_range 0 k a e).1);
    contents = λ k i a m e h. content_of k i.0 a m (atom_at 0 k a) refl (atom_over (Name n) 0 k a i.1) h;
  }

-- ---- so, on a sheet that passes 2 to 4

-- a type is in another, or is not
abbrev pub Decided : (ℕ → Named) → Ty → Ty → Type 0
Decided names σ τ = Within names σ τ ⊎ (Within names σ τ → ⊥)

module _ (s : List ℕ) (shape : shapely s ≡ true) where
  abbrev S : Script
  S = script_of s

  -- the wanted rows
  abbrev rows_of : Finite ℕ
  rows_of = record {
    In = Wanted S;
    sum = sum_below (suc S.types);
    sum_le = below_le (suc S.types);
    sum_lt = λ f g h r i l. below_lt (suc S.types) f g h r (omega (arith, table_high S.types r i.0)) l;
  }

  wanted_content : (r a m : ℕ) → Sort (types_of S) (Wanted S) r a → (types_of S).head r a ≡ Head.label m → Wanted S ((types_of S).content r a)
  unfolding same_head
  wanted_content r a m (sort_text e) h = absurd (heads_differ (sym e ∙ h) refl)
  wanted_content r a m (sort_bool e) h = absurd (heads_differ (sym e ∙ h) refl)
  wanted_content r a m (sort_label n e w) h = w

  wanted_known : Known (types_of S) rows_of (λ r. suc r)
  wanted_known = record {
    low = λ r i a e. omega (arith, model_below S.type_row S.name_row (shaped_lower s shape) r a e);
    contents = λ r i a m e h. wanted_content r a m (wanted_each s shape r i a e).sort h;
  }

-- (), text and bool
module _ (names : ℕ → Named) (τ : Ty) (p : Plain τ) where
  plain_lt : (f g : Ty → ℕ) {k : Ty} → Just τ k → f k < g k → f τ < g τ
  plain_lt f g just l = l

  abbrev plain_of : Finite Ty
  plain_of = record { In = Just τ; sum = λ f. f τ; sum_le = λ f g h. h τ; sum_lt = λ f g h k i l. plain_lt f g i l }

  plain_low : (k : Ty) → Just τ k → (a : ℕ) → has (numbered 0 k) a ≡ true → a < 2
  plain_low k just a e = omega (arith, plain_place p a e)

  plain_content : (k : Ty) (a m : ℕ) → Sort (all_types names) (Just τ) k a → (all_types names).head k a ≡ Head.label m → Just τ ((all_types names).content k a)
  unfolding same_head
  plain_content k a m (sort_text e) h = absurd (heads_differ (sym e ∙ h) refl)
  plain_content k a m (sort_bool e) h = absurd (heads_differ (sym e ∙ h) refl)
  plain_content k a m (sort_label n e w) h = w

  plain_known : Known (all_types names) plain_of (λ k. 2)
  plain_known = record { low = plain_low; contents = λ k i a m e h. plain_content k a m (plain_each names p k i a e).sort h }

-- by what is included
by_included : {names : ℕ → Named} {F W : Side} {x : F.State} {y : W.State} {σ τ : Ty} → Found names F x σ → Sought names W y τ
    → Included F W x y ⊎ (Included F W x y → ⊥) → Decided names σ τ
by_included p q (inl i) = inl ((within_included p q).1 i)
by_included p q (inr n) = inr (λ w. n ((within_included p q).0 w))

module _ (s : List ℕ) (loads : Loads s done) (σ : Ty) (over : Over (Name (script_of s).names) σ) where
  -- in a declared type or a content
  pub row_decided : (w : ℕ) → Wanted (script_of s) w → Decided (names_in (script_of s)) σ (declared (script_of s) w)
  row_decided w h = go loads
    where
      go : Loads s done → Decided (names_in (script_of s)) σ (declared (script_of s) w)
      go (sound shape fertile untied) =
          let S = script_of s in let N = names_in S in
          let f = found_over s shape fertile σ over in let q = sought_row s shape untied w h in
          by_included f q (points_decided (all_types N) (types_of S) (keys_of N S.names (contents_over s shape) σ) (rows_of s shape) (λ τ. suc (atoms_in τ)) (λ r. suc r)
          (found_known N S.names (contents_over s shape) σ) (wanted_known s shape) σ w (key_top, over) h (f.lives (points_of S) (start_of S w)) (q.free (type_side N) (type_start N σ)))

  -- in (), text or bool
  pub plain_decided : (τ : Ty) → Plain τ → Decided (names_in (script_of s)) σ τ
  plain_decided τ p = go loads
    where
      go : Loads s done → Decided (names_in (script_of s)) σ τ
      go (sound shape fertile untied) =
          let S = script_of s in let N = names_in S in
          let f = found_over s shape fertile σ over in let q = sought_plain N τ p in
          by_included f q (points_decided (all_types N) (all_types N) (keys_of N S.names (contents_over s shape) σ) (plain_of N τ p) (λ τ. suc (atoms_in τ)) (λ k. 2)
          (found_known N S.names (contents_over s shape) σ) (plain_known N τ p) σ τ (key_top, over) just (f.lives (type_side N) (type_start N τ)) (q.free (type_side N) (type_start N σ)))
