-- The pairs of places that one tree can reach: behind a pair and inside it each found place must have a rival. A name's content is the sheet's: it is a pair of contents, kept apart in `fresh` and
-- `met`.
use Rattle.std.specs.Prelude.{ℕ, ◌≤◌, ◌<◌, ◌≡◌, refl, Bool, true, false, List, ◌⊎◌, ltb, get_or}
use Rattle.std.proofs.Common.{sym, ◌∙◌, inl, inr, arith, eq-eqb, lt-ltb}
use Rattle.std.proofs.lemmas.Bool.{false≢true}
use Rattle.std.proofs.Math.Decide.{ℕ_discrete}
use Rattle.meaning.specs.Sheet.{Cells}
use Rattle.meaning.specs.Places.{start, next}
use Rattle.meaning.specs.Laws.Wired.{has, Wired, ends, wired_next}
use Rattle.meaning.specs.Laws.Apart.{Lower, model_placed, model_below, first_has, follows_has}
use Rattle.meaning.specs.Laws.Points.{has_first, has_follows}
use Rattle.meaning.specs.Laws.Bools.{or_right, and_both}
use Rattle.bits.specs.Sets.{in_set, Added}
use Rattle.type_places.specs.Tables.{set_of, row_model}
use Rattle.type_heads.specs.Heads.{stands_for, acting_at}
use Rattle.within_pairs.specs.Queue.{Idle, Taken, done_kept, done_new}
use Rattle.within_pairs.specs.Meet.{Facing, Rival, Faced, Clash, Outcome}

-- pending or done
abbrev pub Seen : List ℕ → List ℕ → ℕ → ℕ → Type 0
Seen p d a b = (in_set p a b ≡ true) ⊎ (in_set d a b ≡ true)

-- ---- the places that can be reached are those of types for which the tables are right

-- a is a place of a type for which the table is wired
pub record Placed (row : ℕ → Cells) (behind : List ℕ) (a : ℕ) : Type 0 where
  pub root : ℕ
  pub high : root ≤ 512
  pub wired : Wired (set_of behind) (row_model row root) ends
  pub is : has (row_model row root) a ≡ true

-- the tables are right for the type at row r
pub record Asked (row : ℕ → Cells) (first behind : List ℕ) (r : ℕ) : Type 0 where
  pub high : r ≤ 512
  pub wired : Wired (set_of behind) (row_model row r) ends
  pub begins : (b : ℕ) → set_of first r b ≡ start (row_model row r) b

module _ {row : ℕ → Cells} {behind : List ℕ} where
  pub placed_low : {a : ℕ} → Lower row → Placed row behind a → (1 ≤ a) × (a ≤ 512)
  placed_low {a} low x = (model_placed row (λ x. 0) low x.root a x.is, omega (arith, model_below row (λ x. 0) low x.root a x.is, x.high))

  -- what stands behind a place is one
  pub placed_after : {a : ℕ} → Placed row behind a → (x : ℕ) → 1 ≤ x → x < 576 → in_set behind a x ≡ true → Placed row behind x
  placed_after {a} p x l h e =
      let m = row_model row p.root in
      let n = sym (wired_next (set_of behind) m ends p.wired a p.is x) ∙ and_both (ltb x 576) (in_set behind a x) (lt-ltb x 576 h) e in
      record { root = p.root; high = p.high; wired = p.wired; is = follows_has m a x (has_follows m a x (and_both (ltb 0 x) (next m a x) (lt-ltb 0 x l) n)) }

  -- and what stands where a type begins
  pub placed_first : {first : List ℕ} {r : ℕ} → Asked row first behind r → (x : ℕ) → 1 ≤ x → x < 576 → in_set first r x ≡ true → Placed row behind x
  placed_first {first} {r} t x l h e =
      let m = row_model row r in
      let n = sym (t.begins x) ∙ and_both (ltb x 576) (in_set first r x) (lt-ltb x 576 h) e in
      record { root = r; high = t.high; wired = t.wired; is = first_has m x (has_first m x (and_both (ltb 0 x) (start m x) (lt-ltb 0 x l) n)) }

  pub after_high : {a : ℕ} → Lower row → Placed row behind a → (x : ℕ) → x < 576 → in_set behind a x ≡ true → x ≤ 512
  after_high low p x h e = elim (ℕ_discrete x 0) [ yes z ↦ omega arith | no z ↦ (placed_low low (placed_after p x (omega arith) h e)).1 ]

  pub first_high : {first : List ℕ} {r : ℕ} → Lower row → Asked row first behind r → (x : ℕ) → x < 576 → in_set first r x ≡ true → x ≤ 512
  first_high low t x h e = elim (ℕ_discrete x 0) [ yes z ↦ omega arith | no z ↦ (placed_low low (placed_first t x (omega arith) h e)).1 ]

-- a table of found places and the sheet's: what may stand first at each row and behind each, and the kin of each found place
module _ (row : ℕ → Cells) (first behind kin s wanted-first wanted-behind same : List ℕ) where
  abbrev pub After : ℕ → ℕ → ℕ → ℕ → Type 0
  After a b x y = (in_set behind a x ≡ true) × Rival behind a wanted-behind b kin same x y

  abbrev pub Inner : ℕ → ℕ → ℕ → ℕ → Type 0
  Inner a b x y = ((row a).kind ≡ 4) × (in_set first (row a).q x ≡ true) × Rival first (row a).q wanted-first (acting_at s b).q kin same x y

  -- what is asked of the tables: they are right for the contents; what has the head of a label is one
  pub record Tabled : Type 0 where
    pub kins : (a : ℕ) → a < 576 → get_or kin a 0 ≤ 512
    pub lower : Lower row
    pub content : (a : ℕ) → (row a).kind ≡ 4 → Asked row first behind (row a).q
    pub named : (a : ℕ) → (row a).kind ≡ 8 → (1 ≤ (stands_for s (row a)).q) × ((stands_for s (row a)).q ≤ 512)
    pub alike : (a b : ℕ) → ((row a).kind ≡ 4) ⊎ ((row a).kind ≡ 8) → b < 576 → in_set same (get_or kin a 0) b ≡ true → (b ≤ 512) × (1 ≤ (acting_at s b).q) × ((acting_at s b).q ≤ 512)
    pub low : (a b : ℕ) → a < 576 → b < 576 → in_set same (get_or kin a 0) b ≡ true → b ≤ 512

  -- the pairs that are reached from pending ones
  pub data Arrives (p : List ℕ) : ℕ → ℕ → Type 0 where
    waits : {a b : ℕ} → 1 ≤ a → a ≤ 512 → b < 576 → in_set p a b ≡ true → Arrives p a b
    onward : {a b x y : ℕ} → Arrives p a b → 1 ≤ x → x ≤ 512 → After a b x y → Arrives p x y
    inward : {a b x y : ℕ} → Arrives p a b → 1 ≤ x → x ≤ 512 → Inner a b x y → Arrives p x y

  -- a pair has been looked at
  pub record Turned (p d f m : List ℕ) (a b : ℕ) : Type 0 where
    pub after : Faced behind a wanted-behind b kin same p d
    pub inside : (row a).kind ≡ 4 → Faced first (row a).q wanted-first (acting_at s b).q kin same p d
    pub named : (row a).kind ≡ 8 → (1 ≤ (stands_for s (row a)).q) × ((acting_at s b).q < 576) × Seen f m (stands_for s (row a)).q (acting_at s b).q

  pub data Failed (a b : ℕ) : Type 0 where
    not_after : Clash behind a wanted-behind b kin same → Failed a b
    not_inside : (row a).kind ≡ 4 → Clash first (row a).q wanted-first (acting_at s b).q kin same → Failed a b

  -- the pair of contents of a name and of b
  abbrev pub Contents : ℕ → ℕ → ℕ → ℕ → Type 0
  Contents a b x y = ((row a).kind ≡ 8) × (x ≡ (stands_for s (row a)).q) × (y ≡ (acting_at s b).q)

  pub record Turn (p p' d f f' m : List ℕ) (a b : ℕ) (r : Bool) : Type 0 where
    pub kept : (x y : ℕ) → 1 ≤ x → y < 576 → in_set p x y ≡ true → in_set p' x y ≡ true
    pub new : (x y : ℕ) → 1 ≤ x → x ≤ 512 → y < 576 → in_set p' x y ≡ true → (in_set p x y ≡ true) ⊎ (After a b x y ⊎ Inner a b x y)
    pub f_kept : (x y : ℕ) → 1 ≤ x → y < 576 → in_set f x y ≡ true → in_set f' x y ≡ true
    pub f_new : (x y : ℕ) → 1 ≤ x → y < 576 → in_set f' x y ≡ true → (in_set f x y ≡ true) ⊎ Contents a b x y
    pub holds : r ≡ true → Turned p' d f' m a b
    pub fails : r ≡ false → Failed a b

  -- the contents of a label and of b can be met
  pub inner_facing : {i j : ℕ} → Tabled → (a b : ℕ) → (row a).kind ≡ 4 → b < 576 → in_set same (get_or kin a 0) b ≡ true → i ≡ (row a).q → j ≡ (acting_at s b).q → Facing first i wanted-first j kin
  inner_facing t a b k l m x y = rw (x, y) (record { found = (t.content a k).high; wanted = (t.alike a b (inl k) l m).2; kins = t.kins; places = first_high t.lower (t.content a k) })

  -- ---- the cases of a turn

  faced_more : {t u : List ℕ} {k j : ℕ} {p p' d d' : List ℕ} → ((x y : ℕ) → 1 ≤ x → x < 576 → y < 576 → Seen p d x y → Seen p' d' x y) → Faced t k u j kin same p d → Faced t k u j kin same p' d'
  faced_more h f = record {
    end = f.end;
    each = λ a l s m. (let v = f.each a l s m in record { rival = v.rival; is = v.is; seen = h a v.rival l s v.is.high v.seen });
  }

  module _ {p f m d : List ℕ} {a b : ℕ} where
    -- behind the pair a place has no rival
    pub turn_not_after : {p' : List ℕ} → Outcome behind a wanted-behind b kin same p p' d false → Turn p p' d f f m a b false
    turn_not_after o = record {
      kept = o.grows.kept;
      new = λ x y l s h e. elim (o.grows.new x y l (omega arith) h e) [ inl z ↦ inl z | inr z ↦ inr (inl z) ];
      f_kept = λ x y l h e. e;
      f_new = λ x y l h e. inl e;
      holds = λ z. absurd (false≢true z);
      fails = λ z. not_after (o.fails refl);
    }

    -- a label: what is inside
    label_turn : {p1 p' : List ℕ} {r : Bool} → (row a).kind ≡ 4 → Outcome behind a wanted-behind b kin same p p1 d true
        → Outcome first (row a).q wanted-first (acting_at s b).q kin same p1 p' d r → Turn p p' d f f m a b r
    label_turn {p1} {p'} {r} k o i = record {
      kept = λ x y l h e. i.grows.kept x y l h (o.grows.kept x y l h e);
      new = λ x y l s h e. elim (i.grows.new x y l (omega arith) h e) [
        | inl z ↦ elim (o.grows.new x y l (omega arith) h z) [ inl w ↦ inl w | inr w ↦ inr (inl w) ]
        | inr z ↦ inr (inr (k, z.0, z.1))
      ];
      f_kept = λ x y l h e. e;
      f_new = λ x y l h e. inl e;
      holds = λ z. record {
        after = faced_more (λ x y l s h e. elim e [ inl w ↦ inl (i.grows.kept x y l h w) | inr w ↦ inr w ]) (o.holds refl);
        inside = λ w. i.holds z;
        named = λ w. absurd (omega (arith, k, w));
      };
      fails = λ z. not_inside k (i.fails z);
    }

    -- the rows of the two contents are these
    pub turn_label : {p1 p' : List ℕ} {r : Bool} {i j : ℕ} → (row a).kind ≡ 4 → Outcome behind a wanted-behind b kin same p p1 d true
        → Outcome first i wanted-first j kin same p1 p' d r → i ≡ (row a).q → j ≡ (acting_at s b).q → Turn p p' d f f m a b r
    turn_label k o t x y = label_turn k o (rw (x, y) at t)

  -- ---- the walk

  pub record Named (p : List ℕ) (x y : ℕ) : Type 0 where
    pub a : ℕ
    pub b : ℕ
    pub arrives : Arrives p a b
    pub is : Contents a b x y

  pub record Lost (p : List ℕ) : Type 0 where
    pub a : ℕ
    pub b : ℕ
    pub arrives : Arrives p a b
    pub failed : Failed a b

  -- no pair is pending: each that is done was done before, or has been reached and looked at
  pub record Settled (p p' d d' f' m : List ℕ) : Type 0 where
    pub none : Idle p'
    pub kept : (x y : ℕ) → y < 576 → in_set d x y ≡ true → in_set d' x y ≡ true
    pub all : (x y : ℕ) → 1 ≤ x → x ≤ 512 → y < 576 → in_set p x y ≡ true → in_set d' x y ≡ true
    pub each : (x y : ℕ) → 1 ≤ x → x ≤ 512 → y < 576 → in_set d' x y ≡ true → (in_set d x y ≡ true) ⊎ (Arrives p x y × Turned p' d' f' m x y)

  pub record Walked (p p' d d' f f' m : List ℕ) (r : Bool) : Type 0 where
    pub f_kept : (x y : ℕ) → 1 ≤ x → y < 576 → in_set f x y ≡ true → in_set f' x y ≡ true
    pub f_new : (x y : ℕ) → 1 ≤ x → y < 576 → in_set f' x y ≡ true → (in_set f x y ≡ true) ⊎ Named p x y
    pub holds : r ≡ true → Settled p p' d d' f' m
    pub fails : r ≡ false → Lost p

  -- a pending pair is of places of one head
  abbrev pub Like : List ℕ → Type 0
  Like p = (x y : ℕ) → 1 ≤ x → x ≤ 512 → y < 576 → in_set p x y ≡ true → Placed row behind x × (in_set same (get_or kin x 0) y ≡ true)

  pub record Walking (p0 d0 f0 m p d f : List ℕ) : Type 0 where
    pub like : Like p
    pub f_kept : (x y : ℕ) → 1 ≤ x → y < 576 → in_set f0 x y ≡ true → in_set f x y ≡ true
    pub f_new : (x y : ℕ) → 1 ≤ x → y < 576 → in_set f x y ≡ true → (in_set f0 x y ≡ true) ⊎ Named p0 x y
    pub kept : (x y : ℕ) → y < 576 → in_set d0 x y ≡ true → in_set d x y ≡ true
    pub all : (x y : ℕ) → 1 ≤ x → x ≤ 512 → y < 576 → in_set p0 x y ≡ true → Seen p d x y
    pub arrived : (x y : ℕ) → 1 ≤ x → x ≤ 512 → y < 576 → in_set p x y ≡ true → Arrives p0 x y
    pub each : (x y : ℕ) → 1 ≤ x → x ≤ 512 → y < 576 → in_set d x y ≡ true → (in_set d0 x y ≡ true) ⊎ (Arrives p0 x y × Turned p d f m x y)

  pub walking_none : {p d f m : List ℕ} → Like p → Walking p d f m p d f
  walking_none l = record {
    like = l;
    f_kept = λ x y k h e. e;
    f_new = λ x y k h e. inl e;
    kept = λ x y h e. e;
    all = λ x y k s h e. inl e;
    arrived = λ x y k s h e. waits k s h e;
    each = λ x y k s h e. inl e;
  }

  module _ {p0 d0 f0 m p d f : List ℕ} (w : Walking p0 d0 f0 m p d f) where
    module _ {p1 d1 : List ℕ} {a b : ℕ} (t : Taken p p1 d d1 a b) where
      pub this_like : Placed row behind a × (in_set same (get_or kin a 0) b ≡ true)
      this_like = w.like a b t.low.0 t.low.1 t.low.3 t.was

      this_arrives : Arrives p0 a b
      this_arrives = w.arrived a b t.low.0 t.low.1 t.low.3 t.was

      module _ {p' f' : List ℕ} {r : Bool} (u : Turn p1 p' d1 f f' m a b r) where
        f_both : (x y : ℕ) → 1 ≤ x → y < 576 → in_set f0 x y ≡ true → in_set f' x y ≡ true
        f_both x y k h e = u.f_kept x y k h (w.f_kept x y k h e)

        f_all : (x y : ℕ) → 1 ≤ x → y < 576 → in_set f' x y ≡ true → (in_set f0 x y ≡ true) ⊎ Named p0 x y
        f_all x y k h e = elim (u.f_new x y k h e) [
          | inl z ↦ w.f_new x y k h z
          | inr z ↦ inr (record { a = a; b = b; arrives = this_arrives; is = z })
        ]

        seen_more : (x y : ℕ) → 1 ≤ x → x < 576 → y < 576 → Seen p d x y → Seen p' d1 x y
        seen_more x y k s h (inl e) = elim (t.left x y k h e) [
          | inl z ↦ rw (z.0, z.1) (inr (here t.done))
          | inr z ↦ inl (u.kept x y k h z)
        ]
          where
            here : Added d d1 a b → in_set d1 a b ≡ true
            here g = g.into b t.low.3 ∙ or_right (in_set d a b) (eq-eqb b b refl)
        seen_more x y k s h (inr e) = inr (done_kept t.done x y h e)

        pub walk_lost : r ≡ false → Walked p0 p' d0 d1 f0 f' m false
        walk_lost e = record {
          f_kept = f_both;
          f_new = f_all;
          holds = λ z. absurd (false≢true z);
          fails = λ z. record { a = a; b = b; arrives = this_arrives; failed = u.fails e };
        }

        turned_more : (x y : ℕ) → Turned p d f m x y → Turned p' d1 f' m x y
        turned_more x y v = record {
          after = faced_more seen_more v.after;
          inside = λ k. faced_more seen_more (v.inside k);
          named = λ k. (let o = v.named k in (o.0, o.1, elim o.2 [ inl z ↦ inl (u.f_kept _ _ o.0 o.1 z) | inr z ↦ inr z ]));
        }

        pub walking_more : Tabled → r ≡ true → Walking p0 d0 f0 m p' d1 f'
        walking_more k0 e = record {
          like = λ x y k s h z. elim (u.new x y k s h z) [
            | inl v ↦ w.like x y k s h (t.rest x y k h v)
            | inr v ↦ elim v [
              | inl o ↦ (placed_after this_like.0 x k (omega arith) o.0, o.1.like)
              | inr o ↦ (placed_first (k0.content a o.0) x k (omega arith) o.1, o.2.like)
            ]
          ];
          f_kept = f_both;
          f_new = f_all;
          kept = λ x y h z. done_kept t.done x y h (w.kept x y h z);
          all = λ x y k s h z. seen_more x y k (omega arith) h (w.all x y k s h z);
          arrived = λ x y k s h z. elim (u.new x y k s h z) [
            | inl v ↦ w.arrived x y k s h (t.rest x y k h v)
            | inr v ↦ elim v [ inl o ↦ onward this_arrives k s o | inr o ↦ inward this_arrives k s o ]
          ];
          each = λ x y k s h z. elim (done_new t.done x y h z) [
            | inl v ↦ elim (w.each x y k s h v) [ inl o ↦ inl o | inr o ↦ inr (o.0, turned_more x y o.1) ]
            | inr v ↦ rw (v.0, v.1) (inr (this_arrives, u.holds e))
          ];
        }
