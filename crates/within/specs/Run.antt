-- How the walks over pairs go: first the pairs of own places and the sheet's, then, for each pair of contents that names led to, the pairs of the sheet's places. What holds between the rounds
-- (`Run`), that a round keeps it, and that a round that fails has reached a bad pair.
use Rattle.std.specs.Prelude.{ℕ, ◌+◌, ◌≤◌, ◌<◌, ◌≡◌, refl, Bool, true, false, List}
use Rattle.std.proofs.Common.{◌∙◌, inl, inr, arith, eq-eqb}
use Rattle.std.proofs.Math.Decide.{dec_le}
use Rattle.meaning.specs.Tests.{in_table}
use Rattle.meaning.specs.Sheet.{Cells, script_of}
use Rattle.meaning.specs.Types.{Head}
use Rattle.meaning.specs.Places.{Set, head_at}
use Rattle.meaning.specs.Laws.Bools.{or_right, not_both}
use Rattle.meaning.specs.Laws.Apart.{shaped_lower}
use Rattle.meaning.specs.Laws.Pairs.{here}
use Rattle.bits.specs.Sets.{in_set, Clear}
use Rattle.type_models.specs.Roots.{is_root}
use Rattle.type_rows.specs.Writing.{own_row}
use Rattle.type_tables.specs.Joined.{joined}
use Rattle.type_tables.specs.Sides.{found_from, found_next, found_inner}
use Rattle.type_heads.specs.Kin.{kin_low}
use Rattle.within_pairs.specs.Queue.{Idle, Taken, done_kept, done_new}
use Rattle.within_pairs.specs.Meet.{Facing, Rival, Faced, Outcome}
use Rattle.within_pairs.specs.Reach.{Placed, Asked, placed_low, placed_first, after_high, first_high, Seen, Tabled, Like, Turned, Arrives, Named, Settled, Walked}
use Rattle.within.specs.Match.{Image, sheet_asked, Pointed, Reached, Refuted, pointed_reached, pointed_clash, named_pointed, arrives_reached, lost_refuted}
use Rattle.within.specs.Matched.{Setting, image_lift, own_from, own_low, own_matches, sheet_matches, own_tabled, sheet_tabled}

-- what was pending or done is done
faced_done : {t u : List ℕ} {k j : ℕ} {kin same p d d' : List ℕ} → ((x y : ℕ) → 1 ≤ x → x < 576 → y < 576 → in_set t k x ≡ true → Seen p d x y → in_set d' x y ≡ true) → Faced t k u j kin same p d
    → Faced t k u j kin same d' d'
faced_done h f = record {
  end = f.end;
  each = λ a l s m. (let v = f.each a l s m in record { rival = v.rival; is = v.is; seen = inl (h a v.rival l s v.is.high m v.seen) });
}

-- the pairs that are seen stay so
turned_more : {row : ℕ → Cells} {first behind kin s opens nexts same d d' f f' m m' : List ℕ} {a b : ℕ} → ((x y : ℕ) → 1 ≤ x → x < 576 → y < 576 → Seen d d x y → in_set d' x y ≡ true)
    → ((x y : ℕ) → 1 ≤ x → y < 576 → Seen f m x y → Seen f' m' x y) → Turned row first behind kin s opens nexts same d d f m a b → Turned row first behind kin s opens nexts same d' d' f' m' a b
turned_more h g t = record {
  after = faced_done (λ x y l s o m e. h x y l s o e) t.after;
  inside = λ k. faced_done (λ x y l s o m e. h x y l s o e) (t.inside k);
  named = λ k. (let o = t.named k in (o.0, o.1, g _ _ o.0 o.1 o.2));
}

settled : (p d : List ℕ) → Idle p → (x y : ℕ) → 1 ≤ x → x ≤ 512 → y < 576 → Seen p d x y → in_set d x y ≡ true
settled p d idle x y l h k (inl z) = absurd (not_both z (idle x y l h k))
settled p d idle x y l h k (inr z) = z

-- where no pair is pending, what has been looked at is done
turned_done : {row : ℕ → Cells} {first behind kin s opens nexts same p d f m : List ℕ} {a b : ℕ} → Tabled row first behind kin s opens nexts same → Placed row behind a → Idle p
    → Turned row first behind kin s opens nexts same p d f m a b → Turned row first behind kin s opens nexts same d d f m a b
turned_done {p = p} {d = d} {a = a} k c idle t = record {
  after = faced_done (λ x y l h o m e. settled p d idle x y l (after_high k.lower c x h m) o e) t.after;
  inside = λ z. faced_done (λ x y l h o m e. settled p d idle x y l (first_high k.lower (k.content a z) x h m) o e) (t.inside z);
  named = t.named;
}

module _ (s own opens nexts first behind class same own-kin kin : List ℕ) (w : ℕ) where
  abbrev S : ℕ → Cells
  S = (script_of s).type_row

  abbrev O : ℕ → Cells
  O = own_row own

  abbrev hd : ℕ → Head
  hd = head_at (joined s own) (script_of s).name_row

  abbrev inner : ℕ → Set
  inner = found_inner s own opens first

  abbrev nx : ℕ → Set
  nx = found_next s nexts behind

  abbrev from : Set
  from = found_from s opens first ((script_of s).types + 512)

  abbrev OwnReached : ℕ → ℕ → Type 0
  OwnReached = Reached hd inner nx from s opens nexts same w (λ a. (script_of s).types + a) O behind

  abbrev SheetReached : ℕ → ℕ → Type 0
  SheetReached = Reached hd inner nx from s opens nexts same w (λ a. a) S nexts

  -- the contents at rows q and r are points that are reached
  abbrev Entered : ℕ → ℕ → Type 0
  Entered q r = Pointed hd inner nx from s opens nexts same w (λ a. a) S nexts opens q opens r

  -- a bad pair is reached
  abbrev pub Bad-reached : Type 0
  Bad-reached = Refuted hd inner nx from s opens nexts same w

  -- between the rounds: no pair is pending; each done pair is reached and looked at, each pair of contents that is met is looked at
  pub record Run (own_done p d f m : List ℕ) : Type 0 where
    pub setting : Setting s own opens nexts first behind class same own-kin kin
    pub asked : (in_table (script_of s).types w ≡ true) × (is_root s w ≡ true)
    pub idle : Idle p
    pub start : Faced first 512 opens w own-kin same own_done own_done
    pub own_each : (x y : ℕ) → 1 ≤ x → x ≤ 512 → y < 576 → in_set own_done x y ≡ true → OwnReached x y × Turned O first behind own-kin s opens nexts same own_done own_done f m x y
    pub each : (x y : ℕ) → 1 ≤ x → x ≤ 512 → y < 576 → in_set d x y ≡ true → SheetReached x y × Turned S opens nexts kin s opens nexts same d d f m x y
    pub met : (q r : ℕ) → 1 ≤ q → r < 576 → in_set m q r ≡ true → Faced opens q opens r kin same d d
    pub entered : (q r : ℕ) → 1 ≤ q → r < 576 → Seen f m q r → Entered q r

  -- ---- the first walk

  module _ (X : Setting s own opens nexts first behind class same own-kin kin) (asked : (in_table (script_of s).types w ≡ true) × (is_root s w ≡ true)) where
    pub own_asked : Asked O first behind 512
    own_asked = record { high = omega arith; wired = X.mine.top; begins = X.mine.begins }

    pub start_image : Image (λ a. (script_of s).types + a) from first 512
    start_image = rw (own_from X 512 (omega arith)) (image_lift (script_of s).types first 512)

    start_pointed : Pointed hd inner nx from s opens nexts same w (λ a. (script_of s).types + a) O behind first 512 opens w
    start_pointed = let q = sheet_asked X.shape X.sheet w asked.0 asked.1 in record {
      at = from;
      high = q.high;
      comes = here;
      shown = start_image;
      found = placed_first own_asked;
      wanted = placed_first q;
    }

    pub start_facing : Facing first 512 opens w own-kin
    start_facing = record {
      found = omega arith;
      wanted = start_pointed.high;
      kins = λ a l. kin_low X.classes X.own_kins X.shape a;
      places = first_high X.standing.written.lower own_asked;
    }

    module _ {p0 p1 d0 : List ℕ} (none : Clear p0) where
      pub start_clash : Outcome first 512 opens w own-kin same p0 p1 d0 false → Bad-reached
      start_clash o = pointed_clash hd inner nx from s opens nexts same w (own_matches X from w) start_pointed (o.fails refl)

      module _ {r : Bool} (o : Outcome first 512 opens w own-kin same p0 p1 d0 r) where
        start_new : (x y : ℕ) → 1 ≤ x → x ≤ 512 → y < 576 → in_set p1 x y ≡ true → (in_set first 512 x ≡ true) × Rival first 512 opens w own-kin same x y
        start_new x y l h k m = elim (o.grows.new x y l (omega arith) k m) [ inl z ↦ absurd (not_both z (none.none x y k)) | inr z ↦ z ]

        pub start_like : Like O first behind own-kin s opens nexts same p1
        start_like x y l h k m = let z = start_new x y l h k m in (start_pointed.found x l (omega arith) z.0, z.1.like)

        start_given : (x y : ℕ) → 1 ≤ x → x ≤ 512 → y < 576 → in_set p1 x y ≡ true → OwnReached x y
        start_given x y l h k m = let z = start_new x y l h k m in pointed_reached hd inner nx from s opens nexts same w (own_matches X from w) start_pointed x y l (omega arith) z.0 z.1

        start_arrives : {a b : ℕ} → Arrives O first behind own-kin s opens nexts same p1 a b → OwnReached a b
        start_arrives = arrives_reached hd inner nx from s opens nexts same w (own_matches X from w) X.shape X.sheet start_given

        module _ {p2 d1 f0 f1 m0 : List ℕ} {q : Bool} (v : Walked O first behind own-kin s opens nexts same p1 p2 d0 d1 f0 f1 m0 q) where
          pub start_lost : q ≡ false → Bad-reached
          start_lost z = lost_refuted hd inner nx from s opens nexts same w (own_matches X from w) X.shape X.sheet start_given (v.fails z)

          pub start_run : {d : List ℕ} → Clear d0 → Clear d → Clear f0 → Clear m0 → r ≡ true → q ≡ true → Run d1 p2 d f1 m0
          start_run {d} no-d0 no-d no-f no-m y z = let t = v.holds z in record {
            setting = X;
            asked = asked;
            idle = t.none;
            start = faced_done (λ a b l h k i e. t.all a b l (own_low X a (start_pointed.found a l h i)).1 k (seen_first a b e k)) (o.holds y);
            own_each = λ a b l h k e. elim (t.each a b l h k e) [
              | inl i ↦ absurd (not_both i (no-d0.none a b k))
              | inr i ↦ (let c = start_arrives i.0 in (c, turned_done (own_tabled X) c.placed t.none i.1))
            ];
            each = λ a b l h k e. absurd (not_both e (no-d.none a b k));
            met = λ a b l k e. absurd (not_both e (no-m.none a b k));
            entered = λ a b l k e. elim e [
              | inl i ↦ elim (v.f_new a b l k i) [ inl j ↦ absurd (not_both j (no-f.none a b k)) | inr j ↦ named_entered a b j ]
              | inr i ↦ absurd (not_both i (no-m.none a b k))
            ];
          }
            where
              seen_first : (a b : ℕ) → Seen p1 d0 a b → b < 576 → in_set p1 a b ≡ true
              seen_first a b (inl i) k = i
              seen_first a b (inr i) k = absurd (not_both i (no-d0.none a b k))

              named_entered : (a b : ℕ) → Named O first behind own-kin s opens nexts same p1 a b → Entered a b
              named_entered a b j = rw (j.is.1, j.is.2) (named_pointed hd inner nx from s opens nexts same w (own_matches X from w) X.shape X.sheet (start_arrives j.arrives) j.is.0)

  -- ---- a round: the pair of contents (q, r) is taken, and the pairs of places that it leads to are walked

  module _ {od p d f m f1 m1 : List ℕ} {q r : ℕ} (R : Run od p d f m) (t : Taken f f1 m m1 q r) where
    round_pointed : Entered q r
    round_pointed = R.entered q r t.low.0 t.low.3 (inl t.was)

    pub round_facing : Facing opens q opens r kin
    round_facing = let X = R.setting in record {
      found = t.low.1;
      wanted = round_pointed.high;
      kins = λ a l. kin_low X.classes X.kins X.shape a;
      places = λ a l e. high a l e (dec_le 1 a);
    }
      where
        high : (a : ℕ) → a < 576 → in_set opens q a ≡ true → Dec (1 ≤ a) → a ≤ 512
        high a l e (yes h) = (placed_low (shaped_lower s R.setting.shape) (round_pointed.found a h l e)).1
        high a l e (no h) = omega arith

    module _ {p1 : List ℕ} {ok : Bool} (o : Outcome opens q opens r kin same p p1 d ok) where
      pub round_clash : ok ≡ false → Bad-reached
      round_clash z = pointed_clash hd inner nx from s opens nexts same w (sheet_matches R.setting from w) round_pointed (o.fails z)

      round_new : (x y : ℕ) → 1 ≤ x → x ≤ 512 → y < 576 → in_set p1 x y ≡ true → (in_set opens q x ≡ true) × Rival opens q opens r kin same x y
      round_new x y l h k e = elim (o.grows.new x y l (omega arith) k e) [ inl z ↦ absurd (not_both z (R.idle x y l h k)) | inr z ↦ z ]

      pub round_like : Like S opens nexts kin s opens nexts same p1
      round_like x y l h k e = let z = round_new x y l h k e in (round_pointed.found x l (omega arith) z.0, z.1.like)

      round_given : (x y : ℕ) → 1 ≤ x → x ≤ 512 → y < 576 → in_set p1 x y ≡ true → SheetReached x y
      round_given x y l h k e = let z = round_new x y l h k e in pointed_reached hd inner nx from s opens nexts same w (sheet_matches R.setting from w) round_pointed x y l (omega arith) z.0
          z.1

      round_arrives : {a b : ℕ} → Arrives S opens nexts kin s opens nexts same p1 a b → SheetReached a b
      round_arrives = arrives_reached hd inner nx from s opens nexts same w (sheet_matches R.setting from w) R.setting.shape R.setting.sheet round_given

      module _ {p2 d2 f2 : List ℕ} {went : Bool} (v : Walked S opens nexts kin s opens nexts same p1 p2 d d2 f1 f2 m1 went) where
        pub round_lost : went ≡ false → Bad-reached
        round_lost z = lost_refuted hd inner nx from s opens nexts same w (sheet_matches R.setting from w) R.setting.shape R.setting.sheet round_given (v.fails z)

        -- a pair of contents that was known stays known
        known : (x y : ℕ) → 1 ≤ x → y < 576 → Seen f m x y → Seen f2 m1 x y
        known x y l k (inl e) = elim (t.left x y l k e) [
          | inl z ↦ rw (z.0, z.1) (inr (t.done.into r t.low.3 ∙ or_right (in_set m q r) (eq-eqb r r refl)))
          | inr z ↦ inl (v.f_kept x y l k z)
        ]
        known x y l k (inr e) = inr (done_kept t.done x y k e)

        named_entered : (a b : ℕ) → Named S opens nexts kin s opens nexts same p1 a b → Entered a b
        named_entered a b j = rw (j.is.1, j.is.2) (named_pointed hd inner nx from s opens nexts same w (sheet_matches R.setting from w) R.setting.shape R.setting.sheet
            (round_arrives j.arrives) j.is.0)

        -- and each that is known now was, or a name led to it
        pub round_run : ok ≡ true → went ≡ true → Run od p2 d2 f2 m1
        round_run y z = let u = v.holds z in record {
          setting = R.setting;
          asked = R.asked;
          idle = u.none;
          start = R.start;
          own_each = λ a b l h k e. (let c = R.own_each a b l h k e in (c.0, turned_more (λ x y i g n o. either_way od x y o) known c.1));
          each = λ a b l h k e. elim (u.each a b l h k e) [
            | inl i ↦ (let c = R.each a b l h k i in (c.0, turned_more (λ x y j g n o. u.kept x y n (either_way d x y o)) known c.1))
            | inr i ↦ (let c = round_arrives i.0 in (c, turned_done (sheet_tabled R.setting) c.placed u.none i.1))
          ];
          met = λ a b l k e. elim (done_new t.done a b k e) [
            | inl i ↦ faced_done (λ x y j g n o e. u.kept x y n (either_way d x y e)) (R.met a b l k i)
            | inr i ↦ rw (i.0, i.1) (faced_done (λ x y j g n o e. now_done u x y j (placed_low (shaped_lower s R.setting.shape) (round_pointed.found x j g o)).1 n e) (o.holds y))
          ];
          entered = λ a b l k e. elim e [
            | inl i ↦ elim (v.f_new a b l k i) [ inl j ↦ R.entered a b l k (inl (t.rest a b l k j)) | inr j ↦ named_entered a b j ]
            | inr i ↦ elim (done_new t.done a b k i) [ inl j ↦ R.entered a b l k (inr j) | inr j ↦ rw (j.0, j.1) round_pointed ]
          ];
        }
          where
            either_way : (d : List ℕ) (x y : ℕ) → Seen d d x y → in_set d x y ≡ true
            either_way d x y (inl e) = e
            either_way d x y (inr e) = e

            now_done : Settled S opens nexts kin s opens nexts same p1 p2 d d2 f2 m1 → (x y : ℕ) → 1 ≤ x → x ≤ 512 → y < 576 → Seen p1 d x y → in_set d2 x y ≡ true
            now_done u x y l h k (inl e) = u.all x y l h k e
            now_done u x y l h k (inr e) = u.kept x y k e
