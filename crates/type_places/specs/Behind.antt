-- Row by row from above: each row hands its set down to its sides. A row has one user, so a side's set has no member before and is not changed after; what is handed down makes the sets wired for
-- the model at each root.
use Prim.Native.Nat.{ℕ, zero, suc, ◌-◌, ◌≤◌, ◌<◌}
use Rattle.std.specs.Prelude.{◌≡◌, Bool, true, ◌&&◌, ◌||◌, List, ◌⊎◌, eqb, ltb, length}
use Rattle.std.proofs.Math.Path.{refl, sym, ap}
use Rattle.std.proofs.Common.{◌∙◌, inl, inr, arith, lt-ltb, ltb-true, ltb-false, ne_eqb}
use Rattle.std.proofs.Math.Bool.{false}
use Rattle.std.proofs.Math.Decide.{ℕ_discrete, dec_le}
use Rattle.meaning.specs.Tests.{in_table}
use Rattle.meaning.specs.Sheet.{Cells}
use Rattle.meaning.specs.Kinds.{TypeRow, type_form}
use Rattle.meaning.specs.Places.{Set, model_form, nullable, first}
use Rattle.meaning.specs.Laws.Bools.{or_false, or_or, and_false, either, not_both}
use Rattle.meaning.specs.Laws.Tests.{in_table_lem, table_high}
use Rattle.meaning.specs.Laws.Wired.{Wired, ends, starting, turning}
use Rattle.meaning.specs.Laws.Apart.{Side, Distinct}
use Rattle.bits.specs.Sets.{in_set, Added, United}
use Rattle.sheet.specs.declared.forms.Ty.{Ty}
use Rattle.sheet.specs.Forms.{type_said}
use Rattle.type_barren.specs.Flags.{flag}
use Rattle.meaning.specs.Laws.Shaped.{Part}
use Rattle.type_places.specs.Tables.{row_form, row_model, Rows, set_of, Tables, Down, Passed, Ready, Fell, Ended, Falling, Free, Wires}
use Rattle.bits.specs.Sets.{Clear}
use Rattle.type_places.specs.Firsts.{model_row, side_part, seq_parts, choice_parts, star_part, first_below}

-- ---- what is handed to the first side of a sequence

module _ {old : List ℕ} {p i q : ℕ} {null : List Bool} {begin : List ℕ} (d : p ≡ i → ⊥) where
  pub passed_both : flag null q ≡ true → {mid new : List ℕ} → United old mid p begin q → United mid new p mid i → Passed old new p i null begin q
  passed_both z u x = record {
    size = x.size ∙ u.size;
    into = λ b l. x.into b l ∙ rw (u.into b l, u.others i b (λ w. d (sym w)) l, z) (or_or (in_set old p b) (in_set begin q b) (in_set old i b));
    others = λ k b w l. x.others k b w l ∙ u.others k b w l;
  }

  pub passed_one : flag null q ≡ false → {new : List ℕ} → United old new p begin q → Passed old new p i null begin q
  passed_one z u = record { size = u.size; into = λ b l. u.into b l ∙ rw (z, or_false (in_set begin q b)); others = u.others }

-- ---- End behind a root

pub ended_root : {old new : List ℕ} {root : List Bool} {i : ℕ} → flag root i ≡ true → Added old new i 0 → Ended old new root i
ended_root z a = record { size = a.size; into = λ b l. a.into b l ∙ rw z; others = a.others }

pub ended_other : {old : List ℕ} {root : List Bool} {i : ℕ} → flag root i ≡ false → Ended old old root i
ended_other {old} {i = i} z = record { size = refl; into = λ b l. rw (z, or_false (in_set old i b)); others = λ k b w l. refl }

module _ {row : ℕ → Cells} {n : ℕ} (R : Rows row n) where
  inner : {i w : ℕ} → in_table n i ≡ true → Part i w → in_table n w ≡ true
  inner {i} {w} h p = in_table_lem n w p.low (omega (arith, p.lower, table_high n i h))

  module _ (i : ℕ) (h : in_table n i ≡ true) (c : Cells) (r : c ≡ row i) {null : List Bool} {begin : List ℕ} (T : Tables row n null begin) {old : List ℕ} (y : Ready row old i) where
    starts : (w : ℕ) → Part i w → (b : ℕ) → b < 576 → in_set begin w b ≡ first (row_model row w) b
    starts w p b l = rw (lt-ltb b 576 l) at (T.begin w (inner h p) b)

    said : {t : TypeRow} → t ≡ type_form c → t ≡ row_form row i
    said z = z ∙ ap type_form r

    none_said : {t : TypeRow} → t ≡ row_form row i → (w : ℕ) → Side t w → (b : ℕ) → b < 576 → in_set old w b ≡ false
    none_said z w x = y.none w (rw z at x)

    distinct_said : {t : TypeRow} → t ≡ row_form row i → Distinct t
    distinct_said z = rw (← z) at (R.once.sides i)

    fell : {t : TypeRow} → t ≡ row_form row i → {new : List ℕ} → length new ≡ length old → Down row new t i
        → ((j : ℕ) → (Side t j → ⊥) → (b : ℕ) → b < 576 → in_set new j b ≡ in_set old j b) → Fell row old new i
    fell z s d o = record { size = s; down = rw z at d; others = λ j n. o j (λ w. n (rw z at w)) }

    pub seq_fell : {p q : ℕ} → TypeRow.seq p q ≡ type_form c → {mid new : List ℕ} → Passed old mid p i null begin q → United mid new q mid i → Fell row old new i
    unfolding Side Distinct Down
    seq_fell {p} {q} k {mid} {new} u x =
        let z = said k in
        let pt = seq_parts R z in
        let pi : p ≡ i → ⊥ = λ z. omega (arith, pt.0.lower) in
        let qi : q ≡ i → ⊥ = λ z. omega (arith, pt.1.lower) in
        let dis : 0 < p → p ≡ q → ⊥ = distinct_said z in
        let pq : p ≡ q → ⊥ = dis pt.0.low in
        let cp : (b : ℕ) → b < 576 → in_set old p b ≡ false = none_said z p (inl refl) in
        let cq : (b : ℕ) → b < 576 → in_set old q b ≡ false = none_said z q (inr refl) in
        let kept : (b : ℕ) → b < 576 → in_set new i b ≡ in_set old i b = λ b l. x.others i b (λ z. qi (sym z)) l ∙ u.others i b (λ z. pi (sym z)) l in
        fell z (x.size ∙ u.size) (
          (λ b l. x.others p b pq l ∙ u.into b l ∙ rw (cp b l, starts q pt.1 b l, T.empty q (inner h pt.1), kept b l)),
          (λ b l. x.into b l ∙ rw (u.others q b (λ z. pq (sym z)) l, cq b l, u.others i b (λ z. pi (sym z)) l, kept b l)),
        )
        (λ j m b l. x.others j b (λ z. m (inr (sym z))) l ∙ u.others j b (λ z. m (inl (sym z))) l)

    pub choice_fell : {p q : ℕ} → TypeRow.choice p q ≡ type_form c → {mid new : List ℕ} → United old mid p old i → United mid new q mid i → Fell row old new i
    unfolding Side Distinct Down
    choice_fell {p} {q} k {mid} {new} u x =
        let z = said k in
        let pt = choice_parts R z in
        let pi : p ≡ i → ⊥ = λ z. omega (arith, pt.0.lower) in
        let qi : q ≡ i → ⊥ = λ z. omega (arith, pt.1.lower) in
        let dis : 0 < p → p ≡ q → ⊥ = distinct_said z in
        let pq : p ≡ q → ⊥ = dis pt.0.low in
        let cp : (b : ℕ) → b < 576 → in_set old p b ≡ false = none_said z p (inl refl) in
        let cq : (b : ℕ) → b < 576 → in_set old q b ≡ false = none_said z q (inr refl) in
        let kept : (b : ℕ) → b < 576 → in_set new i b ≡ in_set old i b = λ b l. x.others i b (λ z. qi (sym z)) l ∙ u.others i b (λ z. pi (sym z)) l in
        fell z (x.size ∙ u.size) (
          (λ b l. x.others p b pq l ∙ u.into b l ∙ rw (cp b l, kept b l)),
          (λ b l. x.into b l ∙ rw (u.others q b (λ z. pq (sym z)) l, cq b l, u.others i b (λ z. pi (sym z)) l, kept b l)),
        )
        (λ j m b l. x.others j b (λ z. m (inr (sym z))) l ∙ u.others j b (λ z. m (inl (sym z))) l)

    pub star_fell : {p : ℕ} → TypeRow.star p ≡ type_form c → {mid new : List ℕ} → United old mid p begin p → United mid new p mid i → Fell row old new i
    unfolding Side Down
    star_fell {p} k {mid} {new} u x =
        let z = said k in
        let pt = star_part R z in
        let pi : p ≡ i → ⊥ = λ z. omega (arith, pt.lower) in
        let cp : (b : ℕ) → b < 576 → in_set old p b ≡ false = none_said z p refl in
        let kept : (b : ℕ) → b < 576 → in_set new i b ≡ in_set old i b = λ b l. x.others i b (λ z. pi (sym z)) l ∙ u.others i b (λ z. pi (sym z)) l in
        fell z (x.size ∙ u.size) (λ b l. x.into b l ∙ rw (u.into b l, cp b l, starts p pt b l, u.others i b (λ z. pi (sym z)) l, kept b l))
        (λ j m b l. x.others j b (λ z. m (sym z)) l ∙ u.others j b (λ z. m (sym z)) l)

    -- what is no sequence, choice or star hands nothing down
    pub other_fell : (t : Ty) → type_said t ≡ type_form c → ((p q : ℕ) → t ≡ Ty.Sequence p q → ⊥) → ((p q : ℕ) → t ≡ Ty.Choice p q → ⊥) → ((p : ℕ) → t ≡ Ty.Star p → ⊥) → Fell row old old i
    unfolding Down
    other_fell t z x5 x6 x7 = fell (said z) refl (go t x5 x6 x7) (λ j n b l. refl)
      where
        go : (t : Ty) → ((p q : ℕ) → t ≡ Ty.Sequence p q → ⊥) → ((p q : ℕ) → t ≡ Ty.Choice p q → ⊥) → ((p : ℕ) → t ≡ Ty.Star p → ⊥) → Down row old (type_said t) i
        go Ty.Nothing a b d = tt
        go Ty.Empty a b d = tt
        go Ty.Text a b d = tt
        go Ty.Bool a b d = tt
        go (Ty.Label l q) a b d = tt
        go (Ty.Sequence p q) a b d = absurd (a p q refl)
        go (Ty.Choice p q) a b d = absurd (b p q refl)
        go (Ty.Star p) a b d = absurd (d p refl)
        go (Ty.Name x) a b d = tt

-- ---- from row to row

-- what a row handed down stays where its set and its sides' sets do
down_same : (row : ℕ → Cells) (old new : List ℕ) (t : TypeRow) (k : ℕ) → ((j : ℕ) → (j ≡ k) ⊎ Side t j → (b : ℕ) → b < 576 → in_set new j b ≡ in_set old j b) → Down row old t k → Down row new t k
unfolding Down Side
down_same row old new TypeRow.none k h d = tt
down_same row old new TypeRow.empty k h d = tt
down_same row old new TypeRow.text k h d = tt
down_same row old new TypeRow.bool k h d = tt
down_same row old new (TypeRow.label n q) k h d = tt
down_same row old new (TypeRow.seq p q) k h d = (
  (λ b l. h p (inr (inl refl)) b l ∙ d.0 b l ∙ rw (h k (inl refl) b l)),
  (λ b l. h q (inr (inr refl)) b l ∙ d.1 b l ∙ sym (h k (inl refl) b l)),
)
down_same row old new (TypeRow.choice p q) k h d = (
  (λ b l. h p (inr (inl refl)) b l ∙ d.0 b l ∙ sym (h k (inl refl) b l)),
  (λ b l. h q (inr (inr refl)) b l ∙ d.1 b l ∙ sym (h k (inl refl) b l)),
)
down_same row old new (TypeRow.star p) k h d = λ b l. h p (inr refl) b l ∙ d b l ∙ rw (h k (inl refl) b l)
down_same row old new (TypeRow.name x) k h d = tt

pub falling_none : (row : ℕ → Cells) (root : List Bool) (t : List ℕ) (top : ℕ) → Clear t → Falling row root t top top
falling_none row root t top c = record {
  size = c.size;
  none = λ j p n b l. c.none j b l;
  down = λ k p q. absurd (omega arith);
  ended = λ k p q. absurd (omega arith);
}

module _ {row : ℕ → Cells} {n : ℕ} (R : Rows row n) (root : List Bool) (top : ℕ) (few : top ≤ n) (free : Free row root top) where
  module _ (i : ℕ) (low : 1 ≤ i) (high : i ≤ top) {t mid : List ℕ} (f : Falling row root t top i) (w : Ended t mid root i) where
    -- a side of a higher row is no side of this one
    other_user : (k j : ℕ) → i < k → k ≤ top → Side (row_form row k) j → Side (row_form row i) j → ⊥
    other_user k j p q x y = omega (arith, R.once.user k i j (side_part R i j y).low x y)

    pub ready : Ready row mid i
    ready = record {
      size = w.size ∙ f.size;
      none = λ j x b l. let p = side_part R i j x in
          w.others j b (λ z. omega (arith, p.lower)) l ∙ f.none j (omega (arith, p.lower)) (λ k a c y. other_user k j a c y x) b l;
    }

    module _ {new : List ℕ} (g : Fell row mid new i) where
      -- the rows above have what they had
      above : (k : ℕ) → i < k → (b : ℕ) → b < 576 → in_set new k b ≡ in_set t k b
      above k p b l = g.others k (λ x. omega (arith, (side_part R i k x).lower)) b l ∙ w.others k b (λ z. omega arith) l

      beside : (k j : ℕ) → i < k → k ≤ top → Side (row_form row k) j → (b : ℕ) → b < 576 → in_set new j b ≡ in_set t j b
      beside k j p q x b l = g.others j (λ y. other_user k j p q x y) b l ∙ elim (ℕ_discrete j i) [
        | yes z ↦ rw z (w.into b l ∙ rw (free k i (omega arith) q (rw z at x), or_false (in_set t i b)))
        | no z ↦ w.others j b z l
      ]

      here : flag root i ≡ true → (b : ℕ) → b < 576 → in_set new i b ≡ eqb 0 b
      here z b l = g.others i (λ x. omega (arith, (side_part R i i x).lower)) b l ∙ w.into b l
          ∙ rw (f.none i (omega arith) (λ k p q x. not_both z (free k i (omega arith) q x)) b l, z)

      pub falling_more : Falling row root new top (i - 1)
      falling_more = record {
        size = g.size ∙ w.size ∙ f.size;
        none = λ j p n b l. g.others j (n i (omega arith) high) b l ∙ w.others j b (λ z. omega arith) l ∙ f.none j (omega arith) (λ k a c. n k (omega arith) c) b l;
        down = λ k p q. elim (ℕ_discrete k i) [
          | yes z ↦ rw z g.down
          | no z ↦ down_same row t new (row_form row k) k
              (λ j x b l. elim x [ inl y ↦ rw y (above k (omega arith) b l) | inr y ↦ beside k j (omega arith) q y b l ]) (f.down k (omega arith) q)
        ];
        ended = λ k p q z b l. elim (ℕ_discrete k i) [
          | yes y ↦ rw y (here (rw y at z) b l)
          | no y ↦ above k (omega arith) b l ∙ f.ended k (omega arith) q z b l
        ];
      }

  -- ---- the sets are wired

  -- the loop is left at row m, with nothing but blank rows below
  module _ {t : List ℕ} {m : ℕ} (f : Falling row root t top m) (blank : (r : ℕ) → 1 ≤ r → r ≤ m → (row r).kind ≡ 0) where
    -- no place is in a blank row
    blank_wired : (r : ℕ) → (row r).kind ≡ 0 → (k : Set) → Wired (set_of t) (row_model row r) k
    unfolding model_form Wired
    blank_wired r e k = rw (model_row R r) (rw e tt)

    -- past the room of a set there is nothing
    wide : (p : ℕ) (g : Set) → ((b : ℕ) → b < 576 → in_set t p b ≡ g b) → ((b : ℕ) → 576 ≤ b → g b ≡ false) → (b : ℕ) → set_of t p b ≡ g b
    wide p g h n b = elim (either (ltb b 576)) [ inl z ↦ rw z (h b (ltb-true b 576 z)) | inr z ↦ rw z (sym (n b (ltb-false b 576 z))) ]

    near : (r b : ℕ) → b < 576 → set_of t r b ≡ in_set t r b
    near r b l = rw (lt-ltb b 576 l)

    far : (r b : ℕ) → 576 ≤ b → set_of t r b ≡ false
    far r b l = elim (either (ltb b 576)) [ inl z ↦ absurd (omega (arith, ltb-true b 576 z)) | inr z ↦ rw z ]

    past : (r : ℕ) → r ≤ top → (b : ℕ) → 576 ≤ b → first (row_model row r) b ≡ false
    past r q b l = first_below R r b (omega (arith, R.few))

    wired_by : (n r : ℕ) → r ≤ n → 1 ≤ r → r ≤ top → (k : Set) → ((b : ℕ) → set_of t r b ≡ k b) → Wired (set_of t) (row_model row r) k
    unfolding Down model_form Wired
    wired_by zero r l p q k h = absurd (omega arith)
    wired_by (suc n) r l p q k h = elim (dec_le r m) [
      | yes z ↦ blank_wired r (blank r p z) k
      | no z ↦ rw (model_row R r) (go (row_form row r) refl (f.down r (omega arith) q) (λ w x. wired_by n w (omega (arith, x.lower)) x.low (omega (arith, x.lower))))
    ]
      where
        go : (u : TypeRow) → u ≡ row_form row r → Down row t u r → ((w : ℕ) → Part r w → (k : Set) → ((b : ℕ) → set_of t w b ≡ k b) → Wired (set_of t) (row_model row w) k)
            → Wired (set_of t) (model_form u r (row_model row)) k
        go TypeRow.none c d again = tt
        go TypeRow.empty c d again = tt
        go TypeRow.text c d again = (p, h)
        go TypeRow.bool c d again = (p, h)
        go (TypeRow.label n v) c d again = (p, h)
        go (TypeRow.seq p v) c d again =
            let x = seq_parts R c in (
              again _ x.0 (starting (row_model row v) k) (λ b. wide p (λ b. first (row_model row v) b || nullable (row_model row v) && set_of t r b)
                  (λ b l. d.0 b l ∙ rw (near r b l)) (λ b l. rw (past v (omega (arith, x.1.lower)) b l, far r b l, and_false (nullable (row_model row v)))) b ∙ rw (h b)),
              again _ x.1 k (λ b. wide v (set_of t r) (λ b l. d.1 b l ∙ sym (near r b l)) (far r) b ∙ h b),
            )
        go (TypeRow.choice p v) c d again =
            let x = choice_parts R c in (
              again _ x.0 k (λ b. wide p (set_of t r) (λ b l. d.0 b l ∙ sym (near r b l)) (far r) b ∙ h b),
              again _ x.1 k (λ b. wide v (set_of t r) (λ b l. d.1 b l ∙ sym (near r b l)) (far r) b ∙ h b),
            )
        go (TypeRow.star v) c d again =
            let x = star_part R c in
            again v x (turning (row_model row v) k) (λ b. wide v (λ b. first (row_model row v) b || set_of t r b)
            (λ b l. d b l ∙ rw (near r b l)) (λ b l. rw (past v (omega (arith, x.lower)) b l, far r b l)) b ∙ rw (h b))
        go (TypeRow.name v) c d again = (p, h)

    pub wires : Wires row root t top
    wires = record {
      wired = λ r p q z. elim (dec_le r m) [
        | yes y ↦ blank_wired r (blank r p y) ends
        | no y ↦ wired_by r r (omega arith) p q ends (λ b. wide r (λ b. eqb 0 b) (f.ended r (omega arith) q z) (λ b l. ends_far b l) b)
      ];
    }
      where
        ends_far : (b : ℕ) → 576 ≤ b → eqb 0 b ≡ false
        ends_far b l = ne_eqb 0 b (λ z. omega arith)
