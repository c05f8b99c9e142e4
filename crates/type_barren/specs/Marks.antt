-- The marking of names, round by round: which rows fill by the marks, kind by kind, what one round does, and what the marks say where a round adds none, or where all names are marked.
use Rattle.std.specs.Prelude.{ℕ, zero, suc, ◌+◌, ◌≤◌, ◌<◌, ◌≡◌, Bool, false, ◌&&◌, ◌||◌, cond, List, ◌⊎◌, Option, Some, None, length, set, replicate, count_by, filter}
use Rattle.std.specs.List.{range_with_len}
use Rattle.std.specs.Option.{MatchOption}
use Rattle.std.proofs.Math.Path.{refl, sym, ap}
use Rattle.std.proofs.Common.{◌∙◌, inl, inr, add-one, arith, length-set}
use Rattle.std.proofs.Math.Bool.{true}
use Rattle.std.proofs.Math.Decide.{dec_lt, ℕ_discrete}
use Rattle.std.proofs.lemmas.List.{length-replicate, map-id}
use Rattle.std.proofs.lemmas.List.Sums.{length-filter}
use Rattle.std.proofs.lemmas.List.FromFn.{sum_by-map-range_with_len_more}
use Rattle.meaning.specs.Tests.{in_table, total}
use Rattle.meaning.specs.Sheet.{Cells, script_of}
use Rattle.meaning.specs.Kinds.{TypeRow, type_form, type_at}
use Rattle.meaning.specs.Types.{ty_form, declared, names_in}
use Rattle.meaning.specs.Shape.{shapely}
use Rattle.meaning.specs.Places.{LowestBarren, NoneBarren}
use Rattle.meaning.specs.Laws.Bools.{not_both}
use Rattle.meaning.specs.Laws.Tests.{in_table_lem, table_low, table_high}
use Rattle.meaning.specs.Laws.Apart.{View, v_none, v_empty, v_text, v_bool, v_label, v_seq, v_choice, v_star, v_name, view, ty_at_row, shaped_lower}
use Rattle.meaning.specs.Laws.Barren.{fills, marks, marks_none, marks_most, marks_all, marks_keep, Name, Earned, Closed, content_fertile, idle_round, unmarked_barren, contents_over}
use Rattle.sheet.specs.declared.forms.Ty.{Ty}
use Rattle.sheet.specs.Forms.{type_said}
use Rattle.type_barren.specs.Flags.{flag, flag_set, flag_kept, unset}
use Rattle.meaning.specs.Laws.Shaped.{Part, label_row, seq_row, choice_row, name_row_lem, named, few_types, few_names}

-- the flags of the rows below i say which of them have a forest, by the marks of the names
pub record Filled (s : List ℕ) (live : ℕ → Bool) (full : List Bool) (i : ℕ) : Type 0 where
  pub size : length full ≡ 513
  pub at : (j : ℕ) → 1 ≤ j → j < i → flag full j ≡ fills live (declared (script_of s) j)

module _ (s : List ℕ) (e : shapely s ≡ true) (live : ℕ → Bool) where
  -- the type of a row by what the row says
  fills_row : (i : ℕ) → fills live (declared (script_of s) i) ≡ fills live (ty_form (type_form ((script_of s).type_row i)) (declared (script_of s)))
  fills_row i = ap (fills live) (ty_at_row (type_at (script_of s)) (shaped_lower s e) i)

  -- what Shape says of the words of a row, by what the row says
  abbrev Parts : TypeRow → ℕ → Type 0
  Parts TypeRow.none i = Unit {0}
  Parts TypeRow.empty i = Unit {0}
  Parts TypeRow.text i = Unit {0}
  Parts TypeRow.bool i = Unit {0}
  Parts (TypeRow.label n q) i = Part i q
  Parts (TypeRow.seq p q) i = Part i p × Part i q
  Parts (TypeRow.choice p q) i = Part i p × Part i q
  Parts (TypeRow.star p) i = Unit {0}
  Parts (TypeRow.name x) i = in_table (script_of s).names x ≡ true

  parts : (i : ℕ) → Parts (type_at (script_of s) i) i
  parts i = go (view ((script_of s).type_row i))
    where
      go : {t : TypeRow} → View ((script_of s).type_row i) t → Parts t i
      go v_none = tt
      go v_empty = tt
      go (v_text k) = tt
      go (v_bool k) = tt
      go (v_label k) = (label_row s e i k).1
      go (v_seq k) = seq_row s e i k
      go (v_choice k) = choice_row s e i k
      go (v_star k) = tt
      go (v_name k) = name_row_lem s e i k

  module _ {full : List Bool} {i : ℕ} (f : Filled s live full i) (h : (1 ≤ i) × (i ≤ (script_of s).types)) (c : Cells) (r : c ≡ (script_of s).type_row i) where
    said : {t : TypeRow} → t ≡ type_form c → t ≡ type_at (script_of s) i
    said z = z ∙ ap type_form r

    parts_said : {t : TypeRow} → t ≡ type_form c → Parts t i
    parts_said z = rw (← said z) at (parts i)

    fills_said : {t : TypeRow} → t ≡ type_form c → fills live (ty_form t (declared (script_of s))) ≡ fills live (declared (script_of s) i)
    fills_said z = sym (fills_row i ∙ rw (← said z))

    part_low : {w : ℕ} → Part i w → w < 513
    part_low p = omega (arith, p.lower, h.1, few_types s e)

    part_fills : {w : ℕ} → Part i w → flag full w ≡ fills live (declared (script_of s) w)
    part_fills p = f.at _ p.low p.lower

    -- its sides have flags
    pub label_low : {n q : ℕ} → TypeRow.label n q ≡ type_form c → q < 513
    label_low z = part_low (parts_said z)

    pub seq_low : {p q : ℕ} → TypeRow.seq p q ≡ type_form c → (p < 513) × (q < 513)
    seq_low z = let w = parts_said z in (part_low w.0, part_low w.1)

    pub choice_low : {p q : ℕ} → TypeRow.choice p q ≡ type_form c → (p < 513) × (q < 513)
    choice_low z = let w = parts_said z in (part_low w.0, part_low w.1)

    pub name_low : {x : ℕ} → TypeRow.name x ≡ type_form c → x < 33
    name_low {x} z = omega (arith, table_high (script_of s).names x (parts_said z), few_names s e)

    pub label_fills : {n q : ℕ} → TypeRow.label n q ≡ type_form c → flag full q ≡ fills live (declared (script_of s) i)
    unfolding fills ty_form
    label_fills z = part_fills (parts_said z) ∙ fills_said z

    pub seq_fills : {p q : ℕ} → TypeRow.seq p q ≡ type_form c → flag full p && flag full q ≡ fills live (declared (script_of s) i)
    unfolding fills ty_form
    seq_fills z = let w = parts_said z in rw (part_fills w.0, part_fills w.1) (fills_said z)

    pub choice_fills : {p q : ℕ} → TypeRow.choice p q ≡ type_form c → flag full p || flag full q ≡ fills live (declared (script_of s) i)
    unfolding fills ty_form
    choice_fills z = let w = parts_said z in rw (part_fills w.0, part_fills w.1) (fills_said z)

    pub name_fills : {x : ℕ} → TypeRow.name x ≡ type_form c → live x ≡ fills live (declared (script_of s) i)
    unfolding fills ty_form
    name_fills z = fills_said z

    -- what is no label, sequence, choice or name has a forest
    pub other_fills : (t : Ty) → type_said t ≡ type_form c → ((n q : ℕ) → t ≡ Ty.Label n q → ⊥) → ((p q : ℕ) → t ≡ Ty.Sequence p q → ⊥) → ((p q : ℕ) → t ≡ Ty.Choice p q → ⊥)
        → ((x : ℕ) → t ≡ Ty.Name x → ⊥) → true ≡ fills live (declared (script_of s) i)
    unfolding fills ty_form
    other_fills Ty.Nothing z a b d n = fills_said z
    other_fills Ty.Empty z a b d n = fills_said z
    other_fills Ty.Text z a b d n = fills_said z
    other_fills Ty.Bool z a b d n = fills_said z
    other_fills (Ty.Label l q) z a b d n = absurd (a l q refl)
    other_fills (Ty.Sequence p q) z a b d n = absurd (b p q refl)
    other_fills (Ty.Choice p q) z a b d n = absurd (d p q refl)
    other_fills (Ty.Star p) z a b d n = fills_said z
    other_fills (Ty.Name x) z a b d n = absurd (n x refl)

-- one row more
pub filled_none : (s : List ℕ) (live : ℕ → Bool) (full : List Bool) → length full ≡ 513 → Filled s live full 1
filled_none s live full l = record { size = l; at = λ j p q. absurd (omega arith) }

pub filled_more : (s : List ℕ) (live : ℕ → Bool) (full : List Bool) (i : ℕ) (v : Bool) → Filled s live full i → i < 513 → v ≡ fills live (declared (script_of s) i)
    → Filled s live (set full i v) (i + 1)
filled_more s live full i v f l e = record { size = length-set full i v ∙ f.size; at = λ j p q. go j p q (dec_lt j i) }
  where
    go : (j : ℕ) → 1 ≤ j → j < i + 1 → Dec (j < i) → flag (set full i v) j ≡ fills live (declared (script_of s) j)
    go j p q (yes d) = flag_kept full i v j (λ z. omega arith) ∙ f.at j p d
    go j p q (no d) = let z : j ≡ i = omega arith in rw z (flag_set full i v (omega (arith, f.size)) ∙ e)

-- ---- a round

-- the names below x have been looked at: marks are kept, what may be marked is, and nothing else
pub record Rounding (s : List ℕ) (old new : List Bool) (x : ℕ) : Type 0 where
  pub size : length new ≡ length old
  pub keeps : (y : ℕ) → flag old y ≡ true → flag new y ≡ true
  pub adds : (y : ℕ) → Name (script_of s).names y → y < x → fills (flag old) (names_in (script_of s) y).content ≡ true → flag new y ≡ true
  pub only : (y : ℕ) → flag new y ≡ true → (flag old y ≡ true) ⊎ (fills (flag old) (names_in (script_of s) y).content ≡ true)

pub rounding_none : (s : List ℕ) (old : List Bool) → Rounding s old old 1
rounding_none s old = record { size = refl; keeps = λ y m. m; adds = λ y n l. absurd (omega (arith, table_low (script_of s).names y n)); only = λ y m. inl m }

module _ (s : List ℕ) (e : shapely s ≡ true) (live : ℕ → Bool) where
  -- a name has a forest where its row has
  pub content_fills : {full : List Bool} → Filled s live full ((script_of s).types + 1) → (x : ℕ) → Name (script_of s).names x
      → flag full ((script_of s).name_row x) ≡ fills live (names_in (script_of s) x).content
  unfolding names_in fills ty_form
  content_fills f x n =
      let m = named s e x n in
      f.at ((script_of s).name_row x) (table_low (script_of s).types _ m.0) (omega (arith, table_high (script_of s).types ((script_of s).name_row x) m.0))
      ∙ fills_row s e live ((script_of s).name_row x) ∙ rw m.1

-- one name more
pub rounding_more : (s : List ℕ) (old new : List Bool) (x : ℕ) (b : Bool) → Name (script_of s).names x → x < length old → b ≡ fills (flag old) (names_in (script_of s) x).content
    → Rounding s old new x → Rounding s old (cond b (set new x true) new) (x + 1)
rounding_more s old new x true n l e r = record {
  size = length-set new x true ∙ r.size;
  keeps = λ y m. go y (ℕ_discrete y x) (r.keeps y m);
  adds = λ y a b h. elim (ℕ_discrete y x) [ yes z ↦ rw z (flag_set new x true (omega (arith, r.size))) | no z ↦ flag_kept new x true y z ∙ r.adds y a (omega arith) h ];
  only = λ y m. elim (ℕ_discrete y x) [ yes z ↦ inr (rw z (sym e)) | no z ↦ r.only y (sym (flag_kept new x true y z) ∙ m) ];
}
  where
    go : (y : ℕ) → Dec (y ≡ x) → flag new y ≡ true → flag (set new x true) y ≡ true
    go y (yes z) m = rw z (flag_set new x true (omega (arith, r.size)))
    go y (no z) m = flag_kept new x true y z ∙ m
rounding_more s old new x false n l e r = record {
  size = r.size;
  keeps = r.keeps;
  adds = λ y a b h. elim (ℕ_discrete y x) [ yes z ↦ absurd (not_both (rw z at h) (sym e)) | no z ↦ r.adds y a (omega arith) h ];
  only = r.only;
}

-- ---- rounds

-- each mark is earned, and so many names are marked
pub record Turned (s : List ℕ) (marked : List Bool) (known : ℕ) : Type 0 where
  pub size : length marked ≡ 33
  pub earned : Earned (names_in (script_of s)) (flag marked)
  pub counted : known ≡ marks (flag marked) (script_of s).names

pub turned_none : (s : List ℕ) → Turned s (replicate 33 false) 0
turned_none s = record {
  size = length-replicate {A = Bool} 33 false;
  earned = λ x m. absurd (not_both m (unset 33 x));
  counted = sym (marks_none (flag (replicate 33 false)) (unset 33) (script_of s).names);
}

module _ {s : List ℕ} where
  -- marks are at most as many as names
  pub turned_most : {marked : List Bool} {known : ℕ} → Turned s marked known → known ≤ (script_of s).names
  turned_most {marked} t = omega (arith, t.counted, marks_most (flag marked) (script_of s).names)

  -- a round, and then found are marked
  module _ {old new : List Bool} {known found : ℕ} (t : Turned s old known) (r : Rounding s old new ((script_of s).names + 1)) (counted : found ≡ marks (flag new) (script_of s).names) where
    pub turned_more : Turned s new found
    turned_more = record {
      size = r.size ∙ t.size;
      earned = λ x m. elim (r.only x m) [ inl h ↦ t.earned x h | inr h ↦ content_fertile (names_in (script_of s)) (flag old) t.earned x h ];
      counted = counted;
    }

    -- marks are never fewer
    pub turned_up : known ≤ found
    turned_up = omega (arith, t.counted, turned_more.counted, marks_keep (flag old) (flag new) r.keeps (script_of s).names)

    -- and where they are no more, none can be added
    pub turned_closed : (e : shapely s ≡ true) → found ≡ known → Closed (names_in (script_of s)) (script_of s).names (contents_over s e) (flag new)
    turned_closed e z = idle_round (names_in (script_of s)) (script_of s).names (contents_over s e) (flag old) (flag new)
        (record { keeps = r.keeps; adds = λ x n h. r.adds x n (omega (arith, table_high (script_of s).names x n)) h }) turned_more.earned (omega (arith, t.counted, turned_more.counted))

-- how many of the names are marked, as a chain counts them
numbers_more : (live : ℕ → Bool) (n : ℕ) → count_by live (range_with_len 1 (n + 1)) ≡ count_by live (range_with_len 1 n) + cond (live (n + 1)) 1 0
numbers_more live n = let e = sum_by-map-range_with_len_more (λ x. cond (live x) 1 0) (λ x. x) 1 n (n + 1) (omega arith) in
    rw (map-id (range_with_len 1 (n + 1)), map-id (range_with_len 1 n)) at e

marks_count : (live : ℕ → Bool) (n : ℕ) → count_by live (range_with_len 1 n) ≡ marks live n
unfolding total
marks_count live zero = refl
marks_count live (suc n) = let e = numbers_more live n in rw (add-one n) at e ∙ ap (λ k. k + cond (live (suc n)) 1 0) (marks_count live n)

pub marks_from : (live : ℕ → Bool) (n : ℕ) → length (filter live (range_with_len 1 n)) ≡ marks live n
marks_from live n = length-filter live (range_with_len 1 n) ∙ marks_count live n

-- ---- the answer

-- none where no name is barren, and else the lowest that is
pub record SaysBarren (s : List ℕ) (r : Option ℕ) : Type 0 where
  pub none : r ≡ None → NoneBarren (script_of s)
  pub lowest : (x : ℕ) → r ≡ Some x → LowestBarren (script_of s) x

-- the lowest of the names 1 to n that is not marked, if there is one
abbrev pub LowestUnmarked : ℕ → List Bool → Option ℕ → Type 0
LowestUnmarked n marked r = MatchOption r ((y : ℕ) → 1 ≤ y → y < n + 1 → flag marked y ≡ true)
    (λ x. (1 ≤ x) × (x < n + 1) × (flag marked x ≡ false) × ((y : ℕ) → 1 ≤ y → y < x → flag marked y ≡ true))

module _ {s : List ℕ} {marked : List Bool} {known : ℕ} (t : Turned s marked known) where
  -- a round marked nothing: the lowest name without a mark is the lowest that is barren
  pub says_lowest : (r : Option ℕ) (e : shapely s ≡ true) → Closed (names_in (script_of s)) (script_of s).names (contents_over s e) (flag marked)
      → LowestUnmarked (script_of s).names marked r → SaysBarren s r
  says_lowest None e closed u = record {
    none = λ z x n. t.earned x (u x (table_low _ x n) (omega (arith, table_high (script_of s).names x n)));
    lowest = λ x z. absurd (grind arith);
  }
  says_lowest (Some x) e closed u = let h = in_table_lem (script_of s).names x u.0 (omega (arith, u.1)) in record {
    none = λ z. absurd (grind arith);
    lowest = λ y z. let w : x ≡ y = grind arith in rw (← w) (record {
      is_name = h;
      barren = unmarked_barren (names_in (script_of s)) (script_of s).names (contents_over s e) (flag marked) closed x h u.2;
      lowest = λ y n d. t.earned y (u.3 y (table_low _ y n) d);
    });
  }

  -- all names are marked: none is barren
  pub says_none : (script_of s).names ≤ known → SaysBarren s None
  says_none h = record {
    none = λ z x n. t.earned x (marks_all (flag marked) (script_of s).names (omega (arith, t.counted)) x (table_low _ x n) (table_high _ x n));
    lowest = λ x z. absurd (grind arith);
  }
