-- Faults: on a sheet that passes 2 to 4 the forest is not of the type at a row exactly if it has a fault there, and the fault is one. The row is any: a part of a
-- type without ties has none (Parts), so at each point of it a head has one place.
-- That there is a fault goes by rows, the lower first; that it is one, and that a forest with a fault is not of the type, by how the fault is met.
use Rattle.std.specs.Prelude.{ℕ, zero, suc, ◌≤◌, ◌<◌, ◌≡◌, refl, true, ◌&&◌, List, ◌⊎◌, ◌↔◌, ltb}
use Rattle.std.proofs.Common.{sym, ◌∙◌, inl, inr, arith, ltb-true, lt-ltb}
use Rattle.std.proofs.Math.Decide.{ℕ_discrete}
use Rattle.meaning.specs.Tests.{in_table}
use Rattle.meaning.specs.Sheet.{Script, Grove, script_of, grove_of}
use Rattle.meaning.specs.Forest.{cons, forest_of}
use Rattle.meaning.specs.Types.{Head, Head-discrete, Of, declared, names_in}
use Rattle.meaning.specs.Shape.{shapely}
use Rattle.meaning.specs.Places.{Model, Set, next, acting, head_at, model_in, Fits, Admits, Untied}
use Rattle.meaning.specs.Faults.{tree_head, trees_at, tree_at, Stands, Fault, ends, head, inside, behind, FaultOf}
use Rattle.meaning.specs.Laws.Bools.{and_left, and_right, and_both, either, not_both}
use Rattle.meaning.specs.Laws.Tests.{table_high}
use Rattle.meaning.specs.Laws.Wired.{has}
use Rattle.meaning.specs.Laws.Rows.{forest_at_zero, forest_at_suc}
use Rattle.meaning.specs.Laws.Apart.{model_below, shaped_lower, shaped_labelled}
use Rattle.meaning.specs.Laws.Trees.{Sort, tree_row_lem, low_rows, root_row, fits_head, fits_inside, head_fits}
use Rattle.meaning.specs.Laws.Decide.{search}
use Rattle.meaning.specs.Laws.Pairs.{Free}
use Rattle.meaning.specs.Laws.Points.{has_first, has_follows, on_has, Point, Place, Reached, at_start, at_place, reached_asked, reached_on, reached_after, reached_into}
use Rattle.meaning.specs.Theorems.Places.{places_say}
use Rattle.meaning.specs.Theorems.Parts.{single}
use Rattle.meaning.specs.Theorems.Within.Rows.{types_of, points_of, start_of, each_place, label_content, named_low}

module _ (s : List ℕ) (e : shapely s ≡ true) where
  abbrev S : Script
  S = script_of s

  abbrev G : Grove
  G = grove_of s

  -- ---- the points of the types at the sheet's rows

  abbrev IsRow : ℕ → Type 0
  IsRow r = in_table S.types r ≡ true

  abbrev At : Point ℕ → Type 0
  At = Reached (types_of S) IsRow

  abbrev model_here : Point ℕ → Model
  model_here y = model_in S.type_row S.name_row y.key

  each : (r : ℕ) → IsRow r → (a : ℕ) → has (model_in S.type_row S.name_row r) a ≡ true → Place (types_of S) IsRow r a
  each r h = each_place S.type_row S.name_row (shaped_lower s e) (shaped_labelled s e) S.types (named_low s e) IsRow (λ i l k. (label_content s e i k).0) r (table_high S.types r h)

  abbrev Stood : Point ℕ → ℕ → ℕ → Type 0
  Stood y r a = Stands S.type_row S.name_row G y.set r a

  stood_has : (y : Point ℕ) {r a : ℕ} → Stood y r a → ltb 0 a && y.set a ≡ true
  stood_has y {r} {a} d = and_both (ltb 0 a) (y.set a) (lt-ltb 0 a d.is_place) d.may_stand

  place_low : {y : Point ℕ} {r a : ℕ} → At y → Stood y r a → a ≤ S.types
  place_low {y} {r} {a} h d = omega (
    arith,
    model_below S.type_row S.name_row (shaped_lower s e) y.key a (on_has (reached_on (types_of S) IsRow h a (stood_has y d))),
    table_high S.types y.key (reached_asked (types_of S) IsRow h),
  )

  abbrev beyond : Point ℕ → ℕ → Point ℕ
  beyond y a = record { key = y.key; set = next (model_here y) a }

  at_beyond : {y : Point ℕ} {r a : ℕ} → At y → Stood y r a → At (beyond y a)
  at_beyond {y} {r} {a} h d = reached_after (types_of S) IsRow each y a h (stood_has y d)

  abbrev within : ℕ → Point ℕ
  within a = start_of S (acting S.type_row S.name_row a).q

  label_head : (r : ℕ) → (G.row r).kind ≡ 4 → tree_head (tree_at G r) ≡ Head.label (G.row r).p
  label_head r k = rw k

  at_within : {y : Point ℕ} {r a : ℕ} → At y → Stood y r a → (G.row r).kind ≡ 4 → At (within a)
  at_within {y} {r} {a} h d k = reached_into (types_of S) IsRow each y a (G.row r).p h (stood_has y d) (d.has_head ∙ label_head r k)

  -- ---- the rows of the forest

  child_lower : (r : ℕ) → 0 < r → r ≤ G.rows → (G.row r).kind ≡ 4 → (G.row r).q < r
  child_lower r p b k = (low_rows s e r b r p (omega arith)).child (rw k)

  next_lower : (r : ℕ) → 0 < r → r ≤ G.rows → (G.row r).r < r
  next_lower r p b = (low_rows s e r b r p (omega arith)).next

  -- the trees at a row are its tree and the trees at its next
  pub grows : (r : ℕ) → 0 < r → r ≤ G.rows → trees_at G r ≡ cons (tree_at G r) (trees_at G (G.row r).r)
  grows zero p b = absurd (omega arith)
  grows (suc r) p b = forest_at_suc G.byte G.row r (low_rows s e (suc r) b)

  -- the trees at row r go on from a point, or x is their first fault
  abbrev Goes : ℕ → Point ℕ → Type 0
  Goes r y = Admits S.type_row S.name_row (trees_at G r) (model_here y) y.set

  abbrev Wrong : ℕ → ℕ → Point ℕ → ℕ → Type 0
  Wrong parent r y x = Fault S.type_row S.name_row G parent r (model_here y) y.set x

  goes_zero : (y : Point ℕ) → Goes 0 y ↔ y.set 0 ≡ true
  unfolding Admits
  goes_zero y = rw (forest_at_zero G.byte G.row) (λ x. x, λ x. x)

  -- what the first tree takes, and what is behind it
  record Taken (r : ℕ) (y : Point ℕ) (a : ℕ) : Type 0 where
    pub stood : Stood y r a
    pub fits : Fits S.type_row S.name_row (tree_at G r) a
    pub rest : Goes (G.row r).r (beyond y a)

  module _ {r : ℕ} (p : 0 < r) (b : r ≤ G.rows) where
    sort : Sort (G.row r) r
    sort = (tree_row_lem s e r p b).sort

    tree_fits : (y : Point ℕ) {a : ℕ} → Stood y r a → ((G.row r).kind ≡ 4 → Goes (G.row r).q (within a)) → Fits S.type_row S.name_row (tree_at G r) a
    tree_fits y {a} d f = head_fits G.byte (G.row r) r (trees_at G (G.row r).q) S.type_row S.name_row a sort d.has_head f

    tree_inside : (a : ℕ) → Fits S.type_row S.name_row (tree_at G r) a → (G.row r).kind ≡ 4 → Goes (G.row r).q (within a)
    tree_inside a f k = fits_inside G.byte (G.row r) r (trees_at G (G.row r).q) S.type_row S.name_row a sort f k

    goes_taken : (y : Point ℕ) → Goes r y → (a : ℕ) × Taken r y a
    unfolding Admits
    goes_taken y g = go (rw (grows r p b) at g)
      where
        go : Admits S.type_row S.name_row (cons (tree_at G r) (trees_at G (G.row r).r)) (model_here y) y.set → (a : ℕ) × Taken r y a
        go (a, l, m, f, g) = (
          a,
          record {
            stood = record { is_place = l; may_stand = m; has_head = fits_head G.byte (G.row r) r (trees_at G (G.row r).q) S.type_row S.name_row a sort f };
            fits = f;
            rest = g;
          },
        )

    taken_goes : (y : Point ℕ) (a : ℕ) → Taken r y a → Goes r y
    unfolding Admits
    taken_goes y a t = rw (grows r p b) (a, t.stood.is_place, t.stood.may_stand, t.fits, t.rest)

  -- ---- there is a fault, or none

  stood_or_not : (y : Point ℕ) (r a : ℕ) → Stood y r a ⊎ (Stood y r a → ⊥)
  stood_or_not y r a = elim (either (ltb 0 a && y.set a)) [
    | inl h ↦ elim (Head-discrete ℕ_discrete (head_at S.type_row S.name_row a) (tree_head (tree_at G r))) [
      | yes q ↦ inl (record { is_place = ltb-true 0 a (and_left (ltb 0 a) (y.set a) h); may_stand = and_right (ltb 0 a) (y.set a) h; has_head = q })
      | no q ↦ inr (λ d. q d.has_head)
    ]
    | inr h ↦ inr (λ d. not_both (stood_has y d) h)
  ]

  a_place : (y : Point ℕ) (r : ℕ) → At y → ((a : ℕ) × Stood y r a) ⊎ ((a : ℕ) → Stood y r a → ⊥)
  a_place y r h = elim (search (Stood y r) (λ a. Stood y r a → ⊥) (stood_or_not y r) (suc S.types)) [
    | inl z ↦ inl (z.0, z.2)
    | inr z ↦ inr (λ a d. z a (omega (arith, place_low h d)) d)
  ]

  goes_or_wrong : (n r parent : ℕ) (y : Point ℕ) → r < n → r ≤ G.rows → At y → Goes r y ⊎ ((x : ℕ) × Wrong parent r y x)
  goes_or_wrong zero r parent y l b h = absurd (omega arith)
  goes_or_wrong (suc n) zero parent y l b h = elim (either (y.set 0)) [ inl t ↦ inl ((goes_zero y).1 t) | inr f ↦ inr (_, ends refl f) ]
  goes_or_wrong (suc n) (suc r) parent y l b h = elim (a_place y (suc r) h) [
    | inr none ↦ inr (_, head p none)
    | inl z ↦ (let a = z.0 in let d = z.1 in elim (ℕ_discrete (G.row (suc r)).kind 4) [
      | yes k ↦ elim (goes_or_wrong n (G.row (suc r)).q (suc r) (within a) (omega (arith, child_lower (suc r) p b k)) (omega (arith, child_lower (suc r) p b k)) (at_within h d k)) [
        | inl g ↦ from_next a d (tree_fits p b y d (λ x. g)) (goes_or_wrong n (G.row (suc r)).r parent (beyond y a) (omega (arith, next_lower (suc r) p b)) (omega (arith, next_lower (suc r) p b))
            (at_beyond h d))
        | inr w ↦ inr (_, inside p d k w.1)
      ]
      | no k ↦ from_next a d (tree_fits p b y d (λ x. absurd (k x)))
          (goes_or_wrong n (G.row (suc r)).r parent (beyond y a) (omega (arith, next_lower (suc r) p b)) (omega (arith, next_lower (suc r) p b)) (at_beyond h d))
    ])
  ]
    where
      p : 0 < suc r
      p = omega arith

      from_next : (a : ℕ) → Stood y (suc r) a → Fits S.type_row S.name_row (tree_at G (suc r)) a → Goes (G.row (suc r)).r (beyond y a)
          ⊎ ((x : ℕ) × Wrong parent (G.row (suc r)).r (beyond y a) x)
          → Goes (suc r) y ⊎ ((x : ℕ) × Wrong parent (suc r) y x)
      from_next a d f (inl g) = inl (taken_goes p b y a (record { stood = d; fits = f; rest = g }))
      from_next a d f (inr w) = inr (_, behind p d f w.1)

  -- ---- where nothing is tied, a forest with a fault goes not on, and has no other

  module _ (untied : Untied S) where
    part_free : (y : Point ℕ) → At y → Free (points_of S) y
    part_free y (at_start r h) a b p q i = let m = model_in S.type_row S.name_row r in (single s e untied r h).begin a b (has_first m a p) (has_first m b q) i
    part_free y (at_place r c h o) a b p q i = let m = model_in S.type_row S.name_row r in (single s e untied r h).behind c a b (has_follows m c a p) (has_follows m c b q) i

    one_place : (y : Point ℕ) {r a b : ℕ} → At y → Stood y r a → Stood y r b → a ≡ b
    one_place y {r} {a} {b} h d c = part_free y h a b (stood_has y d) (stood_has y c) (d.has_head ∙ sym c.has_head)

    -- the walk down a fault, its model and its set any that are those of the point
    bars_at : (y : Point ℕ) {parent r x : ℕ} {m : Model} {u : Set} → Fault S.type_row S.name_row G parent r m u x → m ≡ model_here y → u ≡ y.set → At y → r ≤ G.rows → Goes r y → ⊥
    bars_at y (ends z f) o v h b g = not_both ((goes_zero y).0 (rw z at g)) (rw v at f)
    bars_at y (head {r = r} p none) o v h b g = let t = goes_taken p b y g in none t.0 (rw v t.1.stood)
    bars_at y (inside {r = r} {a = a} p d k w) o v h b g =
        let d' : Stood y r a = rw v at d in
        let t = goes_taken p b y g in
        let i : t.0 ≡ a = one_place y h t.1.stood d' in
        bars_at (within a) w refl refl (at_within h d' k) (omega (arith, child_lower r p b k)) (tree_inside p b a (rw i at t.1.fits) k)
    bars_at y (behind {r = r} {a = a} p d f w) o v h b g =
        let d' : Stood y r a = rw v at d in
        let t = goes_taken p b y g in
        let i : t.0 ≡ a = one_place y h t.1.stood d' in
        bars_at (beyond y a) w o (rw o) (at_beyond h d') (omega (arith, next_lower r p b)) (rw i at t.1.rest)

    bars : (y : Point ℕ) {parent r x : ℕ} → Wrong parent r y x → At y → r ≤ G.rows → Goes r y → ⊥
    bars y w h b g = bars_at y w refl refl h b g

    -- the same of two faults at one point
    one_at : (y : Point ℕ) {parent r x z : ℕ} {m n : Model} {u v : Set} → Fault S.type_row S.name_row G parent r m u x → Fault S.type_row S.name_row G parent r n v z
        → m ≡ model_here y → u ≡ y.set → n ≡ model_here y → v ≡ y.set → At y → r ≤ G.rows → x ≡ z
    one_at y (ends o f) (ends o' f') em eu en ev h b = refl
    one_at y (ends o f) (head p none) em eu en ev h b = absurd (omega arith)
    one_at y (ends o f) (inside p d k w) em eu en ev h b = absurd (omega arith)
    one_at y (ends o f) (behind p d g w) em eu en ev h b = absurd (omega arith)
    one_at y (head p none) (ends o f) em eu en ev h b = absurd (omega arith)
    one_at y (head p none) (head q none') em eu en ev h b = refl
    one_at y (head p none) (inside {a = a} q d k w) em eu en ev h b = absurd (none a (rw (eu ∙ sym ev) d))
    one_at y (head p none) (behind {a = a} q d g w) em eu en ev h b = absurd (none a (rw (eu ∙ sym ev) d))
    one_at y (inside p d k w) (ends o f) em eu en ev h b = absurd (omega arith)
    one_at y (inside {a = a} p d k w) (head q none) em eu en ev h b = absurd (none a (rw (ev ∙ sym eu) d))
    one_at y (inside {r = r} {a = a} p d k w) (inside {a = c} q d' k' w') em eu en ev h b =
        let t : Stood y r a = rw eu at d in
        let i : c ≡ a = one_place y h (rw ev at d') t in
        one_at (within a) w w' refl refl (rw i) (rw i) (at_within h t k) (omega (arith, child_lower r p b k))
    one_at y (inside {r = r} {a = a} p d k w) (behind {a = c} q d' g w') em eu en ev h b =
        let t : Stood y r a = rw eu at d in
        let i : c ≡ a = one_place y h (rw ev at d') t in
        absurd (bars (within a) w (at_within h t k) (omega (arith, child_lower r p b k)) (tree_inside p b a (rw i at g) k))
    one_at y (behind p d g w) (ends o f) em eu en ev h b = absurd (omega arith)
    one_at y (behind {a = a} p d g w) (head q none) em eu en ev h b = absurd (none a (rw (ev ∙ sym eu) d))
    one_at y (behind {r = r} {a = a} p d g w) (inside {a = c} q d' k w') em eu en ev h b =
        let t : Stood y r c = rw ev at d' in
        let i : a ≡ c = one_place y h (rw eu at d) t in
        absurd (bars (within c) w' (at_within h t k) (omega (arith, child_lower r p b k)) (tree_inside p b c (rw i at g) k))
    one_at y (behind {r = r} {a = a} p d g w) (behind {a = c} q d' g' w') em eu en ev h b =
        let t : Stood y r a = rw eu at d in
        let i : c ≡ a = one_place y h (rw ev at d') t in
        one_at (beyond y a) w w' em (rw em) en (rw (en, i)) (at_beyond h t) (omega (arith, next_lower r p b))

    one_wrong : (y : Point ℕ) {parent r x z : ℕ} → Wrong parent r y x → Wrong parent r y z → At y → r ≤ G.rows → x ≡ z
    one_wrong y w w' h b = one_at y w w' refl refl refl refl h b

  -- ---- so of the sheet's forest and the type at a row of it

  module _ (t : ℕ) (k : in_table S.types t ≡ true) where
    abbrev IsOf : Type 0
    IsOf = Of (names_in S) (declared S t) (forest_of G)

    starts : At (start_of S t)
    starts = at_start t k

    pub of_or_fault : IsOf ⊎ ((x : ℕ) × FaultOf s t x)
    of_or_fault = elim (goes_or_wrong (suc G.root) G.root 0 (start_of S t) (omega arith) (root_row s e) starts) [
      | inl g ↦ inl ((places_say s e t (forest_of G)).0 g)
      | inr w ↦ inr w
    ]

    module _ (untied : Untied S) where
      pub fault_bars : {x : ℕ} → FaultOf s t x → IsOf → ⊥
      fault_bars w o = bars untied (start_of S t) w starts (root_row s e) ((places_say s e t (forest_of G)).1 o)

      -- the forest is not of the type exactly if there is a fault
      pub fault_exactly : (IsOf → ⊥) ↔ ((x : ℕ) × FaultOf s t x)
      fault_exactly = ((λ n. elim of_or_fault [ inl o ↦ absurd (n o) | inr w ↦ w ]), (λ w. fault_bars w.1))

      -- and the fault is one
      pub one_fault : {x z : ℕ} → FaultOf s t x → FaultOf s t z → x ≡ z
      one_fault w v = one_wrong untied (start_of S t) w v starts (root_row s e)
