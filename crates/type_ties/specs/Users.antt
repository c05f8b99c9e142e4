-- Each type row of a shaped sheet has one user: a side of a row is neither a declared type nor a content, and from every row the users lead up to one that is. What a model has is a place.
use Rattle.std.specs.Prelude.{ℕ, zero, suc, ◌+◌, ◌≤◌, ◌<◌, ◌≡◌, refl, Bool, false, ◌&&◌, ◌||◌, List, set, replicate}
use Rattle.std.proofs.Common.{◌∙◌, eqb-true, eq-eqb}
use Rattle.std.proofs.Math.Bool.{true}
use Rattle.std.proofs.Math.Logic.{inl, inr}
use native.Mathlib.Omega.{arith}
use Rattle.std.proofs.Math.Dec.{eqb}
use Rattle.meaning.specs.Tests.{some, in_table}
use Rattle.meaning.specs.Sheet.{Cells, Procedure, script_of, sheet_of}
use Rattle.meaning.specs.Kinds.{TypeRow}
use Rattle.meaning.specs.Shape.{shapely, hit, own, procedure_hits}
use Rattle.meaning.specs.Places.{model_form, model_at, is_declared, is_content}
use Rattle.meaning.specs.Laws.Bools.{or_left, or_right, or_cases, and_left, and_right, either}
use Rattle.meaning.specs.Laws.Tests.{in_table_lem, table_low, table_high, some_of, total_at, total_both}
use Rattle.meaning.specs.Laws.Wired.{has}
use Rattle.meaning.specs.Laws.Users.{outer, inner, used_once, user_of}
use Rattle.meaning.specs.Laws.Apart.{Side, view, type_hits, hit_one, side_hit, AtomKind, a_text, a_bool, a_label, a_name, atom_kind, PlaceKind}
use Rattle.type_barren.specs.Flags.{flag_kept, unset}
use Rattle.meaning.specs.Laws.Shaped.{Part, few_types}
use Rattle.type_places.specs.Tables.{row_form, model_of, Free}
use Rattle.type_places.specs.Firsts.{model_row, side_part}
use Rattle.type_places.specs.Sheets.{shaped_rows}
use Rattle.type_models.specs.Roots.{is_root, Rooted}

-- ---- the words of a row that are row j

held_hit : (c : Cells) (j : ℕ) → c.kind ≡ 4 → c.q ≡ j → 1 ≤ type_hits j c
unfolding own
held_hit c j k h = rw k (omega (arith, hit_one c.q j h))

module _ (s : List ℕ) (e : shapely s ≡ true) where
  declared_hit : (j : ℕ) → is_declared (script_of s) j ≡ true → 1 ≤ outer s j
  declared_hit j d = elim (or_cases (eqb (script_of s).a j || eqb (script_of s).b j || some (λ x. eqb ((script_of s).name_row x) j) (script_of s).names) _ d) [
    | inl d ↦ elim (or_cases (eqb (script_of s).a j || eqb (script_of s).b j) _ d) [
      | inl d ↦ elim (or_cases (eqb (script_of s).a j) _ d) [
        | inl d ↦ omega (arith, hit_one (script_of s).a j (eqb-true _ j d))
        | inr d ↦ omega (arith, hit_one (script_of s).b j (eqb-true _ j d))
      ]
      | inr d ↦ (let x = some_of (λ x. eqb ((script_of s).name_row x) j) (script_of s).names d in
          omega (arith, hit_one ((script_of s).name_row x.0) j (eqb-true _ j x.3), total_at (λ x. hit j ((script_of s).name_row x)) (script_of s).names x.0 x.1 x.2))
    ]
    | inr d ↦ (let x = some_of (λ c. eqb ((script_of s).procedure_row c).first j || eqb ((script_of s).procedure_row c).second j || eqb ((script_of s).procedure_row c).input j || eqb
        ((script_of s).procedure_row c).output j) (script_of s).procedures d in
        omega (arith, signed ((script_of s).procedure_row x.0) x.3, total_at (λ c. procedure_hits (sheet_of s) j ((script_of s).procedure_row c)) (script_of s).procedures x.0 x.1 x.2))
  ]
    where
      signed : (c : Procedure) → eqb c.first j || eqb c.second j || eqb c.input j || eqb c.output j ≡ true → 1 ≤ procedure_hits (sheet_of s) j c
      signed c d = elim (or_cases (eqb c.first j || eqb c.second j || eqb c.input j) _ d) [
        | inl d ↦ elim (or_cases (eqb c.first j || eqb c.second j) _ d) [
          | inl d ↦ elim (or_cases (eqb c.first j) _ d) [
            | inl d ↦ omega (arith, hit_one c.first j (eqb-true _ j d))
            | inr d ↦ omega (arith, hit_one c.second j (eqb-true _ j d))
          ]
          | inr d ↦ omega (arith, hit_one c.input j (eqb-true _ j d))
        ]
        | inr d ↦ omega (arith, hit_one c.output j (eqb-true _ j d))
      ]

  -- a side of a row is no root
  pub side_free : (i j : ℕ) → in_table (script_of s).types i ≡ true → Side (row_form (script_of s).type_row i) j → is_root s j ≡ false
  unfolding Side
  side_free i j h x = elim (either (is_root s j)) [
    | inl d ↦ absurd (elim (or_cases (is_declared (script_of s) j) (is_content (script_of s) j) d) [
      | inl d ↦ omega (
        arith,
        one,
        declared_hit j d,
        here,
        total_at (λ i. type_hits j ((script_of s).type_row i)) (script_of s).types i (table_low (script_of s).types i h)
            (table_high (script_of s).types i h),
      )
      | inr d ↦ held (some_of (λ i. eqb ((script_of s).type_row i).kind 4 && eqb ((script_of s).type_row i).q j) (script_of s).types d)
    ])
    | inr d ↦ d
  ]
    where
      part : Part i j
      part = side_part (shaped_rows s e) i j x

      one : inner s j + outer s j ≡ 1
      one = used_once s e j (in_table_lem (script_of s).types j part.low (omega (arith, part.lower, table_high (script_of s).types i h)))

      here : 1 ≤ type_hits j ((script_of s).type_row i)
      here = side_hit ((script_of s).type_row i) _ (view ((script_of s).type_row i)) j x

      no_side : (k : ℕ) → ((script_of s).type_row k).kind ≡ 4 → Side (row_form (script_of s).type_row k) j → ⊥
      no_side k z y = let w : ⊥ = rw z at y in w

      held : (k : ℕ) × (1 ≤ k) × (k ≤ (script_of s).types) × (eqb ((script_of s).type_row k).kind 4 && eqb ((script_of s).type_row k).q j ≡ true) → ⊥
      held (k, p, q, d) =
          let z = eqb-true ((script_of s).type_row k).kind 4 (and_left _ _ d) in
          let w = eqb-true ((script_of s).type_row k).q j (and_right (eqb ((script_of s).type_row k).kind 4) _ d) in
          omega (
            arith,
            one,
            here,
            held_hit ((script_of s).type_row k) j z w,
            total_both (λ i. type_hits j ((script_of s).type_row i)) (script_of s).types i k (table_low (script_of s).types i h) (table_high (script_of s).types i h) p q
                (λ y. no_side k z (rw y at x)),
          )

  pub rooted_free : {root : List Bool} → Rooted s root → Free (script_of s).type_row root (script_of s).types
  rooted_free r i j p q x =
      let h = in_table_lem (script_of s).types i p q in
      r.at j (omega (arith, (side_part (shaped_rows s e) i j x).lower, few_types s e)) ∙ side_free i j h x

  -- one row flagged, and only the rows up to it looked at
  pub told_free : (told : ℕ) → told ≤ (script_of s).types → Free (script_of s).type_row (set (replicate 513 false) told true) told
  told_free told l i j p q x = flag_kept (replicate 513 false) told true j (λ z. omega (arith, (side_part (shaped_rows s e) i j x).lower)) ∙ unset 513 j

  -- ---- from each row up to a root

  -- what a side has, the row has
  side_has : (i j a : ℕ) → Side (row_form (script_of s).type_row i) j → has (model_of s j) a ≡ true → has (model_of s i) a ≡ true
  unfolding Side has model_form
  side_has i j a x y = rw (model_row (shaped_rows s e) i) (go (row_form (script_of s).type_row i) x)
    where
      at_side : {p : ℕ} → p ≡ j → has (model_of s p) a ≡ true
      at_side z = rw z y

      go : (t : TypeRow) → Side t j → has (model_form t i (model_of s)) a ≡ true
      go TypeRow.none z = elim z [ ]
      go TypeRow.empty z = elim z [ ]
      go TypeRow.text z = elim z [ ]
      go TypeRow.bool z = elim z [ ]
      go (TypeRow.label _ _) z = elim z [ ]
      go (TypeRow.name _) z = elim z [ ]
      go (TypeRow.seq p q) (inl z) = or_left (has (model_of s q) a) (at_side z)
      go (TypeRow.seq p q) (inr z) = or_right (has (model_of s p) a) (at_side z)
      go (TypeRow.choice p q) (inl z) = or_left (has (model_of s q) a) (at_side z)
      go (TypeRow.choice p q) (inr z) = or_right (has (model_of s p) a) (at_side z)
      go (TypeRow.star p) z = at_side z

  -- a root whose model has what the model of row j has
  pub record Above (j : ℕ) : Type 0 where
    pub root : ℕ
    pub in_types : in_table (script_of s).types root ≡ true
    pub is_root_lem : is_root s root ≡ true
    pub keeps : (a : ℕ) → has (model_of s j) a ≡ true → has (model_of s root) a ≡ true

  up : (i j : ℕ) → Side (row_form (script_of s).type_row i) j → Above i → Above j
  up i j x r = record { root = r.root; in_types = r.in_types; is_root_lem = r.is_root_lem; keeps = λ a y. r.keeps a (side_has i j a x y) }

  climb : (j : ℕ) → in_table (script_of s).types j ≡ true → ((i : ℕ) → in_table (script_of s).types i ≡ true → j < i → Above i) → Above j
  climb j h again = elim (user_of s e j h) [
    | inl r ↦ record { root = j; in_types = h; is_root_lem = r; keeps = λ a y. y }
    | inr x ↦ up x.0 j x.2 (again x.0 x.1 (side_part (shaped_rows s e) x.0 j x.2).lower)
  ]

  pub above : (n j : ℕ) → in_table (script_of s).types j ≡ true → (script_of s).types ≤ n + j → Above j
  above zero j h l = climb j h (λ i q d. absurd (omega (arith, table_high (script_of s).types i q)))
  above (suc n) j h l = climb j h (λ i q d. above n i q (omega arith))

  -- ---- what a model has is a place

  pub has_place : (r a : ℕ) → has (model_of s r) a ≡ true → PlaceKind ((script_of s).type_row a).kind
  unfolding model_at
  has_place r a y = go (atom_kind (script_of s).type_row r r a y)
    where
      go : AtomKind ((script_of s).type_row a) → PlaceKind ((script_of s).type_row a).kind
      go (a_text k) = inl k
      go (a_bool k) = inr (inl k)
      go (a_label k) = inr (inr (inl k))
      go (a_name k) = inr (inr (inr k))

  -- a row that is a place is its own model
  pub place_has : (a : ℕ) → PlaceKind ((script_of s).type_row a).kind → has (model_of s a) a ≡ true
  unfolding has model_form
  place_has a p = rw (model_row (shaped_rows s e) a) (go p)
    where
      go : PlaceKind ((script_of s).type_row a).kind → has (model_form (row_form (script_of s).type_row a) a (model_of s)) a ≡ true
      go (inl k) = rw k (eq-eqb a a refl)
      go (inr (inl k)) = rw k (eq-eqb a a refl)
      go (inr (inr (inl k))) = rw k (eq-eqb a a refl)
      go (inr (inr (inr k))) = rw k (eq-eqb a a refl)
