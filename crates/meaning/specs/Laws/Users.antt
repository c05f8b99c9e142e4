-- Each type row of a shaped sheet has one user: it is a declared type or a content, or a side of a row.
use Rattle.std.specs.Prelude.{ℕ, zero, suc, ◌+◌, ◌≤◌, ◌≡◌, refl, true, ◌&&◌, ◌||◌, List, ◌⊎◌, eqb}
use Rattle.std.proofs.Common.{inl, inr, arith, eqb-true, eq-eqb}
use Rattle.std.proofs.Math.Decide.{dec_le}
use Rattle.meaning.specs.Tests.{some, total, in_table}
use Rattle.meaning.specs.Sheet.{Procedure, script_of, sheet_of}
use Rattle.meaning.specs.Kinds.{type_form}
use Rattle.meaning.specs.Shape.{shapely, hit, own, type_users, procedure_hits}
use Rattle.meaning.specs.Places.{is_declared, is_content}
use Rattle.meaning.specs.Laws.Bools.{or_left, or_right, either}
use Rattle.meaning.specs.Laws.Tests.{in_table_lem, some_at, total_some}
use Rattle.meaning.specs.Laws.Shaped.{cells, one_user}
use Rattle.meaning.specs.Laws.Apart.{Side, type_hits}

-- ---- the words of a row that are row j

one_hit : (p j : ℕ) → 1 ≤ hit j p → p ≡ j
one_hit p j h = elim (either (eqb p j)) [ inl e ↦ eqb-true p j e | inr e ↦ (let z = rw e at h in absurd (omega arith)) ]

either_hit : (p q j : ℕ) → 1 ≤ hit j p + hit j q + 0 → (p ≡ j) ⊎ (q ≡ j)
either_hit p q j h = elim (dec_le 1 (hit j p)) [ yes l ↦ inl (one_hit p j l) | no l ↦ inr (one_hit q j (omega arith)) ]

hit_row : (k p q r j : ℕ) → 1 ≤ type_hits j (cells k p q r) → Side (type_form (cells k p q r)) j ⊎ ((k ≡ 4) × (q ≡ j))
unfolding Side own
hit_row zero p q r j h = absurd (omega arith)
hit_row (suc zero) p q r j h = absurd (omega arith)
hit_row (suc (suc zero)) p q r j h = absurd (omega arith)
hit_row (suc (suc (suc zero))) p q r j h = absurd (omega arith)
hit_row (suc (suc (suc (suc zero)))) p q r j h = inr (refl, one_hit q j (omega arith))
hit_row (suc (suc (suc (suc (suc zero))))) p q r j h = inl (either_hit p q j h)
hit_row (suc (suc (suc (suc (suc (suc zero)))))) p q r j h = inl (either_hit p q j h)
hit_row (suc (suc (suc (suc (suc (suc (suc zero))))))) p q r j h = inl (one_hit p j (omega arith))
hit_row (suc (suc (suc (suc (suc (suc (suc (suc zero)))))))) p q r j h = absurd (omega arith)
hit_row (suc (suc (suc (suc (suc (suc (suc (suc (suc k))))))))) p q r j h = absurd (omega arith)

module _ (s : List ℕ) where
  -- how often row j is named by what is no type row
  abbrev pub outer : ℕ → ℕ
  outer j = total (λ x. hit j ((script_of s).name_row x)) (script_of s).names
      + total (λ c. procedure_hits (sheet_of s) j ((script_of s).procedure_row c)) (script_of s).procedures + hit j (script_of s).a
      + hit j (script_of s).b

  abbrev pub inner : ℕ → ℕ
  inner j = total (λ i. type_hits j ((script_of s).type_row i)) (script_of s).types

module _ (s : List ℕ) (e : shapely s ≡ true) where
  pub used_once : (j : ℕ) → in_table (script_of s).types j ≡ true → inner s j + outer s j ≡ 1
  unfolding type_users sheet_of
  used_once j h = omega (arith, one_user s e j h)

  declared_by : (j : ℕ) → 1 ≤ outer s j → is_declared (script_of s) j ≡ true
  declared_by j h = elim (dec_le 1 (hit j (script_of s).a)) [
    | yes l ↦ or_left _ (or_left _ (or_left _ (eq-eqb (script_of s).a j (one_hit (script_of s).a j l))))
    | no l1 ↦ elim (dec_le 1 (hit j (script_of s).b)) [
      | yes l ↦ or_left _ (or_left _ (or_right (eqb (script_of s).a j) (eq-eqb (script_of s).b j (one_hit (script_of s).b j l))))
      | no l2 ↦ elim (dec_le 1 (total (λ x. hit j ((script_of s).name_row x)) (script_of s).names)) [
        | yes l ↦ (let x = total_some (λ x. hit j ((script_of s).name_row x)) (script_of s).names l in
            or_left _ (or_right (eqb (script_of s).a j || eqb (script_of s).b j)
            (some_at (λ x. eqb ((script_of s).name_row x) j) (script_of s).names x.0 x.1 x.2 (eq-eqb ((script_of s).name_row x.0) j (one_hit ((script_of s).name_row x.0) j x.3)))))
        | no l3 ↦ (let x = total_some (λ c. procedure_hits (sheet_of s) j ((script_of s).procedure_row c)) (script_of s).procedures (omega arith) in
            or_right (eqb (script_of s).a j || eqb (script_of s).b j || some (λ x. eqb ((script_of s).name_row x) j) (script_of s).names)
            (some_at (λ c. eqb ((script_of s).procedure_row c).first j || eqb ((script_of s).procedure_row c).second j || eqb ((script_of s).procedure_row c).input j || eqb
            ((script_of s).procedure_row c).output j) (script_of s).procedures x.0 x.1 x.2 (signs ((script_of s).procedure_row x.0) x.3)))
      ]
    ]
  ]
    where
      signs : (c : Procedure) → 1 ≤ procedure_hits (sheet_of s) j c → eqb c.first j || eqb c.second j || eqb c.input j || eqb c.output j ≡ true
      signs c h = elim (dec_le 1 (hit j c.first)) [
        | yes l ↦ or_left _ (or_left _ (or_left _ (eq-eqb c.first j (one_hit c.first j l))))
        | no l4 ↦ elim (dec_le 1 (hit j c.second)) [
          | yes l ↦ or_left _ (or_left _ (or_right (eqb c.first j) (eq-eqb c.second j (one_hit c.second j l))))
          | no l5 ↦ elim (dec_le 1 (hit j c.input)) [
            | yes l ↦ or_left _ (or_right (eqb c.first j || eqb c.second j) (eq-eqb c.input j (one_hit c.input j l)))
            | no l6 ↦ or_right (eqb c.first j || eqb c.second j || eqb c.input j) (eq-eqb c.output j (one_hit c.output j (omega arith)))
          ]
        ]
      ]

  -- a row is a declared type or a content, or a side of a row
  pub user_of : (j : ℕ) → in_table (script_of s).types j ≡ true → (is_declared (script_of s) j || is_content (script_of s) j ≡ true)
      ⊎ ((i : ℕ) × (in_table (script_of s).types i ≡ true) × Side (type_form ((script_of s).type_row i)) j)
  user_of j h = elim (dec_le 1 (inner s j)) [
    | yes l ↦ (let x = total_some (λ i. type_hits j ((script_of s).type_row i)) (script_of s).types l in by x.0 x.1 x.2 (hit_row _ _ _ _ j x.3))
    | no l ↦ inl (or_left _ (declared_by j (omega (arith, used_once j h))))
  ]
    where
      by : (i : ℕ) → 1 ≤ i → i ≤ (script_of s).types → Side (type_form ((script_of s).type_row i)) j ⊎ ((((script_of s).type_row i).kind ≡ 4) × (((script_of s).type_row i).q ≡ j))
          → (is_declared (script_of s) j || is_content (script_of s) j ≡ true)
          ⊎ ((i : ℕ) × (in_table (script_of s).types i ≡ true) × Side (type_form ((script_of s).type_row i)) j)
      by i p q (inl x) = inr (i, in_table_lem (script_of s).types i p q, x)
      by i p q (inr (k, z)) = inl (or_right (is_declared (script_of s) j)
          (some_at (λ i. eqb ((script_of s).type_row i).kind 4 && eqb ((script_of s).type_row i).q j) (script_of s).types i p q
          (rw (eq-eqb ((script_of s).type_row i).kind 4 k) (eq-eqb ((script_of s).type_row i).q j z))))
