-- Ties by computation: a rival is a place of the model, so a finite test over the places of every declared type and content says of all pairs of rows that they are not tied.
use Rattle.std.specs.Prelude.{ℕ, ◌≤◌, ◌≡◌, refl, Bool, true, false, ◌&&◌, ◌||◌, eqb, ltb}
use Rattle.std.proofs.Math.Bool.{not}
use Rattle.std.proofs.Math.Logic.{inl, inr}
use Rattle.std.proofs.Common.{eqb-true, eq-eqb, lt-ltb}
use Rattle.std.proofs.lemmas.Bool.{not-true}
use Rattle.meaning.specs.Tests.{every, some}
use Rattle.meaning.specs.Sheet.{Script}
use Rattle.meaning.specs.Places.{Model, first, last, nullable, follows, same_head, head_at, model_in, rivals, is_declared, is_content, tied, Tie, Untied}
use Rattle.meaning.specs.Laws.Bools.{or_cases, and_left, and_right, and_both, either, not_both}
use Rattle.meaning.specs.Laws.Tests.{every_at, some_of}

-- every place of a model passes
unfoldable pub all_places : (ℕ → Bool) → Model → Bool
all_places test Model.empty = true
all_places test (Model.atom a) = test a
all_places test (Model.seq m n) = all_places test m && all_places test n
all_places test (Model.choice m n) = all_places test m && all_places test n
all_places test (Model.star m) = all_places test m

module _ (test : ℕ → Bool) where
  -- what may stand first is a place
  first_passes : (m : Model) (a : ℕ) → all_places test m ≡ true → first m a ≡ true → test a ≡ true
  unfolding all_places first
  first_passes Model.empty a h e = absurd (not_both e refl)
  first_passes (Model.atom b) a h e = rw (eqb-true b a e) at h
  first_passes (Model.seq m n) a h e = elim (or_cases (first m a) (nullable m && first n a) e) [
    | inl x ↦ first_passes m a (and_left _ (all_places test n) h) x
    | inr x ↦ first_passes n a (and_right (all_places test m) _ h) (and_right (nullable m) _ x)
  ]
  first_passes (Model.choice m n) a h e = elim (or_cases (first m a) (first n a) e) [
    | inl x ↦ first_passes m a (and_left _ (all_places test n) h) x
    | inr x ↦ first_passes n a (and_right (all_places test m) _ h) x
  ]
  first_passes (Model.star m) a h e = first_passes m a h e

  -- and so is what may stand next
  follows_passes : (m : Model) (c a : ℕ) → all_places test m ≡ true → follows m c a ≡ true → test a ≡ true
  unfolding all_places follows
  follows_passes Model.empty c a h e = absurd (not_both e refl)
  follows_passes (Model.atom b) c a h e = absurd (not_both e refl)
  follows_passes (Model.seq m n) c a h e = elim (or_cases (follows m c a || follows n c a) (last m c && first n a) e) [
    | inl x ↦ elim (or_cases (follows m c a) (follows n c a) x) [
      | inl y ↦ follows_passes m c a (and_left _ (all_places test n) h) y
      | inr y ↦ follows_passes n c a (and_right (all_places test m) _ h) y
    ]
    | inr x ↦ first_passes n a (and_right (all_places test m) _ h) (and_right (last m c) _ x)
  ]
  follows_passes (Model.choice m n) c a h e = elim (or_cases (follows m c a) (follows n c a) e) [
    | inl x ↦ follows_passes m c a (and_left _ (all_places test n) h) x
    | inr x ↦ follows_passes n c a (and_right (all_places test m) _ h) x
  ]
  follows_passes (Model.star m) c a h e = elim (or_cases (follows m c a) (last m c && first m a) e) [
    | inl x ↦ follows_passes m c a h x
    | inr x ↦ first_passes m a h (and_right (last m c) _ x)
  ]

-- at the start of a model, or behind a place of it
abbrev together : ℕ → Model → ℕ → ℕ → Bool
together n m a b = first m a && first m b || some (λ c. follows m c a && follows m c b) n

module _ (test : ℕ → ℕ → Bool) where
  -- so what passes for every two places of a model passes for what may stand together there
  together_passes : (n : ℕ) (m : Model) (a b : ℕ) → all_places (λ c. all_places (test c) m) m ≡ true → together n m a b ≡ true → test a b ≡ true
  together_passes n m a b h e = elim (or_cases (first m a && first m b) (some (λ c. follows m c a && follows m c b) n) e) [
    | inl x ↦ first_passes (test a) m b (first_passes (λ c. all_places (test c) m) m a h (and_left _ (first m b) x)) (and_right (first m a) _ x)
    | inr x ↦ (let y = some_of (λ c. follows m c a && follows m c b) n x in
        follows_passes (test a) m y.0 b (follows_passes (λ c. all_places (test c) m) m y.0 a h (and_left _ (follows m y.0 b) y.3)) (and_right (follows m y.0 a) _ y.3))
  ]

module _ (S : Script) where
  abbrev looked : ℕ → Bool
  looked r = is_declared S r || is_content S r

  abbrev model_of : ℕ → Model
  model_of r = model_in S.type_row S.name_row r

  abbrev two_of_one_head : ℕ → ℕ → Bool
  two_of_one_head a b = not (eqb a b) && same_head (head_at S.type_row S.name_row a) (head_at S.type_row S.name_row b)

  abbrev at_odds : ℕ → ℕ → ℕ → Bool
  at_odds r a b = rivals S.type_row S.name_row S.types (model_of r) a b

  -- no two places of one declared type or content are rivals, of those pairs that are asked about
  unfoldable pub none_tied : (ℕ → ℕ → Bool) → Bool
  none_tied which = every (λ r. not (looked r) || all_places (λ a. all_places (λ b. not (which a b && at_odds r a b)) (model_of r)) (model_of r)) S.types

  pub not_tied : (which : ℕ → ℕ → Bool) → none_tied which ≡ true → (a b : ℕ) → which a b ≡ true → tied S a b ≡ false
  unfolding none_tied tied
  not_tied which h a b w = elim (either (tied S a b)) [
    | inl e ↦ absurd (clash (some_of (λ r. looked r && at_odds r a b) S.types e))
    | inr e ↦ e
  ]
    where
      clash : (r : ℕ) × (1 ≤ r) × (r ≤ S.types) × (looked r && at_odds r a b ≡ true) → ⊥
      clash x = elim (or_cases (not (looked x.0)) _ (every_at _ S.types h x.0 x.1 x.2)) [
        | inl n ↦ not_both {a = looked x.0} (and_left _ (at_odds x.0 a b) x.3) (not-true (looked x.0) n)
        | inr p ↦ (let o = and_right (looked x.0) _ x.3 in not_both {a = which a b && at_odds x.0 a b} (and_both (which a b) (at_odds x.0 a b) w o)
            (not-true (which a b && at_odds x.0 a b) (together_passes (λ c d. not (which c d && at_odds x.0 c d)) S.types (model_of x.0) a b p
            (and_right (two_of_one_head a b) (together S.types (model_of x.0) a b) o))))
      ]

  pub untied : none_tied (λ a b. true) ≡ true → Untied S
  untied h a b = not_tied (λ a b. true) h a b refl

  pub tie : (a b : ℕ) → tied S a b ≡ true → none_tied (λ c d. ltb c a) ≡ true → none_tied (λ c d. eqb c a && ltb d b) ≡ true → Tie S a b
  tie a b e l r = record {
    is = e;
    lowest = λ c d p. not_tied (λ c d. ltb c a) l c d (lt-ltb c a p);
    rival = λ d p. not_tied (λ c d. eqb c a && ltb d b) r a d (and_both (eqb a a) (ltb d b) (eq-eqb a a refl) (lt-ltb d b p));
  }
