-- The scope of sixteen places, and the forests of the places in use: the environment of a run, decoded at the rows as they are.
use Prim.Native.Nat.{ℕ, zero, suc, ◌+◌, ◌≤◌, ◌<◌}
use Rattle.std.proofs.Common.{arith, add-one, ◌∙◌, length-set, length-take-le, get_or-take, take-suc-set}
use Rattle.std.specs.Prelude.{◌≡◌, length, take, get_or, set}
use Rattle.std.proofs.Math.Path.{refl, sym, ap}
use mathlib.Core.List.{List, [], ◌∷◌, ◌++◌}
use Rattle.std.proofs.Math.ListN.{get_or-eq_default}
use Rattle.meaning.specs.Forest.{Forest, nil, forest_at}
use Rattle.meaning.specs.Laws.Rows.{LowRows, SameRows, forest_at_same, forest_at_zero}
use Rattle.meaning.specs.Theorems.ReadBack.{lent_row}
use Rattle.walk.specs.declared.Place.{Place}
use Rattle.walk.specs.declared.Scope.{Scope}

-- the places in use
abbrev pub live : Scope → List Place
live e = take e.count e.places

abbrev pub no_place : Place
no_place = record { kind = 0; value = 0 }

-- the row of variable v: of none, the empty forest's
abbrev pub value_of : Scope → ℕ → ℕ
value_of e v = (get_or (live e) v no_place).value

-- what stands at the rows of the places, forests of a run or types of a check
unfoldable pub values : {A : Type 0} → (ℕ → A) → List Place → List A
values at [] = []
values at (p ∷ l) = at p.value ∷ values at l

abbrev pub env_of : (ℕ → ℕ) → List ℕ → Scope → List Forest
env_of byte rows e = values (forest_at byte (lent_row rows)) (live e)

-- each place holds a row of the first n
unfoldable pub Within : ℕ → List Place → Type 0
Within n [] = Unit {0}
Within n (p ∷ l) = (p.value ≤ n) × Within n l

-- a scope whose places hold rows of the first n
pub record Scoped (n : ℕ) (e : Scope) : Type 0 where
  pub sixteen : length e.places ≡ 16
  pub few : e.count ≤ 16
  pub within : Within n (live e)

-- no place is in use
pub record Fresh (e : Scope) : Type 0 where
  pub sixteen : length e.places ≡ 16
  pub none : e.count ≡ 0

-- one place more
pub record More (e e' : Scope) (kind value : ℕ) : Type 0 where
  pub live : live e' ≡ live e ++ record { kind = kind; value = value } ∷ []
  pub count : e'.count ≡ e.count + 1
  pub sixteen : length e'.places ≡ 16

within_more : (n m : ℕ) (l : List Place) → n ≤ m → Within n l → Within m l
unfolding Within
within_more n m [] h w = tt
within_more n m (p ∷ l) h w = (omega (arith, w.0), within_more n m l h w.1)

within_last : (n : ℕ) (l : List Place) (p : Place) → p.value ≤ n → Within n l → Within n (l ++ p ∷ [])
unfolding Within
within_last n [] p h w = (h, tt)
within_last n (o ∷ l) p h w = (w.0, within_last n l p h w.1)

within_at : (n : ℕ) (l : List Place) (v : ℕ) → Within n l → (get_or l v no_place).value ≤ n
unfolding Within
within_at n [] v w = omega arith
within_at n (p ∷ l) zero w = w.0
within_at n (p ∷ l) (suc v) w = within_at n l v w.1

-- a wider bound
pub scoped_more : {n : ℕ} {e : Scope} (m : ℕ) → n ≤ m → Scoped n e → Scoped m e
scoped_more {n} {e} m h s = record { sixteen = s.sixteen; few = s.few; within = within_more n m (live e) h s.within }

-- the scope with a place more
pub scoped_with : {n k v : ℕ} {e e' : Scope} → Scoped n e → e.count < 16 → v ≤ n → More e e' k v → Scoped n e'
scoped_with {n} {k} {v} {e} {e'} s h i m = record {
  sixteen = m.sixteen;
  few = omega (arith, m.count);
  within =
      rw m.live (within_last n (live e) (record { kind = k; value = v }) i s.within);
}

pub scoped_fresh : {e : Scope} (n : ℕ) → Fresh e → Scoped n e
unfolding Within
scoped_fresh {e} n f = record { sixteen = f.sixteen; few = omega (arith, f.none); within = rw f.none tt }

pub value_within : {n : ℕ} {e : Scope} (v : ℕ) → Scoped n e → value_of e v ≤ n
value_within {n} {e} v s = within_at n (live e) v s.within

module _ {A : Type 0} (at : ℕ → A) where
  pub values_same : (at' : ℕ → A) (n : ℕ) (l : List Place) → ((v : ℕ) → v ≤ n → at' v ≡ at v) → Within n l → values at' l ≡ values at l
  unfolding Within values
  values_same at' n [] h w = refl
  values_same at' n (p ∷ l) h w = rw (values_same at' n l h w.1, h p.value w.0)

  pub values_last : (l : List Place) (p : Place) → values at (l ++ p ∷ []) ≡ values at l ++ at p.value ∷ []
  unfolding values
  values_last [] p = refl
  values_last (o ∷ l) p = ap (λ (x : List A). at o.value ∷ x) (values_last l p)

  values_length : (l : List Place) → length (values at l) ≡ length l
  unfolding values
  values_length [] = refl
  values_length (p ∷ l) = ap suc (values_length l)

  pub values_at : (none : A) → at 0 ≡ none → (l : List Place) (v : ℕ) → get_or (values at l) v none ≡ at (get_or l v no_place).value
  unfolding values
  values_at none z [] v = sym z
  values_at none z (p ∷ l) zero = refl
  values_at none z (p ∷ l) (suc v) = values_at none z l v

module _ (byte : ℕ → ℕ) where
  -- rows that agree below keep the environment
  pub env_same : {n : ℕ} {e : Scope} (s t : List ℕ) → LowRows (lent_row s) n → SameRows (lent_row s) (lent_row t) n → Scoped n e → env_of byte t e ≡ env_of byte s e
  env_same {n} {e} s t low same c =
      values_same (forest_at byte (lent_row s)) (forest_at byte (lent_row t)) n (live e)
      (λ v h. sym (forest_at_same byte (lent_row s) (lent_row t) v (λ r i j. low r i (omega arith)) (λ r i j. same r i (omega arith)))) c.within

  pub env_with : {e e' : Scope} {k v : ℕ} (s : List ℕ) → More e e' k v → env_of byte s e' ≡ env_of byte s e ++ forest_at byte (lent_row s) v ∷ []
  env_with {e} {e'} {k} {v} s m = rw m.live (values_last (forest_at byte (lent_row s)) (live e) (record { kind = k; value = v }))

  pub env_fresh : {e : Scope} (s : List ℕ) → Fresh e → env_of byte s e ≡ []
  unfolding values
  env_fresh {e} s f = rw f.none

  pub env_length : {n : ℕ} {e : Scope} (s : List ℕ) → Scoped n e → length (env_of byte s e) ≡ e.count
  env_length {n} {e} s c = values_length (forest_at byte (lent_row s)) (live e) ∙ length-take-le e.count e.places (omega (arith, c.few, c.sixteen))

  -- the value of a variable
  pub env_at : (s : List ℕ) (e : Scope) (v : ℕ) → get_or (env_of byte s e) v nil ≡ forest_at byte (lent_row s) (value_of e v)
  env_at s e v = values_at (forest_at byte (lent_row s)) nil (forest_at_zero byte (lent_row s)) (live e) v

-- the array after a store
pub more_of : {e : Scope} (k v : ℕ) → e.count < 16 → length e.places ≡ 16 → More e (record { places = set e.places e.count (record { kind = k; value = v }); count = e.count + 1 }) k v
more_of {e} k v h f = record {
  live = rw add-one (take-suc-set e.places e.count (record { kind = k; value = v }) (omega arith));
  count = refl;
  sixteen =
      length-set e.places e.count (record { kind = k; value = v }) ∙ f;
}

-- a variable past the places in use, and one in use
pub value_none : (e : Scope) (v : ℕ) → e.count ≤ 16 → length e.places ≡ 16 → e.count ≤ v → 0 ≡ value_of e v
value_none e v few full h = sym (ap (λ (p : Place). p.value) (get_or-eq_default (live e) no_place {n = v} (omega (arith, length-take-le e.count e.places (omega arith)))))

pub value_some : (e : Scope) (v : ℕ) → v < e.count → (get_or e.places v no_place).value ≡ value_of e v
value_some e v h = sym (ap (λ (p : Place). p.value) (get_or-take e.count e.places v no_place h))
