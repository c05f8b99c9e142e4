-- A scope's word: its length, what each place holds, and one place more, digit by digit.
use Rattle.std.specs.Prelude.{◌≡◌, refl, [], ◌∷◌, ◌++◌, true, ◌&&◌, ℕ, zero, suc, ◌+◌, ◌*◌, ◌/◌, ◌%◌, ◌^◌, ◌≤◌, ◌<◌, eqb, get_or, length}
use Rattle.std.proofs.Common.{sym, ◌∙◌, inl, inr, not-suc-le-zero, le_of_suc-le-suc, eq-or-lt_of_le, pow-suc, arith, pow_pos, length-append, get_or-append-add}
use Rattle.std.proofs.Math.Path.{ap}
use borrow.Author.Tests.{ltb-true, lt-ltb, eq-eqb, ne_eqb}
use Rattle.std.proofs.Math.Arith.{lt-one}
use Rattle.std.proofs.Math.ListN.{get_or-append}
use Rattle.meaning.specs.Shape.{has_place, Scope, a_forest, a_tree, in_scope, holds_tree, parameters_scope}
use Rattle.meaning.specs.Kinds.{present}
use Rattle.bits.specs.Digits.{bit, bit_lt, bit_low, bit_suc, bit_past}
use Rattle.shape_scope.specs.Scopes.{holding, places, scope_of, Neat, with_forest, with_tree}

-- ---- digits of t + 2 ^ n, where t is below 2 ^ n

top_digit : (n t : ℕ) → t < 2 ^ n → bit (t + 2 ^ n) n ≡ 1
top_digit zero t h = let z = lt-one h in rw z
top_digit (suc n) t h =
    let r = top_digit n (t / 2) (omega (arith, pow-suc 2 n)) in
    let e : (t + 2 ^ suc n) / 2 ≡ t / 2 + 2 ^ n = omega (arith, pow-suc 2 n) in
    bit_suc (t + 2 ^ suc n) n ∙ ap (λ (y : ℕ). bit y n) e ∙ r

low_digit : (n t v : ℕ) → v < n → bit (t + 2 ^ n) v ≡ bit t v
low_digit zero t v l = absurd (not-suc-le-zero l)
low_digit (suc n) t zero l = bit_low (t + 2 ^ suc n) ∙ omega (arith, pow-suc 2 n) ∙ sym (bit_low t)
low_digit (suc n) t (suc v) l =
    let e : (t + 2 ^ suc n) / 2 ≡ t / 2 + 2 ^ n = omega (arith, pow-suc 2 n) in
    bit_suc (t + 2 ^ suc n) v ∙ ap (λ (y : ℕ). bit y v) e ∙ low_digit n (t / 2) v (le_of_suc-le-suc l) ∙ sym (bit_suc t v)

-- ---- the places

places_length : (n t : ℕ) → length (places n t) ≡ n
unfolding places
places_length zero t = refl
places_length (suc n) t = length-append (places n t) (holding (bit t n) ∷ []) ∙ omega (arith, places_length n t)

places_same : (n t u : ℕ) → ((v : ℕ) → v < n → bit t v ≡ bit u v) → places n t ≡ places n u
unfolding places
places_same zero t u h = refl
places_same (suc n) t u h = rw (places_same n t u (λ v l. h v (omega arith)), h n (omega arith))

end_at : (n t : ℕ) → n ≡ length (places n t) + 0
end_at n t = omega (arith, places_length n t)

places_at : (n t v : ℕ) → v < n → get_or (places n t) v a_forest ≡ holding (bit t v)
unfolding places
places_at zero t v l = absurd (not-suc-le-zero l)
places_at (suc n) t v l = elim (eq-or-lt_of_le (le_of_suc-le-suc l)) [
  | inl e ↦ rw e (ap (λ (i : ℕ). get_or (places n t ++ holding (bit t n) ∷ []) i a_forest) (end_at n t) ∙ get_or-append-add (places n t) (holding (bit t n) ∷ []) 0 a_forest)
  | inr q ↦ (get_or-append (places n t) (holding (bit t n) ∷ []) a_forest v (omega (arith, places_length n t)) ∙ places_at n t v q)
]

pub count_is : (x : ℕ) → length (scope_of x) ≡ x % 32
unfolding scope_of
count_is x = places_length (x % 32) (x / 32)

tree_digit : (d : ℕ) → d < 2 → holds_tree (holding d) ≡ eqb d 1
unfolding holds_tree holding
tree_digit zero h = refl
tree_digit (suc zero) h = refl
tree_digit (suc (suc d)) h = absurd (omega arith)

-- a place holds a tree where its digit is 1
pub tree_at_lem : (x v : ℕ) → v < x % 32 → holds_tree (get_or (scope_of x) v a_forest) ≡ eqb (bit (x / 32) v) 1
unfolding scope_of
tree_at_lem x v l = ap holds_tree (places_at (x % 32) (x / 32) v l) ∙ tree_digit (bit (x / 32) v) (bit_lt (x / 32) v)

-- ---- one place more

pub room : (x : ℕ) → has_place (scope_of x) ≡ true → x % 32 < 16
room x e = omega (arith, ltb-true (length (scope_of x)) 16 e, count_is x)

next_place : (x y n t : ℕ) → y % 32 ≡ suc n → y / 32 ≡ t → scope_of y ≡ places n t ++ holding (bit t n) ∷ []
unfolding scope_of places
next_place x y n t e f = rw (e, f)

pub forest_more : (x : ℕ) → Neat x → x % 32 < 16 → scope_of (x + 1) ≡ with_forest (scope_of x)
unfolding scope_of holding
forest_more x h l =
    let e : (x + 1) % 32 ≡ suc (x % 32) = omega arith in
    let f : (x + 1) / 32 ≡ x / 32 = omega arith in
    next_place x (x + 1) (x % 32) (x / 32) e f ∙ ap (λ d. places (x % 32) (x / 32) ++ holding d ∷ []) (bit_past (x % 32) (x / 32) (x % 32) h.clean (omega arith))

pub forest_neat : (x : ℕ) → Neat x → x % 32 < 16 → Neat (x + 1)
forest_neat x h l =
    let e : (x + 1) % 32 ≡ suc (x % 32) = omega arith in
    record { few = omega arith; clean = rw e (omega (arith, pow-suc 2 (x % 32), h.clean)) }

module _ (x y : ℕ) (h : Neat x) (l : x % 32 < 16) (e : y ≡ x + 1 + 32 * 2 ^ (x % 32)) where
  tree_count : y % 32 ≡ suc (x % 32)
  tree_count = omega arith

  tree_rest : y / 32 ≡ x / 32 + 2 ^ (x % 32)
  tree_rest = omega arith

  pub tree_more : scope_of y ≡ with_tree (scope_of x)
  unfolding scope_of holding
  tree_more =
      next_place x y (x % 32) (x / 32 + 2 ^ (x % 32)) tree_count tree_rest
      ∙ ap (λ d. places (x % 32) (x / 32 + 2 ^ (x % 32)) ++ holding d ∷ []) (top_digit (x % 32) (x / 32) h.clean)
      ∙ ap (λ (Γ : Scope). Γ ++ a_tree ∷ []) (places_same (x % 32) (x / 32 + 2 ^ (x % 32)) (x / 32) (λ v q. low_digit (x % 32) (x / 32) v q))

  pub tree_neat : Neat y
  tree_neat = record { few = omega (arith, tree_count); clean = rw (tree_count, tree_rest) (omega (arith, pow-suc 2 (x % 32), h.clean)) }

pub neat_small : (x : ℕ) → x ≤ 16 → Neat x
neat_small x l = let z : x / 32 ≡ 0 = omega arith in record { few = omega arith; clean = rw z (pow_pos (x % 32)) }

-- ---- the tests of the code

pub seen_tree : (x v : ℕ) → v < x % 32 → eqb (x / 32 / 2 ^ v % 2) 1 ≡ in_scope (scope_of x) v && holds_tree (get_or (scope_of x) v a_forest)
seen_tree x v l = sym (rw (count_is x, lt-ltb v (x % 32) l, tree_at_lem x v l))

module _ (first second : ℕ) where
  pub none_first : first ≡ 0 → scope_of 0 ≡ parameters_scope (present first second)
  unfolding scope_of places parameters_scope
  none_first e = rw (eq-eqb first 0 e)

  pub none_second : (first ≡ 0 → ⊥) → second ≡ 0 → scope_of 1 ≡ parameters_scope (present first second)
  unfolding scope_of places holding parameters_scope
  none_second d e = rw (ne_eqb first 0 d, eq-eqb second 0 e)

  pub two_parameters : (first ≡ 0 → ⊥) → (second ≡ 0 → ⊥) → scope_of 2 ≡ parameters_scope (present first second)
  unfolding scope_of places holding parameters_scope
  two_parameters d e = rw (ne_eqb first 0 d, ne_eqb second 0 e)
