-- A text added to a buffer: it stands behind the first `at` bytes, which stay, and `end` is where it ends.
use Rattle.std.specs.Prelude.{ℕ, zero, suc, ◌+◌, ◌-◌, ◌*◌, ◌/◌, ◌%◌, ◌≤◌, ◌<◌, ◌≡◌, refl, Bool, true, false, List, [], ◌∷◌, ◌++◌, ltb, length, take, set, get_or}
use Rattle.std.proofs.Common.{sym, ap, ◌∙◌, subst, append_assoc, add-one, arith, lt-ltb, le-ltb, length-set, length-append, take-suc-set, take-suc}
use Rattle.meaning.specs.Limits.{row_words}
use Rattle.meaning.specs.Words.{word_at}
use Rattle.meaning.specs.Listing.{digits, fields, row_lines}

pub record Adds (text old : List ℕ) (at : ℕ) (new : List ℕ) (end : ℕ) : Type 0 where
  pub ends : end ≡ at + length text
  pub says : take end new ≡ take at old ++ text
  pub long : length new ≡ length old

append_none : (l : List ℕ) → l ++ [] ≡ l
append_none [] = refl
append_none (x ∷ l) = ap (λ m. x ∷ m) (append_none l)

pub adds_none : (old : List ℕ) (at : ℕ) → Adds [] old at old at
adds_none old at = record { ends = omega arith; says = sym (append_none (take at old)); long = refl }

pub adds_byte : (old : List ℕ) (at byte : ℕ) → at < length old → Adds (byte ∷ []) old at (set old at byte) (at + 1)
adds_byte old at byte h = record { ends = refl; says = rw add-one (take-suc-set old at byte h); long = length-set old at byte }

pub adds_then : {s t old mid new : List ℕ} {at m end : ℕ} → Adds s old at mid m → Adds t mid m new end → Adds (s ++ t) old at new end
adds_then {s} {t} {old} {mid} {new} {at} {m} {end} a b = record {
  ends = let n = length-append s t in let e = a.ends in let f = b.ends in omega arith;
  says = b.says ∙ ap (λ (l : List ℕ). l ++ t) a.says ∙ append_assoc (take at old) s t;
  long = b.long ∙ a.long;
}

pub adds_as : {s t old new : List ℕ} {at end : ℕ} → s ≡ t → Adds s old at new end → Adds t old at new end
adds_as e a = rw e at a

-- ---- numbers

pub digits_short : (k n : ℕ) → n < 10 → digits k n ≡ (48 + n % 10) ∷ []
unfolding digits
digits_short zero n h = refl
digits_short (suc k) n h = rw (lt-ltb n 10 h, digits) (ap (λ (m : ℕ). (48 + m) ∷ []) (omega arith))

pub digits_last : (n : ℕ) → digits 0 n ≡ (48 + n % 10) ∷ []
unfolding digits
digits_last n = refl

pub digits_more : (k n : ℕ) → 10 ≤ n → digits (suc k) n ≡ digits k (n / 10) ++ (48 + n % 10) ∷ []
unfolding digits
digits_more k n h = rw (le-ltb n 10 h, digits) refl

pub few_digits : (k n : ℕ) → length (digits k n) ≤ suc k
unfolding digits
few_digits zero n = omega arith
few_digits (suc k) n = go (few_digits k (n / 10)) (ltb n 10)
  where
    go : length (digits k (n / 10)) ≤ suc k → (b : Bool) → length {A = ℕ} (elim b as (λ _. List ℕ) [ true ↦ (48 + n) ∷ [] | false ↦ digits k (n / 10) ++ (48 + n % 10) ∷ [] ]) ≤ suc (suc k)
    go f true = omega arith
    go f false = let e = length-append (digits k (n / 10)) ((48 + n % 10) ∷ []) in omega arith

-- ---- lines

pub fields_none : fields [] ≡ 10 ∷ []
unfolding fields
fields_none = refl

pub fields_more : (n : ℕ) (l : List ℕ) → fields (n ∷ l) ≡ (32 ∷ digits 8 n) ++ fields l
unfolding fields
fields_more n l = refl

-- the numbers alone
unfoldable pub spaced : List ℕ → List ℕ
spaced [] = []
spaced (n ∷ l) = (32 ∷ digits 8 n) ++ spaced l

pub fields_spaced : (l : List ℕ) → fields l ≡ spaced l ++ 10 ∷ []
unfolding fields spaced
fields_spaced [] = refl
fields_spaced (n ∷ l) = ap (λ (m : List ℕ). (32 ∷ digits 8 n) ++ m) (fields_spaced l) ∙ sym (append_assoc (32 ∷ digits 8 n) (spaced l) (10 ∷ []))

pub spaced_none : spaced [] ≡ []
unfolding spaced
spaced_none = refl

pub spaced_last : (l : List ℕ) (n : ℕ) → spaced (l ++ n ∷ []) ≡ spaced l ++ 32 ∷ digits 8 n
unfolding spaced
spaced_last [] n = append_none (32 ∷ digits 8 n)
spaced_last (x ∷ l) n = ap (λ (m : List ℕ). (32 ∷ digits 8 x) ++ m) (spaced_last l n) ∙ sym (append_assoc (32 ∷ digits 8 x) (spaced l) (32 ∷ digits 8 n))

-- the line of row n + 1
unfoldable pub row_line : List ℕ → ℕ → List ℕ
row_line b n = digits 8 (suc n)
    ++ fields (word_at b (row_words * n) ∷ word_at b (row_words * n + 1) ∷ word_at b (row_words * n + 2) ∷ word_at b (row_words * n + 3) ∷ [])

pub row_lines_none : (b : List ℕ) → row_lines b 0 ≡ []
unfolding row_lines
row_lines_none b = refl

pub row_lines_more : (b : List ℕ) (n : ℕ) → row_lines b (n + 1) ≡ row_lines b n ++ row_line b n
unfolding row_lines row_line
row_lines_more b n = rw add-one (append_assoc (row_lines b n) _ _)

-- ---- a number's digits, as the code puts them

module _ {old new : List ℕ} {at end : ℕ} (k n d : ℕ) (is : d ≡ 48 + n % 10) where
  pub adds_last : k ≡ 0 → Adds (d ∷ []) old at new end → Adds (digits k n) old at new end
  adds_last e a = rw e (rw (digits_last n) (rw is at a))

  pub adds_short : n < 10 → Adds (d ∷ []) old at new end → Adds (digits k n) old at new end
  adds_short h a = rw (digits_short k n h) (rw is at a)

  pub adds_more : {mid : List ℕ} {m : ℕ} → 0 < k → 10 ≤ n → Adds (digits (k - 1) (n / 10)) old at mid m → Adds (d ∷ []) mid m new end → Adds (digits k n) old at new end
  adds_more p h a b =
      let e : suc (k - 1) ≡ k = omega (arith, add-one (k - 1)) in
      let t : digits (k - 1) (n / 10) ++ d ∷ [] ≡ digits k n = ap (λ (x : ℕ). digits (k - 1) (n / 10) ++ x ∷ []) is ∙ sym (digits_more (k - 1) n h) ∙ ap (λ (j : ℕ). digits j n) e in
      adds_as t (adds_then a b)

-- one number more
pub adds_field : (ns : List ℕ) {old mid new : List ℕ} {at i m end : ℕ} → i < length ns → Adds (spaced (take i ns)) old at mid m → Adds (32 ∷ digits 8 (get_or ns i 0)) mid m new end
    → Adds (spaced (take (i + 1) ns)) old at new end
adds_field ns {i = i} h a b = adds_as (sym (spaced_last (take i ns) (get_or ns i 0)) ∙ ap spaced (rw add-one (sym (take-suc ns i 0 h)))) (adds_then a b)

-- a row's line, as the code puts it
pub adds_row : (b : List ℕ) (n : ℕ) {kind p q next i : ℕ} {old mid new : List ℕ} {at m end : ℕ} → i ≡ 4 * n
    → kind ≡ word_at b i → p ≡ word_at b (i + 1) → q ≡ word_at b (i + 2) → next ≡ word_at b (i + 3)
    → Adds (digits 8 (n + 1)) old at mid m → Adds (fields (kind ∷ p ∷ q ∷ next ∷ [])) mid m new end → Adds (row_line b n) old at new end
unfolding row_line
adds_row b n ei ek ep eq en x y = adds_then (rw add-one at x) (rw (ek, ep, eq, en, ei) at y)
