-- No two places of one head: what lets `ties` make no set. It is read off one pass over the rows, with a flag for each head that was met.
use Rattle.std.specs.Prelude.{ℕ, zero, suc, ◌+◌, ◌≤◌, ◌<◌, ◌≡◌, refl, Bool, true, false, List, length, get_or, set, replicate}
use Rattle.std.proofs.Common.{sym, ◌∙◌, ap, length-set, get_or-set_same, get_or-set_other}
use Rattle.std.proofs.lemmas.Bool.{false≢true}
use Rattle.std.proofs.Math.Decide.{ℕ_discrete}
use native.Mathlib.Omega.{arith}
use Rattle.std.proofs.lemmas.List.{length-replicate}
use Rattle.meaning.specs.Tests.{in_table}
use Rattle.meaning.specs.Sheet.{script_of}
use Rattle.meaning.specs.Laws.Tests.{in_table_lem, table_low, table_high}
use Rattle.type_heads.specs.Heads.{head_number}

-- of the rows 1 to n no two places have one head
pub record ApartTo (s : List ℕ) (n : ℕ) : Type 0 where
  pub one : (a b : ℕ) → in_table n a ≡ true → in_table n b ≡ true → head_number s a ≡ head_number s b → head_number s a < 1026 → a ≡ b

abbrev pub Apart : List ℕ → Type 0
Apart s = ApartTo s (script_of s).types

pub record SaysApart (s : List ℕ) (r : Bool) : Type 0 where
  pub yes : r ≡ true → Apart s
  pub no : r ≡ false → Apart s → ⊥

-- after i rows without two of one head: the flags are those of their heads
pub record Seen (s : List ℕ) (seen : List Bool) (i : ℕ) : Type 0 where
  pub size : length seen ≡ 1026
  pub had : (h : ℕ) → get_or seen h false ≡ true → (a : ℕ) × (1 ≤ a) × (a ≤ i) × (head_number s a ≡ h)
  pub met : (a : ℕ) → 1 ≤ a → a ≤ i → head_number s a < 1026 → get_or seen (head_number s a) false ≡ true
  pub apart : ApartTo s i

pub seen_none : (s : List ℕ) → Seen s (replicate 1026 false) 0
seen_none s = record {
  size = length-replicate {A = Bool} 1026 false;
  had = λ h z. absurd (false≢true (sym (none 1026 h) ∙ z));
  met = λ a p q. absurd (omega arith);
  apart = record { one = λ a b p q. absurd (omega (arith, table_low 0 a p, table_high 0 a p)) };
}
  where
    none : (n h : ℕ) → get_or (replicate n false) h false ≡ false
    none zero h = refl
    none (suc n) zero = refl
    none (suc n) (suc h) = none n h

module _ {s : List ℕ} {seen : List Bool} {i : ℕ} (f : Seen s seen i) where
  -- one row more is apart from those before, if none of them has its head
  more : ((a : ℕ) → 1 ≤ a → a ≤ i → head_number s a ≡ head_number s (i + 1) → head_number s (i + 1) < 1026 → ⊥) → ApartTo s (i + 1)
  more n = record {
    one = λ a b p q z l. elim (ℕ_discrete a (i + 1)) [
      | yes x ↦ elim (ℕ_discrete b (i + 1)) [
        | yes y ↦ x ∙ sym y
        | no y ↦ absurd (n b (table_low (i + 1) b q) (omega (arith, table_high (i + 1) b q)) (sym z ∙ ap (head_number s) x) (rw (ap (head_number s) x) at l))
      ]
      | no x ↦ elim (ℕ_discrete b (i + 1)) [
        | yes y ↦ absurd (n a (table_low (i + 1) a p) (omega (arith, table_high (i + 1) a p)) (z ∙ ap (head_number s) y) (rw (z ∙ ap (head_number s) y) at l))
        | no y ↦ f.apart.one a b (in_table_lem i a (table_low (i + 1) a p) (omega (arith, table_high (i + 1) a p)))
            (in_table_lem i b (table_low (i + 1) b q) (omega (arith, table_high (i + 1) b q))) z l
      ]
    ];
  }

  module _ {h : ℕ} (e : h ≡ head_number s (i + 1)) where
    pub seen_skip : 1026 ≤ h → Seen s seen (i + 1)
    seen_skip n = record {
      size = f.size;
      had = λ k z. let x = f.had k z in (x.0, x.1, omega (arith, x.2), x.3);
      met = λ a p q l. elim (ℕ_discrete a (i + 1)) [ yes x ↦ absurd (omega (arith, e, n, ap (head_number s) x)) | no x ↦ f.met a p (omega arith) l ];
      apart = more (λ a p q z l. omega arith);
    }

    pub seen_more : h < 1026 → get_or seen h false ≡ false → Seen s (set seen h true) (i + 1)
    seen_more small new = record {
      size = length-set seen h true ∙ f.size;
      had = λ k z. elim (ℕ_discrete k h) [
        | yes x ↦ (i + 1, omega arith, omega arith, sym (x ∙ e))
        | no x ↦ let y = f.had k (sym (there k x) ∙ z) in (y.0, y.1, omega (arith, y.2), y.3)
      ];
      met = λ a p q l. elim (ℕ_discrete (head_number s a) h) [
        | yes x ↦ rw x here
        | no x ↦ there (head_number s a) x ∙ f.met a p (elim (ℕ_discrete a (i + 1)) [ yes y ↦ absurd (x (ap (head_number s) y ∙ sym e)) | no y ↦ omega arith ]) l
      ];
      apart = more (λ a p q z l. false≢true (sym new ∙ ap (λ k. get_or seen k false) (e ∙ sym z) ∙ f.met a p q (rw z l)));
    }
      where
        here : get_or (set seen h true) h false ≡ true
        here = get_or-set_same seen h true false (omega (arith, f.size, small))

        there : (k : ℕ) → (k ≡ h → ⊥) → get_or (set seen h true) k false ≡ get_or seen k false
        there k w = get_or-set_other seen h k true false w

    -- a head met before
    pub seen_twice : i < (script_of s).types → h < 1026 → get_or seen h false ≡ true → SaysApart s false
    seen_twice p small z = let y = f.had h z in record {
      yes = λ x. absurd (false≢true x);
      no = λ x A. omega (
        arith,
        y.2,
        A.one y.0 (i + 1)
            (in_table_lem _ y.0 y.1 (omega (arith, y.2))) (in_table_lem _ (i + 1) (omega arith) (omega arith)) (y.3 ∙ e) (rw y.3 small),
      );
    }
