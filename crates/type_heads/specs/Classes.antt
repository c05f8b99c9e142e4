-- The places of each head: `class` has for each head the lowest place with it, 0 where there is none, and that set of `same` holds them all; set 0 has no member.
use Rattle.std.specs.Prelude.{ℕ, ◌+◌, ◌≤◌, ◌<◌, ◌≡◌, refl, true, false, ◌&&◌, ◌||◌, List, ◌⊎◌, eqb, length, get_or, set, replicate}
use Rattle.std.proofs.Common.{sym, ◌∙◌, ap, inl, inr, arith, length-set, get_or-set_same, get_or-set_other, eq-eqb, ne_eqb}
use Rattle.std.proofs.Math.Decide.{ℕ_discrete}
use Rattle.std.proofs.lemmas.List.{length-replicate}
use Rattle.meaning.specs.Tests.{in_table}
use Rattle.meaning.specs.Sheet.{script_of}
use Rattle.meaning.specs.Shape.{shapely}
use Rattle.meaning.specs.Laws.Shaped.{few_types}
use Rattle.meaning.specs.Laws.Bools.{or_false, and_false, either, not_both}
use Rattle.meaning.specs.Laws.Tests.{in_table_lem, table_low, table_high}
use Rattle.bits.specs.Sets.{Clear, in_set, Added}
use Rattle.meaning.specs.Laws.Words.{zeros}
use Rattle.type_heads.specs.Heads.{head_number}

-- r is the lowest place of head h, which is i where there was none
pub record Led (old new : List ℕ) (h i r : ℕ) : Type 0 where
  pub new_one : get_or old h 0 ≡ 0 → (new ≡ set old h i) × (r ≡ i)
  pub old_one : (get_or old h 0 ≡ 0 → ⊥) → (new ≡ old) × (r ≡ get_or old h 0)

-- the rows 1 to i are in their classes
pub record Classed (s class same : List ℕ) (i : ℕ) : Type 0 where
  pub class_size : length class ≡ 1026
  pub same_size : length same ≡ 4617
  pub leader : (h : ℕ) → h < 1026 → get_or class h 0 ≤ i
  pub own : (h : ℕ) → h < 1026 → (get_or class h 0 ≡ 0 → ⊥) → head_number s (get_or class h 0) ≡ h
  pub none : (k : ℕ) → (k ≡ 0) ⊎ (i < k) → (b : ℕ) → b < 576 → in_set same k b ≡ false
  pub members : (h : ℕ) → h < 1026 → (b : ℕ) → b < 576 → in_set same (get_or class h 0) b ≡ in_table i b && eqb (head_number s b) h

-- all of them
pub record Classes (s class same : List ℕ) : Type 0 where
  pub leader : (h : ℕ) → h < 1026 → get_or class h 0 ≤ (script_of s).types
  pub members : (h : ℕ) → h < 1026 → (b : ℕ) → b < 576 → in_set same (get_or class h 0) b ≡ in_table (script_of s).types b && eqb (head_number s b) h
  pub none : (b : ℕ) → b < 576 → in_set same 0 b ≡ false

pub classed_none : (s same : List ℕ) → Clear same → Classed s (replicate 1026 0) same 0
classed_none s same c = record {
  class_size = length-replicate {A = ℕ} 1026 0;
  same_size = c.size;
  leader = λ h l. omega (arith, zeros 1026 h);
  own = λ h l n. absurd (n (zeros 1026 h));
  none = λ k p b l. c.none k b l;
  members = λ h l b q. c.none (get_or (replicate 1026 0) h 0) b q ∙ sym (nothing b (head_number s b) h);
}
  where
    nothing : (b x h : ℕ) → in_table 0 b && eqb x h ≡ false
    nothing b x h = elim (either (in_table 0 b)) [ inl z ↦ absurd (omega (arith, table_low 0 b z, table_high 0 b z)) | inr z ↦ rw z ]

-- ---- one row more

table_same : (i b : ℕ) → (b ≡ i + 1 → ⊥) → in_table (i + 1) b ≡ in_table i b
table_same i b d = elim (either (in_table i b)) [
  | inl z ↦ in_table_lem (i + 1) b (table_low i b z) (omega (arith, table_high i b z)) ∙ sym z
  | inr z ↦ elim (either (in_table (i + 1) b)) [
    | inl w ↦ absurd (not_both (in_table_lem i b (table_low (i + 1) b w) (omega (arith, table_high (i + 1) b w))) z)
    | inr w ↦ w ∙ sym z
  ]
]

table_last : (i : ℕ) → in_table (i + 1) (i + 1) ≡ true
table_last i = in_table_lem (i + 1) (i + 1) (omega arith) (omega arith)

table_past : (i : ℕ) → in_table i (i + 1) ≡ false
table_past i = elim (either (in_table i (i + 1))) [ inl z ↦ absurd (omega (arith, table_high i (i + 1) z)) | inr z ↦ z ]

module _ {s class same : List ℕ} {i : ℕ} (f : Classed s class same i) where
  -- a class that does not get the row
  other_class : (h b : ℕ) → (head_number s (i + 1) ≡ h → ⊥) → in_table i b && eqb (head_number s b) h ≡ in_table (i + 1) b && eqb (head_number s b) h
  other_class h b d = elim (ℕ_discrete b (i + 1)) [
    | yes z ↦ rw (z, ne_eqb (head_number s (i + 1)) h d, and_false (in_table i (i + 1)), and_false (in_table (i + 1) (i + 1)))
    | no z ↦ rw (table_same i b z)
  ]

  -- the class that does
  this_class : (b : ℕ) → (in_table i b && eqb (head_number s b) (head_number s (i + 1))) || eqb (i + 1) b ≡ in_table (i + 1) b && eqb (head_number s b) (head_number s (i + 1))
  this_class b = elim (ℕ_discrete b (i + 1)) [
    | yes z ↦ rw (z, eq-eqb (i + 1) (i + 1) refl, eq-eqb (head_number s (i + 1)) (head_number s (i + 1)) refl, table_last i, table_past i)
    | no z ↦ rw (ne_eqb (i + 1) b (λ w. z (sym w)), table_same i b z) (or_false (in_table i b && eqb (head_number s b) (head_number s (i + 1))))
  ]

  pub led_low : {h r : ℕ} {class' : List ℕ} → h < 1026 → Led class class' h (i + 1) r → r ≤ i + 1
  led_low {h} l d = elim (ℕ_discrete (get_or class h 0) 0) [
    | yes z ↦ omega (arith, (d.new_one z).1)
    | no z ↦ omega (arith, (d.old_one z).1, f.leader h l)
  ]

  pub classed_skip : 1026 ≤ head_number s (i + 1) → Classed s class same (i + 1)
  classed_skip n = record {
    class_size = f.class_size;
    same_size = f.same_size;
    leader = λ h l. omega (arith, f.leader h l);
    own = f.own;
    none = λ k p b l. f.none k (elim p [ inl z ↦ inl z | inr z ↦ inr (omega arith) ]) b l;
    members = λ h l b q. f.members h l b q ∙ other_class h b (λ z. omega arith);
  }

  pub classed_more : head_number s (i + 1) < 1026 → {class' same' : List ℕ} {r : ℕ} → Led class class' (head_number s (i + 1)) (i + 1) r → Added same same' r (i + 1) → Classed s class' same' (i + 1)
  classed_more small {class'} {same'} {r} d a = elim (ℕ_discrete (get_or class (head_number s (i + 1)) 0) 0) [
    | yes z ↦ first z (d.new_one z).0 (rw (d.new_one z).1 at a)
    | no z ↦ again z (d.old_one z).0 (rw (d.old_one z).1 at a)
  ]
    where
      H : ℕ
      H = head_number s (i + 1)

      -- no place had this head
      first : get_or class H 0 ≡ 0 → class' ≡ set class H (i + 1) → Added same same' (i + 1) (i + 1) → Classed s class' same' (i + 1)
      first z c a = rw c (record {
        class_size = length-set class H (i + 1) ∙ f.class_size;
        same_size = a.size ∙ f.same_size;
        leader = λ h l. elim (ℕ_discrete h H) [
          | yes w ↦ rw (w, here) (omega arith)
          | no w ↦ omega (arith, there h w, f.leader h l)
        ];
        own = λ h l n. elim (ℕ_discrete h H) [
          | yes w ↦ rw (w, here)
          | no w ↦ rw (there h w) (f.own h l (λ y. n (there h w ∙ y)))
        ];
        none = λ k p b l. a.others k b (λ w. elim p [ inl y ↦ omega arith | inr y ↦ omega arith ]) l ∙ f.none k (elim p [ inl y ↦ inl y | inr y ↦ inr (omega arith) ]) b l;
        members = λ h l b q. elim (ℕ_discrete h H) [
          | yes w ↦ rw (w, here) (a.into b q ∙ rw (f.none (i + 1) (inr (omega arith)) b q)
              (rw (sym (f.members H small b q) ∙ ap (λ k. in_set same k b) z ∙ f.none 0 (inl refl) b q) at (this_class b)))
          | no w ↦ rw (there h w) (a.others (get_or class h 0) b (λ y. omega (arith, f.leader h l)) q ∙ f.members h l b q ∙ other_class h b (λ y. w (sym y)))
        ];
      })
        where
          here : get_or (set class H (i + 1)) H 0 ≡ i + 1
          here = get_or-set_same class H (i + 1) 0 (omega (arith, f.class_size, small))

          there : (h : ℕ) → (h ≡ H → ⊥) → get_or (set class H (i + 1)) h 0 ≡ get_or class h 0
          there h w = get_or-set_other class H h (i + 1) 0 w

      -- another had
      again : (get_or class H 0 ≡ 0 → ⊥) → class' ≡ class → Added same same' (get_or class H 0) (i + 1) → Classed s class' same' (i + 1)
      again z c a = rw c (record {
        class_size = f.class_size;
        same_size = a.size ∙ f.same_size;
        leader = λ h l. omega (arith, f.leader h l);
        own = f.own;
        none = λ k p b l. a.others k b (λ w. elim p [ inl y ↦ z (sym w ∙ y) | inr y ↦ omega (arith, f.leader H small) ]) l ∙ f.none k (elim p [ inl y ↦ inl y | inr y ↦ inr (omega arith) ]) b l;
        members = λ h l b q. elim (ℕ_discrete h H) [
          | yes w ↦ rw w (a.into b q ∙ rw (f.members H small b q) (this_class b))
          | no w ↦ a.others (get_or class h 0) b (λ y. w (sym (f.own h l (λ x. z (sym y ∙ x))) ∙ ap (head_number s) y ∙ f.own H small z)) q ∙ f.members h l b q ∙ other_class h b (λ y. w (sym y))
        ];
      })

-- what one row more needs
pub ruleset one_more = (few_types, led_low, classed_more, classed_skip)

-- a leader is a row of types, so a set of a table has its number
pub classes_low : {s class same : List ℕ} → Classes s class same → shapely s ≡ true → (h : ℕ) → h < 1026 → get_or class h 0 ≤ 512
classes_low {s} C e h l = omega (arith, C.leader h l, few_types s e)
