-- The head of a place by number: a label, 1024 text, 1025 bool, and 1026 for what is no place. Two places have one head exactly if they have one number.
use Rattle.std.specs.Prelude.{ℕ, zero, suc, ◌≤◌, ◌<◌, ◌≡◌, refl, true, cond, List, [], ◌∷◌, eqb, get_or}
use Rattle.std.proofs.Common.{sym, ◌∙◌, ap, inl, arith, ne_eqb}
use Rattle.std.proofs.Math.Logic.{inr}
use Rattle.std.proofs.Math.Decide.{ℕ_discrete}
use Rattle.meaning.specs.Tests.{in_table}
use Rattle.meaning.specs.Sheet.{Cells, script_of}
use Rattle.meaning.specs.Kinds.{TypeRow, type_form}
use Rattle.meaning.specs.Shape.{shapely}
use Rattle.meaning.specs.Places.{acting, head_of, head_at, same_head}
use Rattle.meaning.specs.Laws.Shaped.{kind_in, label_row}
use Rattle.meaning.specs.Laws.Tests.{in_table_lem, table_high}
use Rattle.meaning.specs.Laws.Apart.{PlaceKind, shaped_labelled}
use Rattle.sheet.specs.declared.forms.Ty.{Ty}
use Rattle.sheet.specs.Forms.{type_said}

abbrev pub head_no : Cells → ℕ
head_no c = get_or (1026 ∷ 1026 ∷ 1024 ∷ 1025 ∷ c.p ∷ []) c.kind 1026

-- the same, of what the row says
abbrev head_by : TypeRow → ℕ
head_by TypeRow.none = 1026
head_by TypeRow.empty = 1026
head_by TypeRow.text = 1024
head_by TypeRow.bool = 1025
head_by (TypeRow.label l q) = l
head_by (TypeRow.seq p q) = 1026
head_by (TypeRow.choice p q) = 1026
head_by (TypeRow.star p) = 1026
head_by (TypeRow.name x) = 1026

pub head_said : (t : Ty) (c : Cells) → type_said t ≡ type_form c → head_by (type_said t) ≡ head_no c
head_said t c e = ap head_by e ∙ go c.kind
  where
    go : (k : ℕ) → head_by (type_form (record { kind = k; p = c.p; q = c.q; r = c.r })) ≡ head_no (record { kind = k; p = c.p; q = c.q; r = c.r })
    go zero = refl
    go (suc zero) = refl
    go (suc (suc zero)) = refl
    go (suc (suc (suc zero))) = refl
    go (suc (suc (suc (suc zero)))) = refl
    go (suc (suc (suc (suc (suc zero))))) = refl
    go (suc (suc (suc (suc (suc (suc zero)))))) = refl
    go (suc (suc (suc (suc (suc (suc (suc zero))))))) = refl
    go (suc (suc (suc (suc (suc (suc (suc (suc zero)))))))) = refl
    go (suc (suc (suc (suc (suc (suc (suc (suc (suc k))))))))) = refl

-- the row that an atom's row stands for: a name's label row, and else itself
abbrev pub stands_for : List ℕ → Cells → Cells
stands_for s c = cond (eqb c.kind 8) ((script_of s).type_row ((script_of s).name_row c.p)) c

-- the same, of what the row says
abbrev stands_by : List ℕ → Cells → TypeRow → Cells
stands_by s c TypeRow.none = c
stands_by s c TypeRow.empty = c
stands_by s c TypeRow.text = c
stands_by s c TypeRow.bool = c
stands_by s c (TypeRow.label l q) = c
stands_by s c (TypeRow.seq p q) = c
stands_by s c (TypeRow.choice p q) = c
stands_by s c (TypeRow.star p) = c
stands_by s c (TypeRow.name x) = (script_of s).type_row ((script_of s).name_row x)

pub stands_said : (s : List ℕ) (t : Ty) (c : Cells) → type_said t ≡ type_form c → stands_by s c (type_said t) ≡ stands_for s c
stands_said s t c e = ap (stands_by s c) e ∙ go c.kind
  where
    go : (k : ℕ) → stands_by s c (type_form (record { kind = k; p = c.p; q = c.q; r = c.r })) ≡ cond (eqb k 8) ((script_of s).type_row ((script_of s).name_row c.p)) c
    go zero = refl
    go (suc zero) = refl
    go (suc (suc zero)) = refl
    go (suc (suc (suc zero))) = refl
    go (suc (suc (suc (suc zero)))) = refl
    go (suc (suc (suc (suc (suc zero))))) = refl
    go (suc (suc (suc (suc (suc (suc zero)))))) = refl
    go (suc (suc (suc (suc (suc (suc (suc zero))))))) = refl
    go (suc (suc (suc (suc (suc (suc (suc (suc zero)))))))) = refl
    go (suc (suc (suc (suc (suc (suc (suc (suc (suc k))))))))) = rw (ne_eqb (suc (suc (suc (suc (suc (suc (suc (suc (suc k))))))))) 8 (λ z. omega arith))

pub named_for : (s : List ℕ) (c : Cells) → c.kind ≡ 8 → (script_of s).type_row ((script_of s).name_row c.p) ≡ stands_for s c
named_for s c k = rw k

pub itself_for : (s : List ℕ) (c : Cells) → (c.kind ≡ 8 → ⊥) → c ≡ stands_for s c
itself_for s c k = rw (ne_eqb c.kind 8 k)

-- the row that a place of the sheet acts as
abbrev pub acting_at : List ℕ → ℕ → Cells
acting_at s a = acting (script_of s).type_row (script_of s).name_row a

unfoldable pub head_number : List ℕ → ℕ → ℕ
head_number s a = head_no (acting_at s a)

pub head_number_lem : (s : List ℕ) (a : ℕ) (c : Cells) → c ≡ acting_at s a → head_no c ≡ head_number s a
unfolding head_number
head_number_lem s a c r = ap head_no r

-- what a place acts as, n the number of type rows: text, bool, or a label with a content
pub data Acts (n : ℕ) (c : Cells) : Type 0 where
  acts_text : c.kind ≡ 2 → Acts n c
  acts_bool : c.kind ≡ 3 → Acts n c
  acts_label : c.kind ≡ 4 → c.p ≤ 1023 → in_table n c.q ≡ true → Acts n c

module _ (s : List ℕ) (e : shapely s ≡ true) where
  itself : (a k : ℕ) → ((script_of s).type_row a).kind ≡ k → (k ≡ 8 → ⊥) → (script_of s).type_row a ≡ acting_at s a
  itself a k z n = itself_for s ((script_of s).type_row a) (λ w. n (sym z ∙ w))

  label_acts : (i : ℕ) → ((script_of s).type_row i).kind ≡ 4 → Acts (script_of s).types ((script_of s).type_row i)
  label_acts i k =
      let x = label_row s e i k in
      acts_label k x.0 (in_table_lem (script_of s).types ((script_of s).type_row i).q x.1.low (omega (arith, x.1.lower, table_high (script_of s).types i (kind_in s i 3 k))))

  pub acts_as : (a : ℕ) → PlaceKind ((script_of s).type_row a).kind → Acts (script_of s).types (acting_at s a)
  acts_as a (inl k) = rw (← itself a 2 k (λ w. omega arith)) (acts_text k)
  acts_as a (inr (inl k)) = rw (← itself a 3 k (λ w. omega arith)) (acts_bool k)
  acts_as a (inr (inr (inl k))) = rw (← itself a 4 k (λ w. omega arith)) (label_acts a k)
  acts_as a (inr (inr (inr k))) = rw (← named_for s ((script_of s).type_row a) k) (label_acts ((script_of s).name_row ((script_of s).type_row a).p) (shaped_labelled s e a k))

  small : {n : ℕ} {c : Cells} → Acts n c → head_no c < 1026
  small (acts_text k) = rw k (omega arith)
  small (acts_bool k) = rw k (omega arith)
  small (acts_label k l h) = rw k (omega arith)

  one_head : {n : ℕ} {c d : Cells} → Acts n c → Acts n d → same_head (head_of c) (head_of d) ≡ eqb (head_no c) (head_no d)
  unfolding same_head
  one_head (acts_text k) (acts_text z) = rw (k, z)
  one_head (acts_text k) (acts_bool z) = rw (k, z)
  one_head {c = c} {d = d} (acts_text k) (acts_label z l h) = rw (k, z) (sym (ne_eqb 1024 d.p (λ w. omega arith)))
  one_head (acts_bool k) (acts_text z) = rw (k, z)
  one_head (acts_bool k) (acts_bool z) = rw (k, z)
  one_head {c = c} {d = d} (acts_bool k) (acts_label z l h) = rw (k, z) (sym (ne_eqb 1025 d.p (λ w. omega arith)))
  one_head {c = c} {d = d} (acts_label k l h) (acts_text z) = rw (k, z) (sym (ne_eqb c.p 1024 (λ w. omega arith)))
  one_head {c = c} {d = d} (acts_label k l h) (acts_bool z) = rw (k, z) (sym (ne_eqb c.p 1025 (λ w. omega arith)))
  one_head (acts_label k l h) (acts_label z m i) = rw (k, z)

  pub place_head : (a : ℕ) → PlaceKind ((script_of s).type_row a).kind → head_number s a < 1026
  unfolding head_number
  place_head a p = small (acts_as a p)

  pub heads_same : (a b : ℕ) → PlaceKind ((script_of s).type_row a).kind → PlaceKind ((script_of s).type_row b).kind
      → same_head (head_at (script_of s).type_row (script_of s).name_row a) (head_at (script_of s).type_row (script_of s).name_row b) ≡ eqb (head_number s a) (head_number s b)
  unfolding head_number
  heads_same a b p q = one_head (acts_as a p) (acts_as b q)

  -- what has a head is a place
  headed : (c : Cells) → head_no c < 1026 → PlaceKind c.kind
  headed c h = go c.kind h
    where
      go : (k : ℕ) → get_or (1026 ∷ 1026 ∷ 1024 ∷ 1025 ∷ c.p ∷ []) k 1026 < 1026 → PlaceKind k
      go zero h = absurd (omega arith)
      go (suc zero) h = absurd (omega arith)
      go (suc (suc zero)) h = inl refl
      go (suc (suc (suc zero))) h = inr (inl refl)
      go (suc (suc (suc (suc zero)))) h = inr (inr (inl refl))
      go (suc (suc (suc (suc (suc k))))) h = absurd (omega arith)

  pub head_place : (a : ℕ) → head_number s a < 1026 → PlaceKind ((script_of s).type_row a).kind
  unfolding head_number
  head_place a h = elim (ℕ_discrete ((script_of s).type_row a).kind 8) [
    | yes k ↦ inr (inr (inr k))
    | no k ↦ headed ((script_of s).type_row a) (rw (← itself_for s ((script_of s).type_row a) k) at h)
  ]
