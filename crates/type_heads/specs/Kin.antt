-- The kin of a place: the set of `same` that has the sheet's places of its head. So a pair of a place and one of its kin has one head, and the other way round.
use Rattle.std.specs.Prelude.{ℕ, zero, suc, ◌+◌, ◌≤◌, ◌<◌, ◌≡◌, refl, true, false, cond, List, [], ◌∷◌, ◌⊎◌, eqb, ltb, get_or, length, set, replicate}
use Rattle.std.proofs.Common.{sym, ◌∙◌, ap, inl, inr, arith, length-set, get_or-set_same, get_or-set_other, eqb-true, eq-eqb, lt-ltb, ltb-true}
use Rattle.std.proofs.Math.Decide.{dec_le, ℕ_discrete}
use Rattle.std.proofs.lemmas.List.{length-replicate}
use Rattle.meaning.specs.Tests.{in_table}
use Rattle.meaning.specs.Sheet.{Cells, script_of}
use Rattle.meaning.specs.Kinds.{TypeRow, type_form}
use Rattle.meaning.specs.Types.{Head}
use Rattle.meaning.specs.Places.{head_of}
use Rattle.meaning.specs.Shape.{shapely}
use Rattle.meaning.specs.Laws.Bools.{and_left, and_right, and_both, not_both, either}
use Rattle.bits.specs.Sets.{in_set}
use Rattle.meaning.specs.Laws.Words.{zeros}
use Rattle.meaning.specs.Laws.Shaped.{few_types}
use Rattle.sheet.specs.declared.forms.Ty.{Ty}
use Rattle.sheet.specs.Forms.{type_said}
use Rattle.type_heads.specs.Heads.{head_no, stands_for, head_number}
use Rattle.type_heads.specs.Classes.{Classes}

-- a head by number, 1026 for what is no atom and for a label that no sheet has
abbrev pub own_no : Cells → ℕ
own_no c = get_or (1026 ∷ 1026 ∷ 1024 ∷ 1025 ∷ cond (ltb c.p 1024) c.p 1026 ∷ []) c.kind 1026

abbrev pub kin_no : List ℕ → List ℕ → Cells → ℕ
kin_no s class c = cond (ltb (own_no (stands_for s c)) 1026) (get_or class (own_no (stands_for s c)) 0) 0

-- the rows 1 to n have their kin, the others none
pub record Kins (row : ℕ → Cells) (n : ℕ) (s class kin : List ℕ) : Type 0 where
  pub size : length kin ≡ 576
  pub at : (i : ℕ) → 1 ≤ i → i ≤ n → get_or kin i 0 ≡ kin_no s class (row i)
  pub none : (i : ℕ) → (i ≡ 0) ⊎ (n < i) → get_or kin i 0 ≡ 0

-- blank rows have none
pub kins_low : (row : ℕ → Cells) (s class : List ℕ) (low : ℕ) → ((i : ℕ) → 1 ≤ i → i ≤ low → (row i).kind ≡ 0) → Kins row low s class (replicate 576 0)
kins_low row s class low k = record { size = length-replicate {A = ℕ} 576 0; at = λ i l h. zeros 576 i ∙ rw (k i l h); none = λ i x. zeros 576 i }

pub kins_more : (row : ℕ → Cells) (s class kin : List ℕ) (i v : ℕ) → Kins row i s class kin → i < 512 → v ≡ kin_no s class (row (i + 1)) → Kins row (i + 1) s class (set kin (i + 1) v)
kins_more row s class kin i v k l e = record {
  size = length-set kin (i + 1) v ∙ k.size;
  at = λ j p q. elim (ℕ_discrete j (i + 1)) [
    | yes z ↦ rw z (get_or-set_same kin (i + 1) v 0 (omega (arith, k.size)) ∙ e)
    | no z ↦ get_or-set_other kin (i + 1) j v 0 z ∙ k.at j p (omega arith)
  ];
  none = λ j x. get_or-set_other kin (i + 1) j v 0 (λ z. elim x [ inl y ↦ omega arith | inr y ↦ omega arith ]) ∙ k.none j (elim x [ inl y ↦ inl y | inr y ↦ inr (omega arith) ]);
}

module _ {s class same : List ℕ} (C : Classes s class same) {row : ℕ → Cells} {n : ℕ} {kin : List ℕ} (K : Kins row n s class kin) where
  kin_number : (h : ℕ) → cond (ltb h 1026) (get_or class h 0) 0 ≤ (script_of s).types
  kin_number h = elim (either (ltb h 1026)) [ inl z ↦ rw z (C.leader h (ltb-true h 1026 z)) | inr z ↦ rw z (omega arith) ]

  pub kin_low : shapely s ≡ true → (a : ℕ) → get_or kin a 0 ≤ 512
  kin_low e a = elim (dec_le a n) [
    | yes l ↦ elim (ℕ_discrete a 0) [
      | yes z ↦ rw (K.none a (inl z)) (omega arith)
      | no z ↦ rw (K.at a (omega arith) l) (let h = kin_number (own_no (stands_for s (row a))) in omega (arith, h, few_types s e))
    ]
    | no l ↦ rw (K.none a (inr (omega arith))) (omega arith)
  ]

  -- what it says of a pair
  pub record Says (a b : ℕ) : Type 0 where
    pub low : 1 ≤ a
    pub high : a ≤ n
    pub small : own_no (stands_for s (row a)) < 1026
    pub in_types : in_table (script_of s).types b ≡ true
    pub number : head_number s b ≡ own_no (stands_for s (row a))

  pub kin_says : (a b : ℕ) → b < 576 → in_set same (get_or kin a 0) b ≡ true → Says a b
  kin_says a b l m = elim (dec_le a n) [
    | yes h ↦ elim (ℕ_discrete a 0) [
      | yes z ↦ absurd (nothing (K.none a (inl z)))
      | no z ↦ go (either (ltb (own_no (stands_for s (row a))) 1026)) (omega arith) h (rw (K.at a (omega arith) h) at m)
    ]
    | no h ↦ absurd (nothing (K.none a (inr (omega arith))))
  ]
    where
      nothing : get_or kin a 0 ≡ 0 → ⊥
      nothing z = let m' : in_set same 0 b ≡ true = rw z at m in not_both m' (C.none b l)

      go : (ltb (own_no (stands_for s (row a))) 1026 ≡ true) ⊎ (ltb (own_no (stands_for s (row a))) 1026 ≡ false) → 1 ≤ a → a ≤ n → in_set same (kin_no s class (row a)) b ≡ true → Says a b
      go (inl z) p q m =
          let h = own_no (stands_for s (row a)) in
          let m' : in_set same (get_or class h 0) b ≡ true = rw z at m in
          let x = sym (C.members h (ltb-true h 1026 z) b l) ∙ m' in
          record {
            low = p;
            high = q;
            small = ltb-true h 1026 z;
            in_types = and_left (in_table (script_of s).types b) (eqb (head_number s b) h) x;
            number =
                eqb-true (head_number s b) h (and_right (in_table (script_of s).types b) (eqb (head_number s b) h) x);
          }
      go (inr z) p q m = let m' : in_set same 0 b ≡ true = rw z at m in absurd (not_both m' (C.none b l))

  pub kin_back : (a b : ℕ) → b < 576 → Says a b → in_set same (get_or kin a 0) b ≡ true
  kin_back a b l x =
      let h = own_no (stands_for s (row a)) in
      rw (K.at a x.low x.high, lt-ltb h 1026 x.small) (C.members h x.small b l
      ∙ and_both (in_table (script_of s).types b) (eqb (head_number s b) h) x.in_types (eq-eqb (head_number s b) h x.number))

-- ---- heads by number

-- text, bool, or a label that is one
pub data Acts (c : Cells) : Type 0 where
  acts_text : c.kind ≡ 2 → Acts c
  acts_bool : c.kind ≡ 3 → Acts c
  acts_label : c.kind ≡ 4 → c.p ≤ 1023 → Acts c

pub acts : (c : Cells) → own_no c < 1026 → Acts c
acts c h = go c.kind refl h
  where
    go : (k : ℕ) → c.kind ≡ k → get_or (1026 ∷ 1026 ∷ 1024 ∷ 1025 ∷ cond (ltb c.p 1024) c.p 1026 ∷ []) k 1026 < 1026 → Acts c
    go zero e h = absurd (omega arith)
    go (suc zero) e h = absurd (omega arith)
    go (suc (suc zero)) e h = acts_text e
    go (suc (suc (suc zero))) e h = acts_bool e
    go (suc (suc (suc (suc zero)))) e h = elim (either (ltb c.p 1024)) [
      | inl z ↦ acts_label e (omega (arith, ltb-true c.p 1024 z))
      | inr z ↦ (let o : 1026 < 1026 = rw z at h in absurd (omega arith))
    ]
    go (suc (suc (suc (suc (suc k))))) e h = absurd (omega arith)

abbrev number_of : Head → ℕ
number_of Head.text = 1024
number_of Head.bool = 1025
number_of (Head.label n) = n

head_of_lem : {c : Cells} → Acts c → head_no c ≡ number_of (head_of c)
head_of_lem (acts_text e) = rw e
head_of_lem (acts_bool e) = rw e
head_of_lem (acts_label e p) = rw e

-- what acts so has one number
pub acts_no : {c : Cells} → Acts c → own_no c ≡ head_no c
acts_no (acts_text e) = rw e
acts_no (acts_bool e) = rw e
acts_no {c} (acts_label e p) = rw (e, lt-ltb c.p 1024 (omega arith))

pub acts_small : {c : Cells} → Acts c → head_no c < 1026
acts_small (acts_text e) = rw e (omega arith)
acts_small (acts_bool e) = rw e (omega arith)
acts_small (acts_label e p) = rw e (omega arith)

pub acts_number : {c d : Cells} → Acts c → Acts d → head_of c ≡ head_of d → head_no c ≡ head_no d
acts_number x y h = head_of_lem x ∙ ap number_of h ∙ sym (head_of_lem y)

pub acts_head : {c d : Cells} → Acts c → Acts d → head_no c ≡ head_no d → head_of c ≡ head_of d
acts_head (acts_text e) (acts_text f) h = rw (e, f)
acts_head (acts_text e) (acts_bool f) h = (let z : ◌≡◌ {A = ℕ} 1024 1025 = rw (e, f) at h in absurd (omega arith))
acts_head {c} {d} (acts_text e) (acts_label f p) h = (let z : ◌≡◌ {A = ℕ} 1024 d.p = rw (e, f) at h in absurd (omega arith))
acts_head (acts_bool e) (acts_text f) h = (let z : ◌≡◌ {A = ℕ} 1025 1024 = rw (e, f) at h in absurd (omega arith))
acts_head (acts_bool e) (acts_bool f) h = rw (e, f)
acts_head {c} {d} (acts_bool e) (acts_label f p) h = (let z : ◌≡◌ {A = ℕ} 1025 d.p = rw (e, f) at h in absurd (omega arith))
acts_head {c} {d} (acts_label e p) (acts_text f) h = (let z : ◌≡◌ {A = ℕ} c.p 1024 = rw (e, f) at h in absurd (omega arith))
acts_head {c} {d} (acts_label e p) (acts_bool f) h = (let z : ◌≡◌ {A = ℕ} c.p 1025 = rw (e, f) at h in absurd (omega arith))
acts_head {c} {d} (acts_label e p) (acts_label f q) h = (let z : c.p ≡ d.p = rw (e, f) at h in rw (e, f, z))

-- by what the row says
abbrev own_by : ℕ → TypeRow → ℕ
own_by h TypeRow.none = h
own_by h TypeRow.empty = h
own_by h TypeRow.text = h
own_by h TypeRow.bool = h
own_by h (TypeRow.label l q) = cond (ltb l 1024) h 1026
own_by h (TypeRow.seq p q) = h
own_by h (TypeRow.choice p q) = h
own_by h (TypeRow.star p) = h
own_by h (TypeRow.name x) = h

pub own_said : (t : Ty) (c : Cells) → type_said t ≡ type_form c → own_by (head_no c) (type_said t) ≡ own_no c
own_said t c e = ap (own_by (head_no c)) e ∙ go c.kind
  where
    go : (k : ℕ) → own_by (head_no (record { kind = k; p = c.p; q = c.q; r = c.r })) (type_form (record { kind = k; p = c.p; q = c.q; r = c.r }))
        ≡ own_no (record { kind = k; p = c.p; q = c.q; r = c.r })
    go zero = refl
    go (suc zero) = refl
    go (suc (suc zero)) = refl
    go (suc (suc (suc zero))) = refl
    go (suc (suc (suc (suc zero)))) = refl
    go (suc (suc (suc (suc (suc zero))))) = refl
    go (suc (suc (suc (suc (suc (suc zero)))))) = refl
    go (suc (suc (suc (suc (suc (suc (suc zero))))))) = refl
    go (suc (suc (suc (suc (suc (suc (suc (suc zero)))))))) = refl
    go (suc (suc (suc (suc (suc (suc (suc (suc (suc k))))))))) = refl
