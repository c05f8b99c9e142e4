-- The sums of the rows of the type written out, from below: each row's by the sums of its parts. The sum at row 512 settles whether the found type lies in (), text or bool.
use Rattle.std.specs.Prelude.{ℕ, zero, suc, ◌+◌, ◌≤◌, ◌<◌, ◌≡◌, List, ◌⊎◌, ◌↔◌, get_or, length, replicate, eqb, Ok}
use Rattle.std.proofs.Math.Path.{refl, sym}
use Rattle.std.proofs.Common.{eq-eqb, ◌∙◌, ap, inl, inr}
use native.Mathlib.Omega.{arith}
use Rattle.std.proofs.lemmas.List.{length-replicate}
use Rattle.std.proofs.lemmas.Bool.{eqb-true}
use mathlib.Core.Bool.{false≢true}
use Rattle.meaning.specs.Sheet.{Cells, script_of}
use Rattle.meaning.specs.Kinds.{TypeRow, type_form}
use Rattle.meaning.specs.Types.{Ty, Within, Fertile, size, ty_form, ty_at, names_in}
use Rattle.meaning.specs.Reply.{done, Loads, sound}
use Rattle.meaning.specs.Laws.Words.{zeros}
use Rattle.meaning.specs.Laws.Apart.{Low, Lower, ty_at_row}
use Rattle.meaning.specs.Laws.Barren.{Over, over_rows}
use Rattle.type_rows.specs.Grown.{type_in, ty_in, Grows}
use Rattle.type_rows.specs.Writing.{own_row, Written, Blank}
use Rattle.sheet.specs.declared.forms.Ty.{Ty as Said}
use Rattle.sheet.specs.Forms.{type_said}
use Rattle.within.specs.declared.PlainType.{PlainType}
use Rattle.within.specs.Answers.{Answers, answers_ok, plain_ty, plain_kind}
use Rattle.within.specs.Sums.{both, alike, one, sum_of, sum_few, plain_sum, plain_sum_lem}

abbrev pub own_type : List ℕ → ℕ → Ty
own_type own r = ty_at (λ i. type_form (own_row own i)) r

-- the sums of the rows below i
pub record Summed (own : List ℕ) (k : ℕ) (sums : List ℕ) (i : ℕ) : Type 0 where
  pub size : length sums ≡ 513
  pub at : (j : ℕ) → j < i → get_or sums j 0 ≡ sum_of k (own_type own j)

-- ---- one row, by what it says

module _ {own : List ℕ} (low : Lower (own_row own)) {k : ℕ} {sums : List ℕ} {i : ℕ} (s : Summed own k sums i) {c : Cells} (e : c ≡ own_row own i) where
  row_sum : {t : TypeRow} → t ≡ type_form c → sum_of k (ty_form t (own_type own)) ≡ sum_of k (own_type own i)
  row_sum said = rw (said ∙ ap type_form e) (sym (ap (sum_of k) (ty_at_row (λ i. type_form (own_row own i)) low i)))

  -- a part is a lower row, whose sum is at hand
  pub record Part (j : ℕ) : Type 0 where
    pub lower : j < i
    pub few : get_or sums j 0 ≤ 2
    pub sum : get_or sums j 0 ≡ sum_of k (own_type own j)

  part : (j : ℕ) → j < i → Part j
  part j l = let z = s.at j l in record { lower = l; few = omega (arith, z, sum_few k (own_type own j)); sum = z }

  low_row : {t : TypeRow} → t ≡ type_form c → Low t i
  low_row said = rw (said ∙ ap type_form e) (low i)

  pub seq_parts : {p q : ℕ} → TypeRow.seq p q ≡ type_form c → Part p × Part q
  unfolding Low
  seq_parts {p} {q} said = let l = low_row said in (part p l.0, part q l.1)

  pub choice_parts : {p q : ℕ} → TypeRow.choice p q ≡ type_form c → Part p × Part q
  unfolding Low
  choice_parts {p} {q} said = let l = low_row said in (part p l.0, part q l.1)

  pub star_part : {p : ℕ} → TypeRow.star p ≡ type_form c → Part p
  unfolding Low
  star_part {p} said = part p (low_row said)

  pub seq_sum : {p q : ℕ} → TypeRow.seq p q ≡ type_form c → both (get_or sums p 0) (get_or sums q 0) ≡ sum_of k (own_type own i)
  unfolding sum_of ty_form
  seq_sum said = let l = seq_parts said in rw (l.0.sum, l.1.sum) (row_sum said)

  pub choice_sum : {p q : ℕ} → TypeRow.choice p q ≡ type_form c → alike (get_or sums p 0) (get_or sums q 0) ≡ sum_of k (own_type own i)
  unfolding sum_of ty_form
  choice_sum said = let l = choice_parts said in rw (l.0.sum, l.1.sum) (row_sum said)

  pub star_sum : {p : ℕ} → TypeRow.star p ≡ type_form c → both (get_or sums p 0) (get_or sums p 0) ≡ sum_of k (own_type own i)
  unfolding sum_of ty_form
  star_sum said = let l = star_part said in rw l.sum (row_sum said)

  pub text_sum : TypeRow.text ≡ type_form c → one 2 k ≡ sum_of k (own_type own i)
  unfolding sum_of ty_form
  text_sum said = row_sum said

  pub bool_sum : TypeRow.bool ≡ type_form c → one 3 k ≡ sum_of k (own_type own i)
  unfolding sum_of ty_form
  bool_sum said = row_sum said

  label_sum : {l q : ℕ} → TypeRow.label l q ≡ type_form c → 2 ≡ sum_of k (own_type own i)
  unfolding sum_of ty_form
  label_sum said = row_sum said

  name_sum : {x : ℕ} → TypeRow.name x ≡ type_form c → 2 ≡ sum_of k (own_type own i)
  unfolding sum_of ty_form
  name_sum said = row_sum said

  -- () and what is no kind
  empty_sum : TypeRow.empty ≡ type_form c → 0 ≡ sum_of k (own_type own i)
  unfolding sum_of ty_form
  empty_sum said = row_sum said

  none_sum : TypeRow.none ≡ type_form c → 0 ≡ sum_of k (own_type own i)
  unfolding sum_of ty_form
  none_sum said = row_sum said

  module _ {t : Said} (said : type_said t ≡ type_form c) where
    pub nothing_sum : (t ≡ Said.Nothing) ⊎ (t ≡ Said.Empty) → 0 ≡ sum_of k (own_type own i)
    nothing_sum (inl z) = none_sum (rw z at said)
    nothing_sum (inr z) = empty_sum (rw z at said)

    pub held_sum : ((l : ℕ) × (q : ℕ) × (t ≡ Said.Label l q)) ⊎ ((x : ℕ) × (t ≡ Said.Name x)) → 2 ≡ sum_of k (own_type own i)
    held_sum (inl z) = label_sum (rw z.2 at said)
    held_sum (inr z) = name_sum (rw z.1 at said)

-- ---- row by row

-- the rows up to r are of kind 0, row 0 too
blank_low : {own : List ℕ} {r : ℕ} → Blank own r → (j : ℕ) → j ≤ r → (own_row own j).kind ≡ 0
blank_low B zero h = refl
blank_low B (suc j) h = B.none (suc j) (omega arith) h

-- a blank row's sum is 0
pub summed_none : {own : List ℕ} → Lower (own_row own) → (k : ℕ) {n : ℕ} → Blank own n → Summed own k (replicate 513 0) (n + 1)
unfolding sum_of ty_form
summed_none {own} low k blank = record {
  size = length-replicate {A = ℕ} 513 0;
  at = λ j l. zeros 513 j ∙ sym (ap (sum_of k) (ty_at_row (λ i. type_form (own_row own i)) low j) ∙ rw (blank_low blank j (omega arith)));
}

-- ---- the answer

module _ {s work : List ℕ} {n found : ℕ} (load : Loads s done) (G : Grows s work n) {own : List ℕ} (W : Written (type_in s work n) found own) (few : size (ty_in s work n found) ≤ 512)
    (p : PlainType) where
  -- its names are the sheet's, and none is barren
  own_fertile : Over (Fertile (names_in (script_of s))) (own_type own 512)
  unfolding ty_at
  own_fertile = go load
    where
      go : Loads s done → Over (Fertile (names_in (script_of s))) (own_type own 512)
      go (sound e fertile untied) = over_rows (own_row own) (Fertile (names_in (script_of s)))
          (λ i e. (let a = W.atoms i (inr e) in fertile (own_row own i).p (rw a.3 at (G.known a.0 (a.2 ∙ e))))) 512 512

  decided : Within (names_in (script_of s)) (ty_in s work n found) (plain_ty p) ↔ (sum_of (plain_kind p) (own_type own 512) ≡ plain_sum (plain_kind p))
  decided = let d = plain_sum_lem (names_in (script_of s)) p (own_type own 512) own_fertile in (λ w. d.0 (rw W.same w), λ z. rw W.same at (d.1 z))

  pub plain_answers : (a b : ℕ) → a ≡ sum_of (plain_kind p) (own_type own 512) → b ≡ plain_sum (plain_kind p) → Answers s (ty_in s work n found) (plain_ty p) (Ok (eqb a b))
  plain_answers a b x y = answers_ok (eqb a b) few
      (λ z. decided.1 (sym x ∙ eqb-true a b z ∙ y))
      (λ z w. false≢true (sym z ∙ eq-eqb a b (x ∙ decided.0 w ∙ sym y)))
