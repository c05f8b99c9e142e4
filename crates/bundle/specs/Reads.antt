-- What the reader's answer says of a bundle. Lent as many bytes as the largest sheet asks for, it never says Room.
use Rattle.std.specs.Prelude.{◌≡◌, refl, Bool, true, false, List, ◌++◌, ℕ, ◌*◌, ◌≤◌, ◌<◌, leb, length, take, drop, get_or, Result, Ok, Err}
use Rattle.std.proofs.Common.{sym, ap, ◌∙◌, arith, le-leb, length-append, length-take, take_at}
use Rattle.std.proofs.Math.ListN.{get_or-append}
use Rattle.meaning.specs.Limits.{payload_words, most_blocks}
use Rattle.meaning.specs.Words.{word_at}
use Rattle.meaning.specs.Sheet.{need}
use Rattle.meaning.specs.Shape.{shapely}
use Rattle.meaning.specs.Bundle.{framed, payload_of, sheet_in}
use Rattle.meaning.specs.Reply.{done, refused, block, shape, room, copy_if, copied_in, read}
use Rattle.meaning.specs.Reply as reply
use Rattle.meaning.specs.Laws.Bools.{not_both}
use Rattle.meaning.specs.Laws.Shaped.{long, limits_pass}
use Rattle.meaning.specs.Laws.Words.{word_same}
use Rattle.meaning.specs.Theorems.Trip.{need_front, few_blocks, read_done}
use Rattle.bundle.specs.declared.Refused.{Refused}
use Rattle.bundle.specs.declared.Refused.TheVariants.{Block, Shape, Room}
use Rattle.bundle.specs.Calls.{copied_of, replied}

-- the payload of 88 blocks
abbrev pub largest : ℕ
largest = 2 * payload_words * most_blocks

-- the sheet in b is shaped, and stands in front of what was lent, as long as its counts ask
pub record Held (b after : List ℕ) : Type 0 where
  pub is_framed : framed b ≡ true
  pub is_shaped : shapely (sheet_in b) ≡ true
  pub is_long : need after ≤ length after
  pub is_sheet : take (need after) after ≡ sheet_in b

-- ---- the three tests behind an answer

module _ (s lent : List ℕ) where
  abbrev tried : Bool → Bool → Bool → reply.Copied
  tried f t l = copy_if f block (copy_if t shape (copy_if l room (copied_in s lent) lent) lent) lent

  at_block : (f t l : Bool) → (tried f t l).answer ≡ refused block → f ≡ false
  at_block false t l e = refl
  at_block true false l e = let z : ◌≡◌ {A = ℕ} 0 1 = cc in absurd (omega arith)
  at_block true true false e = let z : ◌≡◌ {A = ℕ} 0 1 = cc in absurd (omega arith)
  at_block true true true e = let z : ◌≡◌ {A = ℕ} 0 1 = cc in absurd (omega arith)

  at_shape : (f t l : Bool) → (tried f t l).answer ≡ refused shape → (f ≡ true) × (t ≡ false)
  at_shape false t l e = let z : ◌≡◌ {A = ℕ} 0 1 = cc in absurd (omega arith)
  at_shape true false l e = (refl, refl)
  at_shape true true false e = let z : ◌≡◌ {A = ℕ} 0 1 = cc in absurd (omega arith)
  at_shape true true true e = let z : ◌≡◌ {A = ℕ} 0 1 = cc in absurd (omega arith)

  at_room : (f t l : Bool) → (tried f t l).answer ≡ refused room → (t ≡ true) × (l ≡ false)
  at_room false t l e = let z : ◌≡◌ {A = ℕ} 0 1 = cc in absurd (omega arith)
  at_room true false l e = let z : ◌≡◌ {A = ℕ} 0 1 = cc in absurd (omega arith)
  at_room true true false e = (refl, refl)
  at_room true true true e = let z : ◌≡◌ {A = ℕ} 0 1 = cc in absurd (omega arith)

-- ---- each answer

-- the counts are the header's first seven words
same_need : (a b : List ℕ) → ((i : ℕ) → i < 7 → word_at a i ≡ word_at b i) → need a ≡ need b
same_need a b h = omega (arith, h 0 (omega arith), h 1 (omega arith), h 2 (omega arith), h 3 (omega arith), h 4 (omega arith), h 5 (omega arith), h 6 (omega arith))

in_front : (s rest : List ℕ) → shapely s ≡ true → need (s ++ rest) ≡ need s
in_front s rest e =
    let byte : (i : ℕ) → i < need s → get_or (s ++ rest) i 0 ≡ get_or s i 0 = λ i l. get_or-append s rest 0 i (omega (arith, long s e)) in
    same_need (s ++ rest) s (λ i l. word_same (s ++ rest) s (need s) i byte (omega arith))

module _ (b lent : List ℕ) {after : List ℕ} {r : Result (Unit {0}) Refused} (reads : replied r after ≡ read b lent) where
  says : {q : Result (Unit {0}) Refused} → r ≡ q → (read b lent).answer ≡ copied_of q
  says e = ap (λ (c : reply.Copied). c.answer) (sym reads) ∙ ap copied_of e

  pub read_block : r ≡ Err Block → framed b ≡ false
  unfolding read
  read_block e = at_block (sheet_in b) lent (framed b) (shapely (sheet_in b)) (leb (need (sheet_in b)) (length lent)) (says e)

  pub read_shape : r ≡ Err Shape → (framed b ≡ true) × (shapely (sheet_in b) ≡ false)
  unfolding read
  read_shape e = at_shape (sheet_in b) lent (framed b) (shapely (sheet_in b)) (leb (need (sheet_in b)) (length lent)) (says e)

  pub never_room : largest ≤ length lent → r ≡ Err Room → ⊥
  unfolding read
  never_room l e =
      let x = at_room (sheet_in b) lent (framed b) (shapely (sheet_in b)) (leb (need (sheet_in b)) (length lent)) (says e) in
      not_both (le-leb (need (sheet_in b)) (length lent) (omega (arith, few_blocks (sheet_in b) (limits_pass (sheet_in b) x.0)))) x.1

  pub read_held : r ≡ Ok tt → Held b after
  read_held e =
      let d = read_done b lent (says e) in
      let is : after ≡ sheet_in b ++ drop (length (sheet_in b)) lent = ap (λ (c : reply.Copied). c.bytes) (reads ∙ d.2) in
      let asks : need after ≡ need (sheet_in b) = ap need is ∙ in_front (sheet_in b) (drop (length (sheet_in b)) lent) d.1 in
      let size : length (sheet_in b) ≡ need (sheet_in b) = omega (arith, long (sheet_in b) d.1, need_front (payload_of b), length-take (need (payload_of b)) (payload_of b)) in
      record {
        is_framed = d.0;
        is_shaped = d.1;
        is_long = omega (arith, ap length is, length-append (sheet_in b) (drop (length (sheet_in b)) lent));
        is_sheet = ap (λ (n : ℕ). take n after) (asks ∙ sym size) ∙ ap (take (length (sheet_in b))) is ∙ take_at (sheet_in b) (drop (length (sheet_in b)) lent) (length (sheet_in b)) refl;
      }
