-- Wrong readers and writers of bundles, refuted. The witness is one block, of skip on (), with one word or byte of it wrong.
use Rattle.std.specs.Prelude.{ℕ, suc, ◌+◌, ◌*◌, ◌-◌, ◌≤◌, ◌≡◌, Bool, true, false, ◌&&◌, length, replicate}
use Rattle.std.proofs.Math.Path.{refl}
use Rattle.std.proofs.Common.{sym, ◌∙◌, ap, inl, inr, arith, leb-true, eqb-true, eq-eqb, length-append, take_all, take_at}
use mathlib.Core.List.{List, [], ◌∷◌, ◌++◌}
use Rattle.std.proofs.Math.Dec.{leb}
use Rattle.std.proofs.Math.ListN.{take, drop, get_or-append}
use Rattle.meaning.specs.Tests.{every}
use Rattle.meaning.specs.Words.{word_at, word_bytes}
use Rattle.meaning.specs.Sheet.{need}
use Rattle.meaning.specs.Shape.{shapely}
use Rattle.meaning.specs.Bundle.{filled, payload, all_zero, block, block_front, check_word, blocks, sheet_bytes, blocks_for, bundle_of, block_bytes, block_count, sheet_in}
use Rattle.meaning.specs.Bundle.{length_ok, numbers_ok, checks_ok, count_ok, padding_ok, framed}
use Rattle.meaning.specs.Reply.{Refusal, shape, room, done, refused, Reply, CheckReply, RunReply, ApplyReply, OfBundle, unframed, opened, Copied, copied_in, read, write}
use Rattle.meaning.specs.Laws.Bools.{no_left, no_right, either, not_both}
use Rattle.meaning.specs.Laws.Tests.{every_at, every_all}
use Rattle.meaning.specs.Laws.Words.{word_of_bytes, word_past}
use Rattle.meaning.specs.Theorems.Trip.{length_front, length_block, length_blocks, check_same, block_check, nth_block, sheet_of_bundle, framed_bundle, write_if, written_reads}
use Rattle.meaning.specs.Theorems.Worked.Stated.{tables}
use Rattle.meaning.specs.Theorems.Worked.Stated.{shape as shape-computes}
use Rattle.meaning.specs.Theorems.Refuted.Calls.{Run, Check, Copier, MeetsRead, MeetsWrite, codes, two_answers, differ, two_bytes, idle}

-- ---- the wrong programs

-- a reader that looks at this only: what passes it, holds a sheet of good shape and finds room is read
abbrev pub LooksAt : (List ℕ → Bool) → Copier → Type 0
LooksAt test f = (b lent : List ℕ) → test b ≡ true → shapely (sheet_in b) ≡ true → leb (need (sheet_in b)) (length lent) ≡ true → (f b lent).answer ≡ done

-- each of the five tests left out
abbrev pub IgnoresLength : Copier → Type 0
IgnoresLength = LooksAt (λ b. numbers_ok b && checks_ok b && count_ok b && padding_ok b)

abbrev pub IgnoresNumbers : Copier → Type 0
IgnoresNumbers = LooksAt (λ b. length_ok b && checks_ok b && count_ok b && padding_ok b)

abbrev pub IgnoresChecks : Copier → Type 0
IgnoresChecks = LooksAt (λ b. length_ok b && numbers_ok b && count_ok b && padding_ok b)

abbrev pub IgnoresCount : Copier → Type 0
IgnoresCount = LooksAt (λ b. length_ok b && numbers_ok b && checks_ok b && padding_ok b)

abbrev pub IgnoresPadding : Copier → Type 0
IgnoresPadding = LooksAt (λ b. length_ok b && numbers_ok b && checks_ok b && count_ok b)

-- a reader that copies what finds room, and then refuses so
abbrev pub ReadsFirst : Refusal → Copier → Type 0
ReadsFirst r f = (b lent : List ℕ) → (f b lent).answer ≡ refused r → (f b lent).bytes ≡ take (length lent) (sheet_in b) ++ drop (length (sheet_in b)) lent

-- a writer that does
abbrev pub WritesFirst : Copier → Type 0
WritesFirst f = (s lent : List ℕ) → (f s lent).answer ≡ refused room → (f s lent).bytes ≡ take (length lent) (bundle_of s)

-- a writer that numbers blocks from 0
abbrev pub FromZero : Copier → Type 0
FromZero f = (s lent : List ℕ) → (f s lent).answer ≡ done → (f s lent).bytes ≡ blocks (blocks_for (need s)) 0 (sheet_bytes s) ++ drop (block_bytes * blocks_for (need s)) lent

-- a writer that once writes blocks that read back as something else than the sheet
abbrev pub ReadsBackOther : Copier → Type 0
ReadsBackOther f = (s : List ℕ) × (lent : List ℕ) × (lent' : List ℕ) × ((f s lent).answer ≡ done) × (need s ≤ length lent')
    × (read (take (block_bytes * blocks_for (need s)) (f s lent).bytes) lent' ≡ copied_in (sheet_bytes s) lent' → ⊥)

-- a run of a bundle, and one that leaves the working rows as they were with Block
abbrev pub MeetsBundleRun : Run → Type 0
MeetsBundleRun f = (b work result : List ℕ) → OfBundle b work result (λ s. RunReply s work result) (f b work result)

abbrev pub UnzeroedAtBlock : Run → Type 0
UnzeroedAtBlock f = (b work result : List ℕ) → (f b work result).answer ≡ refused Refusal.block → (f b work result).work ≡ work

-- the same of apply and of check
abbrev pub MeetsBundleApply : Run → Type 0
MeetsBundleApply f = (b work result : List ℕ) → OfBundle b work result (λ s. ApplyReply s work result) (f b work result)

abbrev pub MeetsBundleCheck : Check → Type 0
MeetsBundleCheck f = (b work : List ℕ) → OfBundle b work [] (λ s. CheckReply s work) (f b work)

abbrev pub CheckUnzeroedAtBlock : Check → Type 0
CheckUnzeroedAtBlock f = (b work : List ℕ) → (f b work).answer ≡ refused Refusal.block → (f b work).work ≡ work

-- ---- the blocks

-- the sheet; with fuel past the limit
abbrev good : List ℕ
good = idle 4096 4096

abbrev over : List ℕ
over = idle 4096 4097

-- its bundle with another check; numbered 2; with a byte behind the sheet; with a block too many; with a byte too many
abbrev bad_check : List ℕ
bad_check = block_front 1 good ++ word_bytes (suc (check_word (block_front 1 good)))

abbrev bad_number : List ℕ
bad_number = blocks 1 2 good

abbrev bad_padding : List ℕ
bad_padding = blocks 1 1 (good ++ 1 ∷ [])

abbrev bad_count : List ℕ
bad_count = blocks 2 1 good

abbrev bad_length : List ℕ
bad_length = block 1 good ++ 0 ∷ []

-- check words are not computed: a block's is right as `block` writes it, and wrong where it is one more
checks_blocks : (m k : ℕ) (p : List ℕ) → checks_ok (blocks m k p) ≡ true
checks_blocks m k p = every_all _ (block_count (blocks m k p)) (λ i low high.
    rw (nth_block m k (i - 1) p (omega (arith, length_blocks m k p))) (eq-eqb _ _ (block_check (k + (i - 1)) (drop (508 * (i - 1)) p))))

checks_more : (k x : ℕ) (p : List ℕ) → checks_ok (block k p ++ x ∷ []) ≡ true
checks_more k x p = every_all _ (block_count (block k p ++ x ∷ [])) (λ i low high.
    let e : i ≡ 1 = omega (arith, length-append (block k p) (x ∷ []), length_block k p) in
    rw (e, take_at (block k p) (x ∷ []) 512 (length_block k p)) (eq-eqb _ _ (block_check k p)))

checks_wrong : (k : ℕ) (p : List ℕ) → checks_ok (block_front k p ++ word_bytes (suc (check_word (block_front k p)))) ≡ false
checks_wrong k p =
    let front = block_front k p in
    let word = suc (check_word front) in
    let b = front ++ word_bytes word in
    let long : length b ≡ 512 = omega (arith, length-append front (word_bytes word), length_front k p) in
    let same = check_same front b (λ j l. sym (get_or-append front (word_bytes word) 0 j (omega (arith, length_front k p)))) in
    let here = word_past front (word_bytes word) 255 0 (length_front k p) ∙ word_of_bytes word (omega arith) in
    elim (either (checks_ok b)) [
      | inl e ↦ (let h = every_at _ (block_count b) e 1 (leb-true 1 1 refl) (omega (arith, long)) in
          let z : word_at b 255 ≡ check_word b = eqb-true _ _ (rw (take_all 512 b (omega (arith, long))) at h) in
          absurd (omega (arith, z, here, same)))
      | inr e ↦ e
    ]

-- what opens to read a bundle, but for its check words
unfoldable opens : Unit {0}
unfolding idle tables every blocks filled payload all_zero
opens = tt

-- ---- what is known of each

-- four tests pass; the third, the fourth or the fifth of five fails
all_four : (w x y z : Bool) → w ≡ true → x ≡ true → y ≡ true → z ≡ true → w && x && y && z ≡ true
all_four w x y z p q r t = rw (p, q, r, t)

third_fails : (v w x y z : Bool) → x ≡ false → v && w && x && y && z ≡ false
third_fails v w x y z e = no_left z (no_left y (no_right (v && w) e))

fourth_fails : (v w x y z : Bool) → y ≡ false → v && w && x && y && z ≡ false
fourth_fails v w x y z e = no_left z (no_right (v && w && x) e)

-- refused, and as it was
abbrev untouched : Refusal → List ℕ → Copied
untouched r lent = record { answer = refused r; bytes = lent }

blocked : (b lent : List ℕ) → framed b ≡ false → read b lent ≡ untouched Refusal.block lent
unfolding read
blocked b lent e = rw e

misshapen : (b lent : List ℕ) → framed b ≡ true → shapely (sheet_in b) ≡ false → read b lent ≡ untouched shape lent
unfolding read
misshapen b lent e h = rw (e, h)

no_room : (b lent : List ℕ) → framed b ≡ true → shapely (sheet_in b) ≡ true → leb (need (sheet_in b)) (length lent) ≡ false → read b lent ≡ untouched room lent
unfolding read
no_room b lent e h l = rw (e, h, l)

no_room_to_write : (s lent : List ℕ) → shapely s ≡ true → leb (block_bytes * blocks_for (need s)) (length lent) ≡ false → write s lent ≡ untouched room lent
unfolding write
no_room_to_write s lent h l = rw (h, l)

-- ---- none of them meets the promise

module _ (f : Copier) (meets : MeetsRead f) where
  -- a bundle that is not framed is refused, whatever else it passes
  looks_at_all : (test : List ℕ → Bool) (b : List ℕ) → framed b ≡ false → test b ≡ true → shapely (sheet_in b) ≡ true → leb (need (sheet_in b)) 46 ≡ true → LooksAt test f → ⊥
  unfolding codes
  looks_at_all test b e t h n w = two_answers (ap (λ (c : Copied). c.answer) (meets b (replicate 46 9) ∙ blocked b (replicate 46 9) e)) (w b (replicate 46 9) t h n) refl

  -- a byte too many
  pub not_ignores_length : IgnoresLength f → ⊥
  unfolding opens shape-computes
  not_ignores_length = looks_at_all _ bad_length refl
      (all_four (numbers_ok bad_length) (checks_ok bad_length) (count_ok bad_length) (padding_ok bad_length) refl (checks_more 1 0 good) refl refl) refl refl

  -- 2 in place of 1
  pub not_ignores_numbers : IgnoresNumbers f → ⊥
  unfolding opens shape-computes
  not_ignores_numbers = looks_at_all _ bad_number refl
      (all_four (length_ok bad_number) (checks_ok bad_number) (count_ok bad_number) (padding_ok bad_number) refl (checks_blocks 1 2 good) refl refl) refl refl

  -- a check word that is one more
  pub not_ignores_checks : IgnoresChecks f → ⊥
  unfolding opens shape-computes
  not_ignores_checks = looks_at_all _ bad_check
      (third_fails (length_ok bad_check) (numbers_ok bad_check) (checks_ok bad_check) (count_ok bad_check) (padding_ok bad_check) (checks_wrong 1 good)) refl refl refl

  -- an empty block behind the first
  pub not_ignores_count : IgnoresCount f → ⊥
  unfolding opens shape-computes
  not_ignores_count = looks_at_all _ bad_count (fourth_fails (length_ok bad_count) (numbers_ok bad_count) (checks_ok bad_count) (count_ok bad_count) (padding_ok bad_count) refl)
      (all_four (length_ok bad_count) (numbers_ok bad_count) (checks_ok bad_count) (padding_ok bad_count) refl refl (checks_blocks 2 1 good) refl) refl refl

  -- a 1 behind the sheet
  pub not_ignores_padding : IgnoresPadding f → ⊥
  unfolding opens shape-computes
  not_ignores_padding = looks_at_all _ bad_padding (no_right (length_ok bad_padding && numbers_ok bad_padding && checks_ok bad_padding && count_ok bad_padding) refl)
      (all_four (length_ok bad_padding) (numbers_ok bad_padding) (checks_ok bad_padding) (count_ok bad_padding) refl refl (checks_blocks 1 1 (good ++ 1 ∷ [])) refl) refl refl

  -- one byte lent, 9: it is 9 after each refusal
  nine_stays : {r : Refusal} (b : List ℕ) → read b (9 ∷ []) ≡ untouched r (9 ∷ []) → take 1 (sheet_in b) ++ drop (length (sheet_in b)) (9 ∷ []) ≡ 0 ∷ [] → ReadsFirst r f → ⊥
  unfolding differ
  nine_stays b e h w = let g = meets b (9 ∷ []) ∙ e in
      two_bytes (9 ∷ []) (0 ∷ []) [] [] (ap (λ (c : Copied). c.bytes) g) (w b (9 ∷ []) (ap (λ (c : Copied). c.answer) g) ∙ h) refl

  -- after Block
  pub not_reads_before_block : ReadsFirst Refusal.block f → ⊥
  unfolding opens
  not_reads_before_block = nine_stays bad_number (blocked bad_number (9 ∷ []) refl) refl

  -- after Shape
  pub not_reads_before_shape : ReadsFirst shape f → ⊥
  unfolding idle shape-computes
  not_reads_before_shape = let e = sheet_of_bundle over (leb-true 46 46 refl) in
      nine_stays (bundle_of over) (misshapen (bundle_of over) (9 ∷ []) (framed_bundle over (leb-true 46 46 refl) (leb-true 1 88 refl)) (ap shapely e))
      (ap (λ (x : List ℕ). take 1 x ++ drop (length x) (9 ∷ [])) e)

  -- after Room
  pub not_reads_before_room : ReadsFirst room f → ⊥
  unfolding idle shape-computes
  not_reads_before_room = let e = sheet_of_bundle good (leb-true 46 46 refl) in
      nine_stays (bundle_of good) (no_room (bundle_of good) (9 ∷ []) (framed_bundle good (leb-true 46 46 refl) (leb-true 1 88 refl)) (ap shapely e) (ap (λ (x : List ℕ). leb (need x) 1) e))
      (ap (λ (x : List ℕ). take 1 x ++ drop (length x) (9 ∷ [])) e)

module _ (f : Copier) (meets : MeetsWrite f) where
  -- the first byte is the number 1
  pub not_from_zero : FromZero f → ⊥
  unfolding opens shape-computes differ
  not_from_zero w =
      let e = meets good (replicate 512 9) ∙ write_if good (replicate 512 9) refl (leb-true 512 512 refl) in
      two_bytes (1 ∷ []) (0 ∷ []) _ _ (ap (λ (c : Copied). c.bytes) e) (w good (replicate 512 9) (ap (λ (c : Copied). c.answer) e)) refl

  -- one byte lent, 9: it is 9 after Room
  pub not_writes_first : WritesFirst f → ⊥
  unfolding opens shape-computes differ
  not_writes_first w =
      let e = meets good (9 ∷ []) ∙ no_room_to_write good (9 ∷ []) refl refl in
      two_bytes (9 ∷ []) (1 ∷ []) [] [] (ap (λ (c : Copied). c.bytes) e) (w good (9 ∷ []) (ap (λ (c : Copied). c.answer) e)) refl

  -- what is written reads back, of every sheet (Trip)
  pub not_reads_back_other : ReadsBackOther f → ⊥
  not_reads_back_other (s, lent, lent', e, l, w) = w (rw (meets s lent) (written_reads s lent lent' (rw (meets s lent) at e) l))

-- no bytes are no bundle; one working byte, 9: it is 0 after Block, whatever was asked
nine_at_block : {Asked : List ℕ → Reply → Type 0} {R : Reply} → OfBundle [] (9 ∷ []) [] Asked R → (R.answer ≡ refused Refusal.block → R.work ≡ 9 ∷ []) → ⊥
unfolding differ
nine_at_block (unframed e) w = two_bytes (0 ∷ []) (9 ∷ []) [] [] refl (w refl) refl
nine_at_block (opened e k) w = not_both e refl

pub not_unzeroed_at_block : (f : Run) → MeetsBundleRun f → UnzeroedAtBlock f → ⊥
not_unzeroed_at_block f meets w = nine_at_block (meets [] (9 ∷ []) []) (w [] (9 ∷ []) [])

pub not_apply_unzeroed_at_block : (f : Run) → MeetsBundleApply f → UnzeroedAtBlock f → ⊥
not_apply_unzeroed_at_block f meets w = nine_at_block (meets [] (9 ∷ []) []) (w [] (9 ∷ []) [])

pub not_check_unzeroed_at_block : (f : Check) → MeetsBundleCheck f → CheckUnzeroedAtBlock f → ⊥
not_check_unzeroed_at_block f meets w = nine_at_block (meets [] (9 ∷ [])) (w [] (9 ∷ []))
