-- The reader's and the writer's replies, one law for each answer: the tests that led there pick it.
use mathlib.Core.Path.{◌≡◌, refl, sym, ap, ◌∙◌}
use mathlib.Core.Bool.{Bool, true, false}
use mathlib.Core.List.{List, ◌++◌}
use Prim.Native.Nat.{ℕ, ◌*◌, ◌≤◌, ◌<◌}
use native.Mathlib.Omega.{arith}
use borrow.Author.Tests.{lt-leb}
use lib.ListN.{length, take, drop, length-append, length-drop}
use lib.Seq.{length-take-le}
use Rattle.meaning.specs.Sheet.{need}
use Rattle.meaning.specs.Shape.{shapely}
use Rattle.meaning.specs.Bundle.{payload_of, framed, sheet_in, blocks, blocks_for}
use Rattle.meaning.specs.Reply.{read, write, copied_in}
use Rattle.meaning.specs.Theorems.Trip.{need_front, read_if, write_if}
use Rattle.std.specs.Prelude.{Option, Some, None, Result, Ok, Err, ok_or}
use Rattle.bundle.specs.declared.Refused.{Refused}
use Rattle.bundle.specs.declared.Refused.TheVariants.{Block, Shape, Room}
use Rattle.bundle.specs.Calls.{Opens, replied}

-- ---- the reader

pub was_refused : {b after : List ℕ} {o : Option ℕ} → Opens b after o → o ≡ None → framed b ≡ false
was_refused {b} {after} p e = (rw e at p).by

-- only where no bundle was opened is there an error, and which
pub refused_by : (o : Option ℕ) {e : Refused} → ◌≡◌ {A = Result ℕ Refused} (Err e) (ok_or o Block) → (o ≡ None) × (e ≡ Block)
refused_by None q = (refl, cc)
refused_by (Some n) q = absurd cc

pub was_sheet : {b after : List ℕ} {o : Option ℕ} {n : ℕ} → Opens b after o → o ≡ Some n → Opens b after (Some n)
was_sheet p e = rw e at p

pub reads_block : (b lent : List ℕ) → framed b ≡ false → replied (Err Block) lent ≡ read b lent
unfolding read
reads_block b lent e = rw e

module _ (lent : List ℕ) {b after : List ℕ} {n : ℕ} (opened : Opens b after (Some n)) {t : Bool} (shapes : t ≡ shapely (take n after)) where
  shapes_in : shapely (sheet_in b) ≡ t
  shapes_in = ap shapely (sym opened.by.2) ∙ sym shapes

  need_in : need (sheet_in b) ≡ n
  need_in = need_front (payload_of b) ∙ sym opened.by.1

  pub reads_shape : t ≡ false → replied (Err Shape) lent ≡ read b lent
  unfolding read
  reads_shape e = rw (opened.by.0, shapes_in, e)

  pub reads_room : t ≡ true → length lent < n → replied (Err Room) lent ≡ read b lent
  unfolding read
  reads_room e l = rw (opened.by.0, shapes_in, e, need_in, lt-leb n (length lent) l)

  pub reads_done : t ≡ true → n ≤ length lent → {bytes : List ℕ}
      → bytes ≡ take n after ++ drop n lent → replied (Ok tt) bytes ≡ read b lent
  reads_done e l is =
      ap (replied (Ok tt)) (is ∙ ap (λ (k : ℕ). take n after ++ drop k lent) (sym (length-take-le n after opened.by.3)) ∙ ap (λ (x : List ℕ). x ++ drop (length x) lent) opened.by.2)
      ∙ sym (read_if b lent opened.by.0 (shapes_in ∙ e) (rw need_in l))

-- ---- the writer

pub writes_shape : (s lent : List ℕ) → shapely s ≡ false → replied (Err Shape) lent ≡ write s lent
unfolding write
writes_shape s lent e = rw e

module _ (s lent : List ℕ) {n m : ℕ} (shapes : shapely s ≡ true) (asks : n ≡ need s) (whole : m ≡ blocks_for n) where
  pub writes_room : length lent < 512 * m → replied (Err Room) lent ≡ write s lent
  unfolding write
  writes_room l = rw (shapes, lt-leb (512 * blocks_for (need s)) (length lent) (rw (whole, asks) at l))

  pub writes_done : 512 * m ≤ length lent → {after : List ℕ} → after ≡ blocks m 1 (take n s) ++ drop (512 * m) lent → length after ≡ length lent → replied (Ok tt) after ≡ write s lent
  writes_done l is kept =
      let bundle = blocks m 1 (take n s) in
      let same = ap length is in
      let size : length bundle ≡ 512 * m = omega (arith, length-append bundle (drop (512 * m) lent), length-drop (512 * m) lent) in
      ap (replied (Ok tt)) (is ∙ ap (λ (k : ℕ). bundle ++ drop k lent) (sym size)) ∙ ap (λ (k : ℕ). copied_in (blocks k 1 (take n s)) lent) whole
      ∙ ap (λ (k : ℕ). copied_in (blocks (blocks_for k) 1 (take k s)) lent) asks ∙ sym (write_if s lent shapes (rw (whole, asks) at l))
