-- What the writer wrote the reader reads back equal, and what the reader read the writer writes back, byte for byte: from what the two calls promise and meaning's round trip.
use Rattle.std.specs.Prelude.{◌≡◌, refl, List, ◌++◌, ℕ, ◌*◌, ◌≤◌, length, take, drop, Result, Ok, Err}
use Rattle.std.proofs.Common.{sym, ap, ◌∙◌, arith}
use Rattle.meaning.specs.Sheet.{need}
use Rattle.meaning.specs.Bundle.{sheet_bytes, blocks_for, block_bytes}
use Rattle.meaning.specs.Laws.Words.{Bytes}
use Rattle.meaning.specs.Reply.{done, copied_in}
use Rattle.meaning.specs.Reply as reply
use Rattle.meaning.specs.Theorems.Trip.{written_reads, read_writes}
use Rattle.bundle.specs.declared.Refused.{Refused}
use Rattle.bundle.specs.declared.Refused.TheVariants.{Block, Shape, Room}
use Rattle.bundle.specs.Calls.{copied_of, replied}

-- only Ok says done
says_done : (r : Result (Unit {0}) Refused) → copied_of r ≡ done → r ≡ Ok tt
says_done (Ok tt) e = refl
says_done (Err Block) e = let z : ◌≡◌ {A = ℕ} 0 1 = cc in absurd (omega arith)
says_done (Err Shape) e = let z : ◌≡◌ {A = ℕ} 0 1 = cc in absurd (omega arith)
says_done (Err Room) e = let z : ◌≡◌ {A = ℕ} 0 1 = cc in absurd (omega arith)

-- a reply that copied b into what was lent: Ok, b in front, all past it untouched
all_copied : (r : Result (Unit {0}) Refused) (after b lent : List ℕ) → replied r after ≡ copied_in b lent → (r ≡ Ok tt) × (after ≡ b ++ drop (length b) lent)
all_copied r after b lent e = (says_done r (ap (λ (c : reply.Copied). c.answer) e), ap (λ (c : reply.Copied). c.bytes) e)

-- write answers Ok on the sheet s, and read is handed the blocks that it wrote: read answers Ok and gives back the sheet, if there is room for it
module _ (s out out' tables tables' : List ℕ) (w r : Result (Unit {0}) Refused) where
  pub written_read_back : replied w out' ≡ reply.write s out → w ≡ Ok tt → need s ≤ length tables
      → replied r tables' ≡ reply.read (take (block_bytes * blocks_for (need s)) out') tables
      → (r ≡ Ok tt) × (tables' ≡ sheet_bytes s ++ drop (length (sheet_bytes s)) tables)
  written_read_back wrote is_done fits reads =
      let says : (reply.write s out).answer ≡ done = ap (λ (c : reply.Copied). c.answer) (sym wrote) ∙ ap copied_of is_done in
      all_copied r tables' (sheet_bytes s) tables (
      reads ∙ ap (λ (c : reply.Copied). reply.read (take (block_bytes * blocks_for (need s)) c.bytes) tables) wrote ∙ written_reads s out tables says fits)

-- read answers Ok on the bundle b, and write is handed the tables that it filled: write answers Ok and gives back the bundle, if there is room for it
module _ (b tables tables' out out' : List ℕ) (r w : Result (Unit {0}) Refused) where
  pub read_written_back : Bytes b → replied r tables' ≡ reply.read b tables → r ≡ Ok tt → length b ≤ length out
      → replied w out' ≡ reply.write tables' out
      → (w ≡ Ok tt) × (out' ≡ b ++ drop (length b) out)
  read_written_back bytes reads is_done fits wrote =
      let says : (reply.read b tables).answer ≡ done = ap (λ (c : reply.Copied). c.answer) (sym reads) ∙ ap copied_of is_done in
      all_copied w out' b out (wrote ∙ ap (λ (c : reply.Copied). reply.write c.bytes out) reads ∙ read_writes b tables out bytes says fits)
