-- What the calls of this crate promise: `Opens` for a bundle that is opened, `replied` for the reader's and the writer's reply.
use Rattle.std.specs.Prelude.{◌≡◌, true, false, List, ℕ, ◌≤◌, length, take, Option, Some, None, Result, Ok, Err}
use Rattle.meaning.specs.Sheet.{need}
use Rattle.meaning.specs.Bundle.{payload_of, sheet_in, framed}
use Rattle.meaning.specs.Reply.{Answer, Refusal, done, refused, block, shape, room}
use Rattle.meaning.specs.Reply as reply
use Rattle.bundle.specs.declared.Refused.{Refused}
use Rattle.bundle.specs.declared.Refused.TheVariants.{Block, Shape, Room}

-- refused exactly if one of the five tests fails; else the sheet stands at the front of what was lent, as long as its counts ask
abbrev pub OpensBy : List ℕ → List ℕ → Option ℕ → Type 0
OpensBy b after (Some n) = (framed b ≡ true) × (n ≡ need (payload_of b)) × (take n after ≡ sheet_in b) × (n ≤ length after)
OpensBy b after None = framed b ≡ false

pub record Opens (b after : List ℕ) (o : Option ℕ) : Type 0 where
  pub by : OpensBy b after o

-- the paper's refusal
abbrev pub refused_of : Refused → Refusal
refused_of Block = block
refused_of Shape = shape
refused_of Room = room

abbrev pub copied_of : Result (Unit {0}) Refused → Answer
copied_of (Ok u) = done
copied_of (Err why) = refused (refused_of why)

-- the reply that an answer is, with the lent bytes after it
abbrev pub replied : Result (Unit {0}) Refused → List ℕ → reply.Copied
replied r after = record { answer = copied_of r; bytes = after }
