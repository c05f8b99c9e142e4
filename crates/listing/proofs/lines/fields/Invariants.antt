-- `listing::lines::fields` meets its contract: after i turns the first i numbers stand there.
use Rattle.std.specs.Prelude.{◌+◌, ◌*◌, ◌≤◌, take}
use Rattle.listing.specs.Adds.{Adds, spaced}
use Rattle.listing.proofs.lines.fields.Given as goal

abbrev pub invariant-loop-n : goal.invariant-loop-n
invariant-loop-n l = record { adds : Adds (spaced (take l.n-index l.numbers)) l.initial.out l.at l.out l.end; few : l.end ≤ l.at + 10 * l.n-index }
