-- `listing::lines::rows` meets its contract: after n turns the lines of the first n rows stand there.
use Rattle.std.specs.Prelude.{◌+◌, ◌*◌, ◌≤◌}
use Rattle.meaning.specs.Listing.{row_lines}
use Rattle.listing.specs.Adds.{Adds}
use Rattle.listing.proofs.lines.rows.Given as goal

abbrev pub invariant-loop-n : goal.invariant-loop-n
invariant-loop-n l = record { adds : Adds (row_lines l.b l.n) l.initial.out l.at l.out l.end; few : l.end ≤ l.at + 50 * l.n }
