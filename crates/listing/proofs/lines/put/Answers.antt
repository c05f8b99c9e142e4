-- `listing::lines::put` meets its contract: a byte is stored behind the first.
use Rattle.listing.specs.Adds.{adds_byte}
use Rattle.listing.proofs.lines.put.Goals as goal

pub returns : goal.returns
returns c = record { adds = adds_byte c.args.out.now c.args.at c.args.byte c.requires }
