-- `listing::lines::row` meets its contract: the row's number, then its words.
use Rattle.std.proofs.Common.{arith, refl, ◌+◌}
use Rattle.listing.specs.Adds.{adds_row, few_digits}
use Rattle.listing.proofs.lines.row.Goals as goal

pub fields-requires : goal.fields-requires
fields-requires c = omega (arith, c.requires.0, c.number-mid.ensures.adds.ends, c.number-mid.auto.out, few_digits 8 (c.args.n + 1))

pub returns-clause-adds : goal.returns-clause-adds
returns-clause-adds c = adds_row c.args.b.now c.args.n refl c.word_at-kind.ensures.is c.word_at-p.ensures.is c.word_at-q.ensures.is c.word_at-next.ensures.is c.number-mid.ensures.adds c.fields.ensures.adds

pub returns-clause-few : goal.returns-clause-few
returns-clause-few c = omega (arith, c.number-mid.ensures.adds.ends, c.fields.ensures.few, few_digits 8 (c.args.n + 1))
