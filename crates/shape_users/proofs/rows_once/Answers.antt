-- `shape_users::rows_once` meets its contract: what is counted from nothing is the number of users.
use Rattle.std.proofs.Common.{rules}
use Rattle.meaning.specs.Sheet.{sheet_of, grove_of}
use Rattle.meaning.specs.Shape.{own, hits, forest_uses, row_users}
use Rattle.shape_users.proofs.Counts.{then, each_once}
use Rattle.shape_users.proofs.rows_once.Goals as goal

pub returns : goal.returns
unfolding row_users sheet_of grove_of
returns c =
    each_once (row_users (sheet_of c.args.s.now)) c.requires c.new-tally.ensures
    (then
    (c.each.ensures (λ r i. hits own r (forest_uses ((grove_of c.args.s.now).row i)) ((grove_of c.args.s.now).row i)) (λ i t u h. search rules))
    c.refer.ensures)
    (λ r. rw (c.rows.ensures.is, c.root.ensures)) c.rows-2.ensures.is c.all_one.ensures
