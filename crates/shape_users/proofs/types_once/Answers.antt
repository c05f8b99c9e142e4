-- `shape_users::types_once` meets its contract: what is counted from nothing is the number of users.
use Rattle.std.proofs.Common.{rules}
use Rattle.meaning.specs.Sheet.{sheet_of, script_of}
use Rattle.meaning.specs.Shape.{own, hit, hits, procedure_hits, type_uses, type_users}
use Rattle.shape_users.proofs.Counts.{then, each_once}
use Rattle.shape_users.proofs.types_once.Goals as goal

pub returns : goal.returns
unfolding type_users sheet_of script_of
returns c =
    each_once (type_users (sheet_of c.args.s.now)) c.requires c.new-tally.ensures
    (then (then (then (then
    (c.each.ensures (λ r i. hits own r (type_uses ((script_of c.args.s.now).type_row i)) ((script_of c.args.s.now).type_row i)) (λ i t u h. search rules))
    (c.each-2.ensures (λ r i. hit r ((script_of c.args.s.now).name_row i)) (λ i t u h. search rules)))
    (c.each-3.ensures (λ r i. procedure_hits (sheet_of c.args.s.now) r ((script_of c.args.s.now).procedure_row i)) (λ i t u h. search rules)))
    c.refer.ensures) c.refer-2.ensures)
    (λ r. rw (c.types.ensures.is, c.names.ensures.is, c.procedures.ensures.is, c.a.ensures, c.b.ensures)) c.types-2.ensures.is c.all_one.ensures
