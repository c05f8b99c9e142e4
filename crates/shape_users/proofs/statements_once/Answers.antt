-- `shape_users::statements_once` meets its contract: what is counted from nothing is the number of users.
use Rattle.std.proofs.Common.{rules}
use Rattle.meaning.specs.Sheet.{sheet_of, script_of}
use Rattle.meaning.specs.Shape.{own, hit, hits, statement_uses, statement_users}
use Rattle.shape_users.proofs.Counts.{then, each_once}
use Rattle.shape_users.proofs.statements_once.Goals as goal

pub returns : goal.returns
unfolding statement_users sheet_of script_of
returns c =
    each_once (statement_users (sheet_of c.args.s.now)) c.requires c.new-tally.ensures
    (then (then
    (c.each.ensures (λ r i. hits own r (statement_uses (script_of c.args.s.now).procedure_row ((script_of c.args.s.now).statement_row i)) ((script_of c.args.s.now).statement_row i)) (λ i t u h. search rules))
    (c.each-2.ensures (λ r i. hit r ((script_of c.args.s.now).procedure_row i).body) (λ i t u h. search rules)))
    c.refer.ensures)
    (λ r. rw (c.statements.ensures.is, c.procedures.ensures.is, c.main.ensures)) c.statements-2.ensures.is c.all_one.ensures
