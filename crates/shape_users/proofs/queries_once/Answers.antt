-- `shape_users::queries_once` meets its contract: what is counted from nothing is the number of users.
use Rattle.std.proofs.Common.{rules}
use Rattle.meaning.specs.Sheet.{sheet_of, script_of}
use Rattle.meaning.specs.Shape.{own, asking, hits, query_uses, statement_uses, query_users}
use Rattle.shape_users.proofs.Counts.{then, each_once}
use Rattle.shape_users.proofs.queries_once.Goals as goal

pub returns : goal.returns
unfolding query_users sheet_of script_of
returns c =
    each_once (query_users (sheet_of c.args.s.now)) c.requires c.new-tally.ensures
    (then
    (c.each.ensures (λ r i. hits own r (query_uses ((script_of c.args.s.now).query_row i)) ((script_of c.args.s.now).query_row i)) (λ i t u h. search rules))
    (c.each-2.ensures (λ r i. hits asking r (statement_uses (script_of c.args.s.now).procedure_row ((script_of c.args.s.now).statement_row i)) ((script_of c.args.s.now).statement_row i)) (λ i t u h. search rules)))
    (λ r. rw (c.queries.ensures.is, c.statements.ensures.is)) c.queries-2.ensures.is c.all_one.ensures
