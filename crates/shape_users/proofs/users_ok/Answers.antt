-- `shape_users::users_ok` meets its contract: the limits leave each table its place in a tally, and the four tables come one after the other.
use Rattle.std.proofs.Common.{arith}
use Rattle.meaning.specs.Sheet.{sheet_of}
use Rattle.meaning.specs.Laws.Shaped.{few}
use Rattle.shape_users.proofs.users_ok.Goals as goal

pub types_once-requires : goal.types_once-requires
unfolding sheet_of
types_once-requires c = let f = few (sheet_of c.args.s.now) c.requires in omega (arith, f.types)

pub queries_once-requires : goal.queries_once-requires
unfolding sheet_of
queries_once-requires c = let f = few (sheet_of c.args.s.now) c.requires in omega (arith, f.queries)

pub statements_once-requires : goal.statements_once-requires
unfolding sheet_of
statements_once-requires c = let f = few (sheet_of c.args.s.now) c.requires in omega (arith, f.statements)

pub rows_once-requires : goal.rows_once-requires
unfolding sheet_of
rows_once-requires c = let f = few (sheet_of c.args.s.now) c.requires in omega (arith, f.rows)
