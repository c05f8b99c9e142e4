-- `within::declared` meets its contract: the type is written out, its points are taken, and whether it lies within the row is the answer.
use Rattle.meaning.specs.Sheet.{script_of}
use Rattle.std.proofs.Common.{rules}
use native.Mathlib.Omega.{arith}
use Rattle.meaning.specs.Laws.Tests.{table_high}
use Rattle.meaning.specs.Laws.Shaped.{few_types}
use Rattle.meaning.specs.Theorems.Sound.Written.{loads_shapely}
use Rattle.within.specs.Answers.{own_standing, lies_answers}
use Rattle.within.specs.Short.{itself, nothing_said, empty_answers, lies_alike}
use Rattle.within.proofs.declared.Goals as goal

pub returns-then-found-wanted : goal.returns-then-found-wanted
returns-then-found-wanted c = itself c.requires.loads c.requires.grows.0 _ c.requires.wanted_value.0 _ c.if-found-wanted.true

pub has-requires : goal.has-requires
has-requires c = (omega (arith, table_high (script_of c.args.s.now).types c.args.wanted c.requires.wanted_value.0, few_types c.args.s.now (loads_shapely c.requires.loads)), omega arith)

pub returns-in-Nothing : goal.returns-in-Nothing
returns-in-Nothing c = empty_answers c.requires.loads c.requires.grows.0 _ c.requires.wanted_value.0 c.requires.lent.points _ (nothing_said c.as_type.ensures (c.row.ensures c.args.used c.requires.grows.1) c.in-Nothing.is) _ c.has.ensures

pub is_own-requires : goal.is_own-requires
is_own-requires c = (c.requires.grows.0, (omega (arith, table_high (script_of c.args.s.now).types c.args.wanted c.requires.wanted_value.0)), omega (arith, table_high (script_of c.args.s.now).types c.args.wanted c.requires.wanted_value.0, few_types c.args.s.now (loads_shapely c.requires.loads)))

pub returns-then-is_own : goal.returns-then-is_own
returns-then-is_own c = lies_alike c.requires.grows.0 _ c.requires.wanted_value.0 (c.in_ok-write.ensures.written (search rules)) (c.in_ok-write.ensures.narrow (search rules)) (c.is_own.ensures c.if-is_own.true)

pub in_row-requires-clause-standing : goal.in_row-requires-clause-standing
in_row-requires-clause-standing c = own_standing c.requires.grows.0 (c.in_ok-write.ensures.written (search rules))

pub returns : goal.returns
returns c = lies_answers c.requires.grows.0 (c.in_ok-write.ensures.written (search rules)) (c.in_ok-write.ensures.narrow (search rules)) c.in_row.ensures
