-- `walk::Scope::value` meets its contract: a place in use holds the value, past them stands row 0.
use Rattle.std.proofs.Common.{arith, rules, ◌∙◌}
use Rattle.walk.specs.Scope.{value_none, value_some}
use Rattle.walk.proofs.Scope.value.Goals as goal

pub returns-then-self-v : goal.returns-then-self-v
returns-then-self-v c = value_none c.args.self c.args.v c.requires (search rules) (omega arith)

pub returns : goal.returns
returns c = c.from.ensures ∙ value_some c.args.self c.args.v (omega arith)
