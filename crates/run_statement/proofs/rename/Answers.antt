-- `run_statement::rename` meets its contract: a copy of one labelled tree under another label, else Stuck.
use mathlib.Core.Path.{ap}
use native.Mathlib.Omega.{arith}
use Rattle.meaning.specs.Run.{rename_of}
use Rattle.meaning.specs.Walk.{of_statement}
use Rattle.walk.specs.Meets.{met_as}
use Rattle.forest_rows.specs.Asks.{node_asks, sees_node, no_node}
use Rattle.run_statement.proofs.Laws.{met_stuck, rename_none}
use Rattle.run_statement.proofs.rename.Goals as goal

pub make-requires : goal.make-requires
make-requires c = let n = sees_node (λ b. 0) c.args.rows.now c.args.focus c.look.result c.in-Some.ensures (c.look.ensures (λ b. 0)) in node_asks _ _ c.requires.0 c.requires.2 (omega (arith, n.inside, c.requires.1))

pub returns-in_default : goal.returns-in_default
returns-in_default c = λ byte. met_stuck c.args.at _ (rename_none c.args.at c.args.label (no_node byte c.args.rows.now c.args.focus c.look.result c.in_default.ensures (c.look.ensures byte)))

pub returns : goal.returns
unfolding rename_of
returns c = λ byte. met_as (ap (rename_of (of_statement c.args.at) c.args.label) (sees_node byte c.args.rows.now c.args.focus c.look.result c.in-Some.ensures (c.look.ensures byte)).is) (c.make.ensures byte)
