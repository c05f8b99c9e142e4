-- `shape_scope::parameters` meets its contract: no parameter, one or two, each a forest.
use Rattle.shape_scope.specs.Places.{none_first, none_second, two_parameters}
use Rattle.shape_scope.proofs.parameters.Goals.{in-0-default, in_default-eq0, in_default}
use Rattle.shape_scope.proofs.parameters.Goals as goal

pub returns : goal.returns
returns c = elim c.match-first.branch [
  | in-0-default w ↦ rw w.result-is (none_first c.args.first c.args.second w.in-0-default.is-0)
  | in_default-eq0 w ↦ rw w.result-is (none_second c.args.first c.args.second w.in_default-eq0.is-0.1 w.in_default-eq0.is-1)
  | in_default w ↦ rw w.result-is (two_parameters c.args.first c.args.second w.in_default.is-0.1 w.in_default.is-1.1)
]
