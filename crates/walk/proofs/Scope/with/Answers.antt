-- `walk::Scope::with` meets its contract: the array after the store has one place more in use.
use Rattle.std.proofs.Common.{rules}
use Rattle.walk.specs.Scope.{more_of}
use Rattle.walk.proofs.Scope.with.Goals as goal

pub returns : goal.returns
returns c = more_of c.args.kind c.args.value c.requires.0 (search rules)
