-- `shape_scope::word::ScopeWord::add_forest` meets its contract: the next digit is 0 already (specs/Places.antt).
use Rattle.shape_scope.specs.Places.{forest_more, forest_neat, room}
use Rattle.shape_scope.proofs.word.ScopeWord.add_forest.Goals as goal

pub invariant_of-result : goal.invariant_of-result
invariant_of-result c = record { neat = forest_neat c.args.self.word c.args.self.neat (room c.args.self.word c.requires) }

pub returns : goal.returns
returns c = forest_more c.args.self.word c.args.self.neat (room c.args.self.word c.requires)
