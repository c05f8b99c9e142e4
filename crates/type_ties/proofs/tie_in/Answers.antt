-- `type_ties::tie_in` meets its contract: no two places of one head, or the lowest tie of the points.
use Rattle.type_ties.specs.Sound.{says_apart, says_tie}
use Rattle.type_ties.proofs.tie_in.Goals as goal

pub returns-then-apart : goal.returns-then-apart
returns-then-apart c = says_apart c.requires.s_value (c.apart.ensures.yes c.if-apart.true)

pub returns : goal.returns
returns c = says_tie c.requires.s_value c.requires.by_index.1 c.tie.ensures
