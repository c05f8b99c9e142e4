-- `type_ties::lowest_tie` meets its contract: nothing is tied where no two places have one head, and else the tables say it.
use Rattle.type_ties.specs.Sound.{says_apart}
use Rattle.type_ties.proofs.lowest_tie.Goals as goal

pub returns-then-apart : goal.returns-then-apart
returns-then-apart c = says_apart c.requires (c.apart.ensures.yes c.if-apart.true)
