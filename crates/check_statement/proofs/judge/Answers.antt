-- `check_statement::judge` meets its contract: the test's fate of what the focus acts as.
use mathlib.Core.Path.{ap, ◌∙◌}
use Rattle.check_statement.specs.Typing.{fate_of}
use Rattle.check_statement.proofs.Laws.{fate_is}
use Rattle.check_statement.proofs.judge.Goals as goal

pub returns : goal.returns
returns c = λ n g i. ap fate_of c.verdict.ensures ∙ fate_is c.atom_of.result c.args.what (c.atom_of.ensures n g i)
