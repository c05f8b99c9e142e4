-- `run_statement::judge` meets its contract: the test's fate of what is seen.
use mathlib.Core.Path.{ap, ◌∙◌}
use Rattle.run_statement.specs.Edit.{fate_of}
use Rattle.run_statement.proofs.Laws.{fate_is}
use Rattle.run_statement.proofs.judge.Goals as goal

pub returns : goal.returns
returns c = λ byte. ap fate_of c.verdict.ensures ∙ fate_is c.look.result c.args.what (c.look.ensures byte)
