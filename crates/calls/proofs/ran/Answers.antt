-- `calls::ran` meets its contract: plainly, the numbers, units and root that `coded` gives.
use mathlib.Core.Path.{ap, ap₂, ◌∙◌}
use Rattle.meaning.specs.Reply.{answer_code}
use Rattle.desk.specs.Said.{ran_answer}
use Rattle.calls.specs.Plain.{plain}
use Rattle.calls.proofs.ran.Goals as goal

pub returns : goal.returns
returns c = c.plainly.ensures ∙ ap (λ k. plain k 0 c.run_units.result c.root.result) c.ran.ensures ∙ ap₂ (λ u r. plain (answer_code (ran_answer c.args.answer)) 0 u r) c.run_units.ensures c.root.ensures
