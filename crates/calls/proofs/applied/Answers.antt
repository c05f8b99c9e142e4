-- `calls::applied` meets its contract: plainly, the numbers, units and root that `coded` gives.
use mathlib.Core.Path.{ap₂, ◌∙◌}
use Rattle.meaning.specs.Reply.{answer_code}
use Rattle.desk.specs.Applying.{applied_answer, first_units}
use Rattle.calls.specs.Plain.{plain}
use Rattle.calls.proofs.applied.Goals as goal

pub returns : goal.returns
returns c =
    c.plainly.ensures
    ∙ ap₂ (λ k u. plain k u c.last_units.result c.applied_root.result) c.applied.ensures c.first_units.ensures
    ∙ ap₂ (λ u r. plain (answer_code (applied_answer c.args.answer)) (first_units c.args.answer) u r) c.last_units.ensures c.applied_root.ensures
