-- `calls::checked` meets its contract: plainly, the numbers and units that `coded` gives.
use mathlib.Core.Path.{ap₂, ◌∙◌}
use Rattle.calls.specs.Plain.{plain}
use Rattle.calls.proofs.checked.Goals as goal

pub returns : goal.returns
returns c = c.plainly.ensures ∙ ap₂ (λ k u. plain k u 0 0) c.checked.ensures c.check_units.ensures
