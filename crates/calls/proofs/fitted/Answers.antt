-- `calls::fitted` meets its contract: plainly, the numbers that `coded` gives.
use mathlib.Core.Path.{ap, ◌∙◌}
use Rattle.calls.specs.Plain.{plain}
use Rattle.calls.proofs.fitted.Goals as goal

pub returns : goal.returns
returns c = c.plainly.ensures ∙ ap (λ k. plain k 0 0 0) c.fitted.ensures
