-- `calls::copied` meets its contract: plainly, the numbers that `coded` gives.
use mathlib.Core.Path.{ap, ◌∙◌}
use Rattle.calls.specs.Plain.{plain}
use Rattle.calls.proofs.copied.Goals as goal

pub returns : goal.returns
returns c = c.plainly.ensures ∙ ap (λ k. plain k 0 0 0) c.copied.ensures
