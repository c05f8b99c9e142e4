-- `calls::chukelowa_write` meets its contract: the writer's reply, plainly.
use mathlib.Core.Path.{ap, ◌∙◌}
use Rattle.meaning.specs.Reply.{Copied, answer_code}
use Rattle.calls.specs.Plain.{plain}
use Rattle.calls.proofs.chukelowa_write.Goals as goal

pub returns : goal.returns
returns c = record { says = c.copied.ensures ∙ ap (λ (k : Copied). plain (answer_code k.answer) 0 0 0) c.write.ensures; leaves = ap (λ (k : Copied). k.bytes) c.write.ensures }
