-- `calls::chukelowa_read` meets its contract: the reader's reply, plainly.
use mathlib.Core.Path.{ap, ◌∙◌}
use Rattle.meaning.specs.Reply.{Copied, answer_code}
use Rattle.calls.specs.Plain.{plain}
use Rattle.calls.proofs.chukelowa_read.Goals as goal

pub returns : goal.returns
returns c = record { says = c.copied.ensures ∙ ap (λ (k : Copied). plain (answer_code k.answer) 0 0 0) c.read.ensures; leaves = ap (λ (k : Copied). k.bytes) c.read.ensures }
