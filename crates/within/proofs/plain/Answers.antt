-- `within::plain` meets its contract: the type is written out, and its sum is the answer.
use Rattle.std.proofs.Common.{rules}
use Rattle.within.specs.Plain.{plain_answers}
use Rattle.within.proofs.plain.Goals as goal

pub sum_up-requires : goal.sum_up-requires
sum_up-requires c = (c.in_ok-write.ensures.written (search rules)).lower

pub returns : goal.returns
returns c = plain_answers c.requires.loads c.requires.grows.0 (c.in_ok-write.ensures.written (search rules)) (c.in_ok-write.ensures.narrow (search rules)) c.args.wanted _ _ c.sum_up.ensures c.plain_sum.ensures
