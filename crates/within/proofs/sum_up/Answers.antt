use Rattle.within.specs.Plain.{summed_none}
use Rattle.within.proofs.sum_up.Goals as goal

pub loop-i-init : goal.loop-i-init
loop-i-init c = summed_none c.requires _ c.args.own.now.blank
