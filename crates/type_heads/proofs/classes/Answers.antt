use Rattle.type_heads.specs.Classes.{classed_none}
use Rattle.type_heads.proofs.classes.Goals as goal

pub loop-i-init : goal.loop-i-init
loop-i-init c = rw c.requires.class_value (classed_none c.args.s.now c.args.same.now c.requires.clear)
