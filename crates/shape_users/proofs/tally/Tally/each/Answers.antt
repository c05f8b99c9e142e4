use Rattle.shape_users.proofs.Counts.{start, turn}
use Rattle.shape_users.proofs.tally.Tally.each.Goals as goal

pub loop-i-init : goal.loop-i-init
loop-i-init g c = λ amount calls. start amount c.args.self.now.small

pub loop-i-preserved : goal.loop-i-preserved
loop-i-preserved g c = λ amount calls. turn amount c.loop-i.i (c.loop-i.invariant amount calls) (calls _ _ _ c.count.ensures)
