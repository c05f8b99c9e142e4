-- `bundle::need_in` meets its contract: the layout is that of the front.
use mathlib.Core.Path.{sym}
use lib.Seq.{length-take-le}
use Rattle.bundle.proofs.need_in.Goals as goal

pub slice_bounds-need_of-end : goal.slice_bounds-need_of-end
slice_bounds-need_of-end c = sym (length-take-le c.args.size c.args.p.now c.requires)
