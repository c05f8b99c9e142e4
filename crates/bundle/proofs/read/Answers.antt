-- `bundle::read` meets its contract: refused 1, then 2, then 13, else the sheet copied.
use mathlib.Core.Path.{◌≡◌}
use Rattle.std.specs.Prelude.{Err}
use Rattle.std.proofs.Common.{rules, ℕ, List, ◌++◌, drop, ap}
use Rattle.bundle.proofs.Replies.{refused_by, was_refused, was_sheet, reads_block, reads_shape, reads_room, reads_done}
use Rattle.bundle.proofs.read.Goals as goal

pub slice_bounds-payload-end : goal.slice_bounds-payload-end
slice_bounds-payload-end c = (was_sheet c.«open».ensures c.in_ok-need.ensures.ok_part).by.3

pub returns-then-not-shapely : goal.returns-then-not-shapely
returns-then-not-shapely c = reads_shape c.args.tables.now (was_sheet c.«open».ensures c.in_ok-need.ensures.ok_part) c.shapely.ensures (c.if-not-shapely.true)

pub returns-then-tables-need : goal.returns-then-tables-need
returns-then-tables-need c = reads_room c.args.tables.now (was_sheet c.«open».ensures c.in_ok-need.ensures.ok_part) c.shapely.ensures (c.if-not-shapely.false) c.if-tables-need.true

pub returns-in_err-need : goal.returns-in_err-need
returns-in_err-need c = let r : c.from_residual.result ≡ Err c.in_err-need.field-0.0 = search rules in let f = refused_by c.«open».result c.in_err-need.ensures.value in rw (r, f.1) (reads_block c.args.b.now c.args.tables.now (was_refused c.«open».ensures f.0))

pub returns : goal.returns
returns c = reads_done c.args.tables.now (was_sheet c.«open».ensures c.in_ok-need.ensures.ok_part) c.shapely.ensures c.if-not-shapely.false c.if-tables-need.false
    (ap (λ (x : List ℕ). x ++ drop c.in_ok-need.need c.args.tables.now) c.copy_from_slice.ensures.after)
