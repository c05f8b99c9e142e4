-- `forest_rows::look` meets its contract: none, more than one, or the one tree by its kind.
use native.Mathlib.Omega.{arith}
use Rattle.meaning.specs.Theorems.ReadBack.{lent_row}
use Rattle.sheet.specs.Laid.{cells_of}
use Rattle.forest_rows.specs.Table.{said_text, said_bool, said_node}
use Rattle.forest_rows.proofs.Leaves.{see_none, see_many, see_text, see_bool, see_node, see_child}
use Rattle.forest_rows.proofs.look.Goals as goal

pub returns-then-root-eq0 : goal.returns-then-root-eq0
returns-then-root-eq0 c = λ byte. record { by = see_none byte (lent_row c.args.rows.now) c.args.root c.if-root-eq0.true }

pub row-t-requires : goal.row-t-requires
row-t-requires c = (omega arith, c.requires.small, c.requires.there)

pub returns-then-t-ne0 : goal.returns-then-t-ne0
returns-then-t-ne0 c = λ byte. record { by = see_many byte (lent_row c.args.rows.now) c.args.root (cells_of c.row-t.result) c.requires.low (omega arith) c.row-t.ensures.is c.if-t-ne0.true }

pub returns-in-Text : goal.returns-in-Text
returns-in-Text c = λ byte.
    let e = said_text (cells_of c.row-t.result) c.in-Text.ensures in
    rw (e.1, e.2) (record { by = record { is = see_text byte (lent_row c.args.rows.now) c.args.root (cells_of c.row-t.result) c.requires.low (omega (arith, c.if-root-eq0.false)) c.row-t.ensures.is c.if-t-ne0.false e.0; offset = c.row-t.ensures.small.p; size = c.row-t.ensures.small.q } })

pub returns-in-Bool : goal.returns-in-Bool
returns-in-Bool c = λ byte. record { by = see_bool byte (lent_row c.args.rows.now) c.args.root (cells_of c.row-t.result) c.requires.low (omega (arith, c.if-root-eq0.false)) c.row-t.ensures.is c.if-t-ne0.false c.in-Bool.b (said_bool (cells_of c.row-t.result) c.in-Bool.ensures) }

pub returns-in-Node : goal.returns-in-Node
returns-in-Node c = λ byte.
    let e = said_node (cells_of c.row-t.result) c.in-Node.ensures in
    rw (e.1, e.2) (record { by = record { is = see_node byte (lent_row c.args.rows.now) c.args.root (cells_of c.row-t.result) c.requires.low (omega (arith, c.if-root-eq0.false)) c.row-t.ensures.is c.if-t-ne0.false e.0; label = c.row-t.ensures.small.p; inside = see_child byte (lent_row c.args.rows.now) c.args.root (cells_of c.row-t.result) c.requires.low (omega (arith, c.if-root-eq0.false)) c.row-t.ensures.is c.if-t-ne0.false e.0 } })
