-- `run_query::same_texts` meets its contract: two single texts give a bool, all else is Stuck.
use Rattle.forest_rows.specs.Asks.{sees_text, no_text}
use Rattle.run_query.specs.Ask.{pool}
use Rattle.run_query.proofs.Laws.{met_stuck, first_stuck, second_stuck, texts_met}
use Rattle.run_query.proofs.same_texts.Goals as goal

pub same_bytes-same-requires : goal.same_bytes-same-requires
same_bytes-same-requires c =
    let x = sees_text (pool c.args.s.now) c.args.rows.now c.args.x c.look.result c.in-Some.ensures (c.look.ensures (pool c.args.s.now)) in
    let y = sees_text (pool c.args.s.now) c.args.rows.now c.args.y c.look-2.result c.in-Some-text.ensures (c.look-2.ensures (pool c.args.s.now)) in
    (x.offset, x.size, y.offset, y.size)

pub returns-in_default : goal.returns-in_default
returns-in_default c = met_stuck c.args.at _ (first_stuck _ c.args.at (no_text (pool c.args.s.now) c.args.rows.now c.args.x c.look.result c.in_default.ensures (c.look.ensures (pool c.args.s.now))))

pub returns-in_default-text : goal.returns-in_default-text
returns-in_default-text c = met_stuck c.args.at _ (second_stuck c.args.at (sees_text (pool c.args.s.now) c.args.rows.now c.args.x c.look.result c.in-Some.ensures (c.look.ensures (pool c.args.s.now))).is
    (no_text (pool c.args.s.now) c.args.rows.now c.args.y c.look-2.result c.in_default-text.ensures (c.look-2.ensures (pool c.args.s.now))))

pub returns : goal.returns
returns c = texts_met (pool c.args.s.now) c.args.rows.now c.args.at
    (sees_text (pool c.args.s.now) c.args.rows.now c.args.x c.look.result c.in-Some.ensures (c.look.ensures (pool c.args.s.now))).is
    (sees_text (pool c.args.s.now) c.args.rows.now c.args.y c.look-2.result c.in-Some-text.ensures (c.look-2.ensures (pool c.args.s.now))).is
    (rw c.bytes.ensures.is at c.same_bytes-same.ensures) c.kind_of.ensures (c.make.ensures (pool c.args.s.now))
