use Rattle.std.proofs.Common.{rules}
use Rattle.within.specs.Matched.{sheet_tabled}
use Rattle.within.specs.Steps.{sheet_rows, first_lost, going_first, ended, facing, clash, like, lost, going_on}
use Rattle.within.proofs.row.walks.Goals as goal

pub returns-then-not-own_walk : goal.returns-then-not-own_walk
returns-then-not-own_walk c = first_lost (c.args.tables.now.class, c.requires.setting) c.requires.w_value c.own_walk.ensures.walked c.requires.loads c.if-not-own_walk.true

pub loop-q-init : goal.loop-q-init
loop-q-init c = rw (c.forget.ensures, c.own_walk.ensures.kept, c.new-fresh.ensures) (going_first (c.args.tables.now.class, c.requires.setting) c.requires.w_value c.own_walk.ensures.walked c.if-not-own_walk.false)

pub meet-requires : goal.meet-requires
meet-requires c = facing c.loop-q.invariant c.in-Some.ensures.taken

pub returns-then-not-meet : goal.returns-then-not-meet
returns-then-not-meet c = clash c.loop-q.invariant c.in-Some.ensures.taken c.meet.ensures.outcome c.requires.loads c.if-not-meet.true

pub walk-requires-clause-tabled : goal.walk-requires-clause-tabled
walk-requires-clause-tabled c = rw (c.type_table-types.ensures.is, sheet_rows c.args.s.now) (sheet_tabled c.requires.setting)

pub walk-requires-clause-like : goal.walk-requires-clause-like
walk-requires-clause-like c = rw (c.type_table-types.ensures.is, sheet_rows c.args.s.now) (like c.loop-q.invariant c.in-Some.ensures.taken c.meet.ensures.outcome)

pub returns-then-not-walk : goal.returns-then-not-walk
returns-then-not-walk c =
    let walked = rw (c.type_table-types.ensures.is, sheet_rows c.args.s.now, c.meet.ensures.kept) at c.walk.ensures.walked in
    lost c.loop-q.invariant c.in-Some.ensures.taken c.meet.ensures.outcome walked c.requires.loads c.if-not-walk.true

pub loop-q-preserved : goal.loop-q-preserved
loop-q-preserved c =
    let walked = rw (c.type_table-types.ensures.is, sheet_rows c.args.s.now, c.meet.ensures.kept) at c.walk.ensures.walked in
    rw c.walk.ensures.kept (going_on c.loop-q.invariant c.in-Some.ensures.taken c.meet.ensures.outcome walked c.if-not-meet.false c.if-not-walk.false)

pub returns : goal.returns
returns c = ended c.loop-q.invariant c.requires.loads (c.take.ensures.none (search rules)).1
