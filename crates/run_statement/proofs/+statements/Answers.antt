-- The evaluators of a run's statements, which call each other, meet their contracts.
use native.Mathlib.Omega.{arith}
use mathlib.Core.Path.{◌≡◌, ap, ◌∙◌, refl}
use mathlib.Core.Bool.{true}
use Rattle.std.proofs.Common.{ℕ, inl, inr}
use Rattle.meaning.specs.Sheet as meaning
use Rattle.walk.specs.Meets.{met_exit, roomy_after, stop_then, met_of, ran_stop, ran_exit, met_ret, met_nil, stop_tick}
use Rattle.run_statement.specs.Edit.{fits, edits_query, edits_part, edits_after, edits_with, edits_fresh, fits_children, fits_if, body_went, fits_left, fits_let, fits_more, fits_then, fits_right, fits_snapshot, edits_row, statement_is, called_is, fits_iter, went_as, went_deep, went_fuel, fits_test, on}
use Rattle.run_statement.proofs.Laws.{finds_none, finds_one, finds_two, call_none, call_stop, call_one, call_second_stop, call_two, first_fits, both_fit, children_stuck, children_stop, children_met, choose_met, choose_stuck, body_looped, beside_stop, beside_met, let_met, then_met, snapshot_met, met_stuck, test_misfit, test_matched, test_passed, body_on}
use Rattle.meaning.specs.Run.{statement_of}
use Rattle.forest_rows.specs.Asks.{node_asks, arm_both, sees_bool, no_bool, sees_node, no_node}
use Rattle.run_query.specs.Ask.{pool}
use Rattle.sheet.specs.Laid.{cells_of}
use Rattle.walk.specs.Loop.{turns_exit}
use Rattle.forest_rows.specs.Each.{loop_start, loop_ready, loop_done, loop_stop, loop_more, one_ready, one_stop, one_links, one_more}
use Rattle.forest_rows.specs.Rows.{fronted}
use Rattle.walk.specs.Fits.{a_place}
use Rattle.run_statement.proofs.+statements.Goals as goal
use Rattle.run_statement.proofs.+statements.Goals.{choose-then-yes, choose-else-yes}

-- `call`: a call: its queries, then the body with what they gave alone.
pub call-statement-requires : goal.call-statement-requires
call-statement-requires t c = (omega arith, edits_fresh (edits_part c.requires.0 c.args.focus c.requires.0.asks.ready.focus c.requires.0.asks.scope) c.new-none.ensures (finds_none c.args.s.now c.args.depth c.args.to c.args.q c.args.r (ap (λ (p : meaning.Procedure). p.body) c.procedure_row-body.ensures) c.requires.1 c.new-none.ensures c.if-q-eq0.true))

pub call-returns-then-q-eq0 : goal.call-returns-then-q-eq0
call-returns-then-q-eq0 t c = call_none c.args.s.now c.args.depth c.args.to c.args.q c.args.r c.requires.0.asks.ready (ap (λ (p : meaning.Procedure). p.body) c.procedure_row-body.ensures) c.new-none.ensures c.if-q-eq0.true c.statement.ensures.met

pub call-query-requires : goal.call-query-requires
call-query-requires t c = edits_query c.requires.0 (first_fits c.args.s.now c.args.depth c.args.scope c.args.to c.args.q c.args.r c.if-q-eq0.false c.requires.0.asks.scope)

pub call-statement-requires-then-r-eq0 : goal.call-statement-requires-then-r-eq0
call-statement-requires-then-r-eq0 t c = let f = c.in_ok-x.ensures.met.by in (omega arith, edits_with (edits_fresh (edits_after c.requires.0 c.args.focus c.query.auto.rows f (omega (arith, c.requires.0.asks.ready.focus, f.grown)) c.requires.0.asks.scope) c.new-none.ensures c.requires.0.asks.scope) c.with-one.ensures (omega (arith, c.new-none.ensures.none)) f.inside (finds_one c.args.s.now c.args.depth c.args.to c.args.q c.args.r (ap (λ (p : meaning.Procedure). p.body) c.procedure_row-body.ensures) c.requires.1 c.new-none.ensures c.with-one.ensures c.if-q-eq0.false c.if-r-eq0.true))

pub call-returns-then-r-eq0 : goal.call-returns-then-r-eq0
call-returns-then-r-eq0 t c = call_one c.args.s.now c.args.depth c.args.to c.args.q c.args.r c.requires.0.asks.ready (ap (λ (p : meaning.Procedure). p.body) c.procedure_row-body.ensures) c.in_ok-x.ensures.met.by c.if-q-eq0.false c.new-none.ensures c.with-one.ensures c.if-r-eq0.true c.statement-then-r-eq0.ensures.met

pub call-query-requires-2 : goal.call-query-requires-2
call-query-requires-2 t c = let f = c.in_ok-x.ensures.met.by in (edits_after c.requires.0 0 c.query.auto.rows f (omega arith) (both_fit c.args.s.now c.args.depth c.args.scope c.args.to c.args.q c.args.r c.if-q-eq0.false c.if-r-eq0.false c.requires.0.asks.scope)).asks

pub call-returns-in_err-x : goal.call-returns-in_err-x
call-returns-in_err-x t c = met_exit _ c.from_residual.ensures.1 (call_stop c.args.s.now c.args.depth c.args.to c.args.q c.args.r c.requires.0.asks.ready (ap (λ (p : meaning.Procedure). p.body) c.procedure_row-body.ensures) c.if-q-eq0.false c.in_err-x.ensures.met.by)

pub call-returns-in_err-y : goal.call-returns-in_err-y
call-returns-in_err-y t c = call_second_stop c.args.s.now c.args.depth c.args.to c.args.q c.args.r c.requires.0.asks.ready (ap (λ (p : meaning.Procedure). p.body) c.procedure_row-body.ensures) c.in_ok-x.ensures.met.by c.if-q-eq0.false c.new-none.ensures c.with-one.ensures c.if-r-eq0.false _ c.from_residual-in_err-y.ensures.1 c.in_err-y.ensures.met.by

pub call-returns : goal.call-returns
call-returns t c = call_two c.args.s.now c.args.depth c.args.to c.args.q c.args.r c.requires.0.asks.ready (ap (λ (p : meaning.Procedure). p.body) c.procedure_row-body.ensures) c.in_ok-x.ensures.met.by c.if-q-eq0.false c.new-none.ensures c.with-one.ensures c.if-r-eq0.false c.in_ok-y.ensures.met.by c.with.ensures c.statement-2.ensures.met

-- `children`: the children of one labelled tree, edited, under its label.
pub children-statement-requires : goal.children-statement-requires
children-statement-requires t c = let n = (sees_node (pool c.args.s.now) c.args.rows.now c.args.focus c.look.result c.in-Some.ensures (c.look.ensures (pool c.args.s.now))) in (omega arith, edits_part c.requires _ (omega (arith, n.inside, c.requires.asks.ready.focus)) (fits_children c.args.s.now c.args.depth c.args.scope c.args.p c.requires.asks.scope))

pub children-make-requires : goal.children-make-requires
children-make-requires t c = let f = c.in_ok-x.ensures.met.by in let n = (sees_node (pool c.args.s.now) c.args.rows.now c.args.focus c.look.result c.in-Some.ensures (c.look.ensures (pool c.args.s.now))) in node_asks _ _ (roomy_after c.requires.asks.ready.roomy c.statement.auto.rows f) n.label f.inside

pub children-returns-in_err-x : goal.children-returns-in_err-x
children-returns-in_err-x t c = met_exit _ c.from_residual.ensures.1 (children_stop c.args.s.now c.args.depth c.requires.asks.ready c.args.at c.args.p _ (sees_node (pool c.args.s.now) c.args.rows.now c.args.focus c.look.result c.in-Some.ensures (c.look.ensures (pool c.args.s.now))).is c.in_err-x.ensures.met.by)

pub children-returns : goal.children-returns
children-returns t c = children_met c.args.s.now c.args.depth c.requires.asks.ready c.args.at c.args.p _ (sees_node (pool c.args.s.now) c.args.rows.now c.args.focus c.look.result c.in-Some.ensures (c.look.ensures (pool c.args.s.now))).is c.in_ok-x.ensures.met.by (c.make.ensures (pool c.args.s.now))

-- `choose`: a condition, then one of two statements.
pub choose-query-requires : goal.choose-query-requires
choose-query-requires t c = edits_query c.requires (fits_if c.args.s.now c.args.depth c.args.scope c.args.p c.args.q c.args.r c.requires.asks.scope).0

pub choose-statement-requires : goal.choose-statement-requires
choose-statement-requires t c =
    let f = c.in_ok-x.ensures.met.by in
    let fit = fits_if c.args.s.now c.args.depth c.args.scope c.args.p c.args.q c.args.r c.requires.asks.scope in (
      omega arith,
      edits_after c.requires c.args.focus c.query.auto.rows f (omega (arith, c.requires.asks.ready.focus, f.grown))
          (arm_both (λ (r : ℕ). fits c.args.s.now c.args.depth c.args.scope r ≡ true) (elim c.if-yes.branch [ choose-then-yes w ↦ inl (w.if-yes.true, w.arm-is) | choose-else-yes w ↦ inr (w.if-yes.false, w.arm-is) ]) fit.1 fit.2),
    )

pub choose-returns-in_err-x : goal.choose-returns-in_err-x
unfolding statement_of
choose-returns-in_err-x t c = met_exit _ c.from_residual.ensures.1 (stop_then _ c.in_err-x.ensures.met.by)

-- `iter`: the loop: a turn for each tree, then what the links hold.
pub iter-loop-at-init : goal.iter-loop-at-init
iter-loop-at-init t c = (loop_start (body_went c.args.s.now c.args.rows.now c.args.scope c.args.depth c.args.body) (pool c.args.s.now) c.requires.asks.ready.roomy c.requires.asks.ready.focus, refl)

pub iter-turn-requires : goal.iter-turn-requires
iter-turn-requires t c = (omega arith, (record { shaped = c.requires.shaped; asks = record { ready = loop_ready (body_went c.args.s.now c.args.rows.now c.args.scope c.args.depth c.args.body) (pool c.args.s.now) c.requires.asks.ready.roomy c.requires.asks.ready.focus c.loop-at.invariant.0 c.requires.asks.ready.scoped c.loop-at.invariant.1; scope = c.requires.asks.scope } }, omega (arith, c.loop-at-test.true), c.loop-at.invariant.0.linked, c.loop-at.invariant.0.links))

pub iter-loop-at-preserved : goal.iter-loop-at-preserved
iter-loop-at-preserved t c = (loop_more (body_went c.args.s.now c.args.rows.now c.args.scope c.args.depth c.args.body) (pool c.args.s.now) c.requires.asks.ready.roomy c.requires.asks.ready.focus c.loop-at.invariant.0 (cells_of c.row-next.result) (omega (arith, c.loop-at-test.true)) c.row-next.ensures.is (body_looped c.args.s.now c.args.rows.now c.requires.asks.ready.roomy.low c.requires.asks.ready.scoped c.args.depth c.args.body c.loop-at.invariant.0) c.in_ok-links.ensures.by, c.turn.auto.rows ∙ c.loop-at.invariant.1)

pub iter-returns : goal.iter-returns
iter-returns t c = met_of (loop_done (body_went c.args.s.now c.args.rows.now c.args.scope c.args.depth c.args.body) (pool c.args.s.now) c.requires.asks.ready.roomy c.requires.asks.ready.focus c.loop-at.invariant.0 (omega (arith, c.loop-at-test.false)) (c.gather-g.ensures (pool c.args.s.now)))

-- `put_left`: what a statement gives on (), before the focus.
pub put_left-statement-requires : goal.put_left-statement-requires
put_left-statement-requires t c = (omega arith, edits_part c.requires 0 (omega arith) (fits_left c.args.s.now c.args.depth c.args.scope c.args.p c.requires.asks.scope))

pub put_left-returns-in_err-x : goal.put_left-returns-in_err-x
unfolding statement_of
put_left-returns-in_err-x t c = met_exit _ c.from_residual.ensures.1 (beside_stop c.args.s.now c.args.depth c.requires.asks.ready c.args.p (λ x f. fronted x f) c.in_err-x.ensures.met.by)

pub put_left-returns : goal.put_left-returns
unfolding statement_of
put_left-returns t c = beside_met c.args.s.now c.args.depth c.requires.asks.ready c.args.p (λ x f. fronted x f) c.in_ok-x.ensures.met.by (c.front.ensures (pool c.args.s.now))

-- `let_in`: a forest variable more: its value, then the statement in the scope with a place more.
pub let_in-query-requires : goal.let_in-query-requires
let_in-query-requires t c = edits_query c.requires (fits_let c.args.s.now c.args.depth c.args.scope c.args.p c.args.q c.requires.asks.scope).0

pub let_in-with-requires : goal.let_in-with-requires
let_in-with-requires t c = let f = c.in_ok-x.ensures.met.by in (a_place c.requires.asks.ready.scoped (fits_let c.args.s.now c.args.depth c.args.scope c.args.p c.args.q c.requires.asks.scope).1, omega (arith, f.inside, f.paid, c.requires.asks.ready.roomy.small))

pub let_in-statement-requires : goal.let_in-statement-requires
let_in-statement-requires t c = let f = c.in_ok-x.ensures.met.by in let fit = (fits_let c.args.s.now c.args.depth c.args.scope c.args.p c.args.q c.requires.asks.scope) in (omega arith, edits_with (edits_after c.requires c.args.focus c.query.auto.rows f (omega (arith, c.requires.asks.ready.focus, f.grown)) c.requires.asks.scope) c.with.ensures (a_place c.requires.asks.ready.scoped fit.1) f.inside (fits_more c.args.s.now c.args.depth c.args.scope c.args.q c.with.ensures fit.2))

pub let_in-returns-in_err-x : goal.let_in-returns-in_err-x
unfolding statement_of
let_in-returns-in_err-x t c = met_exit _ c.from_residual.ensures.1 (stop_then _ c.in_err-x.ensures.met.by)

pub let_in-returns : goal.let_in-returns
let_in-returns t c = let_met c.args.s.now c.args.depth c.requires.asks.ready c.args.p c.in_ok-x.ensures.met.by c.args.q c.with.ensures c.statement.ensures.met

-- `pair`: one statement, then another on what it gave.
pub pair-statement-requires : goal.pair-statement-requires
pair-statement-requires t c = (omega arith, edits_part c.requires c.args.focus c.requires.asks.ready.focus (fits_then c.args.s.now c.args.depth c.args.scope c.args.p c.args.q c.requires.asks.scope).0)

pub pair-statement-requires-2 : goal.pair-statement-requires-2
pair-statement-requires-2 t c = let f = c.in_ok-x.ensures.met.by in (omega arith, edits_after c.requires _ c.statement.auto.rows f f.inside (fits_then c.args.s.now c.args.depth c.args.scope c.args.p c.args.q c.requires.asks.scope).1)

pub pair-returns-in_err-x : goal.pair-returns-in_err-x
unfolding statement_of
pair-returns-in_err-x t c = met_exit _ c.from_residual.ensures.1 (stop_then _ c.in_err-x.ensures.met.by)

pub pair-returns : goal.pair-returns
pair-returns t c = then_met c.args.s.now c.args.depth c.requires.asks.ready c.args.p c.args.q c.in_ok-x.ensures.met.by c.statement-2.ensures.met

-- `put_right`: what a statement gives on (), behind the focus.
pub put_right-statement-requires : goal.put_right-statement-requires
put_right-statement-requires t c = (omega arith, edits_part c.requires 0 (omega arith) (fits_right c.args.s.now c.args.depth c.args.scope c.args.p c.requires.asks.scope))

pub put_right-returns-in_err-x : goal.put_right-returns-in_err-x
unfolding statement_of
put_right-returns-in_err-x t c = met_exit _ c.from_residual.ensures.1 (beside_stop c.args.s.now c.args.depth c.requires.asks.ready c.args.p (λ x f. fronted f x) c.in_err-x.ensures.met.by)

pub put_right-returns : goal.put_right-returns
unfolding statement_of
put_right-returns t c = beside_met c.args.s.now c.args.depth c.requires.asks.ready c.args.p (λ x f. fronted f x) c.in_ok-x.ensures.met.by (c.front.ensures (pool c.args.s.now))

-- `snapshot`: the focus as a forest variable.
pub snapshot-with-requires : goal.snapshot-with-requires
snapshot-with-requires t c = (a_place c.requires.asks.ready.scoped (fits_snapshot c.args.s.now c.args.depth c.args.scope c.args.p c.requires.asks.scope).0, omega (arith, c.requires.asks.ready.focus, c.requires.asks.ready.roomy.small))

pub snapshot-statement-requires : goal.snapshot-statement-requires
snapshot-statement-requires t c = let fit = (fits_snapshot c.args.s.now c.args.depth c.args.scope c.args.p c.requires.asks.scope) in (omega arith, edits_with c.requires c.with.ensures (a_place c.requires.asks.ready.scoped fit.0) c.requires.asks.ready.focus (fits_more c.args.s.now c.args.depth c.args.scope c.args.p c.with.ensures fit.1))

pub snapshot-returns : goal.snapshot-returns
snapshot-returns t c = snapshot_met c.args.s.now c.args.depth c.requires.asks.ready c.args.p c.with.ensures c.statement.ensures.met

-- `statement`: a statement row: a level of depth, a unit, and then by its kind.
pub statement-returns-then-depth-eq0 : goal.statement-returns-then-depth-eq0
statement-returns-then-depth-eq0 t c = ran_stop (went_deep c.args.s.now c.args.rows.now c.args.scope c.args.depth c.args.at c.args.focus c.args.left.purse c.if-depth-eq0.true)

pub statement-pair-requires : goal.statement-pair-requires
statement-pair-requires t c = (omega (arith, c.if-depth-eq0.false), edits_row c.args.at c.if-depth-eq0.false c.statement_row.ensures.is c.in-Then.ensures.is c.in_ok-purse.ensures.by c.requires)

pub statement-choose-requires : goal.statement-choose-requires
statement-choose-requires t c = (omega (arith, c.if-depth-eq0.false), edits_row c.args.at c.if-depth-eq0.false c.statement_row.ensures.is c.in-If.ensures.is c.in_ok-purse.ensures.by c.requires)

pub statement-insert-requires : goal.statement-insert-requires
statement-insert-requires t c = edits_row c.args.at c.if-depth-eq0.false c.statement_row.ensures.is c.in-Insert.ensures.is c.in_ok-purse.ensures.by c.requires

pub statement-let_in-requires : goal.statement-let_in-requires
statement-let_in-requires t c = (omega (arith, c.if-depth-eq0.false), edits_row c.args.at c.if-depth-eq0.false c.statement_row.ensures.is c.in-Let.ensures.is c.in_ok-purse.ensures.by c.requires)

pub statement-snapshot-requires : goal.statement-snapshot-requires
statement-snapshot-requires t c = (omega (arith, c.if-depth-eq0.false), edits_row c.args.at c.if-depth-eq0.false c.statement_row.ensures.is c.in-Snapshot.ensures.is c.in_ok-purse.ensures.by c.requires)

pub statement-test-requires : goal.statement-test-requires
statement-test-requires t c = (omega (arith, c.if-depth-eq0.false), edits_row c.args.at c.if-depth-eq0.false c.statement_row.ensures.is c.in-Test.ensures.is c.in_ok-purse.ensures.by c.requires)

pub statement-children-requires : goal.statement-children-requires
statement-children-requires t c = (omega (arith, c.if-depth-eq0.false), edits_row c.args.at c.if-depth-eq0.false c.statement_row.ensures.is c.in-Children.ensures.is c.in_ok-purse.ensures.by c.requires)

pub statement-put_left-requires : goal.statement-put_left-requires
statement-put_left-requires t c = (omega (arith, c.if-depth-eq0.false), edits_row c.args.at c.if-depth-eq0.false c.statement_row.ensures.is c.in-Left.ensures.is c.in_ok-purse.ensures.by c.requires)

pub statement-put_right-requires : goal.statement-put_right-requires
statement-put_right-requires t c = (omega (arith, c.if-depth-eq0.false), edits_row c.args.at c.if-depth-eq0.false c.statement_row.ensures.is c.in-Right.ensures.is c.in_ok-purse.ensures.by c.requires)

pub statement-iter-requires : goal.statement-iter-requires
statement-iter-requires t c = (omega (arith, c.if-depth-eq0.false), edits_part (edits_row c.args.at c.if-depth-eq0.false c.statement_row.ensures.is c.in-Iter.ensures.is c.in_ok-purse.ensures.by c.requires) c.args.focus c.requires.asks.ready.focus (fits_iter c.args.s.now _ c.args.scope _ (edits_row c.args.at c.if-depth-eq0.false c.statement_row.ensures.is c.in-Iter.ensures.is c.in_ok-purse.ensures.by c.requires).asks.scope))

pub statement-call-requires : goal.statement-call-requires
statement-call-requires t c = (omega (arith, c.if-depth-eq0.false), (edits_row c.args.at c.if-depth-eq0.false c.statement_row.ensures.is c.in-Call.ensures.is c.in_ok-purse.ensures.by c.requires, called_is c.args.s.now c.args.at c.statement_row.ensures.is c.in-Call.ensures.call _ c.requires.shaped))

pub statement-returns-in_err-purse : goal.statement-returns-in_err-purse
statement-returns-in_err-purse t c = ran_exit _ c.from_residual.ensures.1 (went_fuel c.args.s.now c.args.rows.now c.args.scope c.args.depth c.args.at c.args.focus c.args.left.purse.left c.if-depth-eq0.false c.in_err-purse.ensures.by)

pub statement-returns-in-Skip : goal.statement-returns-in-Skip
unfolding statement_of
statement-returns-in-Skip t c = went_as c.args.s.now c.args.scope c.args.depth c.args.at c.if-depth-eq0.false (statement_is c.args.s.now c.args.at c.statement_row.ensures.is c.in-Skip.ensures.is) c.args.focus _ c.in_ok-purse.ensures.by (met_of (met_ret _ c.requires.asks.ready.roomy.low c.requires.asks.ready.focus))

pub statement-returns-in-Then : goal.statement-returns-in-Then
unfolding statement_of
statement-returns-in-Then t c = went_as c.args.s.now c.args.scope c.args.depth c.args.at c.if-depth-eq0.false (statement_is c.args.s.now c.args.at c.statement_row.ensures.is c.in-Then.ensures.is) c.args.focus _ c.in_ok-purse.ensures.by c.pair.ensures

pub statement-returns-in-If : goal.statement-returns-in-If
unfolding statement_of
statement-returns-in-If t c = went_as c.args.s.now c.args.scope c.args.depth c.args.at c.if-depth-eq0.false (statement_is c.args.s.now c.args.at c.statement_row.ensures.is c.in-If.ensures.is) c.args.focus _ c.in_ok-purse.ensures.by c.choose.ensures

pub statement-returns-in-Insert : goal.statement-returns-in-Insert
unfolding statement_of
statement-returns-in-Insert t c = went_as c.args.s.now c.args.scope c.args.depth c.args.at c.if-depth-eq0.false (statement_is c.args.s.now c.args.at c.statement_row.ensures.is c.in-Insert.ensures.is) c.args.focus _ c.in_ok-purse.ensures.by c.insert.ensures

pub statement-returns-in-Delete : goal.statement-returns-in-Delete
unfolding statement_of
statement-returns-in-Delete t c = went_as c.args.s.now c.args.scope c.args.depth c.args.at c.if-depth-eq0.false (statement_is c.args.s.now c.args.at c.statement_row.ensures.is c.in-Delete.ensures.is) c.args.focus _ c.in_ok-purse.ensures.by (met_of (met_nil _ c.requires.asks.ready.roomy.low))

pub statement-returns-in-Rename : goal.statement-returns-in-Rename
unfolding statement_of
statement-returns-in-Rename t c = went_as c.args.s.now c.args.scope c.args.depth c.args.at c.if-depth-eq0.false (statement_is c.args.s.now c.args.at c.statement_row.ensures.is c.in-Rename.ensures.is) c.args.focus _ c.in_ok-purse.ensures.by (c.rename.ensures (pool c.args.s.now))

pub statement-returns-in-Let : goal.statement-returns-in-Let
unfolding statement_of
statement-returns-in-Let t c = went_as c.args.s.now c.args.scope c.args.depth c.args.at c.if-depth-eq0.false (statement_is c.args.s.now c.args.at c.statement_row.ensures.is c.in-Let.ensures.is) c.args.focus _ c.in_ok-purse.ensures.by c.let_in.ensures

pub statement-returns-in-Snapshot : goal.statement-returns-in-Snapshot
unfolding statement_of
statement-returns-in-Snapshot t c = went_as c.args.s.now c.args.scope c.args.depth c.args.at c.if-depth-eq0.false (statement_is c.args.s.now c.args.at c.statement_row.ensures.is c.in-Snapshot.ensures.is) c.args.focus _ c.in_ok-purse.ensures.by c.snapshot.ensures

pub statement-returns-in-Test : goal.statement-returns-in-Test
unfolding statement_of
statement-returns-in-Test t c = went_as c.args.s.now c.args.scope c.args.depth c.args.at c.if-depth-eq0.false (statement_is c.args.s.now c.args.at c.statement_row.ensures.is c.in-Test.ensures.is) c.args.focus _ c.in_ok-purse.ensures.by c.test.ensures

pub statement-returns-in-Children : goal.statement-returns-in-Children
unfolding statement_of
statement-returns-in-Children t c = went_as c.args.s.now c.args.scope c.args.depth c.args.at c.if-depth-eq0.false (statement_is c.args.s.now c.args.at c.statement_row.ensures.is c.in-Children.ensures.is) c.args.focus _ c.in_ok-purse.ensures.by c.children.ensures

pub statement-returns-in-Left : goal.statement-returns-in-Left
unfolding statement_of
statement-returns-in-Left t c = went_as c.args.s.now c.args.scope c.args.depth c.args.at c.if-depth-eq0.false (statement_is c.args.s.now c.args.at c.statement_row.ensures.is c.in-Left.ensures.is) c.args.focus _ c.in_ok-purse.ensures.by c.put_left.ensures

pub statement-returns-in-Right : goal.statement-returns-in-Right
unfolding statement_of
statement-returns-in-Right t c = went_as c.args.s.now c.args.scope c.args.depth c.args.at c.if-depth-eq0.false (statement_is c.args.s.now c.args.at c.statement_row.ensures.is c.in-Right.ensures.is) c.args.focus _ c.in_ok-purse.ensures.by c.put_right.ensures

pub statement-returns-in-Iter : goal.statement-returns-in-Iter
unfolding statement_of
statement-returns-in-Iter t c = went_as c.args.s.now c.args.scope c.args.depth c.args.at c.if-depth-eq0.false (statement_is c.args.s.now c.args.at c.statement_row.ensures.is c.in-Iter.ensures.is) c.args.focus _ c.in_ok-purse.ensures.by c.iter.ensures

pub statement-returns-in-Call : goal.statement-returns-in-Call
unfolding statement_of
statement-returns-in-Call t c = went_as c.args.s.now c.args.scope c.args.depth c.args.at c.if-depth-eq0.false (statement_is c.args.s.now c.args.at c.statement_row.ensures.is c.in-Call.ensures.is) c.args.focus _ c.in_ok-purse.ensures.by c.call.ensures

-- `test`: a test: Stuck, the statement, or the tree as it is.
pub test-statement-requires : goal.test-statement-requires
test-statement-requires t c = (omega arith, edits_part c.requires c.args.tree c.requires.asks.ready.focus (fits_test c.args.s.now c.args.depth c.args.scope _ c.args.r c.requires.asks.scope))

pub test-returns-in-Misfit : goal.test-returns-in-Misfit
test-returns-in-Misfit t c = test_misfit c.args.s.now c.args.depth c.requires.asks.ready c.args.at c.args.what c.args.r (c.judge.ensures (pool c.args.s.now)) _ c.in-Misfit.is

pub test-returns-in-Matched : goal.test-returns-in-Matched
test-returns-in-Matched t c = test_matched c.args.s.now c.args.depth c.requires.asks.ready c.args.at c.args.what c.args.r (c.judge.ensures (pool c.args.s.now)) c.in-Matched.is c.statement.ensures.met

pub test-returns-in-Passed : goal.test-returns-in-Passed
test-returns-in-Passed t c = test_passed c.args.s.now c.args.depth c.requires.asks.ready c.args.at c.args.what c.args.r (c.judge.ensures (pool c.args.s.now)) c.in-Passed.is c.args.left.purse

-- `turn`: a turn: a unit, the tree alone in a row of its own, the body on it, its result kept as a link.
pub turn-statement-requires : goal.turn-statement-requires
turn-statement-requires t c = (omega arith, record { shaped = c.requires.0.shaped; asks = record { ready = one_ready (pool c.args.s.now) _ (cells_of c.row-t.result) c.requires.0.asks.ready.roomy c.requires.1 c.requires.0.asks.ready.focus c.in_ok-purse.ensures.by c.row-t.ensures.is (rw c.from.ensures at c.push-one.ensures.written) c.push-one.ensures.row c.requires.0.asks.ready.scoped c.push-one.auto.rows; scope = c.requires.0.asks.scope } })

pub turn-returns-in_err-purse : goal.turn-returns-in_err-purse
turn-returns-in_err-purse t c = turns_exit _ c.from_residual.ensures.1 (stop_tick _ _ c.in_err-purse.ensures.by)

pub turn-returns-in_err-x : goal.turn-returns-in_err-x
turn-returns-in_err-x t c = turns_exit _ c.from_residual-in_err-x.ensures.1 (one_stop (pool c.args.s.now) _ (cells_of c.row-t.result) c.requires.0.asks.ready.roomy c.requires.1 c.requires.0.asks.ready.focus c.in_ok-purse.ensures.by c.row-t.ensures.is (rw c.from.ensures at c.push-one.ensures.written) c.push-one.ensures.row (body_went c.args.s.now c.args.rows.now c.args.scope c.args.depth c.args.body) (body_on c.args.s.now c.args.rows.now c.requires.0.asks.ready.roomy.low c.requires.0.asks.ready.scoped c.args.depth c.args.body _ (rw c.from.ensures at c.push-one.ensures.written)) (on c.args.s.now c.args.rows.now c.args.link) c.in_err-x.ensures.met.by)

pub turn-returns : goal.turn-returns
turn-returns t c = one_more (pool c.args.s.now) _ (cells_of c.row-t.result) c.requires.0.asks.ready.roomy c.requires.1 c.requires.0.asks.ready.focus c.in_ok-purse.ensures.by c.row-t.ensures.is (rw c.from.ensures at c.push-one.ensures.written) c.push-one.ensures.row (body_went c.args.s.now c.args.rows.now c.args.scope c.args.depth c.args.body) (body_on c.args.s.now c.args.rows.now c.requires.0.asks.ready.roomy.low c.requires.0.asks.ready.scoped c.args.depth c.args.body _ (rw c.from.ensures at c.push-one.ensures.written)) c.in_ok-x.ensures.met.by c.in_ok-x.ensures.spare c.args.link c.requires.2 c.requires.3 (c.keep.ensures (pool c.args.s.now) (one_links (pool c.args.s.now) _ (cells_of c.row-t.result) c.requires.0.asks.ready.roomy c.requires.1 c.requires.0.asks.ready.focus c.in_ok-purse.ensures.by c.row-t.ensures.is (rw c.from.ensures at c.push-one.ensures.written) c.push-one.ensures.row (body_went c.args.s.now c.args.rows.now c.args.scope c.args.depth c.args.body) (body_on c.args.s.now c.args.rows.now c.requires.0.asks.ready.roomy.low c.requires.0.asks.ready.scoped c.args.depth c.args.body _ (rw c.from.ensures at c.push-one.ensures.written)) c.in_ok-x.ensures.met.by c.in_ok-x.ensures.spare c.args.link c.requires.2 c.requires.3))

pub choose-returns-in_default : goal.choose-returns-in_default
choose-returns-in_default t c = choose_stuck c.args.s.now c.args.depth c.requires.asks.ready c.args.p c.in_ok-x.ensures.met.by c.args.at c.args.q c.args.r (no_bool (pool c.args.s.now) _ _ c.look.result c.in_default.ensures (c.look.ensures (pool c.args.s.now))) _ refl

pub choose-returns : goal.choose-returns
choose-returns t c = choose_met c.args.s.now c.args.depth c.requires.asks.ready c.args.p c.in_ok-x.ensures.met.by c.args.at c.args.q c.args.r
    (sees_bool (pool c.args.s.now) _ _ c.look.result c.in-Some.ensures (c.look.ensures (pool c.args.s.now)))
    (elim c.if-yes.branch [ choose-then-yes w ↦ inl (w.if-yes.true, w.arm-is) | choose-else-yes w ↦ inr (w.if-yes.false, w.arm-is) ]) c.statement.ensures.met

pub children-returns-in_default : goal.children-returns-in_default
children-returns-in_default t c = children_stuck c.args.s.now c.args.depth c.requires.asks.ready c.args.at c.args.p (no_node (pool c.args.s.now) c.args.rows.now c.args.focus c.look.result c.in_default.ensures (c.look.ensures (pool c.args.s.now))) _

pub iter-returns-in_err-links : goal.iter-returns-in_err-links
iter-returns-in_err-links t c = met_exit _ c.from_residual.ensures.1 (loop_stop (body_went c.args.s.now c.args.rows.now c.args.scope c.args.depth c.args.body) (pool c.args.s.now) c.requires.asks.ready.roomy c.requires.asks.ready.focus c.loop-at.invariant.0 (cells_of c.row-next.result) (omega (arith, c.loop-at-test.true)) c.row-next.ensures.is (body_looped c.args.s.now c.args.rows.now c.requires.asks.ready.roomy.low c.requires.asks.ready.scoped c.args.depth c.args.body c.loop-at.invariant.0) c.in_err-links.ensures.by)

pub call-statement-requires-2 : goal.call-statement-requires-2
call-statement-requires-2 t c = let f = c.in_ok-x.ensures.met.by in let g = c.in_ok-y.ensures.met.by in (omega arith, edits_with (edits_with (edits_fresh (edits_after (edits_after c.requires.0 c.args.focus c.query.auto.rows f (omega (arith, c.requires.0.asks.ready.focus, f.grown)) c.requires.0.asks.scope) c.args.focus c.query-2.auto.rows g (omega (arith, c.requires.0.asks.ready.focus, f.grown, g.grown)) c.requires.0.asks.scope) c.new-none.ensures c.requires.0.asks.scope) c.with-one.ensures (omega (arith, c.new-none.ensures.none)) (omega (arith, f.inside, g.grown)) c.requires.0.asks.scope) c.with.ensures (omega (arith, c.new-none.ensures.none, c.with-one.ensures.count)) g.inside (finds_two c.args.s.now c.args.depth c.args.to c.args.q c.args.r (ap (λ (p : meaning.Procedure). p.body) c.procedure_row-body.ensures) c.requires.1 c.new-none.ensures c.with-one.ensures c.with.ensures c.if-q-eq0.false c.if-r-eq0.false))

pub statement-returns-in-Nothing : goal.statement-returns-in-Nothing
unfolding statement_of
statement-returns-in-Nothing t c = went_as c.args.s.now c.args.scope c.args.depth c.args.at c.if-depth-eq0.false (statement_is c.args.s.now c.args.at c.statement_row.ensures.is c.in-Nothing.ensures.is) _ _ c.in_ok-purse.ensures.by (met_stuck c.args.at _ refl)
