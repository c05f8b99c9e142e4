-- What types statements, a cycle of calls, meets its contracts.
use native.Mathlib.Omega.{arith}
use mathlib.Core.Path.{refl}
use Rattle.meaning.specs.Check.{statement_type}
use Rattle.meaning.specs.Theorems.Sound.Written.{loads_shapely}
use Rattle.type_rows.specs.Finds.{finds_err, finds_halt, room_after, halt_then, halt_mismatch, room_less}
use Rattle.type_rows.specs.Both.{asks_label, asks_choice, asks_seq, asks_pair, asks_star, asks_empty}
use Rattle.run_statement.specs.Edit.{fits_children, fits, fits_if, fits_then, fits_left, fits_let, fits_more, fits_right, fits_snapshot, statement_is, fits_form, fits_iter, fits_test}
use Rattle.check_statement.specs.Typing.{checks_part, checks_query, checks_after, checks_with, checks_less, body_goes, body_kept, goes_as, goes_deep, goes_fuel}
use Rattle.check_statement.proofs.Laws.{children_else, children_halts, children_finds, choose_halts, choose_finds, either_halts, either_finds, left_halts, left_finds, let_finds, then_finds, right_halts, right_finds, snapshot_finds, skip_finds, test_misfit, test_matched, test_passed}
use Rattle.meaning.specs.Laws.Bools.{and_both}
use Rattle.meaning.specs.Shape.{statement_scope}
use Rattle.walk.specs.Fits.{a_place}
use Rattle.type_rows.specs.Parts.{consists_nothing, consists_atom, consists_pair, consists_star, parts_fuel, nothing_finds, atom_finds, star_halts, star_finds, pair_halts, pair_halts_2, pair_finds}
use Rattle.meaning.specs.Types.{ty_form}
use Rattle.check_statement.specs.Calls.{form_called}
use Rattle.walk.specs.declared.Concern.TheVariants as concern
use Rattle.check_statement.proofs.+statements.Goals as goal

-- `children`: the content of a labelled atom, edited, under its label.
pub children-atom_of-requires : goal.children-atom_of-requires
children-atom_of-requires t c = (loads_shapely c.requires.checks.loads, omega (arith, c.requires.checks.ready.focus, c.requires.checks.ready.room.small))

pub children-statement-requires : goal.children-statement-requires
children-statement-requires t c = (omega arith, (checks_part c.requires.checks _ (c.in-Label.ensures c.args.left.used c.requires.checks.ready.room.grows c.requires.checks.ready.focus).by.inside (fits_children c.args.s.now c.args.depth c.args.scope c.args.p c.requires.checks.scope), c.requires.lent))

pub children-write-requires : goal.children-write-requires
children-write-requires t c = asks_label (room_after c.statement.auto.work c.in_ok-x.ensures.by c.requires.checks.ready.room) _ _ (c.in-Label.ensures c.args.left.used c.requires.checks.ready.room.grows c.requires.checks.ready.focus).by.label c.in_ok-x.ensures.by.inside

pub children-returns-in_err-x : goal.children-returns-in_err-x
children-returns-in_err-x t c = finds_err c.from_residual.ensures.1 (children_halts c.args.s.now c.args.depth c.requires.checks.ready c.args.at c.args.p _ (c.in-Label.ensures c.args.left.used c.requires.checks.ready.room.grows c.requires.checks.ready.focus).by.is c.in_err-x.ensures.by)

pub children-returns : goal.children-returns
children-returns t c = children_finds c.args.s.now c.args.depth c.requires.checks.ready c.args.at c.args.p _ (c.in-Label.ensures c.args.left.used c.requires.checks.ready.room.grows c.requires.checks.ready.focus).by.is c.in_ok-x.ensures.by c.write.ensures

pub children-returns-in_default : goal.children-returns-in_default
children-returns-in_default t c = children_else c.args.s.now c.args.depth c.requires.checks.ready c.args.at c.args.p _ c.atom_of.result c.in_default.not-Label (c.atom_of.ensures c.args.left.used c.requires.checks.ready.room.grows c.requires.checks.ready.focus)

-- `choose`: a condition, asked about, then both statements.
pub choose-query-requires : goal.choose-query-requires
choose-query-requires t c = checks_query c.requires.checks (fits_if c.args.s.now c.args.depth c.args.scope c.args.p c.args.q c.args.r c.requires.checks.scope).0

pub choose-either-requires : goal.choose-either-requires
unfolding statement_scope
choose-either-requires t c = (omega arith, (checks_after c.requires.checks c.args.focus c.query.auto.work c.in_ok-x.ensures.by (omega (arith, c.requires.checks.ready.focus, c.in_ok-x.ensures.by.grown)) (and_both (fits c.args.s.now c.args.depth c.args.scope c.args.q) (fits c.args.s.now c.args.depth c.args.scope c.args.r) (fits_if c.args.s.now c.args.depth c.args.scope c.args.p c.args.q c.args.r c.requires.checks.scope).1 (fits_if c.args.s.now c.args.depth c.args.scope c.args.p c.args.q c.args.r c.requires.checks.scope).2), c.requires.lent))

pub choose-returns-in_err-x : goal.choose-returns-in_err-x
unfolding statement_type
choose-returns-in_err-x t c = finds_err c.from_residual.ensures.1 (halt_then _ c.in_err-x.ensures.by)

pub choose-returns-in_err-must_be : goal.choose-returns-in_err-must_be
choose-returns-in_err-must_be t c = finds_err c.from_residual-in_err-must_be.ensures.1 (choose_halts c.args.s.now c.args.depth c.requires.checks.ready c.args.at c.args.p c.args.q c.args.r c.in_ok-x.ensures.by c.in_err-must_be.ensures.by)

pub choose-returns : goal.choose-returns
choose-returns t c = choose_finds c.args.s.now c.args.depth c.requires.checks.ready c.args.at c.args.p c.args.q c.args.r c.in_ok-x.ensures.by c.in_ok-must_be.ensures.by c.either.ensures

-- `either`: the two statements of an if: a choice is written.
pub either-statement-requires : goal.either-statement-requires
either-statement-requires t c = (omega arith, (checks_part c.requires.checks c.args.focus c.requires.checks.ready.focus (fits_then c.args.s.now c.args.depth c.args.scope c.args.q c.args.r c.requires.checks.scope).0, c.requires.lent))

pub either-statement-requires-2 : goal.either-statement-requires-2
either-statement-requires-2 t c = (omega arith, (checks_after c.requires.checks c.args.focus c.statement.auto.work c.in_ok-x.ensures.by (omega (arith, c.requires.checks.ready.focus, c.in_ok-x.ensures.by.grown)) (fits_then c.args.s.now c.args.depth c.args.scope c.args.q c.args.r c.requires.checks.scope).1, c.requires.lent))

pub either-write-requires : goal.either-write-requires
either-write-requires t c = asks_choice (room_after c.statement-2.auto.work c.in_ok-y.ensures.by (room_after c.statement.auto.work c.in_ok-x.ensures.by c.requires.checks.ready.room)) _ _ (omega (arith, c.in_ok-x.ensures.by.inside, c.in_ok-y.ensures.by.grown)) c.in_ok-y.ensures.by.inside

pub either-returns-in_err-x : goal.either-returns-in_err-x
either-returns-in_err-x t c = finds_err c.from_residual.ensures.1 (halt_then _ c.in_err-x.ensures.by)

pub either-returns-in_err-y : goal.either-returns-in_err-y
either-returns-in_err-y t c = finds_err c.from_residual-in_err-y.ensures.1 (either_halts c.args.s.now c.args.depth c.requires.checks.ready c.args.q c.in_ok-x.ensures.by c.args.r c.in_err-y.ensures.by)

pub either-returns : goal.either-returns
either-returns t c = either_finds c.args.s.now c.args.depth c.requires.checks.ready c.args.q c.in_ok-x.ensures.by c.args.r c.in_ok-y.ensures.by c.write.ensures

-- `put_left`: what a statement gives on (), before the focus.
pub put_left-statement-requires : goal.put_left-statement-requires
put_left-statement-requires t c = (omega arith, (checks_part c.requires.checks 0 (omega arith) (fits_left c.args.s.now c.args.depth c.args.scope c.args.p c.requires.checks.scope), c.requires.lent))

pub put_left-write-requires : goal.put_left-write-requires
put_left-write-requires t c = asks_seq (room_after c.statement.auto.work c.in_ok-x.ensures.by c.requires.checks.ready.room) _ _ c.in_ok-x.ensures.by.inside (omega (arith, c.requires.checks.ready.focus, c.in_ok-x.ensures.by.grown))

pub put_left-returns-in_err-x : goal.put_left-returns-in_err-x
put_left-returns-in_err-x t c = finds_err c.from_residual.ensures.1 (left_halts c.args.s.now c.args.depth c.requires.checks.ready c.args.p c.in_err-x.ensures.by)

pub put_left-returns : goal.put_left-returns
put_left-returns t c = left_finds c.args.s.now c.args.depth c.requires.checks.ready c.args.p c.in_ok-x.ensures.by c.write.ensures

-- `let_in`: a forest variable more: its type, then the statement in the scope with a place more.
pub let_in-query-requires : goal.let_in-query-requires
let_in-query-requires t c = checks_query c.requires.checks (fits_let c.args.s.now c.args.depth c.args.scope c.args.p c.args.q c.requires.checks.scope).0

pub let_in-with-scope-requires : goal.let_in-with-scope-requires
let_in-with-scope-requires t c = (a_place c.requires.checks.ready.scoped (fits_let c.args.s.now c.args.depth c.args.scope c.args.p c.args.q c.requires.checks.scope).1, omega (arith, c.in_ok-x.ensures.by.inside, c.in_ok-x.ensures.by.paid, c.requires.checks.ready.room.small))

pub let_in-statement-requires : goal.let_in-statement-requires
let_in-statement-requires t c = (omega arith, (checks_with (checks_after c.requires.checks c.args.focus c.query.auto.work c.in_ok-x.ensures.by (omega (arith, c.requires.checks.ready.focus, c.in_ok-x.ensures.by.grown)) c.requires.checks.scope) c.with-scope.ensures (a_place c.requires.checks.ready.scoped (fits_let c.args.s.now c.args.depth c.args.scope c.args.p c.args.q c.requires.checks.scope).1) c.in_ok-x.ensures.by.inside (fits_more c.args.s.now c.args.depth c.args.scope c.args.q c.with-scope.ensures (fits_let c.args.s.now c.args.depth c.args.scope c.args.p c.args.q c.requires.checks.scope).2), c.requires.lent))

pub let_in-returns-in_err-x : goal.let_in-returns-in_err-x
unfolding statement_type
let_in-returns-in_err-x t c = finds_err c.from_residual.ensures.1 (halt_then _ c.in_err-x.ensures.by)

pub let_in-returns : goal.let_in-returns
let_in-returns t c = let_finds c.args.s.now c.args.depth c.requires.checks.ready c.args.p c.in_ok-x.ensures.by c.args.q c.with-scope.ensures c.statement.ensures

-- `pair`: one statement, then another on what it gave.
pub pair-statement-requires : goal.pair-statement-requires
pair-statement-requires t c = (omega arith, (checks_part c.requires.checks c.args.focus c.requires.checks.ready.focus (fits_then c.args.s.now c.args.depth c.args.scope c.args.p c.args.q c.requires.checks.scope).0, c.requires.lent))

pub pair-statement-requires-2 : goal.pair-statement-requires-2
pair-statement-requires-2 t c = (omega arith, (checks_after c.requires.checks _ c.statement.auto.work c.in_ok-x.ensures.by c.in_ok-x.ensures.by.inside (fits_then c.args.s.now c.args.depth c.args.scope c.args.p c.args.q c.requires.checks.scope).1, c.requires.lent))

pub pair-returns-in_err-x : goal.pair-returns-in_err-x
unfolding statement_type
pair-returns-in_err-x t c = finds_err c.from_residual.ensures.1 (halt_then _ c.in_err-x.ensures.by)

pub pair-returns : goal.pair-returns
pair-returns t c = then_finds c.args.s.now c.args.depth c.requires.checks.ready c.args.p c.in_ok-x.ensures.by c.args.q c.statement-2.ensures

-- `parts`: a type part by part: by what it consists of; parts are of lower rows, and at an atom stands the statement.
pub parts-write-requires : goal.parts-write-requires
parts-write-requires t c = asks_star (room_after c.parts.auto.work c.in_ok-x-in-Star.ensures.by (checks_less c.requires.checks _ c.in_ok-purse.ensures.by c.requires.checks.scope).ready.room) _ c.in_ok-x-in-Star.ensures.by.inside

pub parts-parts-requires-in-Pair-2 : goal.parts-parts-requires-in-Pair-2
parts-parts-requires-in-Pair-2 t c = (omega (arith, (consists_pair c.in-Pair.is (c.part_of.ensures c.args.left.used c.requires.checks.ready.room.grows c.requires.checks.ready.focus)).second), (checks_after (checks_less c.requires.checks _ c.in_ok-purse.ensures.by c.requires.checks.scope) _ c.parts-in-Pair.auto.work c.in_ok-x-in-Pair.ensures.by (omega (arith, c.requires.checks.ready.focus, (consists_pair c.in-Pair.is (c.part_of.ensures c.args.left.used c.requires.checks.ready.room.grows c.requires.checks.ready.focus)).second, c.in_ok-x-in-Pair.ensures.by.grown)) c.requires.checks.scope, c.requires.lent))

pub parts-write-requires-in-Pair : goal.parts-write-requires-in-Pair
parts-write-requires-in-Pair t c = asks_pair (room_after c.parts-in-Pair-2.auto.work c.in_ok-y-in-Pair.ensures.by (room_after c.parts-in-Pair.auto.work c.in_ok-x-in-Pair.ensures.by (checks_less c.requires.checks _ c.in_ok-purse.ensures.by c.requires.checks.scope).ready.room)) _ _ _ (consists_pair c.in-Pair.is (c.part_of.ensures c.args.left.used c.requires.checks.ready.room.grows c.requires.checks.ready.focus)).kind (omega (arith, c.in_ok-x-in-Pair.ensures.by.inside, c.in_ok-y-in-Pair.ensures.by.grown)) c.in_ok-y-in-Pair.ensures.by.inside

pub parts-returns-in_err-purse : goal.parts-returns-in_err-purse
parts-returns-in_err-purse t c = finds_err c.from_residual.ensures.1 (parts_fuel _ _ _ _ c.in_err-purse.ensures.by)

pub parts-returns-in-Nothing : goal.parts-returns-in-Nothing
parts-returns-in-Nothing t c = nothing_finds c.args.of (body_goes c.args.s.now c.args.work.now c.args.left.used c.args.scope c.args.depth c.args.body) _ c.in_ok-purse.ensures.by _ refl c.requires.checks.ready.room.grows (consists_nothing c.in-Nothing.is (c.part_of.ensures c.args.left.used c.requires.checks.ready.room.grows c.requires.checks.ready.focus) (body_goes c.args.s.now c.args.work.now c.args.left.used c.args.scope c.args.depth c.args.body))

pub parts-returns-in-Atom : goal.parts-returns-in-Atom
parts-returns-in-Atom t c = atom_finds c.args.of (body_goes c.args.s.now c.args.work.now c.args.left.used c.args.scope c.args.depth c.args.body) _ c.in_ok-purse.ensures.by (consists_atom c.in-Atom.is (c.part_of.ensures c.args.left.used c.requires.checks.ready.room.grows c.requires.checks.ready.focus) (body_goes c.args.s.now c.args.work.now c.args.left.used c.args.scope c.args.depth c.args.body)) c.statement.ensures

pub parts-returns-in_err-x-in-Star : goal.parts-returns-in_err-x-in-Star
parts-returns-in_err-x-in-Star t c = finds_err c.from_residual-in_err-x-in-Star.ensures.1 (star_halts c.args.of (body_goes c.args.s.now c.args.work.now c.args.left.used c.args.scope c.args.depth c.args.body) _ c.in_ok-purse.ensures.by (consists_star c.in-Star.is (c.part_of.ensures c.args.left.used c.requires.checks.ready.room.grows c.requires.checks.ready.focus)) c.in_err-x-in-Star.ensures.by)

pub parts-returns-in_ok-x-in-Star : goal.parts-returns-in_ok-x-in-Star
parts-returns-in_ok-x-in-Star t c = star_finds c.args.of (body_goes c.args.s.now c.args.work.now c.args.left.used c.args.scope c.args.depth c.args.body) _ c.in_ok-purse.ensures.by (consists_star c.in-Star.is (c.part_of.ensures c.args.left.used c.requires.checks.ready.room.grows c.requires.checks.ready.focus)) c.in_ok-x-in-Star.ensures.by c.write.ensures

pub parts-returns-in_err-x-in-Pair : goal.parts-returns-in_err-x-in-Pair
parts-returns-in_err-x-in-Pair t c = finds_err c.from_residual-in_err-x-in-Pair.ensures.1 (pair_halts c.args.of (body_goes c.args.s.now c.args.work.now c.args.left.used c.args.scope c.args.depth c.args.body) _ c.in_ok-purse.ensures.by (consists_pair c.in-Pair.is (c.part_of.ensures c.args.left.used c.requires.checks.ready.room.grows c.requires.checks.ready.focus)) c.in_err-x-in-Pair.ensures.by)

pub parts-returns-in_err-y-in-Pair : goal.parts-returns-in_err-y-in-Pair
parts-returns-in_err-y-in-Pair t c = finds_err c.from_residual-in_err-y-in-Pair.ensures.1 (pair_halts_2 c.args.of (body_goes c.args.s.now c.args.work.now c.args.left.used c.args.scope c.args.depth c.args.body) _ c.in_ok-purse.ensures.by (consists_pair c.in-Pair.is (c.part_of.ensures c.args.left.used c.requires.checks.ready.room.grows c.requires.checks.ready.focus)) c.requires.checks.ready.room.grows c.in_ok-x-in-Pair.ensures.by _ (body_kept c.requires.checks.ready c.in_ok-x-in-Pair.ensures.by c.args.depth c.args.body) c.requires.checks.ready.focus c.in_err-y-in-Pair.ensures.by)

pub parts-returns-in_ok-y-in-Pair : goal.parts-returns-in_ok-y-in-Pair
parts-returns-in_ok-y-in-Pair t c = pair_finds c.args.of (body_goes c.args.s.now c.args.work.now c.args.left.used c.args.scope c.args.depth c.args.body) _ c.in_ok-purse.ensures.by (consists_pair c.in-Pair.is (c.part_of.ensures c.args.left.used c.requires.checks.ready.room.grows c.requires.checks.ready.focus)) c.requires.checks.ready.room.grows c.in_ok-x-in-Pair.ensures.by _ (body_kept c.requires.checks.ready c.in_ok-x-in-Pair.ensures.by c.args.depth c.args.body) c.requires.checks.ready.focus c.in_ok-y-in-Pair.ensures.by c.write-in-Pair.ensures

-- `put_right`: what a statement gives on (), behind the focus.
pub put_right-statement-requires : goal.put_right-statement-requires
put_right-statement-requires t c = (omega arith, (checks_part c.requires.checks 0 (omega arith) (fits_right c.args.s.now c.args.depth c.args.scope c.args.p c.requires.checks.scope), c.requires.lent))

pub put_right-write-requires : goal.put_right-write-requires
put_right-write-requires t c = asks_seq (room_after c.statement.auto.work c.in_ok-x.ensures.by c.requires.checks.ready.room) _ _ (omega (arith, c.requires.checks.ready.focus, c.in_ok-x.ensures.by.grown)) c.in_ok-x.ensures.by.inside

pub put_right-returns-in_err-x : goal.put_right-returns-in_err-x
put_right-returns-in_err-x t c = finds_err c.from_residual.ensures.1 (right_halts c.args.s.now c.args.depth c.requires.checks.ready c.args.p c.in_err-x.ensures.by)

pub put_right-returns : goal.put_right-returns
put_right-returns t c = right_finds c.args.s.now c.args.depth c.requires.checks.ready c.args.p c.in_ok-x.ensures.by c.write.ensures

-- `snapshot`: the focus as a forest variable.
pub snapshot-with-scope-requires : goal.snapshot-with-scope-requires
snapshot-with-scope-requires t c = (a_place c.requires.checks.ready.scoped (fits_snapshot c.args.s.now c.args.depth c.args.scope c.args.p c.requires.checks.scope).0, omega (arith, c.requires.checks.ready.focus, c.requires.checks.ready.room.small))

pub snapshot-statement-requires : goal.snapshot-statement-requires
snapshot-statement-requires t c = (omega arith, (checks_with c.requires.checks c.with-scope.ensures (a_place c.requires.checks.ready.scoped (fits_snapshot c.args.s.now c.args.depth c.args.scope c.args.p c.requires.checks.scope).0) c.requires.checks.ready.focus (fits_more c.args.s.now c.args.depth c.args.scope c.args.p c.with-scope.ensures (fits_snapshot c.args.s.now c.args.depth c.args.scope c.args.p c.requires.checks.scope).1), c.requires.lent))

pub snapshot-returns : goal.snapshot-returns
snapshot-returns t c = snapshot_finds c.args.s.now c.args.depth c.requires.checks.ready c.args.p c.with-scope.ensures c.statement.ensures

-- `statement`: a statement row: a level of depth, a unit, and then by its kind.
pub statement-returns-then-depth-eq0 : goal.statement-returns-then-depth-eq0
statement-returns-then-depth-eq0 t c = finds_halt (goes_deep c.args.s.now c.args.work.now c.args.left.used c.args.scope c.args.depth c.args.at c.args.focus c.args.left.purse c.if-depth-eq0.true)

pub statement-pair-requires : goal.statement-pair-requires
statement-pair-requires t c = (omega (arith, c.if-depth-eq0.false), ((checks_less c.requires.checks _ c.in_ok-purse.ensures.by (fits_form c.args.s.now c.args.scope c.args.depth c.args.at c.if-depth-eq0.false (statement_is c.args.s.now c.args.at c.statement_row.ensures.is c.in-Then.ensures.is) (loads_shapely c.requires.checks.loads) c.requires.checks.scope)), c.requires.lent))

pub statement-choose-requires : goal.statement-choose-requires
statement-choose-requires t c = (omega (arith, c.if-depth-eq0.false), ((checks_less c.requires.checks _ c.in_ok-purse.ensures.by (fits_form c.args.s.now c.args.scope c.args.depth c.args.at c.if-depth-eq0.false (statement_is c.args.s.now c.args.at c.statement_row.ensures.is c.in-If.ensures.is) (loads_shapely c.requires.checks.loads) c.requires.checks.scope)), c.requires.lent))

pub statement-insert-requires : goal.statement-insert-requires
statement-insert-requires t c = (checks_less c.requires.checks _ c.in_ok-purse.ensures.by (fits_form c.args.s.now c.args.scope c.args.depth c.args.at c.if-depth-eq0.false (statement_is c.args.s.now c.args.at c.statement_row.ensures.is c.in-Insert.ensures.is) (loads_shapely c.requires.checks.loads) c.requires.checks.scope))

pub statement-write-requires : goal.statement-write-requires
statement-write-requires t c = asks_empty (room_less _ 1 c.requires.checks.ready.room c.in_ok-purse.ensures.by)

pub statement-let_in-requires : goal.statement-let_in-requires
statement-let_in-requires t c = (omega (arith, c.if-depth-eq0.false), ((checks_less c.requires.checks _ c.in_ok-purse.ensures.by (fits_form c.args.s.now c.args.scope c.args.depth c.args.at c.if-depth-eq0.false (statement_is c.args.s.now c.args.at c.statement_row.ensures.is c.in-Let.ensures.is) (loads_shapely c.requires.checks.loads) c.requires.checks.scope)), c.requires.lent))

pub statement-snapshot-requires : goal.statement-snapshot-requires
statement-snapshot-requires t c = (omega (arith, c.if-depth-eq0.false), ((checks_less c.requires.checks _ c.in_ok-purse.ensures.by (fits_form c.args.s.now c.args.scope c.args.depth c.args.at c.if-depth-eq0.false (statement_is c.args.s.now c.args.at c.statement_row.ensures.is c.in-Snapshot.ensures.is) (loads_shapely c.requires.checks.loads) c.requires.checks.scope)), c.requires.lent))

pub statement-test-requires : goal.statement-test-requires
statement-test-requires t c = (omega (arith, c.if-depth-eq0.false), ((checks_less c.requires.checks _ c.in_ok-purse.ensures.by (fits_form c.args.s.now c.args.scope c.args.depth c.args.at c.if-depth-eq0.false (statement_is c.args.s.now c.args.at c.statement_row.ensures.is c.in-Test.ensures.is) (loads_shapely c.requires.checks.loads) c.requires.checks.scope)), c.requires.lent))

pub statement-children-requires : goal.statement-children-requires
statement-children-requires t c = (omega (arith, c.if-depth-eq0.false), ((checks_less c.requires.checks _ c.in_ok-purse.ensures.by (fits_form c.args.s.now c.args.scope c.args.depth c.args.at c.if-depth-eq0.false (statement_is c.args.s.now c.args.at c.statement_row.ensures.is c.in-Children.ensures.is) (loads_shapely c.requires.checks.loads) c.requires.checks.scope)), c.requires.lent))

pub statement-put_left-requires : goal.statement-put_left-requires
statement-put_left-requires t c = (omega (arith, c.if-depth-eq0.false), ((checks_less c.requires.checks _ c.in_ok-purse.ensures.by (fits_form c.args.s.now c.args.scope c.args.depth c.args.at c.if-depth-eq0.false (statement_is c.args.s.now c.args.at c.statement_row.ensures.is c.in-Left.ensures.is) (loads_shapely c.requires.checks.loads) c.requires.checks.scope)), c.requires.lent))

pub statement-put_right-requires : goal.statement-put_right-requires
statement-put_right-requires t c = (omega (arith, c.if-depth-eq0.false), ((checks_less c.requires.checks _ c.in_ok-purse.ensures.by (fits_form c.args.s.now c.args.scope c.args.depth c.args.at c.if-depth-eq0.false (statement_is c.args.s.now c.args.at c.statement_row.ensures.is c.in-Right.ensures.is) (loads_shapely c.requires.checks.loads) c.requires.checks.scope)), c.requires.lent))

pub statement-parts-requires : goal.statement-parts-requires
statement-parts-requires t c = (omega (arith, c.if-depth-eq0.false, c.requires.checks.ready.focus, c.requires.checks.ready.room.small), (checks_part (checks_less c.requires.checks _ c.in_ok-purse.ensures.by (fits_form c.args.s.now c.args.scope c.args.depth c.args.at c.if-depth-eq0.false (statement_is c.args.s.now c.args.at c.statement_row.ensures.is c.in-Iter.ensures.is) (loads_shapely c.requires.checks.loads) c.requires.checks.scope)) c.args.focus c.requires.checks.ready.focus (fits_iter c.args.s.now _ c.args.scope _ (fits_form c.args.s.now c.args.scope c.args.depth c.args.at c.if-depth-eq0.false (statement_is c.args.s.now c.args.at c.statement_row.ensures.is c.in-Iter.ensures.is) (loads_shapely c.requires.checks.loads) c.requires.checks.scope)), c.requires.lent))

pub statement-call-requires : goal.statement-call-requires
statement-call-requires t c = record { checks = ((checks_less c.requires.checks _ c.in_ok-purse.ensures.by (fits_form c.args.s.now c.args.scope c.args.depth c.args.at c.if-depth-eq0.false (statement_is c.args.s.now c.args.at c.statement_row.ensures.is c.in-Call.ensures.is) (loads_shapely c.requires.checks.loads) c.requires.checks.scope)), form_called c.args.s.now (loads_shapely c.requires.checks.loads) c.args.at c.statement_row.ensures.is c.in-Call.ensures.call); lent = c.requires.lent }

pub statement-returns-in_err-purse : goal.statement-returns-in_err-purse
statement-returns-in_err-purse t c = finds_err c.from_residual.ensures.1 (goes_fuel c.args.s.now c.args.work.now c.args.left.used c.args.scope c.args.depth c.args.at c.args.focus c.args.left.purse.left c.if-depth-eq0.false c.in_err-purse.ensures.by)

pub statement-returns-in-Skip : goal.statement-returns-in-Skip
statement-returns-in-Skip t c = goes_as c.args.s.now c.args.work.now c.args.left.used c.args.scope c.args.depth c.args.at c.args.focus c.if-depth-eq0.false (statement_is c.args.s.now c.args.at c.statement_row.ensures.is c.in-Skip.ensures.is) _ c.in_ok-purse.ensures.by (skip_finds c.args.s.now _ c.requires.checks.ready c.args.at _)

pub statement-returns-in-Then : goal.statement-returns-in-Then
unfolding statement_type ty_form
statement-returns-in-Then t c = goes_as c.args.s.now c.args.work.now c.args.left.used c.args.scope c.args.depth c.args.at c.args.focus c.if-depth-eq0.false (statement_is c.args.s.now c.args.at c.statement_row.ensures.is c.in-Then.ensures.is) _ c.in_ok-purse.ensures.by c.pair.ensures

pub statement-returns-in-If : goal.statement-returns-in-If
unfolding statement_type ty_form
statement-returns-in-If t c = goes_as c.args.s.now c.args.work.now c.args.left.used c.args.scope c.args.depth c.args.at c.args.focus c.if-depth-eq0.false (statement_is c.args.s.now c.args.at c.statement_row.ensures.is c.in-If.ensures.is) _ c.in_ok-purse.ensures.by c.choose.ensures

pub statement-returns-in-Insert : goal.statement-returns-in-Insert
unfolding statement_type ty_form
statement-returns-in-Insert t c = goes_as c.args.s.now c.args.work.now c.args.left.used c.args.scope c.args.depth c.args.at c.args.focus c.if-depth-eq0.false (statement_is c.args.s.now c.args.at c.statement_row.ensures.is c.in-Insert.ensures.is) _ c.in_ok-purse.ensures.by c.insert.ensures

pub statement-returns-in-Delete : goal.statement-returns-in-Delete
unfolding statement_type ty_form
statement-returns-in-Delete t c = goes_as c.args.s.now c.args.work.now c.args.left.used c.args.scope c.args.depth c.args.at c.args.focus c.if-depth-eq0.false (statement_is c.args.s.now c.args.at c.statement_row.ensures.is c.in-Delete.ensures.is) _ c.in_ok-purse.ensures.by c.write.ensures

pub statement-returns-in-Rename : goal.statement-returns-in-Rename
unfolding statement_type ty_form
statement-returns-in-Rename t c = goes_as c.args.s.now c.args.work.now c.args.left.used c.args.scope c.args.depth c.args.at c.args.focus c.if-depth-eq0.false (statement_is c.args.s.now c.args.at c.statement_row.ensures.is c.in-Rename.ensures.is) _ c.in_ok-purse.ensures.by c.rename.ensures

pub statement-returns-in-Let : goal.statement-returns-in-Let
unfolding statement_type ty_form
statement-returns-in-Let t c = goes_as c.args.s.now c.args.work.now c.args.left.used c.args.scope c.args.depth c.args.at c.args.focus c.if-depth-eq0.false (statement_is c.args.s.now c.args.at c.statement_row.ensures.is c.in-Let.ensures.is) _ c.in_ok-purse.ensures.by c.let_in.ensures

pub statement-returns-in-Snapshot : goal.statement-returns-in-Snapshot
unfolding statement_type ty_form
statement-returns-in-Snapshot t c = goes_as c.args.s.now c.args.work.now c.args.left.used c.args.scope c.args.depth c.args.at c.args.focus c.if-depth-eq0.false (statement_is c.args.s.now c.args.at c.statement_row.ensures.is c.in-Snapshot.ensures.is) _ c.in_ok-purse.ensures.by c.snapshot.ensures

pub statement-returns-in-Test : goal.statement-returns-in-Test
unfolding statement_type ty_form
statement-returns-in-Test t c = goes_as c.args.s.now c.args.work.now c.args.left.used c.args.scope c.args.depth c.args.at c.args.focus c.if-depth-eq0.false (statement_is c.args.s.now c.args.at c.statement_row.ensures.is c.in-Test.ensures.is) _ c.in_ok-purse.ensures.by c.test.ensures

pub statement-returns-in-Children : goal.statement-returns-in-Children
unfolding statement_type ty_form
statement-returns-in-Children t c = goes_as c.args.s.now c.args.work.now c.args.left.used c.args.scope c.args.depth c.args.at c.args.focus c.if-depth-eq0.false (statement_is c.args.s.now c.args.at c.statement_row.ensures.is c.in-Children.ensures.is) _ c.in_ok-purse.ensures.by c.children.ensures

pub statement-returns-in-Left : goal.statement-returns-in-Left
unfolding statement_type ty_form
statement-returns-in-Left t c = goes_as c.args.s.now c.args.work.now c.args.left.used c.args.scope c.args.depth c.args.at c.args.focus c.if-depth-eq0.false (statement_is c.args.s.now c.args.at c.statement_row.ensures.is c.in-Left.ensures.is) _ c.in_ok-purse.ensures.by c.put_left.ensures

pub statement-returns-in-Right : goal.statement-returns-in-Right
unfolding statement_type ty_form
statement-returns-in-Right t c = goes_as c.args.s.now c.args.work.now c.args.left.used c.args.scope c.args.depth c.args.at c.args.focus c.if-depth-eq0.false (statement_is c.args.s.now c.args.at c.statement_row.ensures.is c.in-Right.ensures.is) _ c.in_ok-purse.ensures.by c.put_right.ensures

pub statement-returns-in-Iter : goal.statement-returns-in-Iter
unfolding statement_type ty_form
statement-returns-in-Iter t c = goes_as c.args.s.now c.args.work.now c.args.left.used c.args.scope c.args.depth c.args.at c.args.focus c.if-depth-eq0.false (statement_is c.args.s.now c.args.at c.statement_row.ensures.is c.in-Iter.ensures.is) _ c.in_ok-purse.ensures.by c.parts.ensures

pub statement-returns-in-Call : goal.statement-returns-in-Call
unfolding statement_type ty_form
statement-returns-in-Call t c = goes_as c.args.s.now c.args.work.now c.args.left.used c.args.scope c.args.depth c.args.at c.args.focus c.if-depth-eq0.false (statement_is c.args.s.now c.args.at c.statement_row.ensures.is c.in-Call.ensures.is) _ c.in_ok-purse.ensures.by c.call.ensures

pub statement-returns-in-Nothing : goal.statement-returns-in-Nothing
unfolding statement_type
statement-returns-in-Nothing t c = goes_as c.args.s.now c.args.work.now c.args.left.used c.args.scope c.args.depth c.args.at c.args.focus c.if-depth-eq0.false (statement_is c.args.s.now c.args.at c.statement_row.ensures.is c.in-Nothing.ensures.is) _ c.in_ok-purse.ensures.by (finds_halt (halt_mismatch c.args.s.now (concern.Statement c.args.at) _))

-- `test`: a test: Mismatch, the statement, or the type as it is.
pub test-judge-requires : goal.test-judge-requires
test-judge-requires t c = (loads_shapely c.requires.checks.loads, omega (arith, c.requires.checks.ready.focus, c.requires.checks.ready.room.small))

pub test-statement-requires : goal.test-statement-requires
test-statement-requires t c = (omega arith, (checks_part c.requires.checks c.args.focus c.requires.checks.ready.focus (fits_test c.args.s.now c.args.depth c.args.scope _ c.args.r c.requires.checks.scope), c.requires.lent))

pub test-returns-in-Misfit : goal.test-returns-in-Misfit
test-returns-in-Misfit t c = finds_halt (test_misfit c.args.s.now c.args.depth c.requires.checks.ready c.args.at c.args.what c.args.r (c.judge.ensures c.args.left.used c.requires.checks.ready.room.grows c.requires.checks.ready.focus) _ c.in-Misfit.is)

pub test-returns-in-Matched : goal.test-returns-in-Matched
test-returns-in-Matched t c = test_matched c.args.s.now c.args.depth c.requires.checks.ready c.args.at c.args.what c.args.r (c.judge.ensures c.args.left.used c.requires.checks.ready.room.grows c.requires.checks.ready.focus) c.in-Matched.is c.statement.ensures

pub test-returns-in-Passed : goal.test-returns-in-Passed
test-returns-in-Passed t c = test_passed c.args.s.now c.args.depth c.requires.checks.ready c.args.at c.args.what c.args.r (c.judge.ensures c.args.left.used c.requires.checks.ready.room.grows c.requires.checks.ready.focus) c.args.left.purse c.in-Passed.is
