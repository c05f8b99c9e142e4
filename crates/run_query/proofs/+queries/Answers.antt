-- The evaluators of a run's queries, which call each other, meet their contracts.
use native.Mathlib.Omega.{arith}
use mathlib.Core.Path.{◌≡◌, refl, ◌∙◌, ap}
use mathlib.Core.Bool.{true}
use Rattle.std.proofs.Common.{ℕ, inl, inr}
use Rattle.meaning.specs.Run.{query_of, inside, seen, same_texts}
use Rattle.walk.specs.Meets.{met_exit, stop_then, met_of, met_then, ran_stop, ran_exit, met_nil, stop_tick}
use Rattle.forest_rows.specs.Asks.{readable, sees_bool, no_bool, arm_both}
use Rattle.walk.specs.Fits.{fits, fits_if, fits_for, fits_join, a_place, fits_let, fits_more, fits_pick, query_is, fits_same, fits_tree, fits_turn}
use Rattle.run_query.specs.Ask.{pool, asks_row, asks_part, asks_after, asks_with, ask_as, ask_deep, ask_fuel}
use Rattle.run_query.proofs.Laws.{bool_met, choose_met, choose_stuck, each_start, each_asks, each_done, each_stop, each_more, for_met, both_stop, both_met, let_met, variable_met, children_met, met_stuck, turn_asks, turn_stop, turn_more}
use Rattle.sheet.specs.Laid.{cells_of}
use Rattle.walk.specs.Loop.{turns_exit}
use Rattle.forest_rows.specs.Rows.{fronted}
use Rattle.meaning.specs.Forest.{forest_at, Forest}
use Rattle.meaning.specs.Theorems.ReadBack.{lent_row}
use Rattle.walk.specs.Scope.{value_within}
use Rattle.meaning.specs.Walk.{of_query}
use Rattle.run_query.proofs.+queries.Goals as goal
use Rattle.run_query.proofs.+queries.Goals.{choose-then-yes, choose-else-yes}

-- `choose`: a condition: the part, then its value is tested, then an arm or Stuck at the if.
pub choose-query-requires : goal.choose-query-requires
choose-query-requires t c = (omega arith, asks_part c.requires (fits_if c.args.s.now c.args.depth c.args.scope c.args.p c.args.q c.args.r c.requires.scope).0)

pub choose-returns-in_err-x : goal.choose-returns-in_err-x
unfolding query_of
choose-returns-in_err-x t c = met_exit _ c.from_residual.ensures.1 (stop_then _ c.in_err-x.ensures.met.by)

-- `each`: the loop: a turn for each tree, then what the links hold.
pub each-loop-at-init : goal.each-loop-at-init
each-loop-at-init t c = (each_start c.args.s.now c.args.depth c.args.body c.requires, refl)

pub each-turn-requires : goal.each-turn-requires
each-turn-requires t c = (omega arith, (each_asks c.args.s.now c.args.depth c.args.body c.requires c.loop-at.invariant.0 c.loop-at.invariant.1, omega (arith, c.loop-at-test.true), c.loop-at.invariant.0.linked, c.loop-at.invariant.0.links))

pub each-loop-at-preserved : goal.each-loop-at-preserved
each-loop-at-preserved t c = (each_more c.args.s.now c.args.depth c.args.body c.requires c.loop-at.invariant.0 (cells_of c.row-next.result) (omega (arith, c.loop-at-test.true)) c.row-next.ensures.is c.in_ok-links.ensures.by, c.turn.auto.rows ∙ c.loop-at.invariant.1)

pub each-returns : goal.each-returns
each-returns t c = met_of (each_done c.args.s.now c.args.depth c.args.body c.requires c.loop-at.invariant.0 (omega (arith, c.loop-at-test.false)) c.gather-g.ensures)

-- `for_each`: a body for each tree: the forest, then the loop.
pub for_each-query-requires : goal.for_each-query-requires
for_each-query-requires t c = (omega arith, asks_part c.requires (fits_for c.args.s.now c.args.depth c.args.scope c.args.p c.args.q c.requires.scope).0)

pub for_each-each-requires : goal.for_each-each-requires
for_each-each-requires t c = (omega arith, asks_after c.requires _ c.query.auto.rows c.in_ok-x.ensures.met.by c.in_ok-x.ensures.met.by.inside (fits_for c.args.s.now c.args.depth c.args.scope c.args.p c.args.q c.requires.scope).1)

pub for_each-returns-in_err-x : goal.for_each-returns-in_err-x
unfolding query_of
for_each-returns-in_err-x t c = met_exit _ c.from_residual.ensures.1 (stop_then _ c.in_err-x.ensures.met.by)

pub for_each-returns : goal.for_each-returns
for_each-returns t c = for_met c.args.s.now c.args.depth c.requires.ready c.args.p c.in_ok-x.ensures.met.by c.args.q c.each.ensures

-- `join`: a forest in front of another: both parts, then the copies of the first.
pub join-query-requires : goal.join-query-requires
join-query-requires t c = (omega arith, asks_part c.requires (fits_join c.args.s.now c.args.depth c.args.scope c.args.p c.args.q c.requires.scope).0)

pub join-query-requires-2 : goal.join-query-requires-2
join-query-requires-2 t c = (omega arith, asks_after c.requires 0 c.query.auto.rows c.in_ok-x.ensures.met.by (omega arith) (fits_join c.args.s.now c.args.depth c.args.scope c.args.p c.args.q c.requires.scope).1)

pub join-returns-in_err-x : goal.join-returns-in_err-x
unfolding query_of
join-returns-in_err-x t c = met_exit _ c.from_residual.ensures.1 (stop_then _ c.in_err-x.ensures.met.by)

pub join-returns-in_err-y : goal.join-returns-in_err-y
unfolding query_of
join-returns-in_err-y t c = met_exit _ c.from_residual-in_err-y.ensures.1 (both_stop c.args.s.now c.args.depth c.requires.ready c.args.p c.in_ok-x.ensures.met.by c.args.q fronted c.in_err-y.ensures.met.by)

pub join-returns : goal.join-returns
unfolding query_of
join-returns t c = both_met c.args.s.now c.args.depth c.requires.ready c.args.p c.in_ok-x.ensures.met.by c.args.q fronted c.in_ok-y.ensures.met.by (c.front.ensures (pool c.args.s.now))

-- `let_in`: a forest variable more: its value, then the body in the scope with a place more.
pub let_in-query-requires : goal.let_in-query-requires
let_in-query-requires t c = (omega arith, asks_part c.requires (fits_let c.args.s.now c.args.depth c.args.scope c.args.p c.args.q c.requires.scope).0)

pub let_in-with-requires : goal.let_in-with-requires
let_in-with-requires t c = ((a_place c.requires.ready.scoped (fits_let c.args.s.now c.args.depth c.args.scope c.args.p c.args.q c.requires.scope).1), (let f = c.in_ok-x.ensures.met.by in omega (arith, f.inside, f.paid, c.requires.ready.roomy.small)))

pub let_in-query-requires-2 : goal.let_in-query-requires-2
let_in-query-requires-2 t c = (omega arith, asks_with (asks_after c.requires 0 c.query.auto.rows c.in_ok-x.ensures.met.by (omega arith) c.requires.scope) c.with.ensures (a_place c.requires.ready.scoped (fits_let c.args.s.now c.args.depth c.args.scope c.args.p c.args.q c.requires.scope).1) c.in_ok-x.ensures.met.by.inside (fits_more c.args.s.now c.args.depth c.args.scope c.args.q c.with.ensures (fits_let c.args.s.now c.args.depth c.args.scope c.args.p c.args.q c.requires.scope).2))

pub let_in-returns-in_err-x : goal.let_in-returns-in_err-x
unfolding query_of
let_in-returns-in_err-x t c = met_exit _ c.from_residual.ensures.1 (stop_then _ c.in_err-x.ensures.met.by)

pub let_in-returns : goal.let_in-returns
let_in-returns t c = let_met c.args.s.now c.args.depth c.requires.ready c.args.p c.in_ok-x.ensures.met.by c.args.q c.with.ensures c.query-2.ensures.met

-- `pick`: the trees with a label: the part, then the copies.
pub pick-query-requires : goal.pick-query-requires
pick-query-requires t c = (omega arith, asks_part c.requires (fits_pick c.args.s.now c.args.depth c.args.scope c.args.p c.args.label c.requires.scope))

pub pick-returns-in_err-x : goal.pick-returns-in_err-x
unfolding query_of
pick-returns-in_err-x t c = met_exit _ c.from_residual.ensures.1 (stop_then _ c.in_err-x.ensures.met.by)

pub pick-returns : goal.pick-returns
unfolding query_of
pick-returns t c = met_then _ c.in_ok-x.ensures.met.by (c.picked.ensures (pool c.args.s.now))

-- `query`: a query row: a level of depth, a unit, and then by its kind.
pub query-returns-then-depth-eq0 : goal.query-returns-then-depth-eq0
query-returns-then-depth-eq0 t c = ran_stop (ask_deep c.args.s.now c.args.rows.now c.args.scope c.args.depth c.args.at c.args.left.purse c.if-depth-eq0.true)

pub query-join-requires : goal.query-join-requires
query-join-requires t c = (omega (arith, c.if-depth-eq0.false), asks_row c.args.at c.if-depth-eq0.false c.query_row.ensures.is c.in-Join.ensures.is c.in_ok-purse.ensures.by c.requires)

pub query-tree-requires : goal.query-tree-requires
query-tree-requires t c = (omega (arith, c.if-depth-eq0.false), (asks_row c.args.at c.if-depth-eq0.false c.query_row.ensures.is c.in-Tree.ensures.is c.in_ok-purse.ensures.by c.requires, c.in-Tree.ensures.small c.query_row.ensures.small))

pub query-let_in-requires : goal.query-let_in-requires
query-let_in-requires t c = (omega (arith, c.if-depth-eq0.false), asks_row c.args.at c.if-depth-eq0.false c.query_row.ensures.is c.in-Let.ensures.is c.in_ok-purse.ensures.by c.requires)

pub query-choose-requires : goal.query-choose-requires
query-choose-requires t c = (omega (arith, c.if-depth-eq0.false), asks_row c.args.at c.if-depth-eq0.false c.query_row.ensures.is c.in-If.ensures.is c.in_ok-purse.ensures.by c.requires)

pub query-same-requires : goal.query-same-requires
query-same-requires t c = (omega (arith, c.if-depth-eq0.false), asks_row c.args.at c.if-depth-eq0.false c.query_row.ensures.is c.in-Same.ensures.is c.in_ok-purse.ensures.by c.requires)

pub query-children-requires : goal.query-children-requires
query-children-requires t c = readable _ c.requires.ready.roomy (omega (arith, c.value-in-Children.ensures, value_within c.in-Children.v c.requires.ready.scoped))

pub query-pick-requires : goal.query-pick-requires
query-pick-requires t c = (omega (arith, c.if-depth-eq0.false), asks_row c.args.at c.if-depth-eq0.false c.query_row.ensures.is c.in-Pick.ensures.is c.in_ok-purse.ensures.by c.requires)

pub query-for_each-requires : goal.query-for_each-requires
query-for_each-requires t c = (omega (arith, c.if-depth-eq0.false), asks_row c.args.at c.if-depth-eq0.false c.query_row.ensures.is c.in-For.ensures.is c.in_ok-purse.ensures.by c.requires)

pub query-returns-in_err-purse : goal.query-returns-in_err-purse
query-returns-in_err-purse t c = ran_exit _ c.from_residual.ensures.1 (ask_fuel c.args.s.now c.args.rows.now c.args.scope c.args.depth c.args.at c.args.left.purse.left c.if-depth-eq0.false c.in_err-purse.ensures.by)

pub query-returns-in-Empty : goal.query-returns-in-Empty
unfolding query_of
query-returns-in-Empty t c = ask_as c.args.s.now c.args.scope c.args.depth c.args.at c.if-depth-eq0.false (query_is c.args.s.now c.args.at c.query_row.ensures.is c.in-Empty.ensures.is) _ c.in_ok-purse.ensures.by (met_of (met_nil _ c.requires.ready.roomy.low))

pub query-returns-in-Join : goal.query-returns-in-Join
unfolding query_of
query-returns-in-Join t c = ask_as c.args.s.now c.args.scope c.args.depth c.args.at c.if-depth-eq0.false (query_is c.args.s.now c.args.at c.query_row.ensures.is c.in-Join.ensures.is) _ c.in_ok-purse.ensures.by c.join.ensures

pub query-returns-in-Tree : goal.query-returns-in-Tree
unfolding query_of
query-returns-in-Tree t c = ask_as c.args.s.now c.args.scope c.args.depth c.args.at c.if-depth-eq0.false (query_is c.args.s.now c.args.at c.query_row.ensures.is c.in-Tree.ensures.is) _ c.in_ok-purse.ensures.by c.tree.ensures

pub query-returns-in-Text : goal.query-returns-in-Text
unfolding query_of
query-returns-in-Text t c = ask_as c.args.s.now c.args.scope c.args.depth c.args.at c.if-depth-eq0.false (query_is c.args.s.now c.args.at c.query_row.ensures.is c.in-Text.ensures.is) _ c.in_ok-purse.ensures.by (c.make.ensures (pool c.args.s.now))

pub query-returns-in-Bool : goal.query-returns-in-Bool
unfolding query_of
query-returns-in-Bool t c = ask_as c.args.s.now c.args.scope c.args.depth c.args.at c.if-depth-eq0.false (query_is c.args.s.now c.args.at c.query_row.ensures.is c.in-Bool.ensures.is) _ c.in_ok-purse.ensures.by (bool_met (pool c.args.s.now) c.args.rows.now c.in-Bool.b c.kind_of.ensures (c.make-in-Bool.ensures (pool c.args.s.now)))

pub query-returns-in-Variable : goal.query-returns-in-Variable
query-returns-in-Variable t c = ask_as c.args.s.now c.args.scope c.args.depth c.args.at c.if-depth-eq0.false (query_is c.args.s.now c.args.at c.query_row.ensures.is c.in-Variable.ensures.is) _ c.in_ok-purse.ensures.by (variable_met c.args.s.now _ c.args.at c.in-Variable.v c.requires.ready _ (omega (arith, c.value.ensures, value_within c.in-Variable.v c.requires.ready.scoped)) c.value.ensures)

pub query-returns-in-Let : goal.query-returns-in-Let
unfolding query_of
query-returns-in-Let t c = ask_as c.args.s.now c.args.scope c.args.depth c.args.at c.if-depth-eq0.false (query_is c.args.s.now c.args.at c.query_row.ensures.is c.in-Let.ensures.is) _ c.in_ok-purse.ensures.by c.let_in.ensures

pub query-returns-in-If : goal.query-returns-in-If
query-returns-in-If t c = ask_as c.args.s.now c.args.scope c.args.depth c.args.at c.if-depth-eq0.false (query_is c.args.s.now c.args.at c.query_row.ensures.is c.in-If.ensures.is) _ c.in_ok-purse.ensures.by c.choose.ensures

pub query-returns-in-Same : goal.query-returns-in-Same
query-returns-in-Same t c = ask_as c.args.s.now c.args.scope c.args.depth c.args.at c.if-depth-eq0.false (query_is c.args.s.now c.args.at c.query_row.ensures.is c.in-Same.ensures.is) _ c.in_ok-purse.ensures.by c.same.ensures

pub query-returns-in-Children : goal.query-returns-in-Children
query-returns-in-Children t c = ask_as c.args.s.now c.args.scope c.args.depth c.args.at c.if-depth-eq0.false (query_is c.args.s.now c.args.at c.query_row.ensures.is c.in-Children.ensures.is) _ c.in_ok-purse.ensures.by (children_met c.args.s.now _ c.args.at c.in-Children.v c.requires.ready _ (omega (arith, c.children.ensures.down, c.value-in-Children.ensures, value_within c.in-Children.v c.requires.ready.scoped)) (c.children.ensures.is (pool c.args.s.now) ∙ ap (λ v. inside (seen (forest_at (pool c.args.s.now) (lent_row c.args.rows.now) v))) c.value-in-Children.ensures))

pub query-returns-in-Pick : goal.query-returns-in-Pick
unfolding query_of
query-returns-in-Pick t c = ask_as c.args.s.now c.args.scope c.args.depth c.args.at c.if-depth-eq0.false (query_is c.args.s.now c.args.at c.query_row.ensures.is c.in-Pick.ensures.is) _ c.in_ok-purse.ensures.by c.pick.ensures

pub query-returns-in-For : goal.query-returns-in-For
unfolding query_of
query-returns-in-For t c = ask_as c.args.s.now c.args.scope c.args.depth c.args.at c.if-depth-eq0.false (query_is c.args.s.now c.args.at c.query_row.ensures.is c.in-For.ensures.is) _ c.in_ok-purse.ensures.by c.for_each.ensures

-- `same`: whether two texts have the same bytes: both parts, then the two values are tested.
pub same-query-requires : goal.same-query-requires
same-query-requires t c = (omega arith, asks_part c.requires (fits_same c.args.s.now c.args.depth c.args.scope c.args.p c.args.q c.requires.scope).0)

pub same-query-requires-2 : goal.same-query-requires-2
same-query-requires-2 t c = (omega arith, asks_after c.requires 0 c.query.auto.rows c.in_ok-x.ensures.met.by (omega arith) (fits_same c.args.s.now c.args.depth c.args.scope c.args.p c.args.q c.requires.scope).1)

pub same-returns-in_err-x : goal.same-returns-in_err-x
unfolding query_of
same-returns-in_err-x t c = met_exit _ c.from_residual.ensures.1 (stop_then _ c.in_err-x.ensures.met.by)

pub same-returns-in_err-y : goal.same-returns-in_err-y
unfolding query_of
same-returns-in_err-y t c = met_exit _ c.from_residual-in_err-y.ensures.1 (both_stop c.args.s.now c.args.depth c.requires.ready c.args.p c.in_ok-x.ensures.met.by c.args.q (λ (x y : Forest). same_texts (of_query c.args.at) (seen x) (seen y)) c.in_err-y.ensures.met.by)

pub same-returns : goal.same-returns
unfolding query_of
same-returns t c = both_met c.args.s.now c.args.depth c.requires.ready c.args.p c.in_ok-x.ensures.met.by c.args.q (λ (x y : Forest). same_texts (of_query c.args.at) (seen x) (seen y)) c.in_ok-y.ensures.met.by c.same_texts.ensures

-- `tree`: a labelled tree: its children, then one copy.
pub tree-query-requires : goal.tree-query-requires
tree-query-requires t c = (omega arith, asks_part c.requires.0 (fits_tree c.args.s.now c.args.depth c.args.scope c.args.label c.args.q c.requires.0.scope))

pub tree-returns-in_err-x : goal.tree-returns-in_err-x
unfolding query_of
tree-returns-in_err-x t c = met_exit _ c.from_residual.ensures.1 (stop_then _ c.in_err-x.ensures.met.by)

pub tree-returns : goal.tree-returns
unfolding query_of
tree-returns t c = met_then _ c.in_ok-x.ensures.met.by (c.make.ensures (pool c.args.s.now))

-- `turn`: a turn: a unit, the tree alone in a row of its own, the body in the scope with a place more, its result kept as a link.
pub turn-with-requires : goal.turn-with-requires
turn-with-requires t c = (a_place c.requires.0.ready.scoped (fits_turn c.args.s.now c.args.depth c.args.scope c.args.body c.requires.0.scope).0, omega (arith, c.push-one.ensures.row, c.in_ok-purse.ensures.by, c.requires.0.ready.roomy.small))

pub turn-query-requires : goal.turn-query-requires
turn-query-requires t c = (omega arith, turn_asks c.args.s.now c.args.depth c.args.body _ (cells_of c.row-t.result) c.requires.0 c.requires.1 c.in_ok-purse.ensures.by c.row-t.ensures.is (rw c.from.ensures at c.push-one.ensures.written) c.push-one.ensures.row c.with.ensures c.push-one.auto.rows)

pub turn-returns-in_err-purse : goal.turn-returns-in_err-purse
turn-returns-in_err-purse t c = turns_exit _ c.from_residual.ensures.1 (stop_tick _ _ c.in_err-purse.ensures.by)

pub turn-returns-in_err-x : goal.turn-returns-in_err-x
turn-returns-in_err-x t c = turns_exit _ c.from_residual-in_err-x.ensures.1 (turn_stop c.args.s.now c.args.depth c.args.body _ (cells_of c.row-t.result) c.requires.0 c.requires.1 c.in_ok-purse.ensures.by c.row-t.ensures.is (rw c.from.ensures at c.push-one.ensures.written) c.push-one.ensures.row c.with.ensures c.args.link c.in_err-x.ensures.met.by)

pub turn-returns : goal.turn-returns
turn-returns t c = turn_more c.args.s.now c.args.depth c.args.body _ (cells_of c.row-t.result) c.requires.0 c.requires.1 c.in_ok-purse.ensures.by c.row-t.ensures.is (rw c.from.ensures at c.push-one.ensures.written) c.push-one.ensures.row c.with.ensures c.in_ok-x.ensures.met.by c.in_ok-x.ensures.spare c.args.link c.requires.2 c.requires.3 c.keep.ensures

pub choose-query-requires-2 : goal.choose-query-requires-2
choose-query-requires-2 t c = (
  omega arith,
  asks_after c.requires 0 c.query.auto.rows c.in_ok-x.ensures.met.by (omega arith)
      (arm_both (λ (r : ℕ). fits c.args.s.now c.args.depth c.args.scope r ≡ true) (elim c.if-yes.branch [ choose-then-yes w ↦ inl (w.if-yes.true, w.arm-is) | choose-else-yes w ↦ inr (w.if-yes.false, w.arm-is) ])
      (fits_if c.args.s.now c.args.depth c.args.scope c.args.p c.args.q c.args.r c.requires.scope).1 (fits_if c.args.s.now c.args.depth c.args.scope c.args.p c.args.q c.args.r c.requires.scope).2),
)

pub choose-returns : goal.choose-returns
choose-returns t c = choose_met c.args.s.now c.args.depth c.requires.ready c.args.p c.in_ok-x.ensures.met.by c.args.at c.args.q c.args.r
    (sees_bool (pool c.args.s.now) _ _ c.look.result c.in-Some.ensures (c.look.ensures (pool c.args.s.now)))
    (elim c.if-yes.branch [ choose-then-yes w ↦ inl (w.if-yes.true, w.arm-is) | choose-else-yes w ↦ inr (w.if-yes.false, w.arm-is) ]) c.query-2.ensures.met

pub choose-returns-in_default : goal.choose-returns-in_default
choose-returns-in_default t c = choose_stuck c.args.s.now c.args.depth c.requires.ready c.args.p c.in_ok-x.ensures.met.by c.args.at c.args.q c.args.r (no_bool (pool c.args.s.now) _ _ c.look.result c.in_default.ensures (c.look.ensures (pool c.args.s.now))) _ refl

pub each-returns-in_err-links : goal.each-returns-in_err-links
each-returns-in_err-links t c = met_exit _ c.from_residual.ensures.1 (each_stop c.args.s.now c.args.depth c.args.body c.requires c.loop-at.invariant.0 (cells_of c.row-next.result) (omega (arith, c.loop-at-test.true)) c.row-next.ensures.is c.in_err-links.ensures.by)

pub query-returns-in-Nothing : goal.query-returns-in-Nothing
unfolding query_of
query-returns-in-Nothing t c = ask_as c.args.s.now c.args.scope c.args.depth c.args.at c.if-depth-eq0.false (query_is c.args.s.now c.args.at c.query_row.ensures.is c.in-Nothing.ensures.is) _ c.in_ok-purse.ensures.by (met_stuck c.args.at _ refl)
