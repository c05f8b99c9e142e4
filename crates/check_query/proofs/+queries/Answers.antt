-- What types queries, a cycle of calls, meets its contracts.
use native.Mathlib.Omega.{arith}
use mathlib.Core.Path.{refl, sym}
use Rattle.meaning.specs.Check.{query_type}
use Rattle.meaning.specs.Laws.Bools.{and_both}
use Rattle.meaning.specs.Shape.{query_scope}
use Rattle.walk.specs.Fits.{query_is, fits, fits_if, fits_join, fits_for, a_place, fits_let, fits_more, fits_turn, fits_pick, fits_form, fits_same, fits_tree}
use Rattle.type_rows.specs.Finds.{finds_err, finds_halt, halt_then, room_after, finds_as, halt_mismatch, room_less}
use Rattle.check_query.specs.Infer.{asks_part, asks_after, asks_with, asks_less, body_asked, body_after, asked_with, ask_as, ask_deep, ask_fuel}
use Rattle.check_query.proofs.Laws.{choose_halts, choose_finds, either_halts, either_finds, for_finds, join_halts, join_finds, let_finds, pick_finds, value_inside, variable_finds, inside_finds, same_halts, same_finds, tree_finds}
use Rattle.type_rows.specs.Both.{asks_choice, asks_seq, asks_pair, asks_star, asks_empty, asks_text, asks_bool, asks_label}
use Rattle.type_rows.specs.Parts.{consists_nothing, consists_atom, consists_pair, consists_star, parts_fuel, nothing_finds, atom_finds, star_halts, star_finds, pair_halts, pair_halts_2, pair_finds}
use Rattle.meaning.specs.Theorems.Sound.Written.{loads_shapely}
use Rattle.meaning.specs.Types.{ty_form}
use Rattle.walk.specs.declared.Concern.TheVariants as concern
use Rattle.check_query.proofs.+queries.Goals as goal

-- `choose`: a condition, asked about, then both queries.
pub choose-query-requires : goal.choose-query-requires
choose-query-requires t c = (omega arith, asks_part c.requires (fits_if c.args.s.now c.args.depth c.args.scope c.args.p c.args.q c.args.r c.requires.scope).0)

pub choose-must_be-requires : goal.choose-must_be-requires
choose-must_be-requires t c = (c.requires.loads, room_after c.query.auto.work c.in_ok-x.ensures.by c.requires.ready.room, c.in_ok-x.ensures.by.inside)

pub choose-either-requires : goal.choose-either-requires
unfolding query_scope
choose-either-requires t c = (omega arith, asks_after c.requires c.query.auto.work c.in_ok-x.ensures.by (and_both (fits c.args.s.now c.args.depth c.args.scope c.args.q) (fits c.args.s.now c.args.depth c.args.scope c.args.r) (fits_if c.args.s.now c.args.depth c.args.scope c.args.p c.args.q c.args.r c.requires.scope).1 (fits_if c.args.s.now c.args.depth c.args.scope c.args.p c.args.q c.args.r c.requires.scope).2))

pub choose-returns-in_err-x : goal.choose-returns-in_err-x
unfolding query_type
choose-returns-in_err-x t c = finds_err c.from_residual.ensures.1 (halt_then _ c.in_err-x.ensures.by)

-- a condition that is refused refuses the if:
-- too wide, or no bool
pub choose-returns-in_err-must_be : goal.choose-returns-in_err-must_be
choose-returns-in_err-must_be t c = finds_err c.from_residual-in_err-must_be.ensures.1 (choose_halts c.args.s.now c.args.depth c.requires.ready c.args.at c.args.p c.args.q c.args.r c.in_ok-x.ensures.by c.in_err-must_be.ensures.by)

pub choose-returns : goal.choose-returns
choose-returns t c = choose_finds c.args.s.now c.args.depth c.requires.ready c.args.at c.args.p c.args.q c.args.r c.in_ok-x.ensures.by c.in_ok-must_be.ensures.by c.either.ensures

-- `either`: the two queries of an if: a choice is written.
pub either-query-requires : goal.either-query-requires
either-query-requires t c = (omega arith, asks_part c.requires (fits_join c.args.s.now c.args.depth c.args.scope c.args.q c.args.r c.requires.scope).0)

pub either-query-requires-2 : goal.either-query-requires-2
either-query-requires-2 t c = (omega arith, asks_after c.requires c.query.auto.work c.in_ok-x.ensures.by (fits_join c.args.s.now c.args.depth c.args.scope c.args.q c.args.r c.requires.scope).1)

pub either-write-requires : goal.either-write-requires
either-write-requires t c = asks_choice (room_after c.query-2.auto.work c.in_ok-y.ensures.by (room_after c.query.auto.work c.in_ok-x.ensures.by c.requires.ready.room)) _ _ (omega (arith, c.in_ok-x.ensures.by.inside, c.in_ok-y.ensures.by.grown)) c.in_ok-y.ensures.by.inside

pub either-returns-in_err-x : goal.either-returns-in_err-x
either-returns-in_err-x t c = finds_err c.from_residual.ensures.1 (halt_then _ c.in_err-x.ensures.by)

pub either-returns-in_err-y : goal.either-returns-in_err-y
either-returns-in_err-y t c = finds_err c.from_residual-in_err-y.ensures.1 (either_halts c.args.s.now c.args.depth c.requires.ready c.args.q c.in_ok-x.ensures.by c.args.r c.in_err-y.ensures.by)

pub either-returns : goal.either-returns
either-returns t c = either_finds c.args.s.now c.args.depth c.requires.ready c.args.q c.in_ok-x.ensures.by c.args.r c.in_ok-y.ensures.by c.write.ensures

-- `for_each`: a query, then the body at each atom of its type.
pub for_each-query-requires : goal.for_each-query-requires
for_each-query-requires t c = (omega arith, asks_part c.requires (fits_for c.args.s.now c.args.depth c.args.scope c.args.p c.args.q c.requires.scope).0)

pub for_each-parts-requires : goal.for_each-parts-requires
for_each-parts-requires t c = (omega (arith, c.in_ok-x.ensures.by.inside, (room_after c.query.auto.work c.in_ok-x.ensures.by c.requires.ready.room).small), (asks_after c.requires c.query.auto.work c.in_ok-x.ensures.by (fits_for c.args.s.now c.args.depth c.args.scope c.args.p c.args.q c.requires.scope).1, c.in_ok-x.ensures.by.inside))

pub for_each-returns-in_err-x : goal.for_each-returns-in_err-x
unfolding query_type
for_each-returns-in_err-x t c = finds_err c.from_residual.ensures.1 (halt_then _ c.in_err-x.ensures.by)

pub for_each-returns : goal.for_each-returns
for_each-returns t c = for_finds c.args.s.now c.args.depth c.requires.ready c.args.p c.in_ok-x.ensures.by c.args.q c.parts.ensures

-- `join`: one type, then another: a sequence is written.
pub join-query-requires : goal.join-query-requires
join-query-requires t c = (omega arith, asks_part c.requires (fits_join c.args.s.now c.args.depth c.args.scope c.args.p c.args.q c.requires.scope).0)

pub join-query-requires-2 : goal.join-query-requires-2
join-query-requires-2 t c = (omega arith, asks_after c.requires c.query.auto.work c.in_ok-x.ensures.by (fits_join c.args.s.now c.args.depth c.args.scope c.args.p c.args.q c.requires.scope).1)

pub join-write-requires : goal.join-write-requires
join-write-requires t c = asks_seq (room_after c.query-2.auto.work c.in_ok-y.ensures.by (room_after c.query.auto.work c.in_ok-x.ensures.by c.requires.ready.room)) _ _ (omega (arith, c.in_ok-x.ensures.by.inside, c.in_ok-y.ensures.by.grown)) c.in_ok-y.ensures.by.inside

pub join-returns-in_err-x : goal.join-returns-in_err-x
unfolding query_type
join-returns-in_err-x t c = finds_err c.from_residual.ensures.1 (halt_then _ c.in_err-x.ensures.by)

pub join-returns-in_err-y : goal.join-returns-in_err-y
join-returns-in_err-y t c = finds_err c.from_residual-in_err-y.ensures.1 (join_halts c.args.s.now c.args.depth c.requires.ready c.args.p c.in_ok-x.ensures.by c.args.q c.in_err-y.ensures.by)

pub join-returns : goal.join-returns
join-returns t c = join_finds c.args.s.now c.args.depth c.requires.ready c.args.p c.in_ok-x.ensures.by c.args.q c.in_ok-y.ensures.by c.write.ensures

-- `let_in`: a forest variable more: its type, then the query in the scope with a place more.
pub let_in-query-requires : goal.let_in-query-requires
let_in-query-requires t c = (omega arith, asks_part c.requires (fits_let c.args.s.now c.args.depth c.args.scope c.args.p c.args.q c.requires.scope).0)

pub let_in-with-requires : goal.let_in-with-requires
let_in-with-requires t c = (a_place c.requires.ready.scoped (fits_let c.args.s.now c.args.depth c.args.scope c.args.p c.args.q c.requires.scope).1, omega (arith, c.in_ok-x.ensures.by.inside, c.in_ok-x.ensures.by.paid, c.requires.ready.room.small))

pub let_in-query-requires-2 : goal.let_in-query-requires-2
let_in-query-requires-2 t c = (omega arith, asks_with (asks_after c.requires c.query.auto.work c.in_ok-x.ensures.by c.requires.scope) c.with.ensures (a_place c.requires.ready.scoped (fits_let c.args.s.now c.args.depth c.args.scope c.args.p c.args.q c.requires.scope).1) c.in_ok-x.ensures.by.inside (fits_more c.args.s.now c.args.depth c.args.scope c.args.q c.with.ensures (fits_let c.args.s.now c.args.depth c.args.scope c.args.p c.args.q c.requires.scope).2))

pub let_in-returns-in_err-x : goal.let_in-returns-in_err-x
unfolding query_type
let_in-returns-in_err-x t c = finds_err c.from_residual.ensures.1 (halt_then _ c.in_err-x.ensures.by)

pub let_in-returns : goal.let_in-returns
let_in-returns t c = let_finds c.args.s.now c.args.depth c.requires.ready c.args.p c.in_ok-x.ensures.by c.args.q c.with.ensures c.query-2.ensures

-- `parts`: a type part by part: by what it consists of; parts are of lower rows, and an atom is a tree variable of the body.
pub parts-part_of-requires : goal.parts-part_of-requires
parts-part_of-requires t c = omega (arith, c.requires.1, c.requires.0.ready.room.small)

pub parts-with_tree-requires : goal.parts-with_tree-requires
parts-with_tree-requires t c = (a_place c.requires.0.ready.scoped (fits_turn c.args.s.now c.args.depth c.args.scope c.args.body c.requires.0.scope).0, omega (arith, c.requires.1, c.requires.0.ready.room.small))

pub parts-query-requires : goal.parts-query-requires
parts-query-requires t c = (omega arith, asks_with (asks_less c.requires.0 _ c.in_ok-purse.ensures.by c.requires.0.scope) c.with_tree.ensures (a_place c.requires.0.ready.scoped (fits_turn c.args.s.now c.args.depth c.args.scope c.args.body c.requires.0.scope).0) c.requires.1 (fits_more c.args.s.now c.args.depth c.args.scope c.args.body c.with_tree.ensures (fits_turn c.args.s.now c.args.depth c.args.scope c.args.body c.requires.0.scope).1))

pub parts-parts-requires : goal.parts-parts-requires
parts-parts-requires t c = (omega (arith, (consists_star c.in-Star.is (c.part_of.ensures c.args.left.used c.requires.0.ready.room.grows c.requires.1)).part), ((asks_less c.requires.0 _ c.in_ok-purse.ensures.by c.requires.0.scope), omega (arith, c.requires.1, (consists_star c.in-Star.is (c.part_of.ensures c.args.left.used c.requires.0.ready.room.grows c.requires.1)).part)))

pub parts-write-requires : goal.parts-write-requires
parts-write-requires t c = asks_star (room_after c.parts.auto.work c.in_ok-x-in-Star.ensures.by (asks_less c.requires.0 _ c.in_ok-purse.ensures.by c.requires.0.scope).ready.room) _ c.in_ok-x-in-Star.ensures.by.inside

pub parts-parts-requires-in-Pair : goal.parts-parts-requires-in-Pair
parts-parts-requires-in-Pair t c = (omega (arith, (consists_pair c.in-Pair.is (c.part_of.ensures c.args.left.used c.requires.0.ready.room.grows c.requires.1)).first), ((asks_less c.requires.0 _ c.in_ok-purse.ensures.by c.requires.0.scope), omega (arith, c.requires.1, (consists_pair c.in-Pair.is (c.part_of.ensures c.args.left.used c.requires.0.ready.room.grows c.requires.1)).first)))

pub parts-parts-requires-in-Pair-2 : goal.parts-parts-requires-in-Pair-2
parts-parts-requires-in-Pair-2 t c = (omega (arith, (consists_pair c.in-Pair.is (c.part_of.ensures c.args.left.used c.requires.0.ready.room.grows c.requires.1)).second), ((asks_after (asks_less c.requires.0 _ c.in_ok-purse.ensures.by c.requires.0.scope) c.parts-in-Pair.auto.work c.in_ok-x-in-Pair.ensures.by c.requires.0.scope), omega (arith, c.requires.1, (consists_pair c.in-Pair.is (c.part_of.ensures c.args.left.used c.requires.0.ready.room.grows c.requires.1)).second, c.in_ok-x-in-Pair.ensures.by.grown)))

pub parts-write-requires-in-Pair : goal.parts-write-requires-in-Pair
parts-write-requires-in-Pair t c = asks_pair (room_after c.parts-in-Pair-2.auto.work c.in_ok-y-in-Pair.ensures.by (asks_after (asks_less c.requires.0 _ c.in_ok-purse.ensures.by c.requires.0.scope) c.parts-in-Pair.auto.work c.in_ok-x-in-Pair.ensures.by c.requires.0.scope).ready.room) _ _ _ (consists_pair c.in-Pair.is (c.part_of.ensures c.args.left.used c.requires.0.ready.room.grows c.requires.1)).kind (omega (arith, c.in_ok-x-in-Pair.ensures.by.inside, c.in_ok-y-in-Pair.ensures.by.grown)) c.in_ok-y-in-Pair.ensures.by.inside

pub parts-returns-in_err-purse : goal.parts-returns-in_err-purse
parts-returns-in_err-purse t c = finds_err c.from_residual.ensures.1 (parts_fuel _ _ _ _ c.in_err-purse.ensures.by)

pub parts-returns-in-Nothing : goal.parts-returns-in-Nothing
parts-returns-in-Nothing t c = nothing_finds c.args.of (body_asked c.args.s.now c.args.work.now c.args.left.used c.args.scope c.args.depth c.args.body) _ c.in_ok-purse.ensures.by _ refl c.requires.0.ready.room.grows (consists_nothing c.in-Nothing.is (c.part_of.ensures c.args.left.used c.requires.0.ready.room.grows c.requires.1) (body_asked c.args.s.now c.args.work.now c.args.left.used c.args.scope c.args.depth c.args.body))

pub parts-returns-in-Atom : goal.parts-returns-in-Atom
parts-returns-in-Atom t c = atom_finds c.args.of (body_asked c.args.s.now c.args.work.now c.args.left.used c.args.scope c.args.depth c.args.body) _ c.in_ok-purse.ensures.by (consists_atom c.in-Atom.is (c.part_of.ensures c.args.left.used c.requires.0.ready.room.grows c.requires.1) (body_asked c.args.s.now c.args.work.now c.args.left.used c.args.scope c.args.depth c.args.body)) (finds_as (sym (asked_with c.args.s.now c.args.work.now c.args.left.used c.args.depth c.args.body c.with_tree.ensures)) c.query.ensures)

pub parts-returns-in_err-x-in-Star : goal.parts-returns-in_err-x-in-Star
parts-returns-in_err-x-in-Star t c = finds_err c.from_residual-in_err-x-in-Star.ensures.1 (star_halts c.args.of (body_asked c.args.s.now c.args.work.now c.args.left.used c.args.scope c.args.depth c.args.body) _ c.in_ok-purse.ensures.by (consists_star c.in-Star.is (c.part_of.ensures c.args.left.used c.requires.0.ready.room.grows c.requires.1)) c.in_err-x-in-Star.ensures.by)

pub parts-returns-in_ok-x-in-Star : goal.parts-returns-in_ok-x-in-Star
parts-returns-in_ok-x-in-Star t c = star_finds c.args.of (body_asked c.args.s.now c.args.work.now c.args.left.used c.args.scope c.args.depth c.args.body) _ c.in_ok-purse.ensures.by (consists_star c.in-Star.is (c.part_of.ensures c.args.left.used c.requires.0.ready.room.grows c.requires.1)) c.in_ok-x-in-Star.ensures.by c.write.ensures

pub parts-returns-in_err-x-in-Pair : goal.parts-returns-in_err-x-in-Pair
parts-returns-in_err-x-in-Pair t c = finds_err c.from_residual-in_err-x-in-Pair.ensures.1 (pair_halts c.args.of (body_asked c.args.s.now c.args.work.now c.args.left.used c.args.scope c.args.depth c.args.body) _ c.in_ok-purse.ensures.by (consists_pair c.in-Pair.is (c.part_of.ensures c.args.left.used c.requires.0.ready.room.grows c.requires.1)) c.in_err-x-in-Pair.ensures.by)

pub parts-returns-in_err-y-in-Pair : goal.parts-returns-in_err-y-in-Pair
parts-returns-in_err-y-in-Pair t c = finds_err c.from_residual-in_err-y-in-Pair.ensures.1 (pair_halts_2 c.args.of (body_asked c.args.s.now c.args.work.now c.args.left.used c.args.scope c.args.depth c.args.body) _ c.in_ok-purse.ensures.by (consists_pair c.in-Pair.is (c.part_of.ensures c.args.left.used c.requires.0.ready.room.grows c.requires.1)) c.requires.0.ready.room.grows c.in_ok-x-in-Pair.ensures.by _ (body_after c.requires.0.ready c.in_ok-x-in-Pair.ensures.by c.args.depth c.args.body) c.requires.1 c.in_err-y-in-Pair.ensures.by)

pub parts-returns-in_ok-y-in-Pair : goal.parts-returns-in_ok-y-in-Pair
parts-returns-in_ok-y-in-Pair t c = pair_finds c.args.of (body_asked c.args.s.now c.args.work.now c.args.left.used c.args.scope c.args.depth c.args.body) _ c.in_ok-purse.ensures.by (consists_pair c.in-Pair.is (c.part_of.ensures c.args.left.used c.requires.0.ready.room.grows c.requires.1)) c.requires.0.ready.room.grows c.in_ok-x-in-Pair.ensures.by _ (body_after c.requires.0.ready c.in_ok-x-in-Pair.ensures.by c.args.depth c.args.body) c.requires.1 c.in_ok-y-in-Pair.ensures.by c.write-in-Pair.ensures

-- `pick`: a query, then its atoms with a label.
pub pick-query-requires : goal.pick-query-requires
pick-query-requires t c = (omega arith, asks_part c.requires (fits_pick c.args.s.now c.args.depth c.args.scope c.args.p c.args.label c.requires.scope))

pub pick-picked-requires : goal.pick-picked-requires
pick-picked-requires t c = record { shaped = loads_shapely c.requires.loads; room = room_after c.query.auto.work c.in_ok-x.ensures.by c.requires.ready.room; inside = c.in_ok-x.ensures.by.inside }

pub pick-returns-in_err-x : goal.pick-returns-in_err-x
unfolding query_type
pick-returns-in_err-x t c = finds_err c.from_residual.ensures.1 (halt_then _ c.in_err-x.ensures.by)

pub pick-returns : goal.pick-returns
pick-returns t c = pick_finds c.args.s.now c.args.depth c.requires.ready c.args.p c.in_ok-x.ensures.by c.args.label c.picked.ensures

-- `query`: a query row: a level of depth, a unit, and then by its kind.
pub query-returns-then-depth-eq0 : goal.query-returns-then-depth-eq0
query-returns-then-depth-eq0 t c = finds_halt (ask_deep c.args.s.now c.args.work.now c.args.left.used c.args.scope c.args.depth c.args.at c.args.left.purse c.if-depth-eq0.true)

pub query-write-requires : goal.query-write-requires
query-write-requires t c = asks_empty (room_less _ 1 c.requires.ready.room c.in_ok-purse.ensures.by)

pub query-join-requires : goal.query-join-requires
query-join-requires t c = (omega (arith, c.if-depth-eq0.false), asks_less c.requires _ c.in_ok-purse.ensures.by (fits_form c.args.s.now c.args.scope c.args.depth c.args.at c.if-depth-eq0.false (query_is c.args.s.now c.args.at c.query_row.ensures.is c.in-Join.ensures.is) c.requires.scope))

pub query-tree-requires : goal.query-tree-requires
query-tree-requires t c = (omega (arith, c.if-depth-eq0.false), (asks_less c.requires _ c.in_ok-purse.ensures.by (fits_form c.args.s.now c.args.scope c.args.depth c.args.at c.if-depth-eq0.false (query_is c.args.s.now c.args.at c.query_row.ensures.is c.in-Tree.ensures.is) c.requires.scope), c.in-Tree.ensures.small c.query_row.ensures.small))

pub query-write-requires-in-Text : goal.query-write-requires-in-Text
query-write-requires-in-Text t c = asks_text (room_less _ 1 c.requires.ready.room c.in_ok-purse.ensures.by)

pub query-write-requires-in-Bool : goal.query-write-requires-in-Bool
query-write-requires-in-Bool t c = asks_bool (room_less _ 1 c.requires.ready.room c.in_ok-purse.ensures.by)

pub query-value-requires : goal.query-value-requires
query-value-requires t c = c.requires.ready.scoped.few

pub query-let_in-requires : goal.query-let_in-requires
query-let_in-requires t c = (omega (arith, c.if-depth-eq0.false), asks_less c.requires _ c.in_ok-purse.ensures.by (fits_form c.args.s.now c.args.scope c.args.depth c.args.at c.if-depth-eq0.false (query_is c.args.s.now c.args.at c.query_row.ensures.is c.in-Let.ensures.is) c.requires.scope))

pub query-choose-requires : goal.query-choose-requires
query-choose-requires t c = (omega (arith, c.if-depth-eq0.false), asks_less c.requires _ c.in_ok-purse.ensures.by (fits_form c.args.s.now c.args.scope c.args.depth c.args.at c.if-depth-eq0.false (query_is c.args.s.now c.args.at c.query_row.ensures.is c.in-If.ensures.is) c.requires.scope))

pub query-same-requires : goal.query-same-requires
query-same-requires t c = (omega (arith, c.if-depth-eq0.false), asks_less c.requires _ c.in_ok-purse.ensures.by (fits_form c.args.s.now c.args.scope c.args.depth c.args.at c.if-depth-eq0.false (query_is c.args.s.now c.args.at c.query_row.ensures.is c.in-Same.ensures.is) c.requires.scope))

pub query-value-requires-in-Children : goal.query-value-requires-in-Children
query-value-requires-in-Children t c = c.requires.ready.scoped.few

pub query-inside-requires : goal.query-inside-requires
query-inside-requires t c = (c.requires.loads, (room_less _ 1 c.requires.ready.room c.in_ok-purse.ensures.by), value_inside c.args.s.now 0 0 _ c.requires.ready c.value-in-Children.ensures)

pub query-pick-requires : goal.query-pick-requires
query-pick-requires t c = (omega (arith, c.if-depth-eq0.false), asks_less c.requires _ c.in_ok-purse.ensures.by (fits_form c.args.s.now c.args.scope c.args.depth c.args.at c.if-depth-eq0.false (query_is c.args.s.now c.args.at c.query_row.ensures.is c.in-Pick.ensures.is) c.requires.scope))

pub query-for_each-requires : goal.query-for_each-requires
query-for_each-requires t c = (omega (arith, c.if-depth-eq0.false), asks_less c.requires _ c.in_ok-purse.ensures.by (fits_form c.args.s.now c.args.scope c.args.depth c.args.at c.if-depth-eq0.false (query_is c.args.s.now c.args.at c.query_row.ensures.is c.in-For.ensures.is) c.requires.scope))

pub query-returns-in_err-purse : goal.query-returns-in_err-purse
query-returns-in_err-purse t c = finds_err c.from_residual.ensures.1 (ask_fuel c.args.s.now c.args.work.now c.args.left.used c.args.scope c.args.depth c.args.at c.args.left.purse.left c.if-depth-eq0.false c.in_err-purse.ensures.by)

pub query-returns-in-Empty : goal.query-returns-in-Empty
unfolding query_type ty_form
query-returns-in-Empty t c = ask_as c.args.s.now c.args.work.now c.args.left.used c.args.scope c.args.depth c.args.at c.if-depth-eq0.false (query_is c.args.s.now c.args.at c.query_row.ensures.is c.in-Empty.ensures.is) _ c.in_ok-purse.ensures.by c.write.ensures

pub query-returns-in-Join : goal.query-returns-in-Join
unfolding query_type ty_form
query-returns-in-Join t c = ask_as c.args.s.now c.args.work.now c.args.left.used c.args.scope c.args.depth c.args.at c.if-depth-eq0.false (query_is c.args.s.now c.args.at c.query_row.ensures.is c.in-Join.ensures.is) _ c.in_ok-purse.ensures.by c.join.ensures

pub query-returns-in-Tree : goal.query-returns-in-Tree
unfolding query_type ty_form
query-returns-in-Tree t c = ask_as c.args.s.now c.args.work.now c.args.left.used c.args.scope c.args.depth c.args.at c.if-depth-eq0.false (query_is c.args.s.now c.args.at c.query_row.ensures.is c.in-Tree.ensures.is) _ c.in_ok-purse.ensures.by c.tree.ensures

pub query-returns-in-Text : goal.query-returns-in-Text
unfolding query_type ty_form
query-returns-in-Text t c = ask_as c.args.s.now c.args.work.now c.args.left.used c.args.scope c.args.depth c.args.at c.if-depth-eq0.false (query_is c.args.s.now c.args.at c.query_row.ensures.is c.in-Text.ensures.is) _ c.in_ok-purse.ensures.by c.write-in-Text.ensures

pub query-returns-in-Bool : goal.query-returns-in-Bool
unfolding query_type ty_form
query-returns-in-Bool t c = ask_as c.args.s.now c.args.work.now c.args.left.used c.args.scope c.args.depth c.args.at c.if-depth-eq0.false (query_is c.args.s.now c.args.at c.query_row.ensures.is c.in-Bool.ensures.is) _ c.in_ok-purse.ensures.by c.write-in-Bool.ensures

pub query-returns-in-Variable : goal.query-returns-in-Variable
query-returns-in-Variable t c = ask_as c.args.s.now c.args.work.now c.args.left.used c.args.scope c.args.depth c.args.at c.if-depth-eq0.false (query_is c.args.s.now c.args.at c.query_row.ensures.is c.in-Variable.ensures.is) _ c.in_ok-purse.ensures.by (variable_finds c.args.s.now _ c.args.at _ c.requires.ready c.value.ensures _)

pub query-returns-in-Let : goal.query-returns-in-Let
unfolding query_type ty_form
query-returns-in-Let t c = ask_as c.args.s.now c.args.work.now c.args.left.used c.args.scope c.args.depth c.args.at c.if-depth-eq0.false (query_is c.args.s.now c.args.at c.query_row.ensures.is c.in-Let.ensures.is) _ c.in_ok-purse.ensures.by c.let_in.ensures

pub query-returns-in-If : goal.query-returns-in-If
unfolding query_type ty_form
query-returns-in-If t c = ask_as c.args.s.now c.args.work.now c.args.left.used c.args.scope c.args.depth c.args.at c.if-depth-eq0.false (query_is c.args.s.now c.args.at c.query_row.ensures.is c.in-If.ensures.is) _ c.in_ok-purse.ensures.by c.choose.ensures

pub query-returns-in-Same : goal.query-returns-in-Same
unfolding query_type ty_form
query-returns-in-Same t c = ask_as c.args.s.now c.args.work.now c.args.left.used c.args.scope c.args.depth c.args.at c.if-depth-eq0.false (query_is c.args.s.now c.args.at c.query_row.ensures.is c.in-Same.ensures.is) _ c.in_ok-purse.ensures.by c.same.ensures

pub query-returns-in-Children : goal.query-returns-in-Children
query-returns-in-Children t c = ask_as c.args.s.now c.args.work.now c.args.left.used c.args.scope c.args.depth c.args.at c.if-depth-eq0.false (query_is c.args.s.now c.args.at c.query_row.ensures.is c.in-Children.ensures.is) _ c.in_ok-purse.ensures.by (inside_finds c.args.s.now _ c.args.at _ c.requires.ready c.value-in-Children.ensures c.inside.ensures)

pub query-returns-in-Pick : goal.query-returns-in-Pick
unfolding query_type ty_form
query-returns-in-Pick t c = ask_as c.args.s.now c.args.work.now c.args.left.used c.args.scope c.args.depth c.args.at c.if-depth-eq0.false (query_is c.args.s.now c.args.at c.query_row.ensures.is c.in-Pick.ensures.is) _ c.in_ok-purse.ensures.by c.pick.ensures

pub query-returns-in-For : goal.query-returns-in-For
unfolding query_type ty_form
query-returns-in-For t c = ask_as c.args.s.now c.args.work.now c.args.left.used c.args.scope c.args.depth c.args.at c.if-depth-eq0.false (query_is c.args.s.now c.args.at c.query_row.ensures.is c.in-For.ensures.is) _ c.in_ok-purse.ensures.by c.for_each.ensures

pub query-returns-in-Nothing : goal.query-returns-in-Nothing
unfolding query_type
query-returns-in-Nothing t c = ask_as c.args.s.now c.args.work.now c.args.left.used c.args.scope c.args.depth c.args.at c.if-depth-eq0.false (query_is c.args.s.now c.args.at c.query_row.ensures.is c.in-Nothing.ensures.is) _ c.in_ok-purse.ensures.by (finds_halt (halt_mismatch c.args.s.now (concern.Query c.args.at) _))

-- `same`: two types, asked about in order.
pub same-query-requires : goal.same-query-requires
same-query-requires t c = (omega arith, asks_part c.requires (fits_same c.args.s.now c.args.depth c.args.scope c.args.p c.args.q c.requires.scope).0)

pub same-query-requires-2 : goal.same-query-requires-2
same-query-requires-2 t c = (omega arith, asks_after c.requires c.query.auto.work c.in_ok-x.ensures.by (fits_same c.args.s.now c.args.depth c.args.scope c.args.p c.args.q c.requires.scope).1)

pub same-two_texts-requires : goal.same-two_texts-requires
same-two_texts-requires t c = (c.requires.loads, (room_after c.query-2.auto.work c.in_ok-y.ensures.by (room_after c.query.auto.work c.in_ok-x.ensures.by c.requires.ready.room)), omega (arith, c.in_ok-x.ensures.by.inside, c.in_ok-y.ensures.by.grown), c.in_ok-y.ensures.by.inside)

pub same-returns-in_err-x : goal.same-returns-in_err-x
unfolding query_type
same-returns-in_err-x t c = finds_err c.from_residual.ensures.1 (halt_then _ c.in_err-x.ensures.by)

pub same-returns-in_err-y : goal.same-returns-in_err-y
same-returns-in_err-y t c = finds_err c.from_residual-in_err-y.ensures.1 (same_halts c.args.s.now c.args.depth c.requires.ready c.args.p c.in_ok-x.ensures.by c.args.q c.args.at c.in_err-y.ensures.by)

pub same-returns : goal.same-returns
same-returns t c = same_finds c.args.s.now c.args.depth c.requires.ready c.args.p c.in_ok-x.ensures.by c.args.q c.in_ok-y.ensures.by c.args.at c.two_texts.ensures

-- `tree`: a query, then its type under a label.
pub tree-query-requires : goal.tree-query-requires
tree-query-requires t c = (omega arith, asks_part c.requires.0 (fits_tree c.args.s.now c.args.depth c.args.scope c.args.label c.args.q c.requires.0.scope))

pub tree-write-requires : goal.tree-write-requires
tree-write-requires t c = asks_label (room_after c.query.auto.work c.in_ok-x.ensures.by c.requires.0.ready.room) _ _ c.requires.1 c.in_ok-x.ensures.by.inside

pub tree-returns-in_err-x : goal.tree-returns-in_err-x
unfolding query_type
tree-returns-in_err-x t c = finds_err c.from_residual.ensures.1 (halt_then _ c.in_err-x.ensures.by)

pub tree-returns : goal.tree-returns
tree-returns t c = tree_finds c.args.s.now c.args.depth c.requires.0.ready c.args.q c.in_ok-x.ensures.by c.args.label c.write.ensures
