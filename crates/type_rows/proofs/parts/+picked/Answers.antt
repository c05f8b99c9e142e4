-- `type_rows::parts::picked` meets its contract: by what the type consists of; parts are of lower rows.
use native.Mathlib.Omega.{arith}
use mathlib.Core.Path.{refl}
use Rattle.type_rows.specs.Finds.{finds_err, room_less, room_after}
use Rattle.type_rows.specs.Both.{asks_pair, asks_star}
use Rattle.type_rows.specs.Parts.{consists_nothing, consists_atom, consists_pair, consists_star, parts_fuel, nothing_finds, atom_finds, star_halts, star_finds, pair_halts, pair_halts_2, pair_finds}
use Rattle.type_rows.specs.Picked.{pick_of, picks_small, picks_less, picks_paid, picks_after}
use Rattle.type_rows.proofs.parts.+picked.Goals as goal

pub part_of-requires : goal.part_of-requires
part_of-requires t c = picks_small c.requires

pub kept-requires : goal.kept-requires
kept-requires t c = picks_paid c.requires _ c.in_ok-purse.ensures.by

pub picked-requires : goal.picked-requires
picked-requires t c = (omega (arith, (consists_star c.in-Star.is (c.part_of.ensures c.args.left.used c.requires.room.grows c.requires.inside)).part), picks_less c.requires _ _ c.in_ok-purse.ensures.by (consists_star c.in-Star.is (c.part_of.ensures c.args.left.used c.requires.room.grows c.requires.inside)).part)

pub write-requires : goal.write-requires
write-requires t c = asks_star (room_after c.picked.auto.work c.in_ok-x-in-Star.ensures.by (room_less _ 1 c.requires.room c.in_ok-purse.ensures.by)) _ c.in_ok-x-in-Star.ensures.by.inside

pub picked-requires-in-Pair : goal.picked-requires-in-Pair
picked-requires-in-Pair t c = (omega (arith, (consists_pair c.in-Pair.is (c.part_of.ensures c.args.left.used c.requires.room.grows c.requires.inside)).first), picks_less c.requires _ _ c.in_ok-purse.ensures.by (consists_pair c.in-Pair.is (c.part_of.ensures c.args.left.used c.requires.room.grows c.requires.inside)).first)

pub picked-requires-in-Pair-2 : goal.picked-requires-in-Pair-2
picked-requires-in-Pair-2 t c = (omega (arith, (consists_pair c.in-Pair.is (c.part_of.ensures c.args.left.used c.requires.room.grows c.requires.inside)).second), picks_after (picks_paid c.requires _ c.in_ok-purse.ensures.by) _ c.picked-in-Pair.auto.work c.in_ok-x-in-Pair.ensures.by (omega (arith, (consists_pair c.in-Pair.is (c.part_of.ensures c.args.left.used c.requires.room.grows c.requires.inside)).second)))

pub write-requires-in-Pair : goal.write-requires-in-Pair
write-requires-in-Pair t c = asks_pair (room_after c.picked-in-Pair-2.auto.work c.in_ok-y-in-Pair.ensures.by (room_after c.picked-in-Pair.auto.work c.in_ok-x-in-Pair.ensures.by (room_less _ 1 c.requires.room c.in_ok-purse.ensures.by))) _ _ _ (consists_pair c.in-Pair.is (c.part_of.ensures c.args.left.used c.requires.room.grows c.requires.inside)).kind (omega (arith, c.in_ok-x-in-Pair.ensures.by.inside, c.in_ok-y-in-Pair.ensures.by.grown)) c.in_ok-y-in-Pair.ensures.by.inside

pub returns-in_err-purse : goal.returns-in_err-purse
returns-in_err-purse t c = finds_err c.from_residual.ensures.1 (parts_fuel _ _ _ _ c.in_err-purse.ensures.by)

pub returns-in-Nothing : goal.returns-in-Nothing
returns-in-Nothing t c = nothing_finds c.args.of (pick_of c.args.s.now c.args.label) _ c.in_ok-purse.ensures.by _ refl c.requires.room.grows (consists_nothing c.in-Nothing.is (c.part_of.ensures c.args.left.used c.requires.room.grows c.requires.inside) (pick_of c.args.s.now c.args.label))

pub returns-in-Atom : goal.returns-in-Atom
returns-in-Atom t c = atom_finds c.args.of (pick_of c.args.s.now c.args.label) _ c.in_ok-purse.ensures.by (consists_atom c.in-Atom.is (c.part_of.ensures c.args.left.used c.requires.room.grows c.requires.inside) (pick_of c.args.s.now c.args.label)) c.kept.ensures

pub returns-in_err-x-in-Star : goal.returns-in_err-x-in-Star
returns-in_err-x-in-Star t c = finds_err c.from_residual-in_err-x-in-Star.ensures.1 (star_halts c.args.of (pick_of c.args.s.now c.args.label) _ c.in_ok-purse.ensures.by (consists_star c.in-Star.is (c.part_of.ensures c.args.left.used c.requires.room.grows c.requires.inside)) c.in_err-x-in-Star.ensures.by)

pub returns-in_ok-x-in-Star : goal.returns-in_ok-x-in-Star
returns-in_ok-x-in-Star t c = star_finds c.args.of (pick_of c.args.s.now c.args.label) _ c.in_ok-purse.ensures.by (consists_star c.in-Star.is (c.part_of.ensures c.args.left.used c.requires.room.grows c.requires.inside)) c.in_ok-x-in-Star.ensures.by c.write.ensures

pub returns-in_err-x-in-Pair : goal.returns-in_err-x-in-Pair
returns-in_err-x-in-Pair t c = finds_err c.from_residual-in_err-x-in-Pair.ensures.1 (pair_halts c.args.of (pick_of c.args.s.now c.args.label) _ c.in_ok-purse.ensures.by (consists_pair c.in-Pair.is (c.part_of.ensures c.args.left.used c.requires.room.grows c.requires.inside)) c.in_err-x-in-Pair.ensures.by)

pub returns-in_err-y-in-Pair : goal.returns-in_err-y-in-Pair
returns-in_err-y-in-Pair t c = finds_err c.from_residual-in_err-y-in-Pair.ensures.1 (pair_halts_2 c.args.of (pick_of c.args.s.now c.args.label) _ c.in_ok-purse.ensures.by (consists_pair c.in-Pair.is (c.part_of.ensures c.args.left.used c.requires.room.grows c.requires.inside)) c.requires.room.grows c.in_ok-x-in-Pair.ensures.by (pick_of c.args.s.now c.args.label) refl c.requires.inside c.in_err-y-in-Pair.ensures.by)

pub returns-in_ok-y-in-Pair : goal.returns-in_ok-y-in-Pair
returns-in_ok-y-in-Pair t c = pair_finds c.args.of (pick_of c.args.s.now c.args.label) _ c.in_ok-purse.ensures.by (consists_pair c.in-Pair.is (c.part_of.ensures c.args.left.used c.requires.room.grows c.requires.inside)) c.requires.room.grows c.in_ok-x-in-Pair.ensures.by (pick_of c.args.s.now c.args.label) refl c.requires.inside c.in_ok-y-in-Pair.ensures.by c.write-in-Pair.ensures
