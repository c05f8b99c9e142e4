-- `within_pairs::turn` meets its contract: by what the found row says.
use Rattle.std.proofs.Common.{ap, arith}
use Rattle.within_pairs.specs.Said.{label_row}
use Rattle.within_pairs.specs.Reach.{placed_low, after_high, inner_facing, turn_not_after, turn_label}
use Rattle.within_pairs.proofs.turn.Goals as goal

pub meet-requires : goal.meet-requires
meet-requires c =
    let low = placed_low c.requires.tabled.lower c.requires.placed.0 in
    record {
      found = low.1;
      wanted = c.requires.tabled.low c.args.a c.args.b (omega (arith, low.1)) c.requires.placed.1 c.requires.placed.2;
      kins = c.requires.tabled.kins;
      places = after_high c.requires.tabled.lower c.requires.placed.0;
    }

pub returns-then-not-meet-clause-turn : goal.returns-then-not-meet-clause-turn
returns-then-not-meet-clause-turn c = turn_not_after _ _ _ _ _ _ _ _ (rw c.if-not-meet.true at c.meet.ensures.outcome)

pub meet-requires-in-Label : goal.meet-requires-in-Label
meet-requires-in-Label c =
    let row = label_row c.row-c.ensures c.in-Label.ensures in
    inner_facing _ _ _ _ _ _ _ _ c.requires.tabled c.args.a c.args.b row.0 c.requires.placed.1 c.requires.placed.2 row.1 (ap (λ c. c.q) c.acting-held.ensures)

pub returns-in-Label-clause-turn : goal.returns-in-Label-clause-turn
returns-in-Label-clause-turn c =
    let row = label_row c.row-c.ensures c.in-Label.ensures in
    turn_label _ _ _ _ _ _ _ _ row.0 (rw c.if-not-meet.false at c.meet.ensures.outcome) (rw c.meet.ensures.kept at c.meet-in-Label.ensures.outcome) row.1 (ap (λ c. c.q) c.acting-held.ensures)
