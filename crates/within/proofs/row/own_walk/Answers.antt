-- `within::row::own_walk` meets its contract: where the two points go together, the walk is the answer.
use Rattle.within.specs.Matched.{own_tabled}
use Rattle.within.specs.Steps.{own_went, first_facing, first_like}
use Rattle.within.proofs.row.own_walk.Goals as goal

pub meet-requires : goal.meet-requires
meet-requires c = first_facing (c.requires.by_index.0, c.requires.by_index.1.1) c.requires.w_value

pub walk-requires-clause-tabled : goal.walk-requires-clause-tabled
walk-requires-clause-tabled c = rw c.requires.rows (own_tabled c.requires.by_index.1.1)

pub walk-requires-clause-like : goal.walk-requires-clause-like
walk-requires-clause-like c = rw c.requires.rows (first_like (c.requires.by_index.0, c.requires.by_index.1.1) c.requires.w_value (rw c.requires.none.0 at c.meet.ensures.outcome))

pub returns-clause-walked : goal.returns-clause-walked
returns-clause-walked c =
    own_went (rw c.requires.none.0 at c.meet.ensures.outcome) c.if-not-meet.false (rw (c.requires.rows, c.meet.ensures.kept, c.requires.none.0, c.requires.none.1) at c.walk.ensures.walked)
