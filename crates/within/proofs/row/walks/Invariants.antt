-- `within::row::walks` meets its contract. The loop's invariant (`Going`): no pair of places is pending, each that is done is reached and looked at. Fewer pairs of contents are missing each time.
use Rattle.within_pairs.specs.Queue.{missing}
use Rattle.within.specs.Steps.{Going}
use Rattle.within.proofs.row.walks.Given as goal

abbrev pub invariant-loop-q : goal.invariant-loop-q
invariant-loop-q l = Going l.fn.s l.fn.own.rows.now.bytes l.fn.tables.first l.fn.tables.behind l.fn.own.first.now l.fn.own.behind.now l.fn.tables.same l.fn.own.kin.now l.fn.tables.kin l.fn.w l.queue.pending l.queue.done l.fresh.pending l.fresh.done

abbrev pub decreases-loop-q : goal.decreases-loop-q
decreases-loop-q l = missing l.fresh.done
