-- `within::row::in_row` meets its contract: the tables are those that the walks ask for.
use Rattle.type_rows.specs.Writing.{own_lies}
use Rattle.type_places.specs.Tables.{clear_zeros}
use Rattle.type_tables.specs.Joined.{own_rows, own_apart}
use Rattle.within.specs.Steps.{set_up}
use Rattle.within.proofs.row.in_row.Goals as goal

pub of_own-requires-clause-rows : goal.of_own-requires-clause-rows
of_own-requires-clause-rows c = let w = c.requires.standing.written in (own_rows w, own_apart w, own_lies w)

pub of_own-requires-clause-clear : goal.of_own-requires-clause-clear
of_own-requires-clause-clear c = (clear_zeros, clear_zeros)

pub walks-requires-clause-setting : goal.walks-requires-clause-setting
walks-requires-clause-setting c = rw c.of-rows.ensures (set_up c.requires.loads c.requires.standing c.of_own.ensures c.requires.lent (rw c.of-rows.ensures at c.kins.ensures))
