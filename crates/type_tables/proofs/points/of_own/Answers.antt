-- `type_tables::points::of_own` meets its contract: the roots are row 512 and the contents, so the tables are right for each of them.
use native.Mathlib.Omega.{arith}
use Rattle.type_tables.specs.Points.{all_set, own_free, own_points}
use Rattle.type_tables.proofs.points.of_own.Goals as goal

pub firsts-requires-clause-rows : goal.firsts-requires-clause-rows
firsts-requires-clause-rows c = rw c.of-rows.ensures c.requires.rows.0

pub firsts-requires-clause-low_le_n : goal.firsts-requires-clause-low_le_n
firsts-requires-clause-low_le_n c = rw c.of-rows.ensures (omega (arith, c.requires.blank.few), λ i a b. (c.requires.blank.none i a b, all_set i (omega (arith, c.requires.blank.few))))

pub behinds-requires-clause-rows : goal.behinds-requires-clause-rows
behinds-requires-clause-rows c = rw c.of-rows.ensures c.requires.rows.0

pub behinds-requires-clause-free : goal.behinds-requires-clause-free
behinds-requires-clause-free c = (rw c.of-rows.ensures (own_free c.requires.rows.0 c.requires.rows.1 (rw c.of-rows.ensures at c.content_roots.ensures)), c.requires.clear.1)

pub returns : goal.returns
returns c = let e = c.of-rows.ensures in
    own_points c.requires.rows.0 c.requires.rows.1 c.requires.blank (rw e at c.content_roots.ensures) (rw e at c.firsts.ensures) (rw e at c.behinds.ensures) c.starts.ensures
