-- `type_ties::make` meets its contract: each table is made over those before.
use Rattle.type_places.specs.Sheets.{laid_rows, laid_tables}
use Rattle.type_ties.specs.Sound.{free_rows, wires_all}
use Rattle.type_ties.proofs.make.Goals as goal

pub firsts-requires-clause-rows : goal.firsts-requires-clause-rows
firsts-requires-clause-rows c = laid_rows c.type_table-rows.ensures.is c.requires.s_value

pub behinds-requires-clause-rows : goal.behinds-requires-clause-rows
behinds-requires-clause-rows c = laid_rows c.type_table-rows.ensures.is c.requires.s_value

pub behinds-requires-clause-free : goal.behinds-requires-clause-free
behinds-requires-clause-free c = (free_rows c.type_table-rows.ensures.is c.requires.s_value c.roots.ensures c.rows.ensures.is, c.requires.clear.1)

pub returns-clause-made : goal.returns-clause-made
returns-clause-made c = record {
  tables = laid_tables c.type_table-rows.ensures.is c.firsts.ensures;
  rooted = c.roots.ensures;
  wires = wires_all c.type_table-rows.ensures.is c.rows.ensures.is c.behinds.ensures;
  classes = c.classes.ensures;
}
