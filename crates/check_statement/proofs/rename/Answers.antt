-- `check_statement::rename` meets its contract: a labelled atom under another label, else Mismatch.
use Rattle.type_rows.specs.Both.{asks_label}
use Rattle.check_statement.proofs.Laws.{rename_finds, rename_else}
use Rattle.check_statement.proofs.rename.Goals as goal

pub write-requires : goal.write-requires
write-requires c = asks_label c.requires.1 c.args.label _ c.requires.3 (c.in-Label.ensures c.args.left.used c.requires.1.grows c.requires.2).by.inside

pub returns : goal.returns
returns c = rename_finds c.args.s.now c.args.work.now c.args.left.used c.args.focus c.args.at c.args.label (c.in-Label.ensures c.args.left.used c.requires.1.grows c.requires.2).by c.write.ensures

pub returns-in_default : goal.returns-in_default
returns-in_default c = rename_else c.args.s.now c.args.work.now c.args.left.used c.args.focus c.args.at c.args.label _ c.atom_of.result c.in_default.not-Label (c.atom_of.ensures c.args.left.used c.requires.1.grows c.requires.2)
