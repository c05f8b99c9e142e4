-- `shape_kinds::statements_ok` meets its contract: its closure is the meaning's test of a row.
use Rattle.std.specs.Prelude.{ℕ, ◌+◌}
use Rattle.std.proofs.Common.{ap, rules}
use Rattle.meaning.specs.Sheet.{sheet_of, script_of}
use Rattle.meaning.specs.Shape.{statements_ok}
use Rattle.shape_kinds.specs.Each.{each_row}
use Rattle.shape_kinds.proofs.statements_ok.Goals as goal

pub returns : goal.returns
unfolding statements_ok sheet_of script_of
returns c = each_row _ _ _ _ _ (ap (λ (n : ℕ). record { start = 1; end = n + 1 }) c.statements.ensures.is) c.all.ensures.ran (λ x b q k. search rules)
