-- `shape::is_shaped` meets its contract: what `scope_ok` asks is settled by the other rules (proofs/Rules.antt).
use mathlib.Core.Path.{sym, ◌∙◌}
use Rattle.shape.proofs.Rules.{settled}
use Rattle.shape.proofs.is_shaped.Goals as goal

pub scope_ok-requires : goal.scope_ok-requires
scope_ok-requires c = record { before = settled c.args.s.now (sym c.tables_ok.ensures ∙ c.if-tables_ok.true) }
