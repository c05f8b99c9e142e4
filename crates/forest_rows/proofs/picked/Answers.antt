-- `forest_rows::picked` meets its contract: a unit for each tree that is copied.
use native.Mathlib.Omega.{arith}
use Rattle.meaning.specs.Forest.{count, forest_at}
use Rattle.meaning.specs.Run.{kept}
use Rattle.meaning.specs.Walk.{ret}
use Rattle.meaning.specs.Theorems.ReadBack.{lent_row}
use Rattle.walk.specs.Meets.{stop_pay, met_exit}
use Rattle.forest_rows.proofs.Leaves.{copy_asks, wrote_done, wrote_alone}
use Rattle.forest_rows.proofs.picked.Goals as goal

pub copy-root-requires : goal.copy-root-requires
copy-root-requires c = copy_asks _ c.requires.0 c.requires.1 (omega arith) c.count-n.ensures c.in_ok-purse.ensures.by

pub returns-in_err-purse : goal.returns-in_err-purse
returns-in_err-purse c = λ byte. met_exit _ c.from_residual.ensures.1 (stop_pay (count (kept c.args.label (forest_at byte (lent_row c.args.rows.now) c.args.root))) (ret _) c.args.left.purse.left (omega (arith, c.in_err-purse.ensures.by, c.count-n.ensures byte)))

pub returns : goal.returns
returns c = λ byte. record { by = wrote_done byte _ (wrote_alone (c.copy-root.ensures byte)) (c.count-n.ensures byte) c.in_ok-purse.ensures.by }
