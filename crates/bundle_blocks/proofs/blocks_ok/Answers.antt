-- `bundle_blocks::blocks_ok` meets its contract: the two tests of each block are one.
use mathlib.Core.Bool.{◌&&◌}
use mathlib.Core.Path.{refl, sym, ◌∙◌}
use Prim.Native.Nat.{◌+◌}
use native.Mathlib.Omega.{arith}
use borrow.Author.Tests.{tests}
use Rattle.std.proofs.Common.{rules}
use Rattle.std.proofs.lemmas.Iterator.{YieldsList-from_range}
use Rattle.std.proofs.lemmas.Iterator.Search.{all_from_yields_List}
use Rattle.bundle_blocks.specs.Blocks.{number_ok, check_ok}
use Rattle.bundle_blocks.proofs.Reading.{every_both}
use Rattle.bundle_blocks.proofs.blocks_ok.Goals as goal

pub returns : goal.returns
returns c =
    let b = c.args.b.now in
    all_from_yields_List (λ k. number_ok b (k + 1) && check_ok b (k + 1)) _ _ _ c.all.ensures.ran (YieldsList-from_range 0 c.args.m c.args.m refl (omega arith)) (λ x b q k. search (rules, tests))
    ∙ sym (every_both (number_ok b) (check_ok b) c.args.m)
