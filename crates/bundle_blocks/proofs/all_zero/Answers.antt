-- `bundle_blocks::all_zero` meets its contract: it tests each byte of that part.
use mathlib.Core.Path.{sym, ap, ◌∙◌}
use borrow.Author.Tests.{tests}
use lib.Dec.{eqb}
use Prim.Native.Nat.{◌-◌}
use native.Mathlib.Omega.{arith}
use Rattle.meaning.specs.Bundle.{all_zero}
use lib.ListN.{length, take, drop}
use Rattle.std.proofs.Common.{rules}
use Rattle.std.proofs.lemmas.Iterator.{YieldsList-from_slice}
use Rattle.std.proofs.lemmas.Iterator.Search.{all_from_yields_List}
use Rattle.bundle_blocks.proofs.Reading.{zero_all}
use Rattle.bundle_blocks.proofs.Writing.{rest_is}
use Rattle.bundle_blocks.proofs.all_zero.Goals as goal

pub returns : goal.returns
returns c =
    let part = take c.args.to c.args.p.now in
    let rest = take (length part - c.min.result) (drop c.min.result part) in
    all_from_yields_List (λ x. eqb x 0) _ _ _ c.all.ensures.ran (YieldsList-from_slice rest cc) (λ x b q k. search (rules, tests))
    ∙ sym (zero_all rest) ∙ ap all_zero (rest_is part c.args.from c.min.result (omega arith))
