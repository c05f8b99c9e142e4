-- `bundle_blocks::block_ok` meets its contract: the words that it reads are those of the block.
use mathlib.Core.Bool.{◌&&◌, Bool}
use mathlib.Core.Path.{sym, ap, ◌∙◌}
use Prim.Native.Nat.{◌+◌}
use borrow.Author.Tests.{eq-eqb, ne_eqb}
use lib.Dec.{eqb}
use Rattle.bundle_blocks.specs.Blocks.{check_ok}
use Rattle.bundle_blocks.proofs.Reading.{block_tests, number_is}
use Rattle.bundle_blocks.proofs.block_ok.Goals as goal

pub returns-then-number-k : goal.returns-then-number-k
returns-then-number-k c =
    let right = eq-eqb c.word_at-number.result (c.args.k + 1) c.if-number-k.true in
    sym (block_tests c.args.b.now c.args.k c.requires.1 c.word_at-number.ensures.is c.word_at-check.ensures.is c.check_word.ensures
    ∙ ap (λ (t : Bool). t && eqb c.word_at-check.result c.check_word.result) right)

pub returns-else-number-k : goal.returns-else-number-k
returns-else-number-k c =
    let wrong = ne_eqb c.word_at-number.result (c.args.k + 1) c.if-number-k.false in
    wrong ∙ sym (ap (λ (t : Bool). t && check_ok c.args.b.now (c.args.k + 1)) (ap (λ x. eqb x (c.args.k + 1)) (number_is c.args.b.now c.args.k ∙ sym c.word_at-number.ensures.is) ∙ wrong))
