-- `type_ties::of_place` meets its contract: by how many places of its head are in the set.
use mathlib.Core.Path.{sym, ap, ◌∙◌}
use native.Mathlib.Omega.{arith}
use lib.ListN.{get_or}
use borrow.Author.Tests.{leb-true, leb-false}
use Rattle.type_ties.specs.Points.{of_single, of_two}
use Rattle.type_ties.proofs.of_place.Goals as goal

pub returns-then-not-several_both : goal.returns-then-not-several_both
returns-then-not-several_both c = let e = c.from-c.ensures ∙ ap (λ h. get_or c.args.tables.now.class h 0) c.head-h.ensures in
    of_single c.args.s.now c.requires.s_value c.requires.classes c.args.t.now c.args.k c.args.i (omega (arith, c.if-h-ge-HEADS.false, c.head-h.ensures))
    (leb-false 2 _ (sym (rw e at c.several_both.ensures) ∙ c.if-not-several_both.true))

pub returns : goal.returns
returns c = let e = c.from-c.ensures ∙ ap (λ h. get_or c.args.tables.now.class h 0) c.head-h.ensures in
    of_two c.args.s.now c.requires.s_value c.requires.classes c.args.t.now c.args.k c.args.i (omega (arith, c.if-h-ge-HEADS.false, c.head-h.ensures)) c.requires.i_value
    (rw e at c.lowest_both-row.ensures) (rw e at c.lowest_both-rival.ensures) (leb-true 2 _ (sym (rw e at c.several_both.ensures) ∙ c.if-not-several_both.false))
