-- `within::is_own` meets its contract: the same rows are the same type, and it is the one written out.
use Rattle.std.proofs.Common.{◌≡◌, refl, sym, ◌∙◌, ◌*◌, length, arith}
use Rattle.std.specs.Cmp.Lexicographic.{same_text}
use Rattle.within.specs.Short.{drop_same, own_same}
use Rattle.within.proofs.is_own.Goals as goal

pub returns-then-other-own : goal.returns-then-other-own
returns-then-other-own c = λ z.
    let long : length c.args.own.now.bytes ≡ 3072 = omega arith in
    let rows = drop_same (6 * c.args.own.now.low) _ _ long (c.in-Ok.ensures.written refl).size (same_text _ _ (sym z ∙ c.eq.ensures)) in
    own_same c.args.own.now.blank (rw c.if-other-own.true at c.write.new.self.blank) rows ∙ (c.in-Ok.ensures.written refl).same
