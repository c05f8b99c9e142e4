use native.Mathlib.Omega.{arith}
use mathlib.Core.Path.{sym, ap, ◌∙◌}
use Prim.Native.Nat.{ℕ, ◌+◌}
use Rattle.meaning.specs.Forest.{bytes_from, equal_bytes}
use Rattle.forest_rows.proofs.texts.Bytes.{pool, pool_byte, other_size, rest_more, rest_other, rest_none}
use Rattle.forest_rows.proofs.texts.same_bytes.Goals as goal

pub returns-then-n-m : goal.returns-then-n-m
returns-then-n-m c = sym (other_size (pool c.args.s.now) c.args.o c.args.p c.args.n c.args.m c.if-n-m.true)

pub returns-then-byte_at : goal.returns-then-byte_at
returns-then-byte_at c = sym (ap (λ (k : ℕ). equal_bytes (bytes_from (pool c.args.s.now) c.args.o c.args.n) (bytes_from (pool c.args.s.now) c.args.p k)) (sym c.if-n-m.false) ∙ c.loop-i.invariant ∙ rest_other (pool c.args.s.now) c.args.o c.args.p c.args.n c.loop-i.i (omega (arith, c.loop-i-test.true)) (λ e. c.if-byte_at.true (c.byte_at.ensures ∙ pool_byte c.args.s.now (c.args.o + c.loop-i.i) _ c.pool_from-at.ensures.is (omega arith) ∙ e ∙ sym (c.byte_at-in-loop-i.ensures ∙ pool_byte c.args.s.now (c.args.p + c.loop-i.i) _ c.pool_from-at.ensures.is (omega arith)))))

pub loop-i-preserved : goal.loop-i-preserved
loop-i-preserved c = c.loop-i.invariant ∙ rest_more (pool c.args.s.now) c.args.o c.args.p c.args.n c.loop-i.i (omega (arith, c.loop-i-test.true)) (sym (c.byte_at.ensures ∙ pool_byte c.args.s.now (c.args.o + c.loop-i.i) _ c.pool_from-at.ensures.is (omega arith)) ∙ c.if-byte_at.false ∙ c.byte_at-in-loop-i.ensures ∙ pool_byte c.args.s.now (c.args.p + c.loop-i.i) _ c.pool_from-at.ensures.is (omega arith))

pub returns : goal.returns
returns c = sym (ap (λ (k : ℕ). equal_bytes (bytes_from (pool c.args.s.now) c.args.o c.args.n) (bytes_from (pool c.args.s.now) c.args.p k)) (sym c.if-n-m.false) ∙ c.loop-i.invariant ∙ rest_none (pool c.args.s.now) c.args.o c.args.p c.args.n c.loop-i.i (omega (arith, c.loop-i-test.false)))
