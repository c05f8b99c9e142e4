use native.Mathlib.Omega.{arith}
use Rattle.type_heads.specs.Apart.{seen_none, seen_skip, seen_more, seen_twice}
use Rattle.type_heads.proofs.apart.Goals as goal
use Rattle.type_heads.proofs.apart.Goals.{then-h-lt-HEADS+else-seen-h, else-h-lt-HEADS}

pub loop-i-init : goal.loop-i-init
loop-i-init c = seen_none c.args.s.now

pub returns-then-seen-h : goal.returns-then-seen-h
returns-then-seen-h c = seen_twice c.loop-i.invariant c.head-h.ensures (omega arith) c.if-h-lt-HEADS.true c.if-seen-h.true

pub loop-i-preserved : goal.loop-i-preserved
loop-i-preserved c = elim c.if-h-lt-HEADS.branch [
  | then-h-lt-HEADS+else-seen-h w ↦ rw w.seen-is (seen_more c.loop-i.invariant c.head-h.ensures w.if-h-lt-HEADS.true w.if-seen-h.false)
  | else-h-lt-HEADS w ↦ rw w.seen-is (seen_skip c.loop-i.invariant c.head-h.ensures w.if-h-lt-HEADS.false)
]
