use mathlib.Core.Path.{ap}
use native.Mathlib.Omega.{arith}
use Rattle.sheet.specs.Laid.{cells_of}
use Rattle.type_rows.specs.Grown.{type_in}
use Rattle.type_rows.specs.Writing.{writing_none, writing_more, too_wide, all_written, all_blank, narrow}
use Rattle.type_rows.proofs.written.write_out.Goals as goal

pub loop-i-init : goal.loop-i-init
loop-i-init c = rw c.requires.own_value (writing_none (type_in c.args.s.now c.args.work.now c.args.used) c.args.found)

pub row-c-requires : goal.row-c-requires
row-c-requires c = omega (arith, (c.loop-i.invariant.known c.loop-i.i c.if-i-free.false c.loop-i.invariant.order.1), c.requires.grows.2)

pub returns-in_err-rest-clause-over : goal.returns-in_err-rest-clause-over
returns-in_err-rest-clause-over c = λ z. too_wide (type_in c.args.s.now c.args.work.now c.args.used) c.requires.grows.0.low c.loop-i.invariant c.if-i-free.false (cells_of c.row-c.result) (c.row-c.ensures c.args.used (omega (arith, (c.loop-i.invariant.known c.loop-i.i c.if-i-free.false c.loop-i.invariant.order.1), c.requires.grows.1))) (omega (arith, c.in_err-rest.ensures, c.parts.ensures))

pub hand_out-requires : goal.hand_out-requires
hand_out-requires c = record { le_i = (c.loop-i-test.true, c.loop-i.invariant.order.1, c.loop-i.invariant.begun, (rw c.parts.ensures at c.in_ok-rest.ensures.0), λ x. rw (ap (λ y. y.p) (c.row-c.ensures c.args.used (omega (arith, (c.loop-i.invariant.known c.loop-i.i c.if-i-free.false c.loop-i.invariant.order.1), c.requires.grows.1)))) (c.requires.grows.0.small _)) }

pub loop-i-preserved : goal.loop-i-preserved
loop-i-preserved c = rw (c.in_ok-rest.ensures.1, c.parts.ensures) (writing_more (type_in c.args.s.now c.args.work.now c.args.used) c.requires.grows.0.low c.loop-i.invariant c.if-i-free.false (c.row-c.ensures c.args.used (omega (arith, (c.loop-i.invariant.known c.loop-i.i c.if-i-free.false c.loop-i.invariant.order.1), c.requires.grows.1))) c.hand_out.ensures (rw c.parts.ensures at c.in_ok-rest.ensures.0))

pub returns-after-loop-i-clause-written : goal.returns-after-loop-i-clause-written
returns-after-loop-i-clause-written c = λ z. all_written (type_in c.args.s.now c.args.work.now c.args.used) c.requires.grows.0.low c.loop-i.invariant (omega arith)

pub returns-after-loop-i-clause-narrow : goal.returns-after-loop-i-clause-narrow
returns-after-loop-i-clause-narrow c = λ z. narrow (type_in c.args.s.now c.args.work.now c.args.used) c.requires.grows.0.low c.loop-i.invariant (omega arith)

pub returns-after-loop-i-clause-blank : goal.returns-after-loop-i-clause-blank
returns-after-loop-i-clause-blank c = all_blank (type_in c.args.s.now c.args.work.now c.args.used) c.requires.grows.0.low c.loop-i.invariant (omega arith)

pub returns-then-i-free-clause-written : goal.returns-then-i-free-clause-written
returns-then-i-free-clause-written c = λ z. all_written (type_in c.args.s.now c.args.work.now c.args.used) c.requires.grows.0.low c.loop-i.invariant c.if-i-free.true

pub returns-then-i-free-clause-narrow : goal.returns-then-i-free-clause-narrow
returns-then-i-free-clause-narrow c = λ z. narrow (type_in c.args.s.now c.args.work.now c.args.used) c.requires.grows.0.low c.loop-i.invariant c.if-i-free.true

pub returns-then-i-free-clause-blank : goal.returns-then-i-free-clause-blank
returns-then-i-free-clause-blank c = all_blank (type_in c.args.s.now c.args.work.now c.args.used) c.requires.grows.0.low c.loop-i.invariant c.if-i-free.true
