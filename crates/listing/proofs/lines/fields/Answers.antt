use Rattle.std.proofs.Common.{arith, ℕ, ◌≡◌, ◌∷◌, ◌++◌, [], List, sym, ap, ◌∙◌, length, take}
use Rattle.std.proofs.Math.Seq.{take-length}
use Rattle.listing.specs.Adds.{adds_as, adds_none, adds_then, adds_field, spaced, spaced_none, fields_spaced}
use Rattle.listing.proofs.lines.fields.Goals as goal

pub loop-n-init : goal.loop-n-init
loop-n-init c = record { adds = adds_as (sym spaced_none) (adds_none c.args.out.now c.args.at); few = omega arith }

pub loop-n-preserved : goal.loop-n-preserved
loop-n-preserved c = record {
  adds = adds_field c.args.numbers.now (omega (arith, c.loop-n-test.true)) c.loop-n.invariant.adds c.field-end.ensures.adds;
  few = omega (arith, c.loop-n.invariant.few, c.field-end.ensures.few);
}

pub returns-clause-adds : goal.returns-clause-adds
returns-clause-adds c =
    let ns = c.args.numbers.now in
    let all : c.loop-n.n-index ≡ length ns = omega (arith, c.loop-n-test.false, c.loop-n.auto.n-index-end) in
    let e : spaced (take c.loop-n.n-index ns) ≡ spaced ns = ap (λ (k : ℕ). spaced (take k ns)) all ∙ ap spaced (take-length ns) in
    adds_as (ap (λ (l : List ℕ). l ++ 10 ∷ []) e ∙ sym (fields_spaced ns)) (adds_then c.loop-n.invariant.adds c.put.ensures.adds)
