-- `bundle::open` meets its contract: each refusal is a test that fails, and past all of them the payload stands in front.
use mathlib.Core.Path.{sym, ◌∙◌}
use native.Mathlib.Omega.{arith}
use Rattle.std.proofs.Common.{ℕ, List, ◌≡◌, ◌≤◌, ◌*◌, ◌++◌, length, take, drop}
use Rattle.meaning.specs.Sheet.{need}
use Rattle.meaning.specs.Bundle.{block_count, payload}
use Rattle.bundle.proofs.Reading.{uneven, no_block, too_many, wrong_block, payload_is, Unpacked, miscounted, padded, is_framed}
use Rattle.bundle.proofs.open.Goals as goal

-- once the blocks are unpacked, the payload stands in front of what was lent
unpacked : (b d after : List ℕ) {n : ℕ} → after ≡ payload (block_count b) b ++ drop (508 * block_count b) d → length after ≡ length d → 508 * block_count b ≤ length d
    → n ≡ need (take (508 * block_count b) after) → Unpacked b after n
unpacked b d after is e l asks = record { payload = payload_is _ _ d _ is e l; asks = asks; long = omega (arith, e) }

pub returns-then-n-ne0 : goal.returns-then-n-ne0
returns-then-n-ne0 c = record { by = uneven c.args.b.now c.if-n-ne0.true }

pub returns-then-m-eq0 : goal.returns-then-m-eq0
returns-then-m-eq0 c = record { by = no_block c.args.b.now c.if-m-eq0.true }

pub returns-then-m-gt-MOST : goal.returns-then-m-gt-MOST
returns-then-m-gt-MOST c = record { by = too_many c.args.b.now c.if-m-gt-MOST.true }

pub returns-then-not-blocks_ok : goal.returns-then-not-blocks_ok
returns-then-not-blocks_ok c = record { by = wrong_block c.args.b.now (sym c.blocks_ok.ensures ∙ c.if-not-blocks_ok.true) }

pub returns-then-m-blocks_for : goal.returns-then-m-blocks_for
returns-then-m-blocks_for c = record { by = miscounted (unpacked c.args.b.now c.args.out.now c.unpack.new.out c.unpack.ensures c.unpack.auto.out (omega arith) c.need_in-need.ensures.value) (λ e. c.if-m-blocks_for.true (e ∙ sym c.blocks_for.ensures)) }

pub returns-then-not-all_zero : goal.returns-then-not-all_zero
returns-then-not-all_zero c = record { by = padded (unpacked c.args.b.now c.args.out.now c.unpack.new.out c.unpack.ensures c.unpack.auto.out (omega arith) c.need_in-need.ensures.value) c.all_zero.ensures (c.if-not-all_zero.true) }

pub returns : goal.returns
returns c =
    record {
      by = is_framed (unpacked c.args.b.now c.args.out.now c.unpack.new.out c.unpack.ensures c.unpack.auto.out (omega arith) c.need_in-need.ensures.value) c.if-n-ne0.false c.if-m-eq0.false c.if-m-gt-MOST.false
          (sym c.blocks_ok.ensures ∙ c.if-not-blocks_ok.false) (c.if-m-blocks_for.false ∙ c.blocks_for.ensures) c.all_zero.ensures (c.if-not-all_zero.false);
    }
