use Rattle.std.proofs.Common.{◌≡◌, ℕ, ◌-◌, true, false, sym, ◌∙◌, ap, arith}
use Rattle.node_page.specs.Bytes.{are_zero}
use Rattle.node_page.proofs.Rest.{part_not_zero, more_zero, whole_by_last}
use Rattle.node_page.proofs.bytes.are_zero.Goals as goal

pub returns-then-not-is_part_zero : goal.returns-then-not-is_part_zero
returns-then-not-is_part_zero c =
    let part : are_zero c.loop-at.at 128 c.args.page.now ≡ false =
    ap (λ (n : ℕ). are_zero c.loop-at.at n c.args.page.now) (omega arith) ∙ sym c.is_part_zero-in-loop-at.ensures ∙ c.if-not-is_part_zero.true in
    sym (part_not_zero c.loop-at.at 128 c.args.from (c.args.to - c.args.from) c.args.page.now c.loop-at.invariant.low (omega arith) part)

pub loop-at-preserved : goal.loop-at-preserved
loop-at-preserved c =
    let part : are_zero c.loop-at.at 128 c.args.page.now ≡ true =
    ap (λ (n : ℕ). are_zero c.loop-at.at n c.args.page.now) (omega arith) ∙ sym c.is_part_zero-in-loop-at.ensures ∙ c.if-not-is_part_zero.false in
    record {
      low = omega arith;
      zeros = more_zero c.args.from c.loop-at.at 128 c.args.page.now c.loop-at.invariant.zeros part;
    }

pub returns : goal.returns
returns c =
    c.is_part_zero-2.ensures
    ∙ ap (λ (n : ℕ). are_zero (c.args.to - 128) n c.args.page.now) (omega arith)
    ∙ whole_by_last c.loop-at.at (c.args.to - 128) 128 c.args.from (c.args.to - c.args.from) c.args.page.now (omega arith) (omega arith) (omega arith) c.loop-at.invariant.zeros
