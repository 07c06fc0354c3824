use Rattle.std.proofs.Common.{inl, inr, ◌∙◌, arith}
use Rattle.node_page.proofs.Numbers.{number_kept}
use Rattle.node_page.proofs.head.encode_head.Goals as goal

pub returns : goal.returns
returns c =
    let zero = c.clear.ensures in
    let letters = c.put_u64.ensures in
    let version = c.put_u16.ensures in
    let kind = c.put_u8.ensures in
    let dim = c.put_u8-2.ensures in
    let promote = c.put_u8-3.ensures in
    let split = c.put_u8-4.ensures in
    let limit = c.put_u32.ensures in
    record {
      magic = number_kept 0 8 c.put_u32.new.page c.put_u64.new.page (λ i from to. limit.others i (inl (omega arith)) ∙ split.others i (inl (omega arith)) ∙ promote.others i (inl (omega arith)) ∙ dim.others i (inl (omega arith)) ∙ kind.others i (inl (omega arith)) ∙ version.others i (inl (omega arith))) ∙ letters.number;
      version = number_kept 8 2 c.put_u32.new.page c.put_u16.new.page (λ i from to. limit.others i (inl (omega arith)) ∙ split.others i (inl (omega arith)) ∙ promote.others i (inl (omega arith)) ∙ dim.others i (inl (omega arith)) ∙ kind.others i (inl (omega arith))) ∙ version.number;
      kind = limit.others 10 (inl (omega arith)) ∙ split.others 10 (inl (omega arith)) ∙ promote.others 10 (inl (omega arith)) ∙ dim.others 10 (inl (omega arith)) ∙ kind.number;
      dim = limit.others 11 (inl (omega arith)) ∙ split.others 11 (inl (omega arith)) ∙ promote.others 11 (inl (omega arith)) ∙ dim.number;
      promote = limit.others 12 (inl (omega arith)) ∙ split.others 12 (inl (omega arith)) ∙ promote.number;
      split = limit.others 13 (inl (omega arith)) ∙ split.number;
      between = λ i from to. limit.others i (inl (omega arith)) ∙ split.others i (inr (omega arith)) ∙ promote.others i (inr (omega arith)) ∙ dim.others i (inr (omega arith)) ∙ kind.others i (inr (omega arith)) ∙ version.others i (inr (omega arith)) ∙ letters.others i (inr (omega arith)) ∙ zero i;
      limit = limit.number;
      behind = λ i from to. limit.others i (inr (omega arith)) ∙ split.others i (inr (omega arith)) ∙ promote.others i (inr (omega arith)) ∙ dim.others i (inr (omega arith)) ∙ kind.others i (inr (omega arith)) ∙ version.others i (inr (omega arith)) ∙ letters.others i (inr (omega arith)) ∙ zero i;
      valid = c.requires.valid;
    }
