use Rattle.std.proofs.Common.{inl, inr, ◌∙◌, slice_index, arith}
use Rattle.node_page.proofs.Numbers.{number_kept}
use Rattle.node_page.proofs.SlotLaws.{gate_reads, gate_closed}
use Rattle.node_page.proofs.slot.encode_slot.Goals as goal

pub returns-clause-spells : goal.returns-clause-spells
returns-clause-spells c =
    let zero = c.clear.ensures in
    let gate = c.put_u8.ensures in
    let generation = c.put_u64.ensures in
    let root = c.put_u32.ensures in
    let height = c.put_u32-2.ensures in
    let count = c.put_u32-3.ensures in
    let pages = c.put_u32-4.ensures in
    record {
      gate = gate_reads (slice_index c.put_u32-4.new.page 0) c.args.slot.now.gate (pages.others 0 (inl (omega arith)) ∙ count.others 0 (inl (omega arith)) ∙ height.others 0 (inl (omega arith)) ∙ root.others 0 (inl (omega arith)) ∙ generation.others 0 (inl (omega arith)) ∙ gate.number ∙ c.gate_byte.ensures);
      generation = number_kept 8 8 c.put_u32-4.new.page c.put_u64.new.page (λ i from to. pages.others i (inl (omega arith)) ∙ count.others i (inl (omega arith)) ∙ height.others i (inl (omega arith)) ∙ root.others i (inl (omega arith))) ∙ generation.number;
      root = number_kept 16 4 c.put_u32-4.new.page c.put_u32.new.page (λ i from to. pages.others i (inl (omega arith)) ∙ count.others i (inl (omega arith)) ∙ height.others i (inl (omega arith))) ∙ root.number;
      height = number_kept 20 4 c.put_u32-4.new.page c.put_u32-2.new.page (λ i from to. pages.others i (inl (omega arith)) ∙ count.others i (inl (omega arith))) ∙ height.number;
      count = number_kept 24 4 c.put_u32-4.new.page c.put_u32-3.new.page (λ i from to. pages.others i (inl (omega arith))) ∙ count.number;
      pages = pages.number;
      rest = record { between = λ i from to. pages.others i (inl (omega arith)) ∙ count.others i (inl (omega arith)) ∙ height.others i (inl (omega arith)) ∙ root.others i (inl (omega arith)) ∙ generation.others i (inl (omega arith)) ∙ gate.others i (inr (omega arith)) ∙ zero i; behind = λ i from to. pages.others i (inr (omega arith)) ∙ count.others i (inr (omega arith)) ∙ height.others i (inr (omega arith)) ∙ root.others i (inr (omega arith)) ∙ generation.others i (inr (omega arith)) ∙ gate.others i (inr (omega arith)) ∙ zero i };
    }

pub returns-clause-closed : goal.returns-clause-closed
returns-clause-closed c =
    let gate = c.put_u8.ensures in
    let generation = c.put_u64.ensures in
    let root = c.put_u32.ensures in
    let height = c.put_u32-2.ensures in
    let count = c.put_u32-3.ensures in
    let pages = c.put_u32-4.ensures in
    gate_closed (slice_index c.put_u32-4.new.page 0) c.args.slot.now.gate (pages.others 0 (inl (omega arith)) ∙ count.others 0 (inl (omega arith)) ∙ height.others 0 (inl (omega arith)) ∙ root.others 0 (inl (omega arith)) ∙ generation.others 0 (inl (omega arith)) ∙ gate.number ∙ c.gate_byte.ensures)
