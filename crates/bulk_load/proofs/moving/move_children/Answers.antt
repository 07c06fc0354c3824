use Rattle.std.proofs.Common.{◌≡◌, ◌+◌, ◌≤◌, ◌<◌, ◌^◌, ◌∙◌, ap, sym, set, get_or, length, arith}
use Rattle.std.proofs.lemmas.List.Edits.{map_over_more}
use Rattle.page_store.specs.Numbers.{number_at}
use Rattle.bulk_load.specs.Apart.{entry_to}
use Rattle.bulk_load.proofs.Moved.{all_left}
use Rattle.bulk_load.proofs.moving.move_children.Goals as goal

pub loop-entry-preserved : goal.loop-entry-preserved
loop-entry-preserved c =
    let to = entry_to (λ i. number_at c.args.numbering.now.numbers.now c.args.numbering.now.first (c.args.first + i)) in
    let done : c.move_child.new.entry ≡ to (get_or c.loop-entry.entries c.loop-entry.entry-index c.entry-item.result) = c.move_child.ensures in
    let low : c.loop-entry.entry-index < length c.loop-entry.entries = let t = c.loop-entry-test.true in let e = c.loop-entry.auto.entries in omega arith in (
      ap (set c.loop-entry.entries c.loop-entry.entry-index) (done ∙ ap to (sym c.entry-item.is))
          ∙ map_over_more to c.args.entries.now c.loop-entry.entries c.loop-entry.entry-index c.entry-item.result c.loop-entry-test.true c.loop-entry.invariant.0 c.entry-item.is,
      all_left (λ e. c.args.first + e.child ≤ 2 ^ 26) c.loop-entry.entries c.loop-entry.entry-index c.move_child.new.entry c.entry-item.result low c.loop-entry.invariant.1,
    )
