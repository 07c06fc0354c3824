use Rattle.seal_log.proofs.Needed.{are_needed}
use Rattle.seal_log.proofs.carrying.needed_pages.Goals as goal

pub returns-clause-needed : goal.returns-clause-needed
returns-clause-needed c =
    are_needed c.args.log.now c.loop-record.record-index c.as_slice-record-items.result.now c.loop-record.pages.items c.sort_unstable.new.self.items c.dedup.new.self.items
    c.loop-record-test.false c.as_slice-record-items.ensures c.loop-record.invariant c.sort_unstable.ensures.permutation c.sort_unstable.ensures.sorted c.dedup.ensures.filtered
