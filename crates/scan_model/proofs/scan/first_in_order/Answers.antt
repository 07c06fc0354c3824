use Rattle.scan_model.proofs.ScanLemmas.{selected_in_order}
use Rattle.scan_model.proofs.scan.first_in_order.Goals as goal

pub returns : goal.returns
returns c =
    let e = selected_in_order c.args.hits.now c.select_nth_unstable-first.result.0.now c.sort_unstable.new.self c.select_nth_unstable-first.result.1.now c.select_nth_unstable-first.result.2.now c.args.k
    c.select_nth_unstable-first.ensures.front_len c.select_nth_unstable-first.ensures.permutation c.select_nth_unstable-first.ensures.partitioned c.sort_unstable.ensures.permutation c.sort_unstable.ensures.sorted in
    rw e at c.copy_of.ensures
