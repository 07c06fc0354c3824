use Rattle.std.proofs.Common.{◌∙◌, ap, take, arith}
use Rattle.scan_model.specs.Hits.{hit_cmp}
use Rattle.scan_model.specs.Ordered.{ordered}
use Rattle.scan_model.proofs.ScanLemmas.{all_in_order}
use Rattle.scan_model.proofs.scan.scan_nearest.Goals as goal

pub returns : goal.returns
returns g c =
    all_in_order c.in_ok-hits.hits.items c.sort_unstable.new.self.items c.args.k (omega arith) c.sort_unstable.ensures.permutation c.sort_unstable.ensures.sorted
    ∙ ap (λ hits. take c.args.k (ordered hit_cmp hits)) c.in_ok-hits.ensures
