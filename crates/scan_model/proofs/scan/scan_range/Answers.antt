use Rattle.std.proofs.Common.{◌∙◌, ap}
use Rattle.scan_model.specs.Hits.{hit_cmp}
use Rattle.scan_model.specs.Ordered.{ordered}
use Rattle.scan_model.proofs.OrderedLemmas.{sorted_is_ordered}
use Rattle.scan_model.proofs.ScanLemmas.{hit_cmp_total, hits_equal}
use Rattle.scan_model.proofs.scan.scan_range.Goals as goal

pub returns : goal.returns
returns g c =
    sorted_is_ordered hit_cmp_total hits_equal _ _ c.sort_unstable.ensures.permutation c.sort_unstable.ensures.sorted ∙ ap (ordered hit_cmp) c.in_ok-hits.ensures
