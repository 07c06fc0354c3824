use Rattle.std.proofs.Common.{◌∙◌, ap, length, sym}
use Rattle.mtree_c.proofs.Collecting.{counts_long}
use Rattle.mtree_c.proofs.each.hand_each.Goals as goal

pub copy_from_slice-requires : goal.copy_from_slice-requires
copy_from_slice-requires c =
    sym (ap length c.deref-2.ensures.value ∙ counts_long c.args.file.now c.args.ask c.args.points.now (length c.args.counts.now) c.in-Ok.joined.hits.items c.in-Ok.joined.counts.items c.in-Ok.ensures.answered)
