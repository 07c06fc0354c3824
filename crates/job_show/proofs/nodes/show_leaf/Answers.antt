use Rattle.std.proofs.Common.{◌<◌, length, arith}
use Rattle.tree_shape.specs.declared.entry.LeafEntry.{LeafEntry}
use Rattle.tree_shape.specs.Entries.{leaf_of}
use Rattle.log_model.specs.Walk.{Search, allows_object}
use Rattle.job_show.specs.Walks.{object_line}
use Rattle.job_show.specs.Steps.{search_by}
use Rattle.job_show.proofs.MarkedLines.{lines_next, allowed_next}
use Rattle.job_show.proofs.nodes.show_leaf.Goals as goal

pub loop-i-preserved : goal.loop-i-preserved
loop-i-preserved c =
    let f : Search = search_by c.args.gauge in
    let e : LeafEntry = leaf_of c.at.result in
    let low : c.loop-i.i < length c.args.entries.now = omega (arith, c.loop-i-test.true, c.len-i-end.ensures) in
    record {
      lines = lines_next (object_line f c.args.coming) c.args.entries.now c.args.marks.now c.loop-i.i e _ _ _ low c.requires.long c.at.ensures c.in_ok-is_allowed.ensures.line c.loop-i.invariant.lines;
      allowed = allowed_next (allows_object f c.args.coming.need.above) c.args.entries.now c.args.marks.now c.loop-i.i e _ _ _ low c.requires.long c.at.ensures c.in_ok-is_allowed.ensures.allowed c.loop-i.invariant.allowed;
    }
