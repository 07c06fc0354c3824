use Rattle.std.proofs.Common.{◌<◌, length, arith}
use Rattle.tree_shape.specs.declared.entry.InnerEntry.{InnerEntry}
use Rattle.tree_shape.specs.Entries.{inner_of}
use Rattle.log_model.specs.Walk.{Search, allows_subtree}
use Rattle.job_show.specs.Walks.{subtree_line}
use Rattle.job_show.specs.Steps.{search_by}
use Rattle.job_show.proofs.MarkedLines.{lines_next, allowed_next, needs_next}
use Rattle.job_show.proofs.nodes.show_inner.Goals as goal

pub loop-i-preserved : goal.loop-i-preserved
loop-i-preserved c =
    let f : Search = search_by c.args.gauge in
    let e : InnerEntry = inner_of c.at-entry.result in
    let low : c.loop-i.i < length c.args.entries.now = omega (arith, c.loop-i-test.true, c.len-i-end.ensures) in
    let told = c.in_ok-tested.ensures in
    record {
      lines = lines_next (subtree_line f c.args.coming) c.args.entries.now c.args.marks.now c.loop-i.i e _ _ _ low c.requires.long c.at-entry.ensures told.line c.loop-i.invariant.lines;
      allowed = allowed_next (allows_subtree f c.args.coming.need.above) c.args.entries.now c.args.marks.now c.loop-i.i e _ _ _ low c.requires.long c.at-entry.ensures told.allowed c.loop-i.invariant.allowed;
      needs = needs_next f c.args.coming c.args.entries.now c.args.marks.now c.loop-i.i e c.in_ok-tested.tested.dist _ _ _ low c.requires.long c.at-entry.ensures told.dist c.in_ok-push_near.ensures c.loop-i.invariant.needs;
      stack = c.loop-i.invariant.stack;
      counts = c.loop-i.invariant.counts;
    }
