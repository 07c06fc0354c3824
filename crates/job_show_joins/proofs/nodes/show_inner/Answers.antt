use Rattle.std.proofs.Common.{ℕ, ◌<◌, List, Option, ◌++◌, ap, arith, length, refl}
use Rattle.std.specs.Option.{is_none}
use Rattle.tree_shape.specs.declared.entry.InnerEntry.{InnerEntry}
use Rattle.tree_shape.specs.Entries.{inner_of}
use Rattle.log_model.specs.declared.pairs.JoinNeed.{JoinNeed}
use Rattle.log_model.specs.Items.{item_at}
use Rattle.log_model.specs.JoinWalk.{JoinSearch, allows_entry, subtree_entry}
use Rattle.log_model.proofs.Published.{subtree_at}
use Rattle.job_show.specs.Steps.{space_in}
use Rattle.job_show.proofs.Published.{allowed_next, lines_next}
use Rattle.job_show_joins.specs.Walks.{pair_entry_line}
use Rattle.job_show_joins.specs.Steps.{search_by}
use Rattle.job_show_joins.proofs.MarkedPairs.{lines_map, needs_map, needs_next, wrong_map}
use Rattle.job_show_joins.proofs.nodes.show_inner.Goals as goal

pub loop-i-init : goal.loop-i-init
loop-i-init c =
    let j : JoinSearch = search_by c.args.gauge.search in
    let n : JoinNeed = c.args.gauge.coming.now.need in
    record {
      lines = ap (λ (l : List ℕ). c.args.walk.now.lines.items ++ l) (lines_map (subtree_entry c.args.level) (pair_entry_line j c.args.gauge.coming.now) 0 c.args.entries.now c.args.marks.now);
      allowed = ap (λ (o : Option ℕ). is_none o) (wrong_map (subtree_entry c.args.level) (allows_entry j n) c.args.entries.now c.args.marks.now 0);
      needs = ap (λ (l : List JoinNeed). c.args.walk.now.named.needs.items ++ l) (needs_map (subtree_entry c.args.level) (space_in c.args.gauge.search.space) n c.args.entries.now c.args.marks.now);
      stack = refl;
      counts = refl;
      measured = refl;
    }

pub loop-i-preserved : goal.loop-i-preserved
loop-i-preserved c =
    let j : JoinSearch = search_by c.args.gauge.search in
    let n : JoinNeed = c.args.gauge.coming.now.need in
    let e : InnerEntry = inner_of c.at-entry.result in
    let low : c.loop-i.i < length c.args.entries.now = omega (arith, c.loop-i-test.true, c.len-i-end.ensures) in
    let told = c.in_ok-tested.ensures in
    record {
      lines = lines_next (λ p x m. pair_entry_line j c.args.gauge.coming.now p ((subtree_entry c.args.level) x) m) c.args.entries.now c.args.marks.now c.loop-i.i e _ _ _ low c.requires.long c.at-entry.ensures told.line c.loop-i.invariant.lines;
      allowed = allowed_next (λ x m. allows_entry j n ((subtree_entry c.args.level) x) m) c.args.entries.now c.args.marks.now c.loop-i.i e _ _ _ low c.requires.long c.at-entry.ensures told.allowed c.loop-i.invariant.allowed;
      needs = needs_next (subtree_entry c.args.level) (space_in c.args.gauge.search.space) n c.args.entries.now c.args.marks.now c.loop-i.i e (item_at c.args.gauge.node.now c.loop-i.i) c.in_ok-tested.tested.apart _ _ _ low c.requires.long c.at-entry.ensures
          (subtree_at c.args.gauge.node.now c.args.level c.args.entries.now c.loop-i.i e c.requires.inner low c.at-entry.ensures) told.apart c.in_ok-name_subtree.ensures c.loop-i.invariant.needs;
      stack = c.loop-i.invariant.stack;
      counts = c.loop-i.invariant.counts;
      measured = c.loop-i.invariant.measured;
    }
