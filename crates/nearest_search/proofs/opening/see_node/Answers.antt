use Rattle.std.proofs.Common.{◌≡◌, [], ◌∷◌, ◌++◌, true, false, arith}
use Rattle.log_model.specs.Walk.{search_at}
use Rattle.nearest_search.specs.Keeping.{blocks_of}
use Rattle.nearest_search.specs.declared.kept.Span.{Span}
use Rattle.nearest_search.specs.Seeing.{objects_seen, subtrees_seen}
use Rattle.nearest_search.proofs.Spans.{grows_both, more_sights, new_span}
use Rattle.nearest_search.proofs.opening.see_node.Goals as goal

pub returns-in_ok-note_leaf-in-Leaf-clause-seen : goal.returns-in_ok-note_leaf-in-Leaf-clause-seen
returns-in_ok-note_leaf-in-Leaf-clause-seen g c =
    let full = c.make_room.new.self.full.items in
    let last = c.make_room.new.self.last.items in
    let next = c.note_leaf.new.seen.items in
    let added = objects_seen (search_at (g.R.M.Metric.space (g.R.Ruler.metric c.args.ruler.now)) c.args.probe.q.now c.args.probe.rho) c.args.above 0 c.in-Leaf.entries in
    let is : next ≡ last ++ added = c.in_ok-note_leaf-in-Leaf.ensures.seen in
    let span : Span = record { block = c.in_ok-block.block; from = c.len-from.result; to = c.len.result; count = c.entry_count-count.result; is_leaf = true } in
    let stands = new_span full last added next is span c.in_ok-block.ensures.last (omega (arith, c.len-from.ensures)) (omega (arith, c.len.ensures)) in
    record {
      grows = grows_both (blocks_of c.args.machine.now.kept) (full ++ last ∷ []) (full ++ next ∷ []) c.in_ok-block.ensures.grows (more_sights full last added next is);
      within = stands.0;
      seen_is = rw c.in-Leaf.is (c.args.probe.rho, omega arith, rw c.in-Leaf.is at c.entry_count-count.ensures, stands.1);
    }

pub returns-in_ok-queue_inner-in-Inner-clause-seen : goal.returns-in_ok-queue_inner-in-Inner-clause-seen
returns-in_ok-queue_inner-in-Inner-clause-seen g c =
    let full = c.make_room.new.self.full.items in
    let last = c.make_room.new.self.last.items in
    let next = c.queue_inner.new.seen.items in
    let added = subtrees_seen (search_at (g.R.M.Metric.space (g.R.Ruler.metric c.args.ruler.now)) c.args.probe.q.now c.args.probe.rho) c.args.above 0 c.in-Inner.entries in
    let is : next ≡ last ++ added = c.in_ok-queue_inner-in-Inner.ensures.seen in
    let span : Span = record { block = c.in_ok-block.block; from = c.len-from.result; to = c.len-in-Inner.result; count = c.entry_count-count.result; is_leaf = false } in
    let stands = new_span full last added next is span c.in_ok-block.ensures.last (omega (arith, c.len-from.ensures)) (omega (arith, c.len-in-Inner.ensures)) in
    record {
      grows = grows_both (blocks_of c.args.machine.now.kept) (full ++ last ∷ []) (full ++ next ∷ []) c.in_ok-block.ensures.grows (more_sights full last added next is);
      within = stands.0;
      seen_is = rw c.in-Inner.is (c.args.probe.rho, omega arith, rw c.in-Inner.is at c.entry_count-count.ensures, stands.1);
    }
