use Rattle.std.proofs.Common.{◌≡◌, ◌<◌, length, ◌∙◌, ◌∷◌, ◌++◌, ◌+◌, ◌-◌, List, drop, arith, subst, sym, get_or, ap}
use Rattle.std.specs.Prelude.{map, IsPermutation}
use Rattle.metric_laws.specs.Space.{Space}
use Rattle.tree_shape.specs.declared.entry.InnerEntry.{InnerEntry}
use Rattle.tree_shape.specs.Entries.{inner_of}
use Rattle.pin_cursor.specs.declared.waiting.Subtree.{Subtree}
use Rattle.pin_cursor.specs.Order.{subtree_order}
use Rattle.pin_cursor.specs.Cursor.{subtree_of}
use Rattle.nearest_search.proofs.Published.{moved_one}
use Rattle.pin_cursor.proofs.Ascending.{line_moves}
use Rattle.pin_cursor.proofs.Lists.{map-drop}
use Rattle.pin_cursor.proofs.opening.queue_subtrees.Goals as goal

pub loop-index-preserved : goal.loop-index-preserved
loop-index-preserved g c =
    let s : Space = g.R.M.Metric.space (g.R.Ruler.metric c.args.ruler.now) in
    let e : InnerEntry = inner_of c.at-entry.result in
    let below : c.loop-index.index < length c.args.entries.now = omega (arith, c.len-index-end.ensures, ap length c.seen-view.ensures, c.loop-index-test.true) in
    let dist : c.dist-dist.result ≡ s.dist e.point c.args.q.now = cc (c.dist-dist.ensures.value, c.loop-index.invariant.metric) in
    let low : c.saturating_sub.result ≡ s.dist e.point c.args.q.now - e.radius = cc (dist, c.saturating_sub.ensures) in
    let added : Subtree = record { low = c.saturating_sub.result; page = e.child } in
    let x : ◌≡◌ {A = Subtree} added (subtree_of s c.args.q.now e) = (λ i. record { low = low i; page = e.child }) in
    let next = map-drop (subtree_of s c.args.q.now) c.args.entries.now c.loop-index.index e below (c.at-entry.ensures ∙ ap (λ (es : List InnerEntry). get_or es c.loop-index.index (inner_of c.at-entry.result)) c.seen-view.ensures) in
    record {
      metric = c.dist-dist.ensures.same ∙ c.loop-index.invariant.metric;
      queued = moved_one (map (subtree_of s c.args.q.now) c.args.entries.now ++ c.args.subtrees.now.waits) (map (subtree_of s c.args.q.now) (drop (c.loop-index.index + 1) c.args.entries.now))
          c.loop-index.subtrees.waits c.add.new.self.waits (subtree_of s c.args.q.now e)
          (subst (λ (ps : List Subtree). IsPermutation (map (subtree_of s c.args.q.now) c.args.entries.now ++ c.args.subtrees.now.waits) (ps ++ c.loop-index.subtrees.waits)) next c.loop-index.invariant.queued)
          (subst (λ (y : Subtree). IsPermutation (y ∷ c.loop-index.subtrees.waits) c.add.new.self.waits) x (subst (IsPermutation (added ∷ c.loop-index.subtrees.waits)) (sym c.in_ok-add.ensures.waits) (line_moves subtree_order (added ∷ c.loop-index.subtrees.waits))));
      handed = c.add.ensures.handed ∙ c.loop-index.invariant.handed;
    }
