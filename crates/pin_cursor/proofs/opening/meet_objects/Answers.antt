use Rattle.std.proofs.Common.{◌≡◌, ◌<◌, length, ◌∙◌, ◌∷◌, ◌++◌, ◌+◌, List, drop, arith, subst, sym, get_or, ap}
use Rattle.std.specs.Prelude.{map, IsPermutation}
use Rattle.metric_laws.specs.Space.{Space}
use Rattle.tree_shape.specs.declared.entry.LeafEntry.{LeafEntry}
use Rattle.tree_shape.specs.Entries.{leaf_of}
use Rattle.pin_cursor.specs.declared.waiting.Candidate.{Candidate}
use Rattle.pin_cursor.specs.Order.{candidate_order}
use Rattle.pin_cursor.specs.Cursor.{candidate_of}
use Rattle.nearest_search.proofs.Published.{moved_one}
use Rattle.pin_cursor.proofs.Ascending.{line_moves}
use Rattle.pin_cursor.proofs.Lists.{map-drop}
use Rattle.pin_cursor.proofs.opening.meet_objects.Goals as goal

pub loop-index-preserved : goal.loop-index-preserved
loop-index-preserved g c =
    let s : Space = g.R.M.Metric.space (g.R.Ruler.metric c.args.ruler.now) in
    let e : LeafEntry = leaf_of c.at-entry.result in
    let below : c.loop-index.index < length c.args.entries.now = omega (arith, c.len-index-end.ensures, ap length c.seen-view.ensures, c.loop-index-test.true) in
    let dist : c.dist-dist.result ≡ s.dist e.point c.args.q.now = cc (c.dist-dist.ensures.value, c.loop-index.invariant.metric) in
    let added : Candidate = record { dist = c.dist-dist.result; id = e.id; tag = e.tag } in
    let x : ◌≡◌ {A = Candidate} added (candidate_of s c.args.q.now e) = (λ i. record { dist = dist i; id = e.id; tag = e.tag }) in
    let next = map-drop (candidate_of s c.args.q.now) c.args.entries.now c.loop-index.index e below (c.at-entry.ensures ∙ ap (λ (es : List LeafEntry). get_or es c.loop-index.index (leaf_of c.at-entry.result)) c.seen-view.ensures) in
    record {
      metric = c.dist-dist.ensures.same ∙ c.loop-index.invariant.metric;
      met = moved_one (map (candidate_of s c.args.q.now) c.args.entries.now ++ c.args.candidates.now.waits) (map (candidate_of s c.args.q.now) (drop (c.loop-index.index + 1) c.args.entries.now))
          c.loop-index.candidates.waits c.add.new.self.waits (candidate_of s c.args.q.now e)
          (subst (λ (ps : List Candidate). IsPermutation (map (candidate_of s c.args.q.now) c.args.entries.now ++ c.args.candidates.now.waits) (ps ++ c.loop-index.candidates.waits)) next c.loop-index.invariant.met)
          (subst (λ (y : Candidate). IsPermutation (y ∷ c.loop-index.candidates.waits) c.add.new.self.waits) x (subst (IsPermutation (added ∷ c.loop-index.candidates.waits)) (sym c.in_ok-add.ensures.waits) (line_moves candidate_order (added ∷ c.loop-index.candidates.waits))));
      handed = c.add.ensures.handed ∙ c.loop-index.invariant.handed;
    }
