use Rattle.std.proofs.Common.{◌≡◌, inl, inr, ℕ, ◌≤◌, length, refl, ◌∙◌, ap, subst, arith}
use Rattle.metric_laws.specs.Space.{bound}
use Rattle.tree_shape.specs.declared.entry.LeafEntry.{LeafEntry}
use Rattle.tree_shape.specs.Entries.{leaf_of}
use Rattle.node_page.proofs.Listing.{firsts_none, entry_within}
use Rattle.node_page.specs.Nodes.{leaf_at, place_of}
use Rattle.node_page.proofs.Putting.{entries_step, leaf_same, at_all}
use Rattle.node_page.proofs.writing.put_leaves.Goals as goal

pub put_leaf-requires : goal.put_leaf-requires
put_leaf-requires c =
    let entry = leaf_of c.at.result in
    let valid = at_all (λ (e : LeafEntry). (length e.point ≡ c.args.dim) × (e.parent ≤ bound)) c.args.entries.now c.loop-index.index entry c.requires.points (omega (arith, c.len-index-end.ensures)) in
    let long : length entry.point ≡ c.args.dim = ap (λ (e : LeafEntry). length e.point) c.at.ensures ∙ valid.0 in
    omega (arith, c.place_of.ensures, long, entry_within c.args.dim c.loop-index.index (length c.args.entries.now) (omega (arith, c.len-index-end.ensures)) c.requires.most)

pub loop-index-init : goal.loop-index-init
loop-index-init c = record { put = firsts_none (λ i. leaf_at c.args.dim c.args.page.now (place_of c.args.dim i)); others = λ k outside. refl }

pub loop-index-preserved : goal.loop-index-preserved
loop-index-preserved c =
    let entry = leaf_of c.at.result in
    let valid = at_all (λ (e : LeafEntry). (length e.point ≡ c.args.dim) × (e.parent ≤ bound)) c.args.entries.now c.loop-index.index entry c.requires.points (omega (arith, c.len-index-end.ensures)) in
    let long : length entry.point ≡ c.args.dim = ap (λ (e : LeafEntry). length e.point) c.at.ensures ∙ valid.0 in
    let here = subst (λ (d : ℕ). leaf_at d c.put_leaf.new.page (place_of c.args.dim c.loop-index.index) ≡ entry) long
    (subst (λ (at : ℕ). leaf_at (length entry.point) c.put_leaf.new.page at ≡ entry) c.place_of.ensures c.put_leaf.ensures.entry) in
    record {
      put = entries_step (leaf_at c.args.dim) c.args.dim (leaf_same c.args.dim) c.loop-index.page c.put_leaf.new.page c.args.entries.now c.loop-index.index entry c.loop-index.invariant.put here
          c.at.ensures (omega (arith, c.len-index-end.ensures))
          (λ k outside. elim outside [
            | inl lt ↦ c.put_leaf.ensures.others k (inl (omega (arith, c.place_of.ensures, lt)))
            | inr ge ↦ c.put_leaf.ensures.others k (inr (omega (arith, c.place_of.ensures, long, ge)))
          ]);
      others = λ k outside. elim outside [
        | inl lt ↦ c.put_leaf.ensures.others k (inl (omega (arith, c.place_of.ensures, lt))) ∙ c.loop-index.invariant.others k (inl lt)
        | inr ge ↦ c.put_leaf.ensures.others k (inr (omega (arith, c.place_of.ensures, long, ge))) ∙ c.loop-index.invariant.others k (inr (omega (arith, ge)))
      ];
    }
