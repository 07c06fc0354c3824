use Rattle.std.proofs.Common.{◌≡◌, ◌∙◌, ◌+◌, ◌++◌, ◌∷◌, ◌<◌, [], sym, ap, append_assoc, arith, drop, length, List, map, refl, subst}
use Rattle.std.proofs.lemmas.List.{append-nil}
use Rattle.tree_shape.specs.declared.entry.LeafEntry.{LeafEntry}
use Rattle.tree_shape.specs.Entries.{leaf_of}
use Rattle.log_model.specs.Walk.{near_ones}
use Rattle.log_model.proofs.Published.{map-append}
use Rattle.hit_tags.specs.Wanted.{leaf_tag, TakesIn}
use Rattle.hit_tags.proofs.Taking.{takes_none, takes_both, entry_at, near_at, near_past}
use Rattle.hit_tags.proofs.walking.note_near.Goals.{then-eq, else-eq}
use Rattle.hit_tags.proofs.walking.note_near.Goals as goal

pub loop-index-init : goal.loop-index-init
loop-index-init c = record {
  objects = [];
  taken = takes_none c.args.wanted.now;
  left = refl;
}

pub loop-index-preserved : goal.loop-index-preserved
loop-index-preserved c =
    let low : c.loop-index.index < length c.args.entries.now = omega (arith, c.len.ensures, c.min-index-end.ensures, c.loop-index-test.true) in
    let mark : c.loop-index.index < length c.args.marks.now = omega (arith, c.min-index-end.ensures, c.loop-index-test.true) in
    elim c.if-eq.branch [
      | then-eq w ↦
          let e : LeafEntry = leaf_of w.at-object.result in
          let one = near_at c.args.entries.now c.args.marks.now c.loop-index.index e _ low mark w.at-object.ensures (sym w.if-eq.true ∙ c.eq.ensures) in
          record {
            objects = c.loop-index.invariant.objects ++ e ∷ [];
            taken = rw (w.wanted-is, map-append leaf_tag c.loop-index.invariant.objects (e ∷ []))
                (takes_both c.args.wanted.now c.loop-index.wanted w.note.new.self (map leaf_tag c.loop-index.invariant.objects) (leaf_tag e ∷ []) c.loop-index.invariant.taken w.note.ensures);
            left = append_assoc c.loop-index.invariant.objects (e ∷ []) (near_ones (drop (c.loop-index.index + 1) c.args.entries.now) (drop (c.loop-index.index + 1) c.args.marks.now))
                ∙ ap (λ (os : List LeafEntry). c.loop-index.invariant.objects ++ os) (sym one) ∙ c.loop-index.invariant.left;
          }
      | else-eq w ↦
          let e = entry_at c.args.entries.now c.loop-index.index low in
          let one = near_at c.args.entries.now c.args.marks.now c.loop-index.index e.0 _ low mark e.1 (sym w.if-eq.false ∙ c.eq.ensures) in
          record {
            objects = c.loop-index.invariant.objects;
            taken = rw w.wanted-is c.loop-index.invariant.taken;
            left = ap (λ (os : List LeafEntry). c.loop-index.invariant.objects ++ os) (sym one) ∙ c.loop-index.invariant.left;
          }
    ]

pub returns : goal.returns
returns c =
    let rest : near_ones (drop c.loop-index.index c.args.entries.now) (drop c.loop-index.index c.args.marks.now) ≡ [] =
    near_past c.args.entries.now c.args.marks.now c.loop-index.index (omega (arith, c.len.ensures, c.min-index-end.ensures, c.loop-index-test.false)) in
    subst (λ (os : List LeafEntry). TakesIn c.args.wanted.now (map leaf_tag os) c.loop-index.wanted)
    (sym (append-nil c.loop-index.invariant.objects) ∙ ap (λ (os : List LeafEntry). c.loop-index.invariant.objects ++ os) (sym rest) ∙ c.loop-index.invariant.left) c.loop-index.invariant.taken
