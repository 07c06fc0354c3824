use Rattle.std.proofs.Common.{◌≡◌, ◌∷◌, take}
use Rattle.tree_audit.specs.Parts.{pages_met, ids_met}
use Rattle.tree_audit.proofs.parts.join_parts.Given as goal

abbrev pub invariant-loop-part : goal.invariant-loop-part
invariant-loop-part l = record {
  pages_limit : l.visits.pages.limit ≡ l.live.pages;
  ids_limit : l.visits.ids.limit ≡ l.live.count;
  pages : l.visits.pages.met ≡ l.live.root ∷ pages_met (take l.part-index l.parts);
  ids : l.visits.ids.met ≡ ids_met (take l.part-index l.parts);
}
