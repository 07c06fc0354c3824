use Rattle.std.proofs.Common.{◌≡◌, true}
use Rattle.node_page.specs.Nodes.{all_of, near_at, place_in}
use Rattle.node_page.proofs.node.are_near.Given as goal

abbrev pub invariant-loop-index : goal.invariant-loop-index
invariant-loop-index l = all_of (λ i. near_at l.version l.leaf l.page (place_in l.version l.leaf l.dim i)) l.index ≡ true
