use Rattle.std.proofs.Common.{◌≡◌, ◌+◌, ◌++◌}
use Rattle.std.specs.Prelude.{map}
use Rattle.std.specs.List.{AllByRecursion}
use Rattle.page_store.specs.Numbers.{number_at}
use Rattle.bulk_load.specs.Apart.{node_to, AreChildrenBelow}
use Rattle.bulk_load.proofs.moving.add_nodes.Given as goal

-- the nodes so far, with those that are left, are all
abbrev pub invariant-loop-node : goal.invariant-loop-node
invariant-loop-node l =
    let to = node_to (λ i. number_at l.numbering.numbers.now l.numbering.first (l.first + i)) in
    (l.nodes.items ++ map to l.node-iterator.rest.items ≡ l.fn.nodes.items ++ map to l.fn.below.items) × AllByRecursion (AreChildrenBelow l.many) l.node-iterator.rest.items
