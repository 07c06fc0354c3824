use Rattle.std.proofs.Common.{◌≡◌, ◌∷◌, [], ◌*◌, arith, refl, ap, ◌∙◌}
use Rattle.small_trees.specs.declared.entry.Entry.{Entry}
use Rattle.small_trees.specs.Trees.{padded, on_page, node_bytes, numbers, child, three_nodes}
use Rattle.small_trees.proofs.Added.{added}
use Rattle.small_trees.proofs.trees.two_leaves.Goals as goal

pub put_node-requires : goal.put_node-requires
unfolding numbers
put_node-requires c = rw (c.deref.ensures.value, c.in_ok-numbers.ensures) (omega arith)

pub put_node-requires-2 : goal.put_node-requires-2
unfolding numbers
put_node-requires-2 c = rw (c.deref-2.ensures.value, c.in_ok-numbers-2.ensures) (omega arith)

pub returns : goal.returns
returns c =
    let old = c.args.before.items in
    let left = added 3 0 old c.pad.new.bytes.items c.put_node.new.bytes.items c.deref.result.now (numbers 0 16 7)
    c.in_ok-pad.ensures (c.deref.ensures.value ∙ c.in_ok-numbers.ensures) c.in_ok-put_node.ensures in
    let right = added 4 0 c.put_node.new.bytes.items c.pad-2.new.bytes.items c.put_node-2.new.bytes.items c.deref-2.result.now (numbers 16 17 24)
    c.in_ok-pad-2.ensures (c.deref-2.ensures.value ∙ c.in_ok-numbers-2.ensures) c.in_ok-put_node-2.ensures in
    let root = added 5 1 c.put_node-2.new.bytes.items c.pad-3.new.bytes.items c.put_node-3.new.bytes.items (c.child.result ∷ c.child-2.result ∷ []) (child 3 7 ∷ child c.args.second 24 ∷ [])
    c.in_ok-pad-3.ensures (rw (c.child.ensures, c.child-2.ensures) refl) c.in_ok-put_node-3.ensures in
    let nodes : c.put_node-3.new.bytes.items ≡ three_nodes c.args.second old =
    root ∙ ap (λ b. on_page 5 (node_bytes 1 (child 3 7 ∷ child c.args.second 24 ∷ [])) b)
    (right ∙ ap (λ b. on_page 4 (node_bytes 0 (numbers 16 17 24)) b) left) in
    c.in_ok-pad-4.ensures ∙ ap (padded (6 * 4096)) nodes
