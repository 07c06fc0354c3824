use Rattle.std.proofs.Common.{◌≡◌, ◌*◌, arith, refl, ap, ◌∙◌}
use Rattle.std.specs.Prelude.{replicate}
use Rattle.small_trees.specs.Trees.{padded, on_page, node_bytes, numbers, two_nodes}
use Rattle.small_trees.proofs.Added.{added}
use Rattle.small_trees.proofs.trees.six_entries.Goals as goal

pub put_node-requires-2 : goal.put_node-requires-2
unfolding numbers
put_node-requires-2 c = rw (c.deref.ensures.value, c.in_ok-numbers.ensures) (omega arith)

pub returns : goal.returns
returns c =
    let old = c.args.before.items in
    let six = replicate 6 (record { id = c.args.page; tag = 0; parent = 0; point = 0 }) in
    let root = added 3 1 old c.pad.new.bytes.items c.put_node.new.bytes.items six six c.in_ok-pad.ensures refl c.in_ok-put_node.ensures in
    let leaf = added 4 0 c.put_node.new.bytes.items c.pad-2.new.bytes.items c.put_node-2.new.bytes.items c.deref.result.now (numbers 0 6 0)
    c.in_ok-pad-2.ensures (c.deref.ensures.value ∙ c.in_ok-numbers.ensures) c.in_ok-put_node-2.ensures in
    let nodes : c.put_node-2.new.bytes.items ≡ two_nodes c.args.page old = leaf ∙ ap (λ b. on_page 4 (node_bytes 0 (numbers 0 6 0)) b) root in
    c.in_ok-pad-3.ensures ∙ ap (padded (5 * 4096)) nodes
