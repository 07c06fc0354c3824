use Rattle.std.proofs.Common.{◌*◌, refl, ap, ◌∙◌}
use Rattle.small_trees.specs.Trees.{padded}
use Rattle.small_trees.proofs.Added.{added}
use Rattle.small_trees.proofs.trees.one_leaf.Goals as goal

pub returns : goal.returns
returns c =
    let node = added 3 0 c.args.before.items c.pad.new.bytes.items c.put_node.new.bytes.items c.args.objects.now c.args.objects.now c.in_ok-pad.ensures refl c.in_ok-put_node.ensures in
    c.in_ok-pad-2.ensures ∙ ap (padded (4 * 4096)) node
