use Rattle.std.proofs.Common.{inr, sym, ◌∙◌, subst, arith}
use Rattle.node_page.specs.Nodes.{SpellsNode, IsValidNode}
use Rattle.node_page.proofs.Written.{leaf_written, inner_written}
use Rattle.node_page.proofs.writing.encode_node.Goals as goal

pub returns-in-Leaf : goal.returns-in-Leaf
returns-in-Leaf c =
    let valid = subst (IsValidNode c.args.dim) c.in-Leaf.is c.requires.valid in
    subst (SpellsNode c.args.dim c.put_leaves.new.page) (sym c.in-Leaf.is)
    (leaf_written c.args.dim c.clear.new.page c.put_u16.new.page c.put_leaves.new.page c.in-Leaf.entries valid.0 c.clear.ensures (c.put_u16.ensures.number ∙ c.len.ensures) c.put_u16.ensures.others
    c.put_leaves.ensures.others c.put_leaves.ensures.entries valid.1)

pub returns-in-Inner : goal.returns-in-Inner
returns-in-Inner c =
    let valid = subst (IsValidNode c.args.dim) c.in-Inner.is c.requires.valid in
    subst (SpellsNode c.args.dim c.put_inners.new.page) (sym c.in-Inner.is)
    (inner_written c.args.dim c.in-Inner.level c.put_u8.new.page c.put_u16-in-Inner.new.page c.put_inners.new.page c.in-Inner.entries valid.0 valid.1 valid.2 valid.3 c.put_u8.ensures.number
    (λ k from. c.put_u8.ensures.others k (inr (omega arith)) ∙ c.clear.ensures k) (c.put_u16-in-Inner.ensures.number ∙ c.len-in-Inner.ensures) c.put_u16-in-Inner.ensures.others
    c.put_inners.ensures.others c.put_inners.ensures.entries valid.4)
