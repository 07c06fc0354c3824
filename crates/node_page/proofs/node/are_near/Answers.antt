use Rattle.std.proofs.Common.{◌≡◌, sym, ◌∙◌, ap, arith}
use Rattle.node_page.specs.Nodes.{are_near, near_at, place_in, all_of}
use Rattle.node_page.proofs.Listing.{all_none, all_more, not_all}
use Rattle.node_page.proofs.node.are_near.Goals as goal

pub loop-index-init : goal.loop-index-init
loop-index-init c = all_none (λ i. near_at c.args.version c.args.leaf c.args.page.now (place_in c.args.version c.args.leaf c.args.dim i))

pub returns-then-not-is_near : goal.returns-then-not-is_near
unfolding are_near
returns-then-not-is_near c =
    sym (not_all (λ i. near_at c.args.version c.args.leaf c.args.page.now (place_in c.args.version c.args.leaf c.args.dim i)) c.args.count c.loop-index.index (omega arith)
    (ap (near_at c.args.version c.args.leaf c.args.page.now) (sym c.place_in.ensures) ∙ sym c.is_near.ensures ∙ c.if-not-is_near.true))

pub loop-index-preserved : goal.loop-index-preserved
loop-index-preserved c =
    all_more (λ i. near_at c.args.version c.args.leaf c.args.page.now (place_in c.args.version c.args.leaf c.args.dim i)) c.loop-index.index c.loop-index.invariant
    (ap (near_at c.args.version c.args.leaf c.args.page.now) (sym c.place_in.ensures) ∙ sym c.is_near.ensures ∙ c.if-not-is_near.false)

pub returns : goal.returns
unfolding are_near
returns c =
    let done : c.args.count ≡ c.loop-index.index = omega arith in
    sym (ap (all_of (λ i. near_at c.args.version c.args.leaf c.args.page.now (place_in c.args.version c.args.leaf c.args.dim i))) done ∙ c.loop-index.invariant)
