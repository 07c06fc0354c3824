use Rattle.std.proofs.Common.{◌≡◌, ◌∙◌, ap, sym, arith, length}
use Rattle.std.proofs.lemmas.Grind.{common_steps}
use Rattle.std.specs.Option.{option_copied}
use Rattle.nearest_search.specs.Keeping.{blocks_of, sights_in}
use Rattle.nearest_search.proofs.kept.Kept.get.Goals as goal

pub block-requires : goal.block-requires
block-requires c = (c.requires c.args.turn.page c.args.turn.above c.in-Some.span.now (sym c.get.ensures.value ∙ ap option_copied c.in-Some.is)).block

pub offset_bounds-block-span : goal.offset_bounds-block-span
offset_bounds-block-span c =
    let fit = c.requires c.args.turn.page c.args.turn.above c.in-Some.span.now (sym c.get.ensures.value ∙ ap option_copied c.in-Some.is) in
    let long : length c.block.result.now ≡ length (sights_in (blocks_of c.args.self.now) c.in-Some.span.now.block) = ap length c.block.ensures in
    omega (arith, fit.ordered, fit.within, long)

pub slice_bounds-sights-count : goal.slice_bounds-sights-count
slice_bounds-sights-count c = (c.requires c.args.turn.page c.args.turn.above c.in-Some.span.now (sym c.get.ensures.value ∙ ap option_copied c.in-Some.is)).ordered

pub slice_bounds-sights-start : goal.slice_bounds-sights-start
slice_bounds-sights-start c =
    let fit = c.requires c.args.turn.page c.args.turn.above c.in-Some.span.now (sym c.get.ensures.value ∙ ap option_copied c.in-Some.is) in
    grind (arith, common_steps, fit.ordered)

pub slice_bounds-sights-end : goal.slice_bounds-sights-end
slice_bounds-sights-end c =
    let fit = c.requires c.args.turn.page c.args.turn.above c.in-Some.span.now (sym c.get.ensures.value ∙ ap option_copied c.in-Some.is) in
    let long : length c.block.result.now ≡ length (sights_in (blocks_of c.args.self.now) c.in-Some.span.now.block) = ap length c.block.ensures in
    grind (arith, common_steps, fit.ordered, fit.within, long)
