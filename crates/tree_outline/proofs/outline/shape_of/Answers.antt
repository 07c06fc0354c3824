use Rattle.std.proofs.Common.{◌≡◌, ◌∙◌, ◌∷◌, ℕ, suc, List, arith, length, sym, ap, subst, refl, reverse}
use Rattle.std.proofs.lemmas.Grind.{common_steps}
use Rattle.std.proofs.lemmas.Result.{err_from_is_err_and}
use Rattle.metric_laws.specs.Counts.{next_count}
use Rattle.log_model.proofs.Published.{count_up_more}
use Rattle.tree_outline.specs.declared.outline.Named.{Named}
use Rattle.tree_outline.specs.declared.outline.ShapeLine.{ShapeLine}
use Rattle.tree_outline.specs.Shapes.{IsDrawing, IsDrawn}
use Rattle.tree_outline.proofs.Shaping.{begins, goes_on, has_room, passes, refused, repeats}
use Rattle.tree_outline.proofs.outline.shape_of.Goals as goal

pub loop-named-init : goal.loop-named-init
loop-named-init g c = record {
  keeps = g.met.P.Pages.keeps_none c.args.pages.now;
  no_fault = refl;
  count = rw c.new-lines.ensures.items refl;
  low = omega arith;
  drawing = rw (c.new-lines.ensures.items, c.in-Ok.ensures.items) (begins (g.P.Pages.shelf c.args.pages.now) c.args.live.now);
}

pub returns-then-nodes-live-clause-sound : goal.returns-then-nodes-live-clause-sound
returns-then-nodes-live-clause-sound g c =
    let stack : reverse c.loop-named.coming.items ≡ c.in-Some.named ∷ reverse c.pop.new.self.items = grind (arith, common_steps, c.in-Some.ensures.items) in
    has_room (g.P.Pages.shelf c.args.pages.now) c.args.live.now (g.P.Pages.shelf c.loop-named.pages) c.loop-named.lines.items c.in-Some.named (reverse c.pop.new.self.items)
    (subst (λ (coming : List Named). IsDrawing (g.P.Pages.shelf c.args.pages.now) (g.P.Pages.shelf c.loop-named.pages) c.args.live.now c.loop-named.lines.items coming) stack c.loop-named.invariant.drawing)
    (sym c.loop-named.invariant.count ∙ c.if-nodes-live.true)

pub returns-in_err-draw-clause-sound : goal.returns-in_err-draw-clause-sound
returns-in_err-draw-clause-sound g c =
    let stack : reverse c.loop-named.coming.items ≡ c.in-Some.named ∷ reverse c.pop.new.self.items = grind (arith, common_steps, c.in-Some.ensures.items) in
    let p = err_from_is_err_and c.from_residual.result c.from_residual.ensures.1 in
    rw (p.1, p.2) (passes (g.P.Pages.shelf c.args.pages.now) c.args.live.now (g.P.Pages.shelf c.loop-named.pages) c.loop-named.lines.items c.in-Some.named (reverse c.pop.new.self.items)
    (subst (λ (coming : List Named). IsDrawing (g.P.Pages.shelf c.args.pages.now) (g.P.Pages.shelf c.loop-named.pages) c.args.live.now c.loop-named.lines.items coming) stack c.loop-named.invariant.drawing)
    (let n = c.loop-named.invariant.count in let l = c.loop-named.invariant.low in let other = c.if-nodes-live.false in omega arith) (g.P.Pages.shelf c.draw.new.pages) c.in_err-draw.field-0.0 c.in_err-draw.ensures.cause)

pub loop-named-preserved : goal.loop-named-preserved
loop-named-preserved g c =
    let stack : reverse c.loop-named.coming.items ≡ c.in-Some.named ∷ reverse c.pop.new.self.items = grind (arith, common_steps, c.in-Some.ensures.items) in
    let drawn : IsDrawn (g.P.Pages.shelf c.loop-named.pages) c.in-Some.named c.loop-named.lines.items c.draw.new.lines.items (reverse c.pop.new.self.items) (reverse c.draw.new.coming.items) = c.in_ok-draw.ensures.drawn in
    let after = goes_on (g.P.Pages.shelf c.args.pages.now) c.args.live.now (g.P.Pages.shelf c.loop-named.pages) c.loop-named.lines.items c.in-Some.named (reverse c.pop.new.self.items)
    (subst (λ (coming : List Named). IsDrawing (g.P.Pages.shelf c.args.pages.now) (g.P.Pages.shelf c.loop-named.pages) c.args.live.now c.loop-named.lines.items coming) stack c.loop-named.invariant.drawing)
    (g.P.Pages.shelf c.draw.new.pages) c.draw.new.lines.items (reverse c.draw.new.coming.items) c.draw.ensures.same c.draw.ensures.asked c.draw.ensures.reads drawn in
    record {
      keeps = g.met.P.Pages.keeps_both c.args.pages.now c.loop-named.pages c.draw.new.pages c.loop-named.invariant.keeps c.draw.ensures.keeps;
      no_fault = c.in_ok-draw.ensures.no_fault ∙ c.loop-named.invariant.no_fault;
      count = (let l = ap (λ (ls : List ShapeLine). length ls) drawn.line in let n = c.loop-named.invariant.count in grind (arith, common_steps));
      low = (let n = c.loop-named.invariant.low in let other = c.if-nodes-live.false in omega arith);
      drawing = after;
    }

pub returns-then-nodes-live-clause-cause : goal.returns-then-nodes-live-clause-cause
returns-then-nodes-live-clause-cause g c =
    let stack : reverse c.loop-named.coming.items ≡ c.in-Some.named ∷ reverse c.pop.new.self.items = grind (arith, common_steps, c.in-Some.ensures.items) in
    repeats (g.P.Pages.shelf c.args.pages.now) c.args.live.now (g.P.Pages.shelf c.loop-named.pages) c.loop-named.lines.items c.in-Some.named (reverse c.pop.new.self.items)
    (subst (λ (coming : List Named). IsDrawing (g.P.Pages.shelf c.args.pages.now) (g.P.Pages.shelf c.loop-named.pages) c.args.live.now c.loop-named.lines.items coming) stack c.loop-named.invariant.drawing)
    (sym c.loop-named.invariant.count ∙ c.if-nodes-live.true)

pub returns-in_err-draw-clause-cause : goal.returns-in_err-draw-clause-cause
returns-in_err-draw-clause-cause g c =
    let stack : reverse c.loop-named.coming.items ≡ c.in-Some.named ∷ reverse c.pop.new.self.items = grind (arith, common_steps, c.in-Some.ensures.items) in
    let p = err_from_is_err_and c.from_residual.result c.from_residual.ensures.1 in
    rw (p.1, p.2) (refused (g.P.Pages.shelf c.args.pages.now) c.args.live.now (g.P.Pages.shelf c.loop-named.pages) c.loop-named.lines.items c.in-Some.named (reverse c.pop.new.self.items)
    (subst (λ (coming : List Named). IsDrawing (g.P.Pages.shelf c.args.pages.now) (g.P.Pages.shelf c.loop-named.pages) c.args.live.now c.loop-named.lines.items coming) stack c.loop-named.invariant.drawing)
    (let n = c.loop-named.invariant.count in let l = c.loop-named.invariant.low in let other = c.if-nodes-live.false in omega arith) (g.P.Pages.shelf c.draw.new.pages) c.in_err-draw.field-0.0 c.in_err-draw.ensures.cause)

pub returns-in_err-draw-clause-asked : goal.returns-in_err-draw-clause-asked
returns-in_err-draw-clause-asked g c =
    let opened : ℕ = length c.loop-named.lines.items in
    let count = c.loop-named.invariant.count in
    let low = c.loop-named.invariant.low in
    let other = c.if-nodes-live.false in
    let once = c.draw.ensures.asked ∙ ap next_count c.loop-named.invariant.drawing.asked in
    (suc opened, (omega arith), once ∙ count_up_more (g.P.Pages.shelf c.args.pages.now).asked opened)
