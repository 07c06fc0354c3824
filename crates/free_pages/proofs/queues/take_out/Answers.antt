use Rattle.std.proofs.Common.{◌≡◌, ◌<◌, ℕ, List, length, get_or, sym, ap, ◌∙◌, arith}
use Rattle.std.specs.List.{remove}
use Rattle.std.proofs.lemmas.List.{get_or_default}
use Rattle.free_pages.proofs.Released.{without_at, without_none}
use Rattle.free_pages.proofs.queues.take_out.Goals as goal

pub returns-then-index-generation : goal.returns-then-index-generation
returns-then-index-generation c =
    let pins = c.args.pins.now.items in
    let at = c.loop-place.place in
    let same : c.loop-place.pins.items ≡ pins = c.loop-place.invariant.same in
    let within : at < length pins = omega (arith, c.loop-place-test.true, c.len-place-end.ensures, c.args.pins.now.ok.0) in
    let is : get_or pins at 0 ≡ c.args.generation =
    get_or_default pins at 0 c.index.result.now within ∙ ap (λ (xs : List ℕ). get_or xs at c.index.result.now) (sym same) ∙ sym c.index.ensures ∙ c.if-index-generation.true in
    c.remove.ensures.items ∙ ap (λ (xs : List ℕ). remove xs at) same ∙ sym (without_at at c.args.generation pins c.loop-place.invariant.others within is)

pub returns : goal.returns
returns c =
    c.loop-place.invariant.same ∙ sym (without_none c.args.generation c.args.pins.now.items (λ k lt. c.loop-place.invariant.others k (omega (arith, lt, c.loop-place-test.false, c.len-place-end.ensures, c.args.pins.now.ok.0))))
