use Rattle.std.proofs.Common.{length, sym, ◌∙◌, ap}
use Rattle.tree_shape.specs.Flat.{inner_from, start_of}
use Rattle.tree_shape.specs.Entries.{inners_seen}
use Rattle.tree_shape.proofs.Firsts.{length-firsts}
use Rattle.tree_shape.proofs.inners.InnerView.len.Goals as goal

pub returns-in-Flat : goal.returns-in-Flat
returns-in-Flat c =
    let flat = c.in-Flat.flat in
    sym (length-firsts (λ i. inner_from flat.dim flat.numbers.now (start_of flat.dim i)) flat.count)
    ∙ ap (λ (seen : _). length (inners_seen seen)) (sym c.in-Flat.is) ∙ ap length c.self.view_is
