use Rattle.std.proofs.Common.{length, sym, ◌∙◌, ap}
use Rattle.tree_shape.specs.Flat.{leaf_from, start_of}
use Rattle.tree_shape.specs.Entries.{leaves_seen}
use Rattle.tree_shape.proofs.Firsts.{length-firsts}
use Rattle.tree_shape.proofs.leaves.LeafView.len.Goals as goal

pub returns-in-Flat : goal.returns-in-Flat
returns-in-Flat c =
    let flat = c.in-Flat.flat in
    sym (length-firsts (λ i. leaf_from flat.dim flat.numbers.now (start_of flat.dim i)) flat.count)
    ∙ ap (λ (seen : _). length (leaves_seen seen)) (sym c.in-Flat.is) ∙ ap length c.self.view_is
