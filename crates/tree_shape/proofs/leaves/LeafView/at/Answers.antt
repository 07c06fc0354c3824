use Rattle.std.proofs.Common.{◌≡◌, ◌+◌, List, length, get_or, sym, ◌∙◌, ap, arith}
use Rattle.tree_shape.specs.declared.entry.LeafEntry.{LeafEntry}
use Rattle.tree_shape.specs.Flat.{firsts, leaf_from, start_of}
use Rattle.tree_shape.specs.Entries.{leaves_seen, leaf_of}
use Rattle.tree_shape.proofs.Firsts.{length-firsts, place-firsts, entry_place}
use Rattle.tree_shape.proofs.leaves.LeafView.at.Goals as goal

pub leaf_at-requires : goal.leaf_at-requires
leaf_at-requires c =
    let flat = c.in-Flat.flat in
    let entries : firsts (λ i. leaf_from flat.dim flat.numbers.now (start_of flat.dim i)) flat.count ≡ c.args.self.now = sym (ap leaves_seen c.in-Flat.is) ∙ c.self.view_is in
    let long : length c.args.self.now ≡ flat.count = ap length (sym entries) ∙ length-firsts (λ i. leaf_from flat.dim flat.numbers.now (start_of flat.dim i)) flat.count in
    entry_place (5 + flat.dim) c.args.index flat.count (length flat.numbers.now) flat.whole (omega (arith, long, c.requires))

pub returns-in-Flat : goal.returns-in-Flat
returns-in-Flat c =
    let flat = c.in-Flat.flat in
    let entries : firsts (λ i. leaf_from flat.dim flat.numbers.now (start_of flat.dim i)) flat.count ≡ c.args.self.now = sym (ap leaves_seen c.in-Flat.is) ∙ c.self.view_is in
    let long : length c.args.self.now ≡ flat.count = ap length (sym entries) ∙ length-firsts (λ i. leaf_from flat.dim flat.numbers.now (start_of flat.dim i)) flat.count in
    let seen = leaf_of c.leaf_at.result in
    c.leaf_at.ensures
    ∙ sym (place-firsts (λ i. leaf_from flat.dim flat.numbers.now (start_of flat.dim i)) flat.count c.args.index seen (omega (arith, long, c.requires)))
    ∙ ap (λ (es : List LeafEntry). get_or es c.args.index seen) entries
