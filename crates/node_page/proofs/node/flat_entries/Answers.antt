use Rattle.std.proofs.Common.{◌≡◌, true, ℕ, ◌+◌, ◌*◌, ◌≤◌, List, sym, ◌∙◌, ap, subst, arith}
use Rattle.tree_shape.specs.Flat.{firsts, leaf_from, inner_from, start_of}
use Rattle.node_page.specs.declared.node.Version.TheVariants.{Second}
use Rattle.node_page.proofs.Entries.{leaves_read, inners_read}
use Rattle.node_page.proofs.Listing.{within_page}
use Rattle.node_page.proofs.node.flat_entries.Goals as goal

pub numbers_of-requires : goal.numbers_of-requires
numbers_of-requires c =
    let within = within_page Second true c.args.dim c.args.count c.requires.most in
    subst (λ (w : ℕ). 16 + 4 * (w * c.args.count) ≤ 4096) (sym c.width.ensures) (omega (arith, within))

pub returns-clause-leaves : goal.returns-clause-leaves
returns-clause-leaves c =
    let flat = c.new.result in
    let numbers = c.in_ok-numbers.numbers.items in
    let dim = c.args.dim in
    let items : flat.numbers.items ≡ numbers = (λ i. (c.new.ensures.numbers i).items) in
    ap (λ (d : ℕ). firsts (λ i. leaf_from d flat.numbers.items (start_of d i)) flat.count) c.new.ensures.dim
    ∙ ap (λ (ns : List ℕ). firsts (λ i. leaf_from dim ns (start_of dim i)) flat.count) items
    ∙ ap (firsts (λ i. leaf_from dim numbers (start_of dim i))) c.new.ensures.count
    ∙ leaves_read c.args.page.now numbers c.in_ok-numbers.ensures.numbers dim c.args.count (c.in_ok-numbers.ensures.len ∙ ap (λ (w : ℕ). w * c.args.count) c.width.ensures)

pub returns-clause-inners : goal.returns-clause-inners
returns-clause-inners c =
    let flat = c.new.result in
    let numbers = c.in_ok-numbers.numbers.items in
    let dim = c.args.dim in
    let items : flat.numbers.items ≡ numbers = (λ i. (c.new.ensures.numbers i).items) in
    ap (λ (d : ℕ). firsts (λ i. inner_from d flat.numbers.items (start_of d i)) flat.count) c.new.ensures.dim
    ∙ ap (λ (ns : List ℕ). firsts (λ i. inner_from dim ns (start_of dim i)) flat.count) items
    ∙ ap (firsts (λ i. inner_from dim numbers (start_of dim i))) c.new.ensures.count
    ∙ inners_read c.args.page.now numbers c.in_ok-numbers.ensures.numbers dim c.args.count (c.in_ok-numbers.ensures.len ∙ ap (λ (w : ℕ). w * c.args.count) c.width.ensures)
