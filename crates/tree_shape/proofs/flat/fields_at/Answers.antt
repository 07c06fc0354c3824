use Rattle.std.proofs.Common.{◌≡◌, ◌+◌, ◌-◌, ℕ, take, drop, ◌∙◌, ap, arith}
use Rattle.std.proofs.lemmas.List.{drop-take, drop-drop}
use Rattle.tree_shape.specs.Flat.{start_of}
use Rattle.tree_shape.proofs.flat.fields_at.Goals as goal

pub returns-clause-point : goal.returns-clause-point
returns-clause-point c =
    let start = c.start_of-start.result in
    let numbers = c.args.numbers.now in
    let width : start + c.width.result - start ≡ 5 + c.args.dim = omega (arith, c.width.ensures) in
    let behind : start + 5 ≡ start_of c.args.dim c.args.index + 5 = ap (λ (n : ℕ). n + 5) c.start_of-start.ensures in
    c.split_at.ensures.back ∙ ap (λ (n : ℕ). drop 5 (take n (drop start numbers))) width
    ∙ drop-take 5 c.args.dim (drop start numbers) ∙ ap (take c.args.dim) (drop-drop 5 start numbers)
    ∙ ap (λ (n : ℕ). take c.args.dim (drop n numbers)) behind
