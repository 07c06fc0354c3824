use Rattle.std.proofs.Common.{ℕ, List, ◌++◌, ◌∙◌, ap}
use Rattle.std.specs.Prelude.{codes, decimal}
use Rattle.std.proofs.lemmas.Result.{on_ok_weaker}
use Rattle.fault_lines.specs.Lines.{numbered}
use Rattle.job_files.specs.Lines.{or_dash}
use Rattle.job_show_joins.proofs.PairTexts.{pieces}
use Rattle.job_show_joins.proofs.texts.push_opened.Goals as goal

pub returns : goal.returns
returns c =
    let out : List ℕ = c.args.out.now.items in
    let first : List ℕ = numbered (codes "opened ") c.args.walk.now.counts.opened in
    let one : List ℕ = or_dash decimal c.args.nodes.0 in
    let two : List ℕ = or_dash decimal c.args.nodes.1 in
    let sizes : List ℕ = codes " nodes of trees with " ++ one ++ codes " and " ++ two in
    let n : List ℕ = numbered (codes ", ") c.args.walk.now.measured in
    on_ok_weaker c.push_between.result
    (λ is. is ∙ ap (λ (l : List ℕ). l ++ (n ++ codes " distances\n")) (c.in_ok-push_sizes.ensures ∙ ap (λ (l : List ℕ). l ++ sizes) c.in_ok-push_numbered.ensures)
    ∙ pieces out first (codes " nodes of trees with ") one (codes " and ") two n (codes " distances\n"))
    c.push_between.ensures
