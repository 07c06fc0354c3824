use Rattle.std.proofs.Common.{ℕ, ◌++◌, ◌∙◌, ap}
use Rattle.std.specs.Prelude.{decimal}
use Rattle.job_files.proofs.Joined.{point_written}
use Rattle.job_files.proofs.shape_lines.push_point.Goals as goal

pub returns : goal.returns
returns c =
    point_written c.push_after_commas.result c.args.out.now.items c.push_numbered.new.out.items c.push_after_commas.new.out.items c.args.point.now c.in-Some.first.now c.in-Some.rest.now
    c.in-Some.ensures.cases.0 (c.in_ok-push_numbered.ensures ∙ ap (λ (n : ℕ). c.args.out.now.items ++ decimal n) c.from.ensures) c.push_after_commas.ensures
