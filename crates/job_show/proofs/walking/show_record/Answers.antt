use Rattle.std.proofs.Common.{reverse}
use Rattle.std.specs.Option.{is_none}
use Rattle.log_model.specs.Walk.{Search}
use Rattle.log_verify.specs.Judged.{first_wrong_in}
use Rattle.job_show.specs.Steps.{search_by}
use Rattle.job_show.proofs.ShownSteps.{depths_on, popped}
use Rattle.job_show.proofs.walking.show_record.Goals as goal

pub returns-clause-depths : goal.returns-clause-depths
returns-clause-depths g c depth all =
    let f : Search = search_by c.args.gauge in
    let coming = c.in-Some.coming in
    let node = c.as_ref.result.now in
    let marks = c.as_slice.result.now in
    depths_on f _ _ coming (reverse c.pop.new.self.items) node marks (is_none (first_wrong_in f coming.need.above node marks)) depth
    (popped c.args.walk.now.stack.items c.pop.new.self.items coming c.in-Some.ensures.items) c.in_ok-show_node.ensures.stack all
