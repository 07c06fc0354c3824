use Rattle.std.proofs.Common.{rules, ◌≡◌, Some, reverse}
use Rattle.std.specs.Option.{is_none}
use Rattle.log_model.specs.JoinWalk.{JoinSearch, join_needs}
use Rattle.log_verify.specs.JoinJudged.{join_wrong_in}
use Rattle.job_show_joins.specs.Walks.{node_told}
use Rattle.job_show_joins.specs.Steps.{search_by}
use Rattle.job_show_joins.proofs.PairSteps.{depths_on, popped, told_on}
use Rattle.job_show_joins.proofs.walking.show_record.Goals as goal

pub returns-clause-depths : goal.returns-clause-depths
returns-clause-depths g c depth all =
    let j : JoinSearch = search_by c.args.search in
    let coming = c.in-Some.coming in
    let node = c.in-Some-2.node in
    let marks = c.as_slice.result.now in
    depths_on _ _ coming (reverse c.pop.new.self.items) (join_needs j coming.need node marks) (is_none (join_wrong_in j coming.need node marks)) depth
    (popped c.args.walk.now.stack.items c.pop.new.self.items coming c.in-Some.ensures.items) c.in_ok-show_node.ensures.stack all

pub returns-clause-shown : goal.returns-clause-shown
returns-clause-shown g c t u rs =
    let j : JoinSearch = search_by c.args.search in
    let coming = c.in-Some.coming in
    let left = (g.P.Pages.shelf c.args.left.now).read in
    let right = (g.Q.Pages.shelf c.args.right.now).read in
    let marks_are : c.as_slice.result.now ≡ c.args.told.now.marks = search rules in
    let node_is : node_told left right coming.need c.args.told.now ≡ Some c.in-Some-2.node = search rules in
    let shown = c.in_ok-show_node.ensures in
    told_on j left right c.args.walk.now c.show_node.new.walk coming (reverse c.pop.new.self.items) c.in-Some-2.node c.args.told.now rs
    (popped c.args.walk.now.stack.items c.pop.new.self.items coming c.in-Some.ensures.items) node_is (rw marks_are at shown.lines) (rw marks_are at shown.counts) (rw marks_are at shown.measured) (rw marks_are at shown.stack)
