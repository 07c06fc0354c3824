use Rattle.job_show.proofs.Courses.{untoured}
use Rattle.job_show.proofs.opened.nodes_in.Goals as goal

pub returns-in_ok-stop_at-in-Err-clause-nodes : goal.returns-in_ok-stop_at-in-Err-clause-nodes
returns-in_ok-stop_at-in-Err-clause-nodes g c is_known toured =
    untoured c.tour_has_one_course.ensures c.args.live.now (g.P.Pages.shelf c.args.pages.now) (g.P.Pages.shelf c.count_nodes.new.pages) is_known toured c.in-Err.fault c.in-Err.ensures.cause c.in_ok-stop_at-in-Err.ensures.damage
