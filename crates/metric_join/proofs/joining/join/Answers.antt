use Rattle.std.proofs.Common.{true, false, subst, ℕ, []}
use Rattle.std.proofs.lemmas.Result.{err_from_is_err_and}
use Rattle.page_store.specs.Reading.{nodes_of}
use Rattle.log_model.specs.JoinSteps.{search_within}
use Rattle.metric_join.specs.Joined.{fault_of as join_fault_of}
use Rattle.metric_join.specs.Steps.{IsUnderWay}
use Rattle.metric_join.proofs.Ends.{walk_begins, joined_is, scanned_is, left_refused, right_refused, walk_refused, passes}
use Rattle.metric_join.proofs.joining.join.Goals as goal

pub returns-in-Err-clause-sound : goal.returns-in-Err-clause-sound
returns-in-Err-clause-sound g c told_left told_right left_sound right_sound =
    rw c.fault_of.ensures
    (passes (g.R.M.Metric.space (g.R.Ruler.metric c.args.ruler.now)) c.args.ll.now c.args.lr.now (g.P.Pages.shelf c.args.left.now) (g.P.Pages.shelf c.tour.new.pages) (g.Q.Pages.shelf c.args.right.now) (g.Q.Pages.shelf c.args.right.now) (join_fault_of false c.in-Err.fault)
    (left_refused c.args.ll.now c.args.lr.now (g.P.Pages.shelf c.args.left.now) (g.P.Pages.shelf c.tour.new.pages) (g.Q.Pages.shelf c.args.right.now) c.in-Err.fault c.in-Err.ensures.cause) told_left told_right left_sound right_sound)

pub returns-in-Err-tour-clause-sound : goal.returns-in-Err-tour-clause-sound
returns-in-Err-tour-clause-sound g c told_left told_right left_sound right_sound =
    rw c.fault_of-in-Err-tour.ensures
    (passes (g.R.M.Metric.space (g.R.Ruler.metric c.args.ruler.now)) c.args.ll.now c.args.lr.now (g.P.Pages.shelf c.args.left.now) (g.P.Pages.shelf c.tour.new.pages) (g.Q.Pages.shelf c.args.right.now) (g.Q.Pages.shelf c.tour-2.new.pages) (join_fault_of true c.in-Err-tour.fault)
    (right_refused c.args.ll.now c.args.lr.now (g.P.Pages.shelf c.args.left.now) (g.P.Pages.shelf c.tour.new.pages) (g.Q.Pages.shelf c.args.right.now) (g.Q.Pages.shelf c.tour-2.new.pages) c.in-Err-tour.fault c.in_default.ensures.walked c.in-Err-tour.ensures.cause) told_left told_right left_sound right_sound)

pub returns-in_err-walk-clause-cause : goal.returns-in_err-walk-clause-cause
returns-in_err-walk-clause-cause g c =
    let p = err_from_is_err_and c.from_residual-in_err-walk.result c.from_residual-in_err-walk.ensures.1 in
    rw (p.1, p.2)
    (walk_refused c.args.ll.now c.args.lr.now (g.P.Pages.shelf c.args.left.now) (g.P.Pages.shelf c.tour.new.pages) (g.P.Pages.shelf c.walk_pairs.new.left)
    (g.Q.Pages.shelf c.args.right.now) (g.Q.Pages.shelf c.tour-2.new.pages) (g.Q.Pages.shelf c.walk_pairs.new.right) c.in_err-walk.field-0.0 c.tour.ensures.same c.tour-2.ensures.same c.in_default.ensures.walked c.in_default-tour.ensures.walked
    (c.in_err-walk.ensures.cause c.args.ll.now c.args.lr.now
    (walk_begins (search_within (g.R.M.Metric.space (g.R.Ruler.metric c.args.ruler.now)) c.in_ok-begun.begun.rho) c.args.ll.now c.args.lr.now (g.P.Pages.shelf c.args.left.now) (g.P.Pages.shelf c.tour.new.pages) (g.Q.Pages.shelf c.args.right.now) (g.Q.Pages.shelf c.tour-2.new.pages) (g.R.Ruler.used c.args.ruler.now)
    c.in_ok-begun.begun.records.items c.in_ok-begun.begun.hits.items c.in_ok-begun.begun.stack.items c.tour.ensures.same c.tour-2.ensures.same c.in_default.ensures.walked c.in_default-tour.ensures.walked
    c.in_ok-begun.ensures.records c.in_ok-begun.ensures.hits c.in_ok-begun.ensures.stack)))

pub returns-in_err-walk-clause-sound : goal.returns-in_err-walk-clause-sound
returns-in_err-walk-clause-sound g c =
    let p = err_from_is_err_and c.from_residual-in_err-walk.result c.from_residual-in_err-walk.ensures.1 in
    rw (p.1, p.2)
    (λ told_left told_right left_sound right_sound.
    passes (g.R.M.Metric.space (g.R.Ruler.metric c.args.ruler.now)) c.args.ll.now c.args.lr.now (g.P.Pages.shelf c.args.left.now) (g.P.Pages.shelf c.walk_pairs.new.left) (g.Q.Pages.shelf c.args.right.now) (g.Q.Pages.shelf c.walk_pairs.new.right) c.in_err-walk.field-0.0
    (walk_refused c.args.ll.now c.args.lr.now (g.P.Pages.shelf c.args.left.now) (g.P.Pages.shelf c.tour.new.pages) (g.P.Pages.shelf c.walk_pairs.new.left)
    (g.Q.Pages.shelf c.args.right.now) (g.Q.Pages.shelf c.tour-2.new.pages) (g.Q.Pages.shelf c.walk_pairs.new.right) c.in_err-walk.field-0.0 c.tour.ensures.same c.tour-2.ensures.same c.in_default.ensures.walked c.in_default-tour.ensures.walked
    (c.in_err-walk.ensures.cause c.args.ll.now c.args.lr.now
    (walk_begins (search_within (g.R.M.Metric.space (g.R.Ruler.metric c.args.ruler.now)) c.in_ok-begun.begun.rho) c.args.ll.now c.args.lr.now (g.P.Pages.shelf c.args.left.now) (g.P.Pages.shelf c.tour.new.pages) (g.Q.Pages.shelf c.args.right.now) (g.Q.Pages.shelf c.tour-2.new.pages) (g.R.Ruler.used c.args.ruler.now)
    c.in_ok-begun.begun.records.items c.in_ok-begun.begun.hits.items c.in_ok-begun.begun.stack.items c.tour.ensures.same c.tour-2.ensures.same c.in_default.ensures.walked c.in_default-tour.ensures.walked
    c.in_ok-begun.ensures.records c.in_ok-begun.ensures.hits c.in_ok-begun.ensures.stack))) told_left told_right left_sound right_sound)

pub returns-clause-joined : goal.returns-clause-joined
returns-clause-joined g c =
    joined_is (g.R.M.Metric.space (g.R.Ruler.metric c.args.ruler.now)) c.args.ll.now c.args.lr.now c.args.r (g.P.Pages.shelf c.args.left.now) (g.P.Pages.shelf c.tour.new.pages) (g.P.Pages.shelf c.walk_pairs.new.left)
    (g.Q.Pages.shelf c.args.right.now) (g.Q.Pages.shelf c.tour-2.new.pages) (g.Q.Pages.shelf c.walk_pairs.new.right) (g.R.Ruler.used c.args.ruler.now) (g.R.Ruler.used c.walk_pairs.new.ruler)
    c.in_ok-walk.walk.records.items c.in_ok-walk.walk.hits.items c.tour.ensures.same c.tour-2.ensures.same
    (subst (λ (rho : ℕ). IsUnderWay (search_within (g.R.M.Metric.space (g.R.Ruler.metric c.args.ruler.now)) rho) c.args.ll.now c.args.lr.now (g.P.Pages.shelf c.tour.new.pages) (g.P.Pages.shelf c.walk_pairs.new.left)
    (g.Q.Pages.shelf c.tour-2.new.pages) (g.Q.Pages.shelf c.walk_pairs.new.right) (g.R.Ruler.used c.args.ruler.now) (g.R.Ruler.used c.walk_pairs.new.ruler) c.in_ok-walk.walk.records.items c.in_ok-walk.walk.hits.items [])
    c.in_ok-begun.ensures.rho
    (c.in_ok-walk.ensures.ok c.args.ll.now c.args.lr.now
    (walk_begins (search_within (g.R.M.Metric.space (g.R.Ruler.metric c.args.ruler.now)) c.in_ok-begun.begun.rho) c.args.ll.now c.args.lr.now (g.P.Pages.shelf c.args.left.now) (g.P.Pages.shelf c.tour.new.pages) (g.Q.Pages.shelf c.args.right.now) (g.Q.Pages.shelf c.tour-2.new.pages) (g.R.Ruler.used c.args.ruler.now)
    c.in_ok-begun.begun.records.items c.in_ok-begun.begun.hits.items c.in_ok-begun.begun.stack.items c.tour.ensures.same c.tour-2.ensures.same c.in_default.ensures.walked c.in_default-tour.ensures.walked
    c.in_ok-begun.ensures.records c.in_ok-begun.ensures.hits c.in_ok-begun.ensures.stack)))
    c.in_ok-joined.joined c.in_ok-joined.ensures.left c.in_ok-joined.ensures.right c.in_ok-joined.ensures.radius c.in_ok-joined.ensures.records c.in_ok-joined.ensures.answers c.in_ok-joined.ensures.pairs
    c.in_ok-joined.ensures.few c.in_default.ensures.walked c.in_default-tour.ensures.walked

pub returns-clause-scanned : goal.returns-clause-scanned
returns-clause-scanned g c told_left told_right left_sound right_sound =
    let joined = returns-clause-joined g c in
    scanned_is (g.R.M.Metric.space (g.R.Ruler.metric c.args.ruler.now)) (g.met.R.Ruler.axioms c.args.ruler.now) c.args.ll.now c.args.lr.now c.args.r (nodes_of (g.P.Pages.shelf c.args.left.now).read) (nodes_of (g.Q.Pages.shelf c.args.right.now).read) c.in_ok-joined.joined joined.log.pairs_are
    (joined.least told_left told_right) left_sound right_sound
