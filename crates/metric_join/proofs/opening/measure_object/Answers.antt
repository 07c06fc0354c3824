use Rattle.std.proofs.Common.{◌≡◌, ◌+◌, refl, ap, false, arith}
use Rattle.tree_shape.specs.Entries.{leaf_of}
use Rattle.log_model.specs.declared.pairs.JoinNeed.{JoinNeed}
use Rattle.log_model.specs.Items.{Item, item_at}
use Rattle.log_model.specs.JoinWalk.{JoinSearch, far_stored, object_entry, other, radius_of}
use Rattle.log_model.specs.JoinSteps.{search_within, paired}
use Rattle.metric_join.proofs.Entries.{takes_none, takes_pair, counts_one, least_unskipped, measured_one}
use Rattle.metric_join.proofs.opening.measure_object.Goals as goal

pub returns-in_ok-add_object-clause-counted : goal.returns-in_ok-add_object-clause-counted
returns-in_ok-add_object-clause-counted g c =
    let j : JoinSearch = search_within (g.R.M.Metric.space (g.R.Ruler.metric c.args.ruler.now)) c.args.probe.now.rho in
    let n : JoinNeed = c.args.probe.now.need.now in
    let marked = c.measured_mark-marked in
    let some = marked.ensures.counted in
    counts_one (g.R.Ruler.used c.args.ruler.now) (g.R.Ruler.used marked.new.ruler) some.0 c.args.opening.now.marks.items c.push.new.self.items marked.result.mark
    (rw (measured_one j n c.args.entry.point.now 0 marked.result.mark marked.ensures.mark) some.1) some.2 c.in_ok-push.ensures.items

pub returns-in_ok-add_object-clause-taken : goal.returns-in_ok-add_object-clause-taken
returns-in_ok-add_object-clause-taken g c =
    let j : JoinSearch = search_within (g.R.M.Metric.space (g.R.Ruler.metric c.args.ruler.now)) c.args.probe.now.rho in
    let n : JoinNeed = c.args.probe.now.need.now in
    let marked = c.measured_mark-marked in
    let bare : 0 + radius_of (other n) ≡ radius_of (other n) = omega arith in
    let unskipped : far_stored n.apart c.args.entry.parent j.rho (0 + radius_of (other n)) ≡ false = rw bare c.requires.unskipped in
    takes_pair j n (object_entry (leaf_of c.args.entry)) c.args.entry.point.now refl marked.result.mark
    (least_unskipped j n c.args.entry.point.now c.args.entry.parent 0 marked.result.mark unskipped marked.ensures.mark)
    c.args.opening.now (record { marks = c.push.new.self; matches = c.add_object.new.self }) c.in_ok-push.ensures.items
    c.in-Near.is (paired n (item_at c.args.probe.now.node.now c.args.index) marked.result.apart) marked.result.apart (marked.ensures.apart)
    (ap (λ (item : Item). paired n item marked.result.apart) c.requires.item.is)
    c.in_ok-add_object.ensures.hits c.in_ok-add_object.ensures.needs

pub returns-in_default : goal.returns-in_default
returns-in_default g c =
    let j : JoinSearch = search_within (g.R.M.Metric.space (g.R.Ruler.metric c.args.ruler.now)) c.args.probe.now.rho in
    let n : JoinNeed = c.args.probe.now.need.now in
    let marked = c.measured_mark-marked in
    let bare : 0 + radius_of (other n) ≡ radius_of (other n) = omega arith in
    let unskipped : far_stored n.apart c.args.entry.parent j.rho (0 + radius_of (other n)) ≡ false = rw bare c.requires.unskipped in
    let some = marked.ensures.counted in
    record {
      metric = marked.ensures.metric;
      counted = counts_one (g.R.Ruler.used c.args.ruler.now) (g.R.Ruler.used marked.new.ruler) some.0 c.args.opening.now.marks.items c.push.new.self.items marked.result.mark (rw (measured_one j n c.args.entry.point.now 0 marked.result.mark marked.ensures.mark) some.1) some.2 c.in_ok-push.ensures.items;
      taken = takes_none j n (object_entry (leaf_of c.args.entry)) c.args.entry.point.now refl marked.result.mark
          (least_unskipped j n c.args.entry.point.now c.args.entry.parent 0 marked.result.mark unskipped marked.ensures.mark)
          c.args.opening.now (record { marks = c.push.new.self; matches = c.args.opening.now.matches }) c.in_ok-push.ensures.items
          c.in_default.not-Near refl refl;
    }
