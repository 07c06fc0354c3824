use Rattle.std.proofs.Common.{rules, ◌≡◌, false}
use Rattle.disk_model.specs.Moments.{then_unchanged}
use Rattle.job_join.specs.Trees.{is_one_space}
use Rattle.job_join.proofs.Ending.{Opened, join_spaces, join_done, join_stopped}
use Rattle.job_join.proofs.jobs.join_indexes.Goals as goal

pub returns-then-not-have_one_space-clause-joins : goal.returns-then-not-have_one_space-clause-joins
returns-then-not-have_one_space-clause-joins g c =
    let first = c.in-Ok.ensures in
    let d0 = g.D.Disk.state c.args.index.now in
    let d1 = g.D.Disk.state c.open_both.new.index in
    let e0 = g.E.Disk.state c.args.other.now in
    let e1 = g.E.Disk.state c.open_both.new.other in
    let l = c.in-Ok.trees.left in
    let r = c.in-Ok.trees.right in
    let opened : Opened d0 d1 e0 e1 l r =
    record { same = first.same; other_same = first.other_same; opens = first.opens; other_opens = first.other_opens; later = first.later; other_later = first.other_later } in
    let differ : is_one_space l.0 r.0 ≡ false = search rules in
    join_spaces c.args.radius d0 d1 e0 e1 l r _ _ _ c.put_line.result.0 opened differ c.put_line.ensures.statuses (rw first.silent at c.put_line.ensures.done) (rw first.silent at c.put_line.ensures.part)

pub returns-in-Ok-join_opened-clause-joins : goal.returns-in-Ok-join_opened-clause-joins
returns-in-Ok-join_opened-clause-joins g c =
    let first = c.in-Ok.ensures in
    let told = c.in-Ok-join_opened.ensures in
    let d0 = g.D.Disk.state c.args.index.now in
    let d1 = g.D.Disk.state c.open_both.new.index in
    let d2 = g.D.Disk.state c.join_opened.new.index in
    let e0 = g.E.Disk.state c.args.other.now in
    let e1 = g.E.Disk.state c.open_both.new.other in
    let e2 = g.E.Disk.state c.join_opened.new.other in
    let l = c.in-Ok.trees.left in
    let r = c.in-Ok.trees.right in
    let opened : Opened d0 d1 e0 e1 l r =
    record { same = first.same; other_same = first.other_same; opens = first.opens; other_opens = first.other_opens; later = first.later; other_later = first.other_later } in
    join_done c.args.radius d0 d1 d2 e0 e1 e2 l r c.in-Ok-join_opened.joined.log _ _ _ _ c.end_joined.result.0 opened (then_unchanged d0 d1 d2 first.same told.same) (then_unchanged e0 e1 e2 first.other_same told.other_same) told.joined
    c.end_joined.ensures.statuses (rw first.silent at c.end_joined.ensures.done) (rw first.silent at c.end_joined.ensures.cut) (rw first.silent at c.end_joined.ensures.memory)

pub returns-in-Err-join_opened-clause-joins : goal.returns-in-Err-join_opened-clause-joins
returns-in-Err-join_opened-clause-joins g c =
    let first = c.in-Ok.ensures in
    let told = c.in-Err-join_opened.ensures in
    let d0 = g.D.Disk.state c.args.index.now in
    let d1 = g.D.Disk.state c.open_both.new.index in
    let d2 = g.D.Disk.state c.join_opened.new.index in
    let e0 = g.E.Disk.state c.args.other.now in
    let e1 = g.E.Disk.state c.open_both.new.other in
    let e2 = g.E.Disk.state c.join_opened.new.other in
    let l = c.in-Ok.trees.left in
    let r = c.in-Ok.trees.right in
    let opened : Opened d0 d1 e0 e1 l r =
    record { same = first.same; other_same = first.other_same; opens = first.opens; other_opens = first.other_opens; later = first.later; other_later = first.other_later } in
    join_stopped c.args.radius c.in-Ok.trees d0 d1 d2 e0 e1 e2 c.in-Err-join_opened.fault _ _ _ c.end_refused.result.0 opened (then_unchanged d0 d1 d2 first.same told.same) (then_unchanged e0 e1 e2 first.other_same told.other_same)
    told.refused (rw first.silent at c.end_refused.ensures.ends)
