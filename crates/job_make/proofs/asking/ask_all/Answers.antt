use Rattle.job_make.proofs.Asked.{asked_more}
use Rattle.job_make.proofs.asking.ask_all.Goals as goal

pub loop-t-preserved : goal.loop-t-preserved
loop-t-preserved g c =
    rw c.from.ensures
    (asked_more (λ m. g.M.Metric.space m) c.args.index.now c.loop-t.index c.ask.new.index (g.D.Disk.state c.args.disk.now) (g.D.Disk.state c.loop-t.disk) (g.D.Disk.state c.ask.new.disk) c.args.rows.now.points
    c.loop-t.t c.loop-t.tally c.in_ok-asked.asked c.point-q.result.now c.loop-t.invariant c.ask.ensures.stands c.ask.ensures.reads c.ask.ensures.rest c.in_ok-asked.ensures.few c.in_ok-asked.ensures.answered
    (rw c.len.ensures at c.point-q.ensures))
