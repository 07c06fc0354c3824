use Rattle.std.proofs.Common.{◌∙◌, ap, length, List}
use Rattle.scan_model.specs.declared.hit.Hit.{Hit}
use Rattle.job_make.proofs.Asked.{log_still, may_go_on_still, search_cause}
use Rattle.index_core.specs.Answers.{IsSoundOn}
use Rattle.job_make.proofs.asking.ask.Goals as goal

pub returns-in-Err-clause-cause : goal.returns-in-Err-clause-cause
returns-in-Err-clause-cause g c =
    rw c.page_fault.ensures
    (search_cause (IsSoundOn (g.M.Metric.space c.args.index.now.file.metric) c.args.index.now.file (g.D.Disk.state c.args.disk.now)) (g.D.Disk.state c.args.disk.now) (g.D.Disk.state c.search.new.disk) c.in-Err.fault
    c.in-Err.ensures.reading c.in-Err.ensures.disk c.in-Err.ensures.searched.undamaged)

pub returns-clause-stands : goal.returns-clause-stands
returns-clause-stands g c =
    may_go_on_still c.search.new.index (g.D.Disk.state c.search.new.disk) (g.D.Disk.state c.is_accepted.new.disk) c.is_accepted.ensures.same c.is_accepted.ensures.later c.search.ensures.stands

pub returns-in_err-accepted-clause-stands : goal.returns-in_err-accepted-clause-stands
returns-in_err-accepted-clause-stands g c =
    may_go_on_still c.search.new.index (g.D.Disk.state c.search.new.disk) (g.D.Disk.state c.is_accepted.new.disk) c.is_accepted.ensures.same c.is_accepted.ensures.later c.search.ensures.stands

pub returns-clause-answered : goal.returns-clause-answered
returns-clause-answered g c = λ sound.
    let a = c.in-Ok.ensures.searched.answer sound in
    record {
      hits = ap (λ (hits : List Hit). length hits) (c.as_slice.ensures ∙ a.hits);
      accepted = c.in_ok-accepted.ensures.sound (rw c.search.ensures.reads.same.same_known sound.0)
          (log_still (λ m. g.M.Metric.space m) c.args.index.now.file c.search.new.index.file (g.D.Disk.state c.args.disk.now) (g.D.Disk.state c.search.new.disk) c.head.result.dim c.live-live.result c.metric.result
          c.in-Ok.found.log c.search.ensures.reads c.metric.ensures (ap (λ h. h.dim) c.head.ensures) c.live-live.ensures
          (c.least_logs_are_sound.ensures _ _ _ _ _ a.least));
    }
