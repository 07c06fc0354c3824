use Rattle.std.proofs.Common.{◌≡◌, None, refl, sym, subst, inr}
use Rattle.tree_shape.specs.declared.live.Live.{Live}
use Rattle.log_model.specs.declared.logs.Log.{Log}
use Rattle.page_store.specs.Reading.{reading}
use Rattle.log_verify.specs.Judged.{log_fault}
use Rattle.seal_log.specs.Judged.{file_of}
use Rattle.seal_log.proofs.Showing.{shows, missing-first, judged-none, verdict_of}
use Rattle.seal_log.proofs.verifying.verify_carried.Goals as goal

pub returns-in-Some-clause-fault : goal.returns-in-Some-clause-fault
returns-in-Some-clause-fault g c = inr (missing-first (g.M.Metric.space c.args.metric) c.args.carried.now c.in-Some.fault (sym c.in-Some.ensures))

pub returns-in_ok-proved-in-Ok-clause-faultless : goal.returns-in_ok-proved-in-Ok-clause-faultless
returns-in_ok-proved-in-Ok-clause-faultless g c =
    let s = g.M.Metric.space c.args.metric in
    let p = c.args.carried.now in
    let read = reading p.head.dim p.live.pages (file_of p) in
    judged-none s p (sym c.in_default.ensures)
    (subst (λ (log : Log). log_fault s read p.live log ≡ None) c.log.ensures.value
    (subst (λ (live : Live). log_fault s read live c.log.result.now ≡ None) c.live.ensures
    (subst (λ (m : g.row.M.Denot). log_fault (g.M.Metric.space m) read c.live.result c.log.result.now ≡ None) c.new-ruler.ensures.metric (c.in-Ok.ensures.faultless refl))))

pub returns-in_ok-proved-in-Ok-clause-shows : goal.returns-in_ok-proved-in-Ok-clause-shows
returns-in_ok-proved-in-Ok-clause-shows g c = shows (g.M.Metric.space c.args.metric) c.args.carried.now (g.M.Metric.axioms c.args.metric) c.log.ensures.carried (returns-in_ok-proved-in-Ok-clause-faultless g c)

pub returns-in-Err : goal.returns-in-Err
returns-in-Err g c = record {
  query = tt;
  answers = tt;
  faultless = tt;
  shows = tt;
  fault = rw c.fault_by.ensures
      (verdict_of g.M.Metric.space c.new-ruler.result.metric c.args.metric c.live.result c.log.result.now c.args.carried.now 0 c.verify.new.pages.carried.now.head.dim c.verify.new.pages.carried.now.live.pages c.verify.new.pages.asked
      (file_of c.verify.new.pages.carried.now) c.in-Err.verdict c.new-ruler.ensures.metric c.live.ensures c.log.ensures.value (sym c.in_default.ensures) c.in-Err.ensures.cause);
}
