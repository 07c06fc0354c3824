use Rattle.std.proofs.Common.{List, take, take_all, sym, subst, arith}
use Rattle.std.proofs.lemmas.List.{take_more}
use Rattle.std.proofs.lemmas.Result.{err_from_is_err_and}
use Rattle.batch_run.specs.declared.jobs.piles.Prepared.{Prepared}
use Rattle.batch_run.proofs.jobs.Puts.{SoFar, either_more, finished, left_from, one_more, stopped}
use Rattle.batch_run.proofs.jobs.putting.put_all.Goals as goal

pub loop-one-preserved : goal.loop-one-preserved
loop-one-preserved g c = record {
  so_far = subst (λ (ps : List Prepared). SoFar ps (g.K.Sink.state c.args.out.now) (g.K.Sink.state c.put_one.new.out) (g.T.Sink.state c.args.log_out.now) (g.T.Sink.state c.put_one.new.log_out))
      (sym (take_more c.args.prepared.now c.loop-one.one-index _ c.loop-one-test.true))
      (one_more (take c.loop-one.one-index c.args.prepared.now) _ (g.K.Sink.state c.args.out.now) (g.K.Sink.state c.loop-one.out) (g.K.Sink.state c.put_one.new.out)
      (g.T.Sink.state c.args.log_out.now) (g.T.Sink.state c.loop-one.log_out) (g.T.Sink.state c.put_one.new.log_out) c.loop-one.invariant.so_far c.in_ok-put_one.ensures.put);
  later = omega (arith, c.put_one.ensures.later, c.loop-one.invariant.later);
  log_later = omega (arith, c.put_one.ensures.log_later, c.loop-one.invariant.log_later);
}

pub returns-in_err-put_one-clause-put : goal.returns-in_err-put_one-clause-put
returns-in_err-put_one-clause-put g c =
    let p = err_from_is_err_and c.from_residual.result c.from_residual.ensures.1 in
    rw (p.1, p.2)
    (stopped (take c.loop-one.one-index c.args.prepared.now) _ (g.K.Sink.state c.args.out.now) (g.K.Sink.state c.loop-one.out) (g.K.Sink.state c.put_one.new.out)
    (g.T.Sink.state c.args.log_out.now) (g.T.Sink.state c.loop-one.log_out) (g.T.Sink.state c.put_one.new.log_out) c.loop-one.invariant.so_far c.args.prepared.now _
    (left_from c.args.prepared.now c.loop-one.one-index _ c.loop-one-test.true) c.in_err-put_one.field-0.0 c.in_err-put_one.ensures.put)

pub returns-in_err-put_one-clause-rose : goal.returns-in_err-put_one-clause-rose
returns-in_err-put_one-clause-rose g c =
    let p = err_from_is_err_and c.from_residual.result c.from_residual.ensures.1 in
    rw (p.1, p.2)
    (λ is.
    either_more (g.K.Sink.state c.args.out.now) (g.K.Sink.state c.loop-one.out) (g.K.Sink.state c.put_one.new.out) (g.T.Sink.state c.args.log_out.now) (g.T.Sink.state c.loop-one.log_out)
    (g.T.Sink.state c.put_one.new.log_out) c.loop-one.invariant.later c.loop-one.invariant.log_later (c.in_err-put_one.ensures.rose is))

pub returns-clause-put : goal.returns-clause-put
returns-clause-put g c =
    finished c.args.prepared.now (g.K.Sink.state c.args.out.now) (g.K.Sink.state c.loop-one.out) (g.T.Sink.state c.args.log_out.now) (g.T.Sink.state c.loop-one.log_out)
    (subst (λ (ps : List Prepared). SoFar ps (g.K.Sink.state c.args.out.now) (g.K.Sink.state c.loop-one.out) (g.T.Sink.state c.args.log_out.now) (g.T.Sink.state c.loop-one.log_out))
    (take_all c.loop-one.one-index c.args.prepared.now (omega arith)) c.loop-one.invariant.so_far)
