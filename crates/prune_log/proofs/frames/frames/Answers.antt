use Rattle.std.proofs.Common.{length, ap, arith, length-append, ◌∷◌, []}
use Rattle.std.proofs.lemmas.Result.{err_from_is_err_and}
use Rattle.prune_log.specs.Reading.{frames_at}
use Rattle.prune_log.proofs.Framing.{goes_on, ends, is_done, some_left, none_left}
use Rattle.prune_log.proofs.frames.frames.Goals as goal

pub returns-in_err-log-clause-gives : goal.returns-in_err-log-clause-gives
returns-in_err-log-clause-gives g c =
    let p = err_from_is_err_and c.from_residual.result c.from_residual.ensures.1 in
    rw (p.1, p.2)
    (ends g.L.Framed.reads c.in_err-log.field-0.0 c.loop-rest.logs.items (length c.args.bytes.now) c.loop-rest.rest.now (frames_at g.L.Framed.reads c.args.bytes.now)
    (some_left c.loop-rest.rest.now c.loop-rest-test.ensures) c.loop-rest.invariant.enough c.in_err-log.ensures.gives c.loop-rest.invariant.so_far)

pub loop-rest-preserved : goal.loop-rest-preserved
loop-rest-preserved g c =
    let some = some_left c.loop-rest.rest.now c.loop-rest-test.ensures in
    let more = ap length c.in_ok-push.ensures.items in
    record {
      so_far = rw (c.in_ok-push.ensures.items)
          (goes_on g.L.Framed.reads c.loop-rest.logs.items (length c.args.bytes.now) c.loop-rest.rest.now c.in_ok-log.log c.in_ok-log.behind.now (frames_at g.L.Framed.reads c.args.bytes.now)
          some c.loop-rest.invariant.enough c.in_ok-log.ensures.gives c.loop-rest.invariant.so_far);
      enough = omega (arith, more, length-append c.loop-rest.logs.items (c.in_ok-log.log ∷ []), c.in_ok-log.ensures.shorter, c.loop-rest.invariant.enough);
    }

pub returns-clause-gives : goal.returns-clause-gives
returns-clause-gives g c =
    is_done g.L.Framed.reads c.loop-rest.logs.items (length c.args.bytes.now) c.loop-rest.rest.now (frames_at g.L.Framed.reads c.args.bytes.now)
    (none_left c.loop-rest.rest.now c.loop-rest-test.ensures) c.loop-rest.invariant.so_far
