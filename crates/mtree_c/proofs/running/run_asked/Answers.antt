use Rattle.std.proofs.Common.{◌≡◌, subst, rules, arith}
use Rattle.plan_disk.specs.Plan.{IsWhole}
use Rattle.mtree_c.proofs.Ran.{is_asked}
use Rattle.mtree_c.proofs.running.run_asked.Goals as goal

pub returns : goal.returns
returns g c =
    let job = c.run_requests-status in
    let plan = job.new.index in
    let faultless : plan.faults ≡ 0 = omega (arith, c.faults.ensures, c.if-faults-gt0.false) in
    let text : job.new.out.faults ≡ 0 = omega (arith, c.if-text-gt0.false) in
    let log : job.new.log_out.faults ≡ 0 = omega (arith, c.if-log-gt0.false) in
    is_asked (g.S.Requests.commands c.args.requests) c.args.file.now plan job.new.out.bytes.items job.new.log_out.bytes.items job.result.0 faultless
    (rw (c.new-disk.ensures, c.new-text.ensures.bytes, c.new-text.ensures.faults, c.new-log.ensures.bytes, c.new-log.ensures.faults, text, log) at job.ensures.ends)
    (rw (c.new-disk.ensures, c.new-text.ensures.bytes, c.new-text.ensures.faults, c.new-log.ensures.bytes, c.new-log.ensures.faults, text, log) at job.ensures.runs)
    (search rules) (subst IsWhole c.disk.view_is c.disk.invariant.whole)
    (λ eight. omega (arith, eight, c.if-status-eq8.false))
