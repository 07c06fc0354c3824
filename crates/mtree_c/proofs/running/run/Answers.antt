use Rattle.std.proofs.Common.{◌≡◌, subst, Some, rules, arith}
use Rattle.plan_disk.specs.Plan.{IsWhole}
use Rattle.mtree_c.proofs.Ran.{is_session}
use Rattle.mtree_c.proofs.running.run.Goals as goal

pub returns : goal.returns
returns c =
    let job = c.run_session-status in
    let plan = job.new.index in
    let faultless : plan.faults ≡ 0 = omega (arith, c.faults.ensures, c.if-faults-gt0.false) in
    let text : job.new.out.faults ≡ 0 = omega (arith, c.if-text-gt0.false) in
    let log : job.new.log_out.faults ≡ 0 = omega (arith, c.if-log-gt0.false) in
    is_session c.args.show_tags c.args.script.now c.args.file.now plan job.new.out.bytes.items job.new.log_out.bytes.items job.result.0 faultless
    (rw (c.new-source.ensures, c.new-disk.ensures, c.new-text.ensures.bytes, c.new-text.ensures.faults, c.new-log.ensures.bytes, c.new-log.ensures.faults, text, log) at job.ensures.runs)
    (Some job.new.input.left.now) (search rules) (subst IsWhole c.disk.view_is c.disk.invariant.whole) job.ensures.statuses job.ensures.input
    (rw (c.new-text.ensures.faults, c.new-log.ensures.faults, text, log) at job.ensures.output)
    (λ eight. omega (arith, eight, c.if-status-eq8.false))
    (rw (c.new-source.ensures) at job.ensures.long)
    (rw (c.new-source.ensures, c.new-disk.ensures, c.new-text.ensures.faults, c.new-log.ensures.faults, text, log) at job.ensures.complete)
