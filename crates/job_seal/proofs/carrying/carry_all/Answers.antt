use Rattle.std.proofs.Common.{rules, ◌≡◌, suc, length, ap, arith}
use Rattle.disk_model.specs.Moments.{then_unchanged}
use Rattle.job_seal.proofs.Telling.{begun, one_more_by, unchanged}
use Rattle.job_seal.proofs.carrying.carry_all.Goals as goal

pub loop-log-init : goal.loop-log-init
loop-log-init g c =
    let all : c.into_iter-log-iterator.result.rest.items ≡ c.args.logs.items = search rules in
    record {
      same = unchanged (g.D.Disk.state c.args.index.now);
      agrees = c.requires.kept;
      valid = rw all c.requires.valid;
      counted = omega (arith, ap length all);
      puts = λ is_known. rw all (begun (g.D.Disk.state c.args.index.now).bytes c.args.opened.now.0 c.args.opened.now.1 c.args.logs.items (g.L.Sink.state c.args.log_out.now).written (g.K.Sink.state c.args.out.now).written);
      later = omega arith;
      out_later = omega arith;
      log_later = omega arith;
    }

pub loop-log-preserved : goal.loop-log-preserved
loop-log-preserved g c =
    let old = c.loop-log.invariant in
    let step = c.in-Some.ensures.steps.0 in
    let now = c.carry_log.ensures in
    let d0 = g.D.Disk.state c.args.index.now in
    let d1 = g.D.Disk.state c.loop-log.index in
    record {
      same = then_unchanged d0 d1 (g.D.Disk.state c.carry_log.new.index) old.same now.same;
      agrees = c.in_ok-is_accepted.ensures.kept;
      valid = (let all = rw step at old.valid in λ k d low. all (suc k) d (omega arith));
      counted = omega (arith, old.counted, ap length step);
      puts = one_more_by d0 d1 c.args.opened.now.0 c.args.opened.now.1 c.args.logs.items c.in-Some.log c.next.new.self.rest.items c.loop-log.number c.loop-log.accepted c.in_ok-is_accepted.is_accepted
          (g.L.Sink.state c.args.log_out.now).written (g.L.Sink.state c.loop-log.log_out).written (g.L.Sink.state c.carry_log.new.log_out).written
          (g.K.Sink.state c.args.out.now).written (g.K.Sink.state c.loop-log.out).written (g.K.Sink.state c.carry_log.new.out).written
          old.same (rw step at old.puts) c.in_ok-is_accepted.ensures.puts;
      later = omega (arith, old.later, now.later);
      out_later = omega (arith, old.out_later, now.out_later);
      log_later = omega (arith, old.log_later, now.log_later);
    }
