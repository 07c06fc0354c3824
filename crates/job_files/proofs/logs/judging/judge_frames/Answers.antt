use Rattle.std.proofs.Common.{rules, ◌≡◌, suc, length, ap, refl, ◌∙◌, arith}
use Rattle.std.proofs.Math.Nat.{le_refl}
use Rattle.std.proofs.lemmas.List.Sums.{sum_by-cons}
use Rattle.std.proofs.lemmas.Result.{err_from_is_err_and}
use Rattle.job_files.proofs.logs.Puts.{begun}
use Rattle.job_files.proofs.logs.Frames.{frame_put, frame_stopped, frame_sound}
use Rattle.job_files.proofs.logs.judging.judge_frames.Goals as goal

pub loop-log-init : goal.loop-log-init
loop-log-init g c =
    let all : c.into_iter-log-iterator.result.rest.items ≡ c.args.logs.items = search rules in
    record {
      is_known = λ t. t;
      judges = refl;
      keeps = g.met.C.Checker.keeps_none c.args.checker.now;
      few = rw all (le_refl _);
      valid = rw all c.requires;
      counted = omega (arith, ap length all);
      puts = λ t. rw all (begun _ (g.K.Sink.state c.args.out.now).written);
      sound = λ t. rw all refl;
      later = omega arith;
    }

pub returns-in_err-is_sound-clause-puts : goal.returns-in_err-is_sound-clause-puts
returns-in_err-is_sound-clause-puts g c is_known =
    let p = err_from_is_err_and c.from_residual.result c.from_residual.ensures.1 in
    let old = c.loop-log.invariant in
    rw (p.1, p.2)
    (frame_stopped g.C.Checker.words c.args.report (g.C.Checker.judges c.args.checker.now) (g.C.Checker.judges c.loop-log.checker) c.loop-log.frame c.in-Some.log c.next.new.self.rest.items _ _ _ _
    c.in_err-is_sound.field-0.0 old.judges (rw c.in-Some.ensures.steps.0 at old.puts is_known) (c.in_err-is_sound.ensures.puts (old.is_known is_known)))

pub loop-log-preserved : goal.loop-log-preserved
loop-log-preserved g c =
    let old = c.loop-log.invariant in
    let step = c.in-Some.ensures.steps.0 in
    let first = g.C.Checker.judges c.args.checker.now in
    let now = g.C.Checker.judges c.loop-log.checker in
    record {
      is_known = λ t. c.judge_frame.ensures.is_known (old.is_known t);
      judges = c.judge_frame.ensures.judges ∙ old.judges;
      keeps = g.met.C.Checker.keeps_both c.args.checker.now c.loop-log.checker c.judge_frame.new.checker old.keeps c.judge_frame.ensures.keeps;
      few = omega (arith, rw (step, sum_by-cons g.C.Checker.most_reads c.in-Some.log c.next.new.self.rest.items) at old.few, c.judge_frame.ensures.few);
      valid = (let all = rw step at old.valid in λ k d low. all (suc k) d (omega arith));
      counted = omega (arith, old.counted, ap length step);
      puts = λ t. frame_put g.C.Checker.words c.args.report first now c.loop-log.frame c.in-Some.log c.next.new.self.rest.items _ _ _ _ old.judges (rw step at old.puts t) (c.in_ok-is_sound.ensures.puts (old.is_known t));
      sound = λ t. frame_sound first now c.in-Some.log c.next.new.self.rest.items _ c.loop-log.sound c.in_ok-is_sound.is_sound old.judges (rw step at old.sound t) (c.in_ok-is_sound.ensures.sound (old.is_known t));
      later = omega (arith, old.later, c.judge_frame.ensures.later);
    }
