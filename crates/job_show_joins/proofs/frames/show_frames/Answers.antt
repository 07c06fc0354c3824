use Rattle.std.proofs.Common.{rules, ◌≡◌, suc, length, ap, refl, arith}
use Rattle.std.proofs.lemmas.Result.{err_from_is_err_and}
use Rattle.page_store.specs.Shelf.{Shelf}
use Rattle.job_show.proofs.Published.{begun}
use Rattle.job_show_joins.proofs.PairSteps.{hold_none, hold_both}
use Rattle.job_show_joins.proofs.PairFraming.{frame_put, frame_stopped, frame_sound}
use Rattle.job_show_joins.proofs.frames.show_frames.Goals as goal

pub loop-log-init : goal.loop-log-init
loop-log-init g c =
    let all : c.into_iter-log-iterator.result.rest.items ≡ c.args.logs.items = search rules in
    record {
      same = hold_none (g.P.Pages.shelf c.args.left.now) (g.Q.Pages.shelf c.args.right.now);
      left_keeps = g.met.P.Pages.keeps_none c.args.left.now;
      right_keeps = g.met.Q.Pages.keeps_none c.args.right.now;
      valid = rw all c.requires;
      counted = omega (arith, ap length all);
      puts = λ t u. rw all (begun _ (g.K.Sink.state c.args.out.now).written);
      sound = λ t u. rw all refl;
      later = omega arith;
    }

pub returns-in_err-is_sound-clause-puts : goal.returns-in_err-is_sound-clause-puts
returns-in_err-is_sound-clause-puts g c t u =
    let p = err_from_is_err_and c.from_residual.result c.from_residual.ensures.1 in
    let old = c.loop-log.invariant in
    rw (p.1, p.2)
    (frame_stopped c.args.view.now (g.P.Pages.shelf c.args.left.now) (g.P.Pages.shelf c.loop-log.left) (g.Q.Pages.shelf c.args.right.now) (g.Q.Pages.shelf c.loop-log.right) old.same c.loop-log.frame c.in-Some.log c.next.new.self.rest.items _ _ _ _
    c.in_err-is_sound.field-0.0 (rw c.in-Some.ensures.steps.0 at old.puts t u) (c.in_err-is_sound.ensures.puts (rw old.same.left.is_known t) (rw old.same.right.is_known u)))

pub loop-log-preserved : goal.loop-log-preserved
loop-log-preserved g c =
    let old = c.loop-log.invariant in
    let step = c.in-Some.ensures.steps.0 in
    let l : Shelf = g.P.Pages.shelf c.args.left.now in
    let lm : Shelf = g.P.Pages.shelf c.loop-log.left in
    let r : Shelf = g.Q.Pages.shelf c.args.right.now in
    let rm : Shelf = g.Q.Pages.shelf c.loop-log.right in
    let told = c.in_ok-is_sound.ensures in
    record {
      same = hold_both l lm _ r rm _ old.same c.show_frame.ensures.same;
      left_keeps = g.met.P.Pages.keeps_both c.args.left.now c.loop-log.left c.show_frame.new.left old.left_keeps c.show_frame.ensures.left_keeps;
      right_keeps = g.met.Q.Pages.keeps_both c.args.right.now c.loop-log.right c.show_frame.new.right old.right_keeps c.show_frame.ensures.right_keeps;
      valid = (let all = rw step at old.valid in λ k d low. all (suc k) d (omega arith));
      counted = omega (arith, old.counted, ap length step);
      puts = λ t u. frame_put c.args.view.now l lm r rm old.same c.loop-log.frame c.in-Some.log c.next.new.self.rest.items _ _ _ _ (rw step at old.puts t u) (told.puts (rw old.same.left.is_known t) (rw old.same.right.is_known u));
      sound = λ t u. frame_sound c.args.view.now l lm r rm old.same c.loop-log.frame c.in-Some.log c.next.new.self.rest.items _ c.loop-log.sound c.in_ok-is_sound.is_sound (rw step at old.sound t u) (told.sound (rw old.same.left.is_known t) (rw old.same.right.is_known u));
      later = omega (arith, old.later, c.show_frame.ensures.later);
    }

pub returns-in_err-is_sound-clause-left_keeps : goal.returns-in_err-is_sound-clause-left_keeps
returns-in_err-is_sound-clause-left_keeps g c =
    g.met.P.Pages.keeps_both c.args.left.now c.loop-log.left c.show_frame.new.left c.loop-log.invariant.left_keeps c.show_frame.ensures.left_keeps

pub returns-in_err-is_sound-clause-right_keeps : goal.returns-in_err-is_sound-clause-right_keeps
returns-in_err-is_sound-clause-right_keeps g c =
    g.met.Q.Pages.keeps_both c.args.right.now c.loop-log.right c.show_frame.new.right c.loop-log.invariant.right_keeps c.show_frame.ensures.right_keeps
