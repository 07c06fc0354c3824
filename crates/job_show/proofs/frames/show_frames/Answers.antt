use Rattle.std.proofs.Common.{rules, ◌≡◌, suc, length, ap, refl, arith}
use Rattle.std.proofs.lemmas.Result.{err_from_is_err_and}
use Rattle.page_store.proofs.Published.{holds_none, holds_both}
use Rattle.job_show.specs.Steps.{texts_by}
use Rattle.job_show.proofs.PutTexts.{begun}
use Rattle.job_show.proofs.Framing.{frame_put, frame_stopped, frame_sound}
use Rattle.job_show.proofs.frames.show_frames.Goals as goal

pub loop-log-init : goal.loop-log-init
loop-log-init g c =
    let all : c.into_iter-log-iterator.result.rest.items ≡ c.args.logs.items = search rules in
    record {
      same = holds_none (g.P.Pages.shelf c.args.pages.now);
      keeps = g.met.P.Pages.keeps_none c.args.pages.now;
      valid = rw all c.requires;
      counted = omega (arith, ap length all);
      puts = λ t. rw all (begun _ (g.K.Sink.state c.args.out.now).written);
      sound = λ t. rw all refl;
      later = omega arith;
    }

pub returns-in_err-is_sound-clause-puts : goal.returns-in_err-is_sound-clause-puts
returns-in_err-is_sound-clause-puts g c is_known =
    let p = err_from_is_err_and c.from_residual.result c.from_residual.ensures.1 in
    let old = c.loop-log.invariant in
    let texts = texts_by c.args.view.now (g.P.Pages.shelf c.args.pages.now).read 0 c.args.logs.items in
    let w0 = (g.K.Sink.state c.args.out.now).written in
    let w1 = (g.K.Sink.state c.loop-log.out).written in
    let w2 = (g.K.Sink.state c.show_frame.new.out).written in
    rw (p.1, p.2)
    (frame_stopped c.args.view.now (g.P.Pages.shelf c.args.pages.now) (g.P.Pages.shelf c.loop-log.pages) old.same c.loop-log.frame c.in-Some.log c.next.new.self.rest.items texts w0 w1 w2
    c.in_err-is_sound.field-0.0 (rw c.in-Some.ensures.steps.0 at old.puts is_known) (c.in_err-is_sound.ensures.puts (rw old.same.is_known is_known)))

pub loop-log-preserved : goal.loop-log-preserved
loop-log-preserved g c =
    let old = c.loop-log.invariant in
    let step = c.in-Some.ensures.steps.0 in
    let first = g.P.Pages.shelf c.args.pages.now in
    let now = g.P.Pages.shelf c.loop-log.pages in
    let told = c.in_ok-is_sound.ensures in
    let texts = texts_by c.args.view.now first.read 0 c.args.logs.items in
    let w0 = (g.K.Sink.state c.args.out.now).written in
    let w1 = (g.K.Sink.state c.loop-log.out).written in
    let w2 = (g.K.Sink.state c.show_frame.new.out).written in
    record {
      same = holds_both first now _ old.same c.show_frame.ensures.same;
      keeps = g.met.P.Pages.keeps_both c.args.pages.now c.loop-log.pages c.show_frame.new.pages old.keeps c.show_frame.ensures.keeps;
      valid = (let all = rw step at old.valid in λ k d low. all (suc k) d (omega arith));
      counted = omega (arith, old.counted, ap length step);
      puts = λ t. frame_put c.args.view.now first now old.same c.loop-log.frame c.in-Some.log c.next.new.self.rest.items texts w0 w1 w2 (rw step at old.puts t) (told.puts (rw old.same.is_known t));
      sound = λ t. frame_sound c.args.view.now first now old.same c.loop-log.frame c.in-Some.log c.next.new.self.rest.items _ c.loop-log.sound c.in_ok-is_sound.is_sound (rw step at old.sound t) (told.sound (rw old.same.is_known t));
      later = omega (arith, old.later, c.show_frame.ensures.later);
    }
