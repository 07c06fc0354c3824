use Rattle.std.proofs.Common.{◌≡◌, ◌∙◌, ◌+◌, ◌-◌, ◌&&◌, [], ℕ, inl, inr, refl, sym, subst, arith, length}
use Rattle.std.specs.Prelude.{codes}
use Rattle.std.proofs.lemmas.Result.{IfOk-weaker, IfErr-weaker, err_from_is_err_and}
use Rattle.std.specs.Io.KnownBytes.{Appends}
use Rattle.outside_io.specs.Bytes.{AppendsPrefix}
use Rattle.outside_io.specs.declared.status.Status.{Status}
use Rattle.job_seal.specs.declared.stop.ProofStop.{ProofStop}
use Rattle.job_seal.specs.declared.stop.ProofStop.TheVariants as stop
use Rattle.prune_log.specs.Spelling.{frame_bytes}
use Rattle.job_seal.specs.Proofs.{HasEnded, HasStopped}
use Rattle.job_seal.proofs.Frames.{Progress, one_more, ended, end_stops, reading_stops, frame_stops}
use Rattle.job_seal.proofs.proving.judge_frames.Goals as goal

pub returns-in-End-clause-ended : goal.returns-in-End-clause-ended
returns-in-End-clause-ended g c =
    let left0 = g.S.Source.left c.args.log_in.now in
    let left1 = g.S.Source.left c.frames.log_in in
    let left2 = g.S.Source.left c.next_frame.new.source in
    let w0 = (g.K.Sink.state c.args.out.now).written in
    let w1 = (g.K.Sink.state c.frames.out).written in
    let w2 = (g.K.Sink.state c.put_end.new.out).written in
    let reads = rw c.in-End.is at c.in_ok-body.ensures.reads in
    IfOk-weaker c.put_end.result (λ (s : Status). (s.0 ≡ c.end_status.result) × Appends w1 w2 c.end_text.result.now)
    (λ (s : Status). HasEnded c.args.root.now left0 left2 w0 w2 s.0)
    (λ (s : Status) is. ended c.args.root.now [] c.end_text.result.now left0 left1 left2 c.frames.room c.frames.frame c.frames.accepted s.0 w0 w1 w2 c.frames.invariant.shown reads.0 (omega arith) reads.1
    (inl (refl, c.end_text.ensures, is.0 ∙ c.end_status.ensures)) is.1)
    c.put_end.ensures.ends

pub returns-in-End-clause-stopped : goal.returns-in-End-clause-stopped
returns-in-End-clause-stopped g c =
    let left0 = g.S.Source.left c.args.log_in.now in
    let left1 = g.S.Source.left c.frames.log_in in
    let left2 = g.S.Source.left c.next_frame.new.source in
    let w0 = (g.K.Sink.state c.args.out.now).written in
    let w1 = (g.K.Sink.state c.frames.out).written in
    let w2 = (g.K.Sink.state c.put_end.new.out).written in
    let reads = rw c.in-End.is at c.in_ok-body.ensures.reads in
    IfErr-weaker c.put_end.result (λ (why : ProofStop). (why ≡ stop.Sink) × AppendsPrefix w1 w2 c.end_text.result.now)
    (λ (why : ProofStop). HasStopped c.args.root.now left0 left2 w0 w2 why)
    (λ (why : ProofStop) is. subst (λ (s : ProofStop). HasStopped c.args.root.now left0 left2 w0 w2 s) (sym is.0)
    (end_stops c.args.root.now [] c.end_text.result.now left0 left1 left2 c.frames.room c.frames.frame c.frames.accepted c.end_status.result w0 w1 w2 c.frames.invariant.shown reads.0 (omega arith) reads.1
    (inl (refl, c.end_text.ensures, c.end_status.ensures)) is.1))
    c.put_end.ensures.stops

pub returns-in-Cut-clause-ended : goal.returns-in-Cut-clause-ended
returns-in-Cut-clause-ended g c =
    let left0 = g.S.Source.left c.args.log_in.now in
    let left1 = g.S.Source.left c.frames.log_in in
    let left2 = g.S.Source.left c.next_frame.new.source in
    let w0 = (g.K.Sink.state c.args.out.now).written in
    let w1 = (g.K.Sink.state c.frames.out).written in
    let w2 = (g.K.Sink.state c.put_end-in-Cut.new.out).written in
    let reads = rw c.in-Cut.is at c.in_ok-body.ensures.reads in
    IfOk-weaker c.put_end-in-Cut.result (λ (s : Status). (s.0 ≡ 1) × Appends w1 w2 (codes "log rejected cut\n"))
    (λ (s : Status). HasEnded c.args.root.now left0 left2 w0 w2 s.0)
    (λ (s : Status) is. ended c.args.root.now reads.0 (codes "log rejected cut\n") left0 left1 left2 c.frames.room c.frames.frame c.frames.accepted s.0 w0 w1 w2 c.frames.invariant.shown reads.1 reads.2 reads.4
    (inr (reads.3, refl, is.0)) is.1)
    c.put_end-in-Cut.ensures.ends

pub returns-in-Cut-clause-stopped : goal.returns-in-Cut-clause-stopped
returns-in-Cut-clause-stopped g c =
    let left0 = g.S.Source.left c.args.log_in.now in
    let left1 = g.S.Source.left c.frames.log_in in
    let left2 = g.S.Source.left c.next_frame.new.source in
    let w0 = (g.K.Sink.state c.args.out.now).written in
    let w1 = (g.K.Sink.state c.frames.out).written in
    let w2 = (g.K.Sink.state c.put_end-in-Cut.new.out).written in
    let reads = rw c.in-Cut.is at c.in_ok-body.ensures.reads in
    IfErr-weaker c.put_end-in-Cut.result (λ (why : ProofStop). (why ≡ stop.Sink) × AppendsPrefix w1 w2 (codes "log rejected cut\n"))
    (λ (why : ProofStop). HasStopped c.args.root.now left0 left2 w0 w2 why)
    (λ (why : ProofStop) is. subst (λ (s : ProofStop). HasStopped c.args.root.now left0 left2 w0 w2 s) (sym is.0)
    (end_stops c.args.root.now reads.0 (codes "log rejected cut\n") left0 left1 left2 c.frames.room c.frames.frame c.frames.accepted 1 w0 w1 w2 c.frames.invariant.shown reads.1 reads.2 reads.4
    (inr (reads.3, refl, refl)) is.1))
    c.put_end-in-Cut.ensures.stops

pub returns-in_err-body-clause-stopped : goal.returns-in_err-body-clause-stopped
returns-in_err-body-clause-stopped g c =
    let p = err_from_is_err_and c.from_residual.result c.from_residual.ensures.1 in
    rw (p.1, p.2)
    (reading_stops c.args.root.now (g.S.Source.left c.args.log_in.now) (g.S.Source.left c.frames.log_in) (g.S.Source.left c.next_frame.new.source) c.frames.room c.frames.frame c.frames.accepted c.in_err-body.field-0.0
    (g.K.Sink.state c.args.out.now).written (g.K.Sink.state c.frames.out).written c.frames.invariant.shown c.in_err-body.ensures.stops)

pub returns-in_err-is_accepted-clause-stopped : goal.returns-in_err-is_accepted-clause-stopped
returns-in_err-is_accepted-clause-stopped g c =
    let reads = rw c.in-Frame.is at c.in_ok-body.ensures.reads in
    let p = err_from_is_err_and c.from_residual-in_err-is_accepted.result c.from_residual-in_err-is_accepted.ensures.1 in
    rw (p.1, p.2)
    (frame_stops c.args.root.now c.in-Frame.body.items (g.S.Source.left c.args.log_in.now) (g.S.Source.left c.frames.log_in) (g.S.Source.left c.next_frame.new.source) c.frames.room c.frames.frame c.frames.accepted c.in_err-is_accepted.field-0.0
    (g.K.Sink.state c.args.out.now).written (g.K.Sink.state c.frames.out).written (g.K.Sink.state c.judge_frame.new.out).written c.frames.invariant.shown reads.0 reads.1
    (rw c.deref.ensures.value at c.in_err-is_accepted.ensures.stops))

pub frames-preserved : goal.frames-preserved
frames-preserved g c =
    let reads = rw c.in-Frame.is at c.in_ok-body.ensures.reads in
    let step = one_more c.args.root.now c.in-Frame.body.items (g.S.Source.left c.args.log_in.now) (g.S.Source.left c.frames.log_in) (g.S.Source.left c.next_frame.new.source) c.frames.room c.frames.frame c.frames.accepted c.in_ok-is_accepted.is_accepted
    (g.K.Sink.state c.args.out.now).written (g.K.Sink.state c.frames.out).written (g.K.Sink.state c.judge_frame.new.out).written c.frames.invariant.shown reads.0 reads.1
    (rw c.deref.ensures.value at c.in_ok-is_accepted.ensures.puts) in
    let left : c.frames.room - length (frame_bytes c.in-Frame.body.items) ≡ c.frames.room - (8 + c.len.result) = (let size = c.len.ensures in omega (arith, size)) in
    record {
      shown = subst (λ (room : ℕ). Progress c.args.root.now (g.S.Source.left c.args.log_in.now) (g.S.Source.left c.next_frame.new.source) room (c.frames.frame + 1) (c.frames.accepted && c.in_ok-is_accepted.is_accepted)
          (g.K.Sink.state c.args.out.now).written (g.K.Sink.state c.judge_frame.new.out).written) left step;
      counted = (let before = c.frames.invariant.counted in let is_point = reads.1 in omega (arith, before, is_point));
      input_later = omega (arith, c.frames.invariant.input_later, c.in_ok-body.ensures.later);
      later = omega (arith, c.frames.invariant.later, c.judge_frame.ensures.later);
    }
