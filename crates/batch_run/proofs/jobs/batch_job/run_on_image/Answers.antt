use Rattle.std.proofs.Common.{◌≡◌, ◌∙◌, ℕ, [], length, refl, sym, ap, subst, arith}
use Rattle.std.specs.Prelude.{codes}
use Rattle.std.specs.List.{AllZip}
use Rattle.outside_io.specs.Causes.{Rose}
use Rattle.metric_mix.specs.MixKinds.{mix_dim, mix_kind}
use Rattle.metric_mix.specs.MixSpaces.{mix_space}
use Rattle.rows_text.specs.Script.{script}
use Rattle.answer_texts.proofs.Published.{memory_ends}
use Rattle.page_store.specs.Images.{bytes_in}
use Rattle.batch_run.specs.Dealing.{Rounds}
use Rattle.batch_run.specs.Jobs.Preparing.{AreStacked, IsPreparedFor}
use Rattle.batch_run.proofs.jobs.Piling.{stacked, zipped_in}
use Rattle.job_files.specs.Spaces.{space_of}
use Rattle.batch_run.proofs.jobs.Running.{all_put, finished, out_of_memory, stopped, unread}
use Rattle.batch_run.proofs.jobs.batch_job.run_on_image.Goals as goal

pub returns-in_default-clause-runs : goal.returns-in_default-clause-runs
returns-in_default-clause-runs g c = λ sound.
    let head = c.args.head.now in
    unread (space_of head) c.args.live.now (bytes_in c.args.image) c.args.task.now.show_tags c.args.task.now.bytes.now (g.K.Sink.state c.args.out.now) (g.T.Sink.state c.args.log_out.now) (g.K.Sink.state c.end_with.new.out)
    (codes "fault memory\n") c.end_with.result.0 c.end_with.ensures.line
    (λ rest line. memory_ends (Rose (g.K.Sink.state c.args.out.now).faults (g.K.Sink.state c.end_with.new.out).faults) _ (script head.dim c.args.task.now.bytes.now) rest [] c.end_with.result.0 c.end_with.ensures.status line)

pub returns-in_default-prepare_all-clause-runs : goal.returns-in_default-prepare_all-clause-runs
returns-in_default-prepare_all-clause-runs g c = λ sound.
    let head = c.args.head.now in
    unread (space_of head) c.args.live.now (bytes_in c.args.image) c.args.task.now.show_tags c.args.task.now.bytes.now (g.K.Sink.state c.args.out.now) (g.T.Sink.state c.args.log_out.now) (g.K.Sink.state c.end_with-in_default-prepare_all.new.out)
    (codes "fault memory\n") c.end_with-in_default-prepare_all.result.0 c.end_with-in_default-prepare_all.ensures.line
    (λ rest line. memory_ends (Rose (g.K.Sink.state c.args.out.now).faults (g.K.Sink.state c.end_with-in_default-prepare_all.new.out).faults) _ (script head.dim c.args.task.now.bytes.now) rest [] c.end_with-in_default-prepare_all.result.0 c.end_with-in_default-prepare_all.ensures.status line)

pub returns-in_default-in_turn-clause-runs : goal.returns-in_default-in_turn-clause-runs
returns-in_default-in_turn-clause-runs g c = λ sound.
    let head = c.args.head.now in
    unread (space_of head) c.args.live.now (bytes_in c.args.image) c.args.task.now.show_tags c.args.task.now.bytes.now (g.K.Sink.state c.args.out.now) (g.T.Sink.state c.args.log_out.now) (g.K.Sink.state c.end_with-in_default-in_turn.new.out)
    (codes "fault memory\n") c.end_with-in_default-in_turn.result.0 c.end_with-in_default-in_turn.ensures.line
    (λ rest line. memory_ends (Rose (g.K.Sink.state c.args.out.now).faults (g.K.Sink.state c.end_with-in_default-in_turn.new.out).faults) _ (script head.dim c.args.task.now.bytes.now) rest [] c.end_with-in_default-in_turn.result.0 c.end_with-in_default-in_turn.ensures.status line)

pub in_turn-requires-clause-stacked : goal.in_turn-requires-clause-stacked
in_turn-requires-clause-stacked g c =
    let count : c.len-2.result ≡ length c.deref.result.now = omega (arith, c.len-2.ensures, c.deref.ensures.len) in
    let d : Rounds = record { rounds = c.of-deal.result.rounds; workers = c.of-deal.result.workers } in
    subst (λ (n : ℕ). AreStacked d n c.deref-2.result.now) (sym count)
    (stacked (mix_space (mix_kind c.space_of-space.result) (mix_dim c.space_of-space.result)) c.args.live.now (bytes_in c.args.image) c.args.task.now.show_tags c.deref.result.now d c.deref-2.result.now
    (rw c.deref-2.ensures.value c.in-Ok-prepare_all.ensures) c.of-deal.ensures.rounds.0)

pub returns-in-Ok-put_all-clause-runs : goal.returns-in-Ok-put_all-clause-runs
returns-in-Ok-put_all-clause-runs g c = λ sound.
    let head = c.args.head.now in
    let same : mix_space (mix_kind c.space_of-space.result) (mix_dim c.space_of-space.result) ≡ space_of head = λ i. mix_space (c.space_of-space.ensures.kind i) (c.space_of-space.ensures.dim i) in
    let count : c.len-2.result ≡ length c.deref.result.now = omega (arith, c.len-2.ensures, c.deref.ensures.len) in
    let d : Rounds = record { rounds = c.of-deal.result.rounds; workers = c.of-deal.result.workers } in
    let zipped : AllZip (IsPreparedFor (space_of head) c.args.live.now (bytes_in c.args.image) c.args.task.now.show_tags) c.deref.result.now c.deref-3.result.now =
    zipped_in (mix_space (mix_kind c.space_of-space.result) (mix_dim c.space_of-space.result)) (space_of head) c.args.live.now (bytes_in c.args.image) c.args.task.now.show_tags c.deref.result.now d c.len-2.result
    c.deref-2.result.now c.deref-3.result.now same count (rw c.deref-2.ensures.value c.in-Ok-prepare_all.ensures) (rw c.deref-3.ensures.value c.in-Ok-in_turn.ensures) in
    all_put (space_of head) c.args.live.now (bytes_in c.args.image) c.args.task.now.show_tags c.args.task.now.bytes.now (g.K.Sink.state c.args.out.now) (g.T.Sink.state c.args.log_out.now) sound c.deref.result.now c.deref-3.result.now
    (c.deref.ensures.value ∙ c.in-Ok.ensures.script ∙ ap (λ (w : ℕ). script w c.args.task.now.bytes.now) (c.dimension.ensures ∙ c.space_of-space.ensures.dim)) zipped
    (g.K.Sink.state c.put_all.new.out) (g.T.Sink.state c.put_all.new.log_out) (rw c.in-Ok-put_all.is at c.put_all.ensures.put)

pub returns-clause-runs : goal.returns-clause-runs
returns-clause-runs g c = λ sound.
    let head = c.args.head.now in
    let same : mix_space (mix_kind c.space_of-space.result) (mix_dim c.space_of-space.result) ≡ space_of head = λ i. mix_space (c.space_of-space.ensures.kind i) (c.space_of-space.ensures.dim i) in
    let count : c.len-2.result ≡ length c.deref.result.now = omega (arith, c.len-2.ensures, c.deref.ensures.len) in
    let d : Rounds = record { rounds = c.of-deal.result.rounds; workers = c.of-deal.result.workers } in
    let zipped : AllZip (IsPreparedFor (space_of head) c.args.live.now (bytes_in c.args.image) c.args.task.now.show_tags) c.deref.result.now c.deref-3.result.now =
    zipped_in (mix_space (mix_kind c.space_of-space.result) (mix_dim c.space_of-space.result)) (space_of head) c.args.live.now (bytes_in c.args.image) c.args.task.now.show_tags c.deref.result.now d c.len-2.result
    c.deref-2.result.now c.deref-3.result.now same count (rw c.deref-2.ensures.value c.in-Ok-prepare_all.ensures) (rw c.deref-3.ensures.value c.in-Ok-in_turn.ensures) in
    stopped (space_of head) c.args.live.now (bytes_in c.args.image) c.args.task.now.show_tags c.args.task.now.bytes.now (g.K.Sink.state c.args.out.now) (g.T.Sink.state c.args.log_out.now) sound c.deref.result.now c.deref-3.result.now
    (c.deref.ensures.value ∙ c.in-Ok.ensures.script ∙ ap (λ (w : ℕ). script w c.args.task.now.bytes.now) (c.dimension.ensures ∙ c.space_of-space.ensures.dim)) zipped
    (g.K.Sink.state c.put_all.new.out) (g.T.Sink.state c.put_all.new.log_out) c.in-Err.why c.end_stopped.result.0 (g.K.Sink.state c.end_stopped.new.out) c.in-Err.ensures.put c.put_all.ensures.later
    c.end_stopped.ensures.ended

pub returns-clause-finished : goal.returns-clause-finished
returns-clause-finished g c =
    let head = c.args.head.now in
    let same : mix_space (mix_kind c.space_of-space.result) (mix_dim c.space_of-space.result) ≡ space_of head = λ i. mix_space (c.space_of-space.ensures.kind i) (c.space_of-space.ensures.dim i) in
    let count : c.len-2.result ≡ length c.deref.result.now = omega (arith, c.len-2.ensures, c.deref.ensures.len) in
    let d : Rounds = record { rounds = c.of-deal.result.rounds; workers = c.of-deal.result.workers } in
    let zipped : AllZip (IsPreparedFor (space_of head) c.args.live.now (bytes_in c.args.image) c.args.task.now.show_tags) c.deref.result.now c.deref-3.result.now =
    zipped_in (mix_space (mix_kind c.space_of-space.result) (mix_dim c.space_of-space.result)) (space_of head) c.args.live.now (bytes_in c.args.image) c.args.task.now.show_tags c.deref.result.now d c.len-2.result
    c.deref-2.result.now c.deref-3.result.now same count (rw c.deref-2.ensures.value c.in-Ok-prepare_all.ensures) (rw c.deref-3.ensures.value c.in-Ok-in_turn.ensures) in
    finished (space_of head) c.args.live.now (bytes_in c.args.image) c.args.task.now.show_tags c.deref.result.now c.deref-3.result.now (g.K.Sink.state c.args.out.now) (g.K.Sink.state c.put_all.new.out)
    (g.K.Sink.state c.end_stopped.new.out) (g.T.Sink.state c.args.log_out.now) (g.T.Sink.state c.put_all.new.log_out) c.in-Err.why c.end_stopped.result.0 zipped c.in-Err.ensures.put c.put_all.ensures.later c.end_stopped.ensures.later
    c.end_stopped.ensures.ended (λ is. c.in-Err.ensures.rose (rw is refl))

pub returns-in_default-clause-finished : goal.returns-in_default-clause-finished
returns-in_default-clause-finished g c = out_of_memory (space_of c.args.head.now) c.args.live.now (bytes_in c.args.image) (g.K.Sink.state c.args.out.now) (g.K.Sink.state c.end_with.new.out) (g.T.Sink.state c.args.log_out.now) c.end_with.result.0 c.end_with.ensures.status c.end_with.ensures.line

pub returns-in_default-prepare_all-clause-finished : goal.returns-in_default-prepare_all-clause-finished
returns-in_default-prepare_all-clause-finished g c = out_of_memory (space_of c.args.head.now) c.args.live.now (bytes_in c.args.image) (g.K.Sink.state c.args.out.now) (g.K.Sink.state c.end_with-in_default-prepare_all.new.out) (g.T.Sink.state c.args.log_out.now) c.end_with-in_default-prepare_all.result.0 c.end_with-in_default-prepare_all.ensures.status c.end_with-in_default-prepare_all.ensures.line

pub returns-in_default-in_turn-clause-finished : goal.returns-in_default-in_turn-clause-finished
returns-in_default-in_turn-clause-finished g c = out_of_memory (space_of c.args.head.now) c.args.live.now (bytes_in c.args.image) (g.K.Sink.state c.args.out.now) (g.K.Sink.state c.end_with-in_default-in_turn.new.out) (g.T.Sink.state c.args.log_out.now) c.end_with-in_default-in_turn.result.0 c.end_with-in_default-in_turn.ensures.status c.end_with-in_default-in_turn.ensures.line
