use Rattle.std.proofs.Common.{◌≡◌, Bool, refl, sym, subst}
use Rattle.std.specs.Prelude.{IsTrue, IfOk}
use Rattle.metric_mix.specs.MixSpaces.{mix_space}
use Rattle.metric_mix.specs.MixKinds.{mix_kind, mix_dim}
use Rattle.page_store.specs.Reading.{reading_in}
use Rattle.log_verify.specs.Judged.{log_fault}
use Rattle.prune_log.specs.Reading.{log_at, frames_at}
use Rattle.job_files.specs.Logs.Jobs.{Puts, stop_of}
use Rattle.job_files.specs.Logs.JobReports.{on_logs}
use Rattle.job_logs.specs.Lines.{Judge, log_words}
use Rattle.job_logs.specs.Jobs.{judge_of}
use Rattle.job_logs.proofs.opened.judge_opened.Goals as goal

pub returns-clause-status : goal.returns-clause-status
returns-clause-status g c =
    let p = c.from_parts-pages.result.inner in
    let m = c.space_of-space.result in
    let head = c.args.opened.now.0 in
    let live = c.args.opened.now.1 in
    let told : log_fault (mix_space (mix_kind m) (mix_dim m)) (reading_in p.version p.dim p.pages (g.D.Disk.state p.disk.now).bytes) live
    ≡ judge_of (g.D.Disk.state c.args.index.now).bytes head live =
    rw (c.from_parts-pages.ensures, c.new-pages.ensures.version, c.new-pages.ensures.dim, c.new-pages.ensures.pages, c.new-pages.ensures.same, c.space_of-space.ensures.kind, c.space_of-space.ensures.dim) refl in
    let is_known : (g.D.Disk.state p.disk.now).is_known ≡ (g.D.Disk.state c.args.index.now).is_known = rw (c.from_parts-pages.ensures, c.new-pages.ensures.same) refl in
    subst (λ (t : Bool). IfOk c.judge_bytes-judged.result (λ status. IsTrue t → status.0 ≡ (on_logs log_words c.args.report (judge_of (g.D.Disk.state c.args.index.now).bytes head live) (frames_at log_at c.args.bytes.now)).status)) is_known
    (subst (λ (judge : Judge). IfOk c.judge_bytes-judged.result (λ status. IsTrue (g.D.Disk.state p.disk.now).is_known → status.0 ≡ (on_logs log_words c.args.report judge (frames_at log_at c.args.bytes.now)).status)) told c.judge_bytes-judged.ensures.status)

pub returns-clause-puts : goal.returns-clause-puts
returns-clause-puts g c told_bytes =
    let p = c.from_parts-pages.result.inner in
    let m = c.space_of-space.result in
    let head = c.args.opened.now.0 in
    let live = c.args.opened.now.1 in
    let told : log_fault (mix_space (mix_kind m) (mix_dim m)) (reading_in p.version p.dim p.pages (g.D.Disk.state p.disk.now).bytes) live
    ≡ judge_of (g.D.Disk.state c.args.index.now).bytes head live =
    rw (c.from_parts-pages.ensures, c.new-pages.ensures.version, c.new-pages.ensures.dim, c.new-pages.ensures.pages, c.new-pages.ensures.same, c.space_of-space.ensures.kind, c.space_of-space.ensures.dim) refl in
    let is_known : (g.D.Disk.state p.disk.now).is_known ≡ (g.D.Disk.state c.args.index.now).is_known = rw (c.from_parts-pages.ensures, c.new-pages.ensures.same) refl in
    subst (λ (judge : Judge). Puts (on_logs log_words c.args.report judge (frames_at log_at c.args.bytes.now)).texts (g.K.Sink.state c.args.out.now).written (g.K.Sink.state c.judge_bytes-judged.new.out).written (stop_of c.judge_bytes-judged.result)) told
    (c.judge_bytes-judged.ensures.puts (subst IsTrue (sym is_known) told_bytes))
