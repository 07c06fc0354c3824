use Rattle.std.proofs.Common.{◌≡◌, refl, sym, subst}
use Rattle.std.specs.Prelude.{IsTrue}
use Rattle.std.proofs.lemmas.Result.{IfOk-weaker}
use Rattle.metric_mix.specs.MixSpaces.{mix_space}
use Rattle.metric_mix.specs.MixKinds.{mix_kind, mix_dim}
use Rattle.outside_io.specs.declared.status.Status.{Status}
use Rattle.page_store.specs.Reading.{reading_in}
use Rattle.log_verify.specs.JoinJudged.{join_fault}
use Rattle.prune_log.specs.Reading.{join_log_at, frames_at}
use Rattle.job_files.specs.Logs.Jobs.{Puts, stop_of}
use Rattle.job_files.specs.Logs.JobReports.{on_logs}
use Rattle.job_join.specs.Lines.{Judge, join_words}
use Rattle.job_join.specs.Trees.{tree_of, judge_of}
use Rattle.job_join.proofs.opened.judge_opened.Goals as goal

pub returns-clause-puts : goal.returns-clause-puts
returns-clause-puts g c t u =
    let p = c.from_parts-left_pages.result.inner in
    let q = c.from_parts-right_pages.result.inner in
    let m = c.space_of-space.result in
    let dp = g.D.Disk.state p.disk.now in
    let dq = g.E.Disk.state q.disk.now in
    let l = c.args.trees.now.left in
    let r = c.args.trees.now.right in
    let d = g.D.Disk.state c.args.index.now in
    let e = g.E.Disk.state c.args.other.now in
    let judge = join_fault (mix_space (mix_kind m) (mix_dim m)) (reading_in p.version p.dim p.pages dp.bytes) (reading_in q.version q.dim q.pages dq.bytes) l.1 r.1 in
    let told : judge ≡ judge_of (tree_of d l) (tree_of e r) =
    rw (c.from_parts-left_pages.ensures, c.from_parts-right_pages.ensures, c.new-left_pages.ensures.version, c.new-left_pages.ensures.dim, c.new-left_pages.ensures.pages, c.new-left_pages.ensures.same, c.new-right_pages.ensures.version, c.new-right_pages.ensures.dim, c.new-right_pages.ensures.pages, c.new-right_pages.ensures.same, c.space_of-space.ensures.kind, c.space_of-space.ensures.dim) refl in
    let is_known : dp.is_known ≡ d.is_known = rw (c.from_parts-left_pages.ensures, c.new-left_pages.ensures.same) refl in
    let other_known : dq.is_known ≡ e.is_known = rw (c.from_parts-right_pages.ensures, c.new-right_pages.ensures.same) refl in
    subst (λ (j : Judge). Puts (on_logs join_words c.args.request.now.report j (frames_at join_log_at c.args.request.now.bytes.now)).texts (g.K.Sink.state c.args.out.now).written (g.K.Sink.state c.judge_bytes-judged.new.out).written (stop_of c.judge_bytes-judged.result)) told
    (c.judge_bytes-judged.ensures.puts (subst IsTrue (sym is_known) t, subst IsTrue (sym other_known) u))

pub returns-clause-status : goal.returns-clause-status
returns-clause-status g c =
    let p = c.from_parts-left_pages.result.inner in
    let q = c.from_parts-right_pages.result.inner in
    let m = c.space_of-space.result in
    let dp = g.D.Disk.state p.disk.now in
    let dq = g.E.Disk.state q.disk.now in
    let l = c.args.trees.now.left in
    let r = c.args.trees.now.right in
    let d = g.D.Disk.state c.args.index.now in
    let e = g.E.Disk.state c.args.other.now in
    let judge = join_fault (mix_space (mix_kind m) (mix_dim m)) (reading_in p.version p.dim p.pages dp.bytes) (reading_in q.version q.dim q.pages dq.bytes) l.1 r.1 in
    let told : judge ≡ judge_of (tree_of d l) (tree_of e r) =
    rw (c.from_parts-left_pages.ensures, c.from_parts-right_pages.ensures, c.new-left_pages.ensures.version, c.new-left_pages.ensures.dim, c.new-left_pages.ensures.pages, c.new-left_pages.ensures.same, c.new-right_pages.ensures.version, c.new-right_pages.ensures.dim, c.new-right_pages.ensures.pages, c.new-right_pages.ensures.same, c.space_of-space.ensures.kind, c.space_of-space.ensures.dim) refl in
    let is_known : dp.is_known ≡ d.is_known = rw (c.from_parts-left_pages.ensures, c.new-left_pages.ensures.same) refl in
    let other_known : dq.is_known ≡ e.is_known = rw (c.from_parts-right_pages.ensures, c.new-right_pages.ensures.same) refl in
    IfOk-weaker c.judge_bytes-judged.result (λ (s : Status). IsTrue dp.is_known × IsTrue dq.is_known → s.0 ≡ (on_logs join_words c.args.request.now.report judge (frames_at join_log_at c.args.request.now.bytes.now)).status) _
    (λ (s : Status) is t u. subst (λ (j : Judge). s.0 ≡ (on_logs join_words c.args.request.now.report j (frames_at join_log_at c.args.request.now.bytes.now)).status) told
    (is (subst IsTrue (sym is_known) t, subst IsTrue (sym other_known) u)))
    c.judge_bytes-judged.ensures.status
