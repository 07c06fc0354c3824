use Rattle.std.proofs.Common.{rules, ◌≡◌, ◌∙◌, true, false, List, ℕ, sym, subst, arith}
use Rattle.std.specs.Prelude.{IsTrue, codes}
use Rattle.std.proofs.lemmas.Result.{IfOk-weaker, err_from_is_err_and}
use Rattle.outside_io.specs.declared.status.Status.{Status}
use Rattle.tree_shape.specs.declared.live.Live.{Live}
use Rattle.node_page.specs.declared.head.Head.{Head}
use Rattle.prune_log.specs.Reading.{log_at, frames_at}
use Rattle.job_files.specs.declared.logs.report.Report.TheVariants as report
use Rattle.job_files.specs.Logs.Files.{fault_of}
use Rattle.job_files.specs.Logs.Jobs.{Puts, stop_of}
use Rattle.job_files.specs.Logs.JobReports.{JobReport, on_logs}
use Rattle.job_files.proofs.Published.{file_stopped, file_unsound, unsound_status, file_then, sound_status}
use Rattle.job_logs.specs.Lines.{log_words}
use Rattle.job_logs.specs.Jobs.{judge_of}
use Rattle.job_logs.proofs.opened.check_opened.Goals as goal
use Rattle.outside_io.proofs.Published.{rose_before}

-- what is said of the file's logs
abbrev said_on : List ℕ → Head → Live → List ℕ → JobReport
said_on file head live bytes = on_logs log_words report.Answers (judge_of file head live) (frames_at log_at bytes)

pub returns-in_err-sound-clause-puts : goal.returns-in_err-sound-clause-puts
returns-in_err-sound-clause-puts g c is_known =
    let p = err_from_is_err_and c.from_residual.result c.from_residual.ensures.1 in
    let file = (g.D.Disk.state c.args.index.now).bytes in
    let head = c.args.opened.now.0 in
    let live = c.args.opened.now.1 in
    rw (p.1, p.2) (file_stopped (codes "file") (fault_of file head live) (said_on file head live c.args.bytes.now) _ _ c.in_err-sound.field-0.0 (c.in_err-sound.ensures.puts is_known))

pub returns-then-not-sound-clause-puts : goal.returns-then-not-sound-clause-puts
returns-then-not-sound-clause-puts g c is_known =
    let no : c.in_ok-sound.sound ≡ false = search rules in
    let file = (g.D.Disk.state c.args.index.now).bytes in
    let head = c.args.opened.now.0 in
    let live = c.args.opened.now.1 in
    file_unsound (codes "file") (fault_of file head live) (said_on file head live c.args.bytes.now) _ _ (sym (c.in_ok-sound.ensures.sound is_known) ∙ no) (c.in_ok-sound.ensures.puts is_known)

pub returns-then-not-sound-clause-status : goal.returns-then-not-sound-clause-status
returns-then-not-sound-clause-status g c is_known =
    let no : c.in_ok-sound.sound ≡ false = search rules in
    let file = (g.D.Disk.state c.args.index.now).bytes in
    let head = c.args.opened.now.0 in
    let live = c.args.opened.now.1 in
    sym (unsound_status (codes "file") (fault_of file head live) (said_on file head live c.args.bytes.now) (sym (c.in_ok-sound.ensures.sound is_known) ∙ no))

pub returns-clause-puts : goal.returns-clause-puts
returns-clause-puts g c is_known =
    let same = c.in_ok-sound.ensures.same in
    let file = (g.D.Disk.state c.args.index.now).bytes in
    let head = c.args.opened.now.0 in
    let live = c.args.opened.now.1 in
    let bytes = c.args.bytes.now in
    let w0 = (g.K.Sink.state c.args.out.now).written in
    let w1 = (g.K.Sink.state c.put_audit.new.out).written in
    let w2 = (g.K.Sink.state c.judge_opened.new.out).written in
    let yes : c.in_ok-sound.sound ≡ true = search rules in
    let rest = subst (λ (x : List ℕ). Puts (said_on x head live bytes).texts w1 w2 (stop_of c.judge_opened.result)) same.same_bytes
    (c.judge_opened.ensures.puts (subst IsTrue (sym same.same_known) is_known)) in
    file_then (codes "file") (fault_of file head live) (said_on file head live bytes) w0 w1 w2 (stop_of c.judge_opened.result) (sym (c.in_ok-sound.ensures.sound is_known) ∙ yes) (c.in_ok-sound.ensures.puts is_known) rest

pub returns-clause-status : goal.returns-clause-status
returns-clause-status g c =
    let same = c.in_ok-sound.ensures.same in
    let head = c.args.opened.now.0 in
    let live = c.args.opened.now.1 in
    let bytes = c.args.bytes.now in
    let d0 = g.D.Disk.state c.args.index.now in
    let d1 = g.D.Disk.state c.put_audit.new.disk in
    let yes : c.in_ok-sound.sound ≡ true = search rules in
    IfOk-weaker c.judge_opened.result (λ (s : Status). IsTrue d1.is_known → s.0 ≡ (said_on d1.bytes head live bytes).status) _
    (λ (s : Status) is is_known. subst (λ (x : List ℕ). s.0 ≡ (said_on x head live bytes).status) same.same_bytes (is (subst IsTrue (sym same.same_known) is_known))
    ∙ sym (sound_status (codes "file") (fault_of d0.bytes head live) (said_on d0.bytes head live bytes) (sym (c.in_ok-sound.ensures.sound is_known) ∙ yes)))
    c.judge_opened.ensures.status

pub returns-clause-disk : goal.returns-clause-disk
returns-clause-disk g c is = rose_before _ (g.D.Disk.state c.put_audit.new.disk).faults _ c.in_ok-sound.ensures.later (c.judge_opened.ensures.disk is)

pub returns-in_err-sound-clause-reads : goal.returns-in_err-sound-clause-reads
returns-in_err-sound-clause-reads g c = omega (arith, c.in_err-sound.ensures.reads)

pub returns-then-not-sound-clause-reads : goal.returns-then-not-sound-clause-reads
returns-then-not-sound-clause-reads g c = omega (arith, c.in_ok-sound.ensures.reads)

pub returns-clause-reads : goal.returns-clause-reads
returns-clause-reads g c = omega (arith, c.in_ok-sound.ensures.reads, c.judge_opened.ensures.reads)
