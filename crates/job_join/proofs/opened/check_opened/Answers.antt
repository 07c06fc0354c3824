use Rattle.std.proofs.Common.{rules, ◌≡◌, ◌∙◌, ⊎_elim, inl, inr, true, false, List, None, ℕ, sym, subst}
use Rattle.std.specs.Prelude.{IsTrue, codes}
use Rattle.std.proofs.lemmas.Result.{IfOk-weaker, err_from_is_err_and}
use Rattle.outside_io.specs.declared.status.Status.{Status}
use Rattle.job_files.specs.declared.logs.report.Report.TheVariants as report
use Rattle.job_files.specs.Logs.Jobs.{Puts, stop_of}
use Rattle.job_files.specs.Logs.JobReports.{JobReport, on_file}
use Rattle.job_files.proofs.Published.{file_stopped, file_unsound, unsound_status, file_then, sound_status}
use Rattle.job_join.specs.Trees.{Tree, tree_of, fault_of, said_of_logs}
use Rattle.job_join.proofs.opened.check_opened.Goals as goal
use Rattle.outside_io.proofs.Published.{rose_before}

-- what is said of the other file, and of the logs where it is sound
abbrev on_other : Tree → Tree → List ℕ → JobReport
on_other left right bytes = on_file (codes "other") (fault_of right) (said_of_logs report.Answers left right bytes)

pub returns-in_err-sound-clause-puts : goal.returns-in_err-sound-clause-puts
returns-in_err-sound-clause-puts g c t u =
    let p = err_from_is_err_and c.from_residual.result c.from_residual.ensures.1 in
    let bytes = c.args.bytes.now in
    let left = tree_of (g.D.Disk.state c.args.index.now) c.args.trees.now.left in
    let right = tree_of (g.E.Disk.state c.args.other.now) c.args.trees.now.right in
    rw (p.1, p.2) (file_stopped (codes "file") (fault_of left) (on_other left right bytes) _ _ c.in_err-sound.field-0.0 (c.in_err-sound.ensures.puts t))

pub returns-then-not-sound-clause-puts : goal.returns-then-not-sound-clause-puts
returns-then-not-sound-clause-puts g c t u =
    let no : c.in_ok-sound.sound ≡ false = search rules in
    let bytes = c.args.bytes.now in
    let left = tree_of (g.D.Disk.state c.args.index.now) c.args.trees.now.left in
    let right = tree_of (g.E.Disk.state c.args.other.now) c.args.trees.now.right in
    file_unsound (codes "file") (fault_of left) (on_other left right bytes) _ _ (sym (c.in_ok-sound.ensures.sound t) ∙ no) (c.in_ok-sound.ensures.puts t)

pub returns-then-not-sound-clause-status : goal.returns-then-not-sound-clause-status
returns-then-not-sound-clause-status g c t u =
    let no : c.in_ok-sound.sound ≡ false = search rules in
    let bytes = c.args.bytes.now in
    let left = tree_of (g.D.Disk.state c.args.index.now) c.args.trees.now.left in
    let right = tree_of (g.E.Disk.state c.args.other.now) c.args.trees.now.right in
    sym (unsound_status (codes "file") (fault_of left) (on_other left right bytes) (sym (c.in_ok-sound.ensures.sound t) ∙ no))

pub returns-in_err-other_sound-clause-puts : goal.returns-in_err-other_sound-clause-puts
returns-in_err-other_sound-clause-puts g c t u =
    let p = err_from_is_err_and c.from_residual-in_err-other_sound.result c.from_residual-in_err-other_sound.ensures.1 in
    let w0 = (g.K.Sink.state c.args.out.now).written in
    let w1 = (g.K.Sink.state c.put_audit.new.out).written in
    let w2 = (g.K.Sink.state c.put_audit-2.new.out).written in
    let yes : c.in_ok-sound.sound ≡ true = search rules in
    let bytes = c.args.bytes.now in
    let left = tree_of (g.D.Disk.state c.args.index.now) c.args.trees.now.left in
    let right = tree_of (g.E.Disk.state c.args.other.now) c.args.trees.now.right in
    rw (p.1, p.2)
    (file_then (codes "file") (fault_of left) (on_other left right bytes) w0 w1 w2 _ (sym (c.in_ok-sound.ensures.sound t) ∙ yes) (c.in_ok-sound.ensures.puts t)
    (file_stopped (codes "other") (fault_of right) (said_of_logs report.Answers left right bytes) w1 w2 c.in_err-other_sound.field-0.0 (c.in_err-other_sound.ensures.puts u)))

pub returns-then-not-other_sound-clause-puts : goal.returns-then-not-other_sound-clause-puts
returns-then-not-other_sound-clause-puts g c t u =
    let w0 = (g.K.Sink.state c.args.out.now).written in
    let w1 = (g.K.Sink.state c.put_audit.new.out).written in
    let w2 = (g.K.Sink.state c.put_audit-2.new.out).written in
    let yes : c.in_ok-sound.sound ≡ true = search rules in
    let no : c.in_ok-other_sound.other_sound ≡ false = search rules in
    let bytes = c.args.bytes.now in
    let left = tree_of (g.D.Disk.state c.args.index.now) c.args.trees.now.left in
    let right = tree_of (g.E.Disk.state c.args.other.now) c.args.trees.now.right in
    file_then (codes "file") (fault_of left) (on_other left right bytes) w0 w1 w2 None (sym (c.in_ok-sound.ensures.sound t) ∙ yes) (c.in_ok-sound.ensures.puts t)
    (file_unsound (codes "other") (fault_of right) (said_of_logs report.Answers left right bytes) w1 w2 (sym (c.in_ok-other_sound.ensures.sound u) ∙ no) (c.in_ok-other_sound.ensures.puts u))

pub returns-then-not-other_sound-clause-status : goal.returns-then-not-other_sound-clause-status
returns-then-not-other_sound-clause-status g c t u =
    let yes : c.in_ok-sound.sound ≡ true = search rules in
    let no : c.in_ok-other_sound.other_sound ≡ false = search rules in
    let bytes = c.args.bytes.now in
    let left = tree_of (g.D.Disk.state c.args.index.now) c.args.trees.now.left in
    let right = tree_of (g.E.Disk.state c.args.other.now) c.args.trees.now.right in
    sym (sound_status (codes "file") (fault_of left) (on_other left right bytes) (sym (c.in_ok-sound.ensures.sound t) ∙ yes)
    ∙ unsound_status (codes "other") (fault_of right) (said_of_logs report.Answers left right bytes) (sym (c.in_ok-other_sound.ensures.sound u) ∙ no))

pub returns-clause-puts : goal.returns-clause-puts
returns-clause-puts g c t u =
    let same = c.in_ok-sound.ensures.same in
    let other = c.in_ok-other_sound.ensures.same in
    let l = c.args.trees.now.left in
    let r = c.args.trees.now.right in
    let bytes = c.args.bytes.now in
    let d1 = g.D.Disk.state c.put_audit.new.disk in
    let e0 = g.E.Disk.state c.args.other.now in
    let w0 = (g.K.Sink.state c.args.out.now).written in
    let w1 = (g.K.Sink.state c.put_audit.new.out).written in
    let w2 = (g.K.Sink.state c.put_audit-2.new.out).written in
    let w3 = (g.K.Sink.state c.judge_opened.new.out).written in
    let yes : c.in_ok-sound.sound ≡ true = search rules in
    let other_yes : c.in_ok-other_sound.other_sound ≡ true = search rules in
    let left : List ℕ → Tree = λ file. record { file = file; head = l.0; live = l.1 } in
    let right : List ℕ → Tree = λ file. record { file = file; head = r.0; live = r.1 } in
    let rest = subst (λ (file : List ℕ). Puts (said_of_logs report.Answers (left file) (tree_of e0 r) bytes).texts w2 w3 (stop_of c.judge_opened.result)) same.same_bytes
    (subst (λ (file : List ℕ). Puts (said_of_logs report.Answers (tree_of d1 l) (right file) bytes).texts w2 w3 (stop_of c.judge_opened.result)) other.same_bytes
    (c.judge_opened.ensures.puts (subst IsTrue (sym same.same_known) t) (subst IsTrue (sym other.same_known) u))) in
    let d0 = g.D.Disk.state c.args.index.now in
    file_then (codes "file") (fault_of (tree_of d0 l)) (on_other (tree_of d0 l) (tree_of e0 r) bytes) w0 w1 w3 (stop_of c.judge_opened.result) (sym (c.in_ok-sound.ensures.sound t) ∙ yes) (c.in_ok-sound.ensures.puts t)
    (file_then (codes "other") (fault_of (tree_of e0 r)) (said_of_logs report.Answers (tree_of d0 l) (tree_of e0 r) bytes) w1 w2 w3 (stop_of c.judge_opened.result) (sym (c.in_ok-other_sound.ensures.sound u) ∙ other_yes) (c.in_ok-other_sound.ensures.puts u) rest)

pub returns-clause-status : goal.returns-clause-status
returns-clause-status g c =
    let same = c.in_ok-sound.ensures.same in
    let other = c.in_ok-other_sound.ensures.same in
    let l = c.args.trees.now.left in
    let r = c.args.trees.now.right in
    let bytes = c.args.bytes.now in
    let d0 = g.D.Disk.state c.args.index.now in
    let d1 = g.D.Disk.state c.put_audit.new.disk in
    let e0 = g.E.Disk.state c.args.other.now in
    let e1 = g.E.Disk.state c.put_audit-2.new.disk in
    let yes : c.in_ok-sound.sound ≡ true = search rules in
    let other_yes : c.in_ok-other_sound.other_sound ≡ true = search rules in
    let said : List ℕ → List ℕ → JobReport = λ file other_file. said_of_logs report.Answers (record { file = file; head = l.0; live = l.1 }) (record { file = other_file; head = r.0; live = r.1 }) bytes in
    IfOk-weaker c.judge_opened.result (λ (s : Status). IsTrue d1.is_known → IsTrue e1.is_known → s.0 ≡ (said d1.bytes e1.bytes).status) _
    (λ (s : Status) is t u.
    subst (λ (file : List ℕ). s.0 ≡ (said file e0.bytes).status) same.same_bytes
    (subst (λ (file : List ℕ). s.0 ≡ (said d1.bytes file).status) other.same_bytes (is (subst IsTrue (sym same.same_known) t) (subst IsTrue (sym other.same_known) u)))
    ∙ sym (sound_status (codes "file") (fault_of (tree_of d0 l)) (on_file (codes "other") (fault_of (tree_of e0 r)) (said d0.bytes e0.bytes)) (sym (c.in_ok-sound.ensures.sound t) ∙ yes)
    ∙ sound_status (codes "other") (fault_of (tree_of e0 r)) (said d0.bytes e0.bytes) (sym (c.in_ok-other_sound.ensures.sound u) ∙ other_yes)))
    c.judge_opened.ensures.status

pub returns-clause-disk : goal.returns-clause-disk
returns-clause-disk g c is =
    ⊎_elim (λ rose. inl (rose_before _ (g.D.Disk.state c.put_audit.new.disk).faults _ c.in_ok-sound.ensures.later rose))
    (λ rose. inr (rose_before _ (g.E.Disk.state c.put_audit-2.new.disk).faults _ c.in_ok-other_sound.ensures.later rose)) (c.judge_opened.ensures.disk is)
