use Rattle.std.proofs.Common.{refl, inl, sym, subst, arith}
use Rattle.job_words.specs.Jobs.{job_of}
use Rattle.job_words.specs.declared.job.Job.TheVariants as job
use Rattle.job_files.specs.declared.logs.report.Report.TheVariants.{Verdicts, Answers}
use Rattle.mtree_cli.specs.Run.{Does, HasTooManyPages, Task, TakesWithin, task_of, uses}
use Rattle.mtree_cli.proofs.TaskLemmas.{scene, task_is, is_used, unchanged, memory_does, memory_status, nothing_taken, input_taken, batch_taken, seal_taken, carried_taken, proofs_taken, logs_taken, logs_rose, join_logs_taken, join_logs_rose, join_rose, shown_taken, shown_rose, shown_joins_taken, shown_joins_rose}
use Rattle.mtree_cli.proofs.program.run.Goals as goal

pub returns-in-Ok-Scan-clause-does : goal.returns-in-Ok-Scan-clause-does
returns-in-Ok-Scan-clause-does g c =
    let P : Task → Type 0 = λ t. Does t (scene (g.D.Disk.state c.args.index.now) (g.E.Disk.state c.args.other.now) (g.L.Source.left c.args.log_in.now) (g.T.Sink.state c.args.log_out.now) (g.K.Sink.state c.args.out.now))
    (scene (g.D.Disk.state c.args.index.now) (g.E.Disk.state c.args.other.now) (g.L.Source.left c.args.log_in.now) (g.T.Sink.state c.args.log_out.now) (g.K.Sink.state c.run_scan.new.out)) (g.S.Source.left c.args.input.now) c.run_scan.result.0 in
    subst P (sym (task_is c.args.request.now c.in-Ok-Scan.field-0 (job.Scan c.in-Ok-Scan.space c.in-Ok-Scan.limit c.in-Ok-Scan.show_tags) c.in-Ok-Scan.ensures.job c.in-Ok-Scan.field-0-is)) c.run_scan.ensures.wrote

pub returns-in-Ok-Scan-clause-memory : goal.returns-in-Ok-Scan-clause-memory
returns-in-Ok-Scan-clause-memory g c = λ no is. unchanged (g.D.Disk.state c.args.index.now)

pub returns-in-Ok-Scan-clause-untouched : goal.returns-in-Ok-Scan-clause-untouched
returns-in-Ok-Scan-clause-untouched g c = λ no.
    absurd (is_used (λ used. used.input) c.args.request.now c.in-Ok-Scan.field-0 (job.Scan c.in-Ok-Scan.space c.in-Ok-Scan.limit c.in-Ok-Scan.show_tags) c.in-Ok-Scan.ensures.job c.in-Ok-Scan.field-0-is refl no)

pub returns-in-Ok-Create-clause-long : goal.returns-in-Ok-Create-clause-long
returns-in-Ok-Create-clause-long g c = nothing_taken _ (g.S.Source.left c.args.input.now) (g.L.Source.left c.args.log_in.now) c.create_index.result.0 (grind (arith))

pub returns-in-Ok-Shape-clause-memory : goal.returns-in-Ok-Shape-clause-memory
returns-in-Ok-Shape-clause-memory g c = λ no is. c.shape_index.ensures.shapes.unchanged

pub returns-in-Ok-Shape-clause-long : goal.returns-in-Ok-Shape-clause-long
returns-in-Ok-Shape-clause-long g c = nothing_taken _ (g.S.Source.left c.args.input.now) (g.L.Source.left c.args.log_in.now) c.shape_index.result.0 (grind (arith))

pub returns-in-Ok-Stats-clause-memory : goal.returns-in-Ok-Stats-clause-memory
returns-in-Ok-Stats-clause-memory g c = λ no is. c.stats_index.ensures.stats.unchanged

pub returns-in-Ok-Stats-clause-long : goal.returns-in-Ok-Stats-clause-long
returns-in-Ok-Stats-clause-long g c = nothing_taken _ (g.S.Source.left c.args.input.now) (g.L.Source.left c.args.log_in.now) c.stats_index.result.0 (grind (arith))

pub returns-in-Ok-Stats-clause-other_same : goal.returns-in-Ok-Stats-clause-other_same
returns-in-Ok-Stats-clause-other_same g c = unchanged (g.E.Disk.state c.args.other.now)

pub returns-in-Ok-Dump-clause-memory : goal.returns-in-Ok-Dump-clause-memory
returns-in-Ok-Dump-clause-memory g c = λ no is. c.dump_index.ensures.dumps.unchanged

pub returns-in-Ok-Dump-clause-long : goal.returns-in-Ok-Dump-clause-long
returns-in-Ok-Dump-clause-long g c = nothing_taken _ (g.S.Source.left c.args.input.now) (g.L.Source.left c.args.log_in.now) c.dump_index.result.0 (grind (arith))

pub returns-in-Ok-Dump-clause-other_same : goal.returns-in-Ok-Dump-clause-other_same
returns-in-Ok-Dump-clause-other_same g c = unchanged (g.E.Disk.state c.args.other.now)

pub returns-in-Ok-Audit-clause-memory : goal.returns-in-Ok-Audit-clause-memory
returns-in-Ok-Audit-clause-memory g c = λ no is. c.audit_index_by.ensures.audits.unchanged

pub returns-in-Ok-Audit-clause-long : goal.returns-in-Ok-Audit-clause-long
returns-in-Ok-Audit-clause-long g c = nothing_taken _ (g.S.Source.left c.args.input.now) (g.L.Source.left c.args.log_in.now) c.audit_index_by.result.0 (grind (arith))

pub returns-in-Err-Memory-clause-does : goal.returns-in-Err-Memory-clause-does
returns-in-Err-Memory-clause-does g c = memory_does (task_of (job_of c.args.request.now)) (g.D.Disk.state c.args.index.now) (g.E.Disk.state c.args.other.now) (g.S.Source.left c.args.input.now) (g.L.Source.left c.args.log_in.now) (g.T.Sink.state c.args.log_out.now) _ _ c.end_with.result.0 c.end_with.ensures.status c.end_with.ensures.line

pub returns-in-Err-Memory-clause-memory : goal.returns-in-Err-Memory-clause-memory
returns-in-Err-Memory-clause-memory g c = λ no is. unchanged (g.D.Disk.state c.args.index.now)

pub returns-in-Err-Memory-clause-statuses : goal.returns-in-Err-Memory-clause-statuses
returns-in-Err-Memory-clause-statuses g c = memory_status (task_of (job_of c.args.request.now)) c.end_with.result.0 c.end_with.ensures.status

pub returns-in-Err-Usage-clause-memory : goal.returns-in-Err-Usage-clause-memory
returns-in-Err-Usage-clause-memory g c = λ no is. unchanged (g.D.Disk.state c.args.index.now)

pub returns-in-Err-Usage-clause-long : goal.returns-in-Err-Usage-clause-long
returns-in-Err-Usage-clause-long g c = nothing_taken _ (g.S.Source.left c.args.input.now) (g.L.Source.left c.args.log_in.now) c.put_line.result.0 (grind (arith))

pub returns-in-Ok-Scan-clause-long : goal.returns-in-Ok-Scan-clause-long
returns-in-Ok-Scan-clause-long g c = input_taken _ _ _ (g.L.Source.left c.args.log_in.now) c.run_scan.result.0 c.run_scan.ensures.long

pub returns-in-Ok-Verify-default-default-None-clause-long : goal.returns-in-Ok-Verify-default-default-None-clause-long
returns-in-Ok-Verify-default-default-None-clause-long g c =
    logs_taken _ (g.S.Source.left c.args.input.now) _ _ _ _ _ _ _ c.verify_logs.result.0 c.verify_logs.ensures.judges

pub returns-in-Ok-Check-default-default-None-clause-long : goal.returns-in-Ok-Check-default-default-None-clause-long
returns-in-Ok-Check-default-default-None-clause-long g c =
    logs_taken _ (g.S.Source.left c.args.input.now) _ _ _ _ _ _ _ c.check_logs.result.0 c.check_logs.ensures.judges

pub returns-in-Ok-Show-default-default-None-default-clause-long : goal.returns-in-Ok-Show-default-default-None-default-clause-long
returns-in-Ok-Show-default-default-None-default-clause-long g c =
    shown_taken _ (g.S.Source.left c.args.input.now) _ _ _ _ _ _ _ c.show_logs.result.0 c.show_logs.ensures.shows

pub returns-in-Ok-Show-default-default-Some-default-clause-long : goal.returns-in-Ok-Show-default-default-Some-default-clause-long
returns-in-Ok-Show-default-default-Some-default-clause-long g c =
    shown_joins_taken _ (g.S.Source.left c.args.input.now) _ _ _ _ _ _ _ _ _ c.show_join_logs.result.0 c.show_join_logs.ensures.shows

pub returns-in-Err-Memory-clause-long : goal.returns-in-Err-Memory-clause-long
returns-in-Err-Memory-clause-long g c = nothing_taken _ (g.S.Source.left c.args.input.now) (g.L.Source.left c.args.log_in.now) c.end_with.result.0 (grind (arith))

pub returns-in-Ok-Join-clause-memory : goal.returns-in-Ok-Join-clause-memory
returns-in-Ok-Join-clause-memory g c = λ no is. c.join_indexes.ensures.joins.unchanged.0

pub returns-in-Ok-Join-clause-long : goal.returns-in-Ok-Join-clause-long
returns-in-Ok-Join-clause-long g c = nothing_taken _ (g.S.Source.left c.args.input.now) (g.L.Source.left c.args.log_in.now) c.join_indexes.result.0 (grind (arith))

pub returns-in-Ok-Verify-default-default-Some-clause-long : goal.returns-in-Ok-Verify-default-default-Some-clause-long
returns-in-Ok-Verify-default-default-Some-clause-long g c =
    join_logs_taken _ (g.S.Source.left c.args.input.now) _ _ Verdicts _ _ _ _ _ _ c.verify_join_logs.result.0 c.verify_join_logs.ensures.judges

pub returns-in-Ok-Check-default-default-Some-clause-long : goal.returns-in-Ok-Check-default-default-Some-clause-long
returns-in-Ok-Check-default-default-Some-clause-long g c =
    join_logs_taken _ (g.S.Source.left c.args.input.now) _ _ Answers _ _ _ _ _ _ c.check_join_logs.result.0 c.check_join_logs.ensures.judges

pub returns-in-Ok-Scan-clause-other_same : goal.returns-in-Ok-Scan-clause-other_same
returns-in-Ok-Scan-clause-other_same g c = unchanged (g.E.Disk.state c.args.other.now)

pub returns-in-Ok-Create-clause-other_same : goal.returns-in-Ok-Create-clause-other_same
returns-in-Ok-Create-clause-other_same g c = unchanged (g.E.Disk.state c.args.other.now)

pub returns-in-Ok-Shape-clause-other_same : goal.returns-in-Ok-Shape-clause-other_same
returns-in-Ok-Shape-clause-other_same g c = unchanged (g.E.Disk.state c.args.other.now)

pub returns-in-Ok-Audit-clause-other_same : goal.returns-in-Ok-Audit-clause-other_same
returns-in-Ok-Audit-clause-other_same g c = unchanged (g.E.Disk.state c.args.other.now)

pub returns-in-Ok-Verify-default-default-None-clause-other_same : goal.returns-in-Ok-Verify-default-default-None-clause-other_same
returns-in-Ok-Verify-default-default-None-clause-other_same g c = unchanged (g.E.Disk.state c.args.other.now)

pub returns-in-Ok-Check-default-default-None-clause-other_same : goal.returns-in-Ok-Check-default-default-None-clause-other_same
returns-in-Ok-Check-default-default-None-clause-other_same g c = unchanged (g.E.Disk.state c.args.other.now)

pub returns-in-Err-Usage-clause-other_same : goal.returns-in-Err-Usage-clause-other_same
returns-in-Err-Usage-clause-other_same g c = unchanged (g.E.Disk.state c.args.other.now)

pub returns-in-Err-Memory-clause-other_same : goal.returns-in-Err-Memory-clause-other_same
returns-in-Err-Memory-clause-other_same g c = unchanged (g.E.Disk.state c.args.other.now)

pub returns-in-Ok-Verify-default-default-Some-clause-other_same : goal.returns-in-Ok-Verify-default-default-Some-clause-other_same
returns-in-Ok-Verify-default-default-Some-clause-other_same g c = c.verify_join_logs.ensures.judges.unchanged.1

pub returns-in-Ok-Check-default-default-Some-clause-other_same : goal.returns-in-Ok-Check-default-default-Some-clause-other_same
returns-in-Ok-Check-default-default-Some-clause-other_same g c = c.check_join_logs.ensures.judges.unchanged.1

pub returns-in-Ok-Join-clause-other_same : goal.returns-in-Ok-Join-clause-other_same
returns-in-Ok-Join-clause-other_same g c = c.join_indexes.ensures.joins.unchanged.1

pub returns-in-Ok-Verify-default-default-None-clause-either_disk : goal.returns-in-Ok-Verify-default-default-None-clause-either_disk
returns-in-Ok-Verify-default-default-None-clause-either_disk g c = λ is. inl (logs_rose _ _ _ _ _ _ _ c.verify_logs.result.0 c.verify_logs.ensures.judges is)

pub returns-in-Ok-Check-default-default-None-clause-either_disk : goal.returns-in-Ok-Check-default-default-None-clause-either_disk
returns-in-Ok-Check-default-default-None-clause-either_disk g c = λ is. inl (logs_rose _ _ _ _ _ _ _ c.check_logs.result.0 c.check_logs.ensures.judges is)

pub returns-in-Ok-Verify-default-default-Some-clause-memory : goal.returns-in-Ok-Verify-default-default-Some-clause-memory
returns-in-Ok-Verify-default-default-Some-clause-memory g c = λ no is. c.verify_join_logs.ensures.judges.unchanged.0

pub returns-in-Ok-Verify-default-default-Some-clause-either_disk : goal.returns-in-Ok-Verify-default-default-Some-clause-either_disk
returns-in-Ok-Verify-default-default-Some-clause-either_disk g c = λ is. join_logs_rose _ _ Verdicts _ _ _ _ _ _ c.verify_join_logs.result.0 c.verify_join_logs.ensures.judges is

pub returns-in-Ok-Check-default-default-Some-clause-memory : goal.returns-in-Ok-Check-default-default-Some-clause-memory
returns-in-Ok-Check-default-default-Some-clause-memory g c = λ no is. c.check_join_logs.ensures.judges.unchanged.0

pub returns-in-Ok-Check-default-default-Some-clause-either_disk : goal.returns-in-Ok-Check-default-default-Some-clause-either_disk
returns-in-Ok-Check-default-default-Some-clause-either_disk g c = λ is. join_logs_rose _ _ Answers _ _ _ _ _ _ c.check_join_logs.result.0 c.check_join_logs.ensures.judges is

pub returns-in-Ok-Join-clause-either_disk : goal.returns-in-Ok-Join-clause-either_disk
returns-in-Ok-Join-clause-either_disk g c = λ is. join_rose _ _ _ _ _ _ _ _ _ c.join_indexes.result.0 c.join_indexes.ensures.joins is

pub returns-in-Ok-Create-clause-either_disk : goal.returns-in-Ok-Create-clause-either_disk
returns-in-Ok-Create-clause-either_disk g c = λ is. inl ((c.create_index.ensures.creates.disk is).0)

pub returns-in-Ok-Audit-clause-either_disk : goal.returns-in-Ok-Audit-clause-either_disk
returns-in-Ok-Audit-clause-either_disk g c = λ is. inl ((c.audit_index_by.ensures.audits.disk is).0)

pub returns-in-Ok-Session-clause-does : goal.returns-in-Ok-Session-clause-does
returns-in-Ok-Session-clause-does g c =
    let P : Task → Type 0 = λ t. Does t (scene (g.D.Disk.state c.args.index.now) (g.E.Disk.state c.args.other.now) (g.L.Source.left c.args.log_in.now) (g.T.Sink.state c.args.log_out.now) (g.K.Sink.state c.args.out.now))
    (scene (g.D.Disk.state c.run_session.new.index) (g.E.Disk.state c.args.other.now) (g.L.Source.left c.args.log_in.now) (g.T.Sink.state c.run_session.new.log_out) (g.K.Sink.state c.run_session.new.out)) (g.S.Source.left c.args.input.now) c.run_session.result.0 in
    subst P (sym (task_is c.args.request.now c.in-Ok-Session.field-0 (job.Session c.in-Ok-Session.field-0-0 c.in-Ok-Session.field-0-1 c.in-Ok-Session.workers c.in-Ok-Session.show_tags) c.in-Ok-Session.ensures.job c.in-Ok-Session.field-0-is)) c.run_session.ensures.runs

pub returns-in-Ok-Session-clause-memory : goal.returns-in-Ok-Session-clause-memory
returns-in-Ok-Session-clause-memory g c = λ no is.
    absurd (is_used (λ used. used.changes_early) c.args.request.now c.in-Ok-Session.field-0 (job.Session c.in-Ok-Session.field-0-0 c.in-Ok-Session.field-0-1 c.in-Ok-Session.workers c.in-Ok-Session.show_tags) c.in-Ok-Session.ensures.job c.in-Ok-Session.field-0-is refl no)

pub returns-in-Ok-Session-clause-kept : goal.returns-in-Ok-Session-clause-kept
returns-in-Ok-Session-clause-kept g c = λ no a b.
    absurd (is_used (λ used. used.puts_early) c.args.request.now c.in-Ok-Session.field-0 (job.Session c.in-Ok-Session.field-0-0 c.in-Ok-Session.field-0-1 c.in-Ok-Session.workers c.in-Ok-Session.show_tags) c.in-Ok-Session.ensures.job c.in-Ok-Session.field-0-is refl no)

pub returns-in-Ok-Session-clause-untouched : goal.returns-in-Ok-Session-clause-untouched
returns-in-Ok-Session-clause-untouched g c = λ no. absurd (is_used (λ used. used.input) c.args.request.now c.in-Ok-Session.field-0 (job.Session c.in-Ok-Session.field-0-0 c.in-Ok-Session.field-0-1 c.in-Ok-Session.workers c.in-Ok-Session.show_tags) c.in-Ok-Session.ensures.job c.in-Ok-Session.field-0-is refl no)

pub returns-in-Ok-Session-clause-long : goal.returns-in-Ok-Session-clause-long
returns-in-Ok-Session-clause-long g c = input_taken _ _ _ (g.L.Source.left c.args.log_in.now) c.run_session.result.0 c.run_session.ensures.long

pub returns-in-Ok-Session-clause-other_same : goal.returns-in-Ok-Session-clause-other_same
returns-in-Ok-Session-clause-other_same g c = unchanged (g.E.Disk.state c.args.other.now)

pub returns-in-Ok-Session-clause-either_disk : goal.returns-in-Ok-Session-clause-either_disk
returns-in-Ok-Session-clause-either_disk g c = λ is. inl (c.run_session.ensures.runs.disk is)

pub returns-in-Ok-Gen-clause-does : goal.returns-in-Ok-Gen-clause-does
returns-in-Ok-Gen-clause-does g c =
    let P : Task → Type 0 = λ t. Does t (scene (g.D.Disk.state c.args.index.now) (g.E.Disk.state c.args.other.now) (g.L.Source.left c.args.log_in.now) (g.T.Sink.state c.args.log_out.now) (g.K.Sink.state c.args.out.now))
    (scene (g.D.Disk.state c.generate_index.new.disk) (g.E.Disk.state c.args.other.now) (g.L.Source.left c.args.log_in.now) (g.T.Sink.state c.args.log_out.now) (g.K.Sink.state c.generate_index.new.out)) (g.S.Source.left c.args.input.now) c.generate_index.result.0 in
    subst P (sym (task_is c.args.request.now c.in-Ok-Gen.field-0 (job.Gen c.in-Ok-Gen.field-0-0 c.in-Ok-Gen.space c.in-Ok-Gen.count c.in-Ok-Gen.seed c.in-Ok-Gen.policies c.in-Ok-Gen.workers) c.in-Ok-Gen.ensures.job c.in-Ok-Gen.field-0-is)) (rw c.new_head-in-Ok-Gen.ensures.head at c.generate_index.ensures.generates)

pub returns-in-Ok-Gen-clause-memory : goal.returns-in-Ok-Gen-clause-memory
returns-in-Ok-Gen-clause-memory g c = λ no is. absurd (is_used (λ used. used.changes_early) c.args.request.now c.in-Ok-Gen.field-0 (job.Gen c.in-Ok-Gen.field-0-0 c.in-Ok-Gen.space c.in-Ok-Gen.count c.in-Ok-Gen.seed c.in-Ok-Gen.policies c.in-Ok-Gen.workers) c.in-Ok-Gen.ensures.job c.in-Ok-Gen.field-0-is refl no)

pub returns-in-Ok-Gen-clause-long : goal.returns-in-Ok-Gen-clause-long
returns-in-Ok-Gen-clause-long g c = nothing_taken _ (g.S.Source.left c.args.input.now) (g.L.Source.left c.args.log_in.now) c.generate_index.result.0 (grind (arith))

pub returns-in-Ok-Gen-clause-other_same : goal.returns-in-Ok-Gen-clause-other_same
returns-in-Ok-Gen-clause-other_same g c = unchanged (g.E.Disk.state c.args.other.now)

pub returns-in-Ok-Gen-clause-either_disk : goal.returns-in-Ok-Gen-clause-either_disk
returns-in-Ok-Gen-clause-either_disk g c = λ is. inl ((c.generate_index.ensures.generates.unfilled.disk is).0)

pub returns-in-Ok-Migrate-clause-does : goal.returns-in-Ok-Migrate-clause-does
returns-in-Ok-Migrate-clause-does g c =
    let P : Task → Type 0 = λ t. Does t (scene (g.D.Disk.state c.args.index.now) (g.E.Disk.state c.args.other.now) (g.L.Source.left c.args.log_in.now) (g.T.Sink.state c.args.log_out.now) (g.K.Sink.state c.args.out.now))
    (scene (g.D.Disk.state c.migrate_index.new.index) (g.E.Disk.state c.migrate_index.new.other) (g.L.Source.left c.args.log_in.now) (g.T.Sink.state c.args.log_out.now) (g.K.Sink.state c.migrate_index.new.out)) (g.S.Source.left c.args.input.now) c.migrate_index.result.0 in
    subst P (sym (task_is c.args.request.now c.in-Ok-Migrate.field-0 (job.Migrate c.in-Ok-Migrate.field-0-0 c.in-Ok-Migrate.field-0-1) c.in-Ok-Migrate.ensures.job c.in-Ok-Migrate.field-0-is)) (c.migrate_index.ensures.migrates, c.migrate_index.ensures.complete)

pub returns-in-Ok-Migrate-clause-memory : goal.returns-in-Ok-Migrate-clause-memory
returns-in-Ok-Migrate-clause-memory g c = λ no is. absurd (is_used (λ used. used.changes_early) c.args.request.now c.in-Ok-Migrate.field-0 (job.Migrate c.in-Ok-Migrate.field-0-0 c.in-Ok-Migrate.field-0-1) c.in-Ok-Migrate.ensures.job c.in-Ok-Migrate.field-0-is refl no)

pub returns-in-Ok-Migrate-clause-long : goal.returns-in-Ok-Migrate-clause-long
returns-in-Ok-Migrate-clause-long g c = nothing_taken _ (g.S.Source.left c.args.input.now) (g.L.Source.left c.args.log_in.now) c.migrate_index.result.0 (grind (arith))

pub returns-in-Ok-Migrate-clause-other_same : goal.returns-in-Ok-Migrate-clause-other_same
returns-in-Ok-Migrate-clause-other_same g c = c.migrate_index.ensures.migrates.old_same

pub returns-in-Ok-Batch-clause-does : goal.returns-in-Ok-Batch-clause-does
returns-in-Ok-Batch-clause-does g c =
    let P : Task → Type 0 = λ t. Does t (scene (g.D.Disk.state c.args.index.now) (g.E.Disk.state c.args.other.now) (g.L.Source.left c.args.log_in.now) (g.T.Sink.state c.args.log_out.now) (g.K.Sink.state c.args.out.now))
    (scene (g.D.Disk.state c.run_batch.new.index) (g.E.Disk.state c.args.other.now) (g.L.Source.left c.args.log_in.now) (g.T.Sink.state c.run_batch.new.log_out) (g.K.Sink.state c.run_batch.new.out)) (g.S.Source.left c.args.input.now) c.run_batch.result.0 in
    subst P (sym (task_is c.args.request.now c.in-Ok-Batch.field-0 (job.Batch c.in-Ok-Batch.field-0-0 c.in-Ok-Batch.workers c.in-Ok-Batch.field-0-2 c.in-Ok-Batch.show_tags) c.in-Ok-Batch.ensures.job c.in-Ok-Batch.field-0-is)) c.run_batch.ensures.runs

pub returns-in-Ok-Batch-clause-memory : goal.returns-in-Ok-Batch-clause-memory
returns-in-Ok-Batch-clause-memory g c = λ no is. c.run_batch.ensures.runs.unchanged

pub returns-in-Ok-Batch-clause-kept : goal.returns-in-Ok-Batch-clause-kept
returns-in-Ok-Batch-clause-kept g c = λ no a b. absurd (is_used (λ used. used.puts_early) c.args.request.now c.in-Ok-Batch.field-0 (job.Batch c.in-Ok-Batch.field-0-0 c.in-Ok-Batch.workers c.in-Ok-Batch.field-0-2 c.in-Ok-Batch.show_tags) c.in-Ok-Batch.ensures.job c.in-Ok-Batch.field-0-is refl no)

pub returns-in-Ok-Batch-clause-untouched : goal.returns-in-Ok-Batch-clause-untouched
returns-in-Ok-Batch-clause-untouched g c = λ no. absurd (is_used (λ used. used.input) c.args.request.now c.in-Ok-Batch.field-0 (job.Batch c.in-Ok-Batch.field-0-0 c.in-Ok-Batch.workers c.in-Ok-Batch.field-0-2 c.in-Ok-Batch.show_tags) c.in-Ok-Batch.ensures.job c.in-Ok-Batch.field-0-is refl no)

pub returns-in-Ok-Batch-clause-long : goal.returns-in-Ok-Batch-clause-long
returns-in-Ok-Batch-clause-long g c =
    let P : Task → Type 0 = λ t. TakesWithin (HasTooManyPages (uses t) (g.D.Disk.state c.args.index.now)) (g.S.Source.left c.args.input.now) (g.S.Source.left c.run_batch.new.input) (g.L.Source.left c.args.log_in.now) (g.L.Source.left c.args.log_in.now) c.run_batch.result.0 in
    subst P (sym (task_is c.args.request.now c.in-Ok-Batch.field-0 (job.Batch c.in-Ok-Batch.field-0-0 c.in-Ok-Batch.workers c.in-Ok-Batch.field-0-2 c.in-Ok-Batch.show_tags) c.in-Ok-Batch.ensures.job c.in-Ok-Batch.field-0-is)) (batch_taken (g.S.Source.left c.args.input.now) (g.S.Source.left c.run_batch.new.input) (g.L.Source.left c.args.log_in.now) (g.D.Disk.state c.args.index.now) c.run_batch.result.0 c.run_batch.ensures.long)

pub returns-in-Ok-Batch-clause-other_same : goal.returns-in-Ok-Batch-clause-other_same
returns-in-Ok-Batch-clause-other_same g c = unchanged (g.E.Disk.state c.args.other.now)

pub returns-in-Ok-Batch-clause-either_disk : goal.returns-in-Ok-Batch-clause-either_disk
returns-in-Ok-Batch-clause-either_disk g c = λ is. inl (c.run_batch.ensures.runs.disk is)

pub returns-in-Ok-Seal-clause-memory : goal.returns-in-Ok-Seal-clause-memory
returns-in-Ok-Seal-clause-memory g c = λ no is. c.seal_index.ensures.seals.unchanged

pub returns-in-Ok-Seal-clause-long : goal.returns-in-Ok-Seal-clause-long
returns-in-Ok-Seal-clause-long g c =
    let P : Task → Type 0 = λ t. TakesWithin (HasTooManyPages (uses t) (g.D.Disk.state c.args.index.now)) (g.S.Source.left c.args.input.now) (g.S.Source.left c.args.input.now) (g.L.Source.left c.args.log_in.now) (g.L.Source.left c.args.log_in.now) c.seal_index.result.0 in
    subst P (sym (task_is c.args.request.now c.in-Ok-Seal.field-0 (job.Seal c.in-Ok-Seal.field-0-0) c.in-Ok-Seal.ensures.job c.in-Ok-Seal.field-0-is)) (seal_taken (g.S.Source.left c.args.input.now) (g.L.Source.left c.args.log_in.now) _ _ _ _ c.seal_index.result.0 c.seal_index.ensures.seals)

pub returns-in-Ok-Seal-clause-other_same : goal.returns-in-Ok-Seal-clause-other_same
returns-in-Ok-Seal-clause-other_same g c = unchanged (g.E.Disk.state c.args.other.now)

pub returns-in-Ok-Seal-clause-either_disk : goal.returns-in-Ok-Seal-clause-either_disk
returns-in-Ok-Seal-clause-either_disk g c = λ is. inl ((c.seal_index.ensures.seals.disk is).0)

pub returns-in-Ok-Prove-clause-memory : goal.returns-in-Ok-Prove-clause-memory
returns-in-Ok-Prove-clause-memory g c = λ no is. unchanged (g.D.Disk.state c.args.index.now)

pub returns-in-Ok-Prove-clause-long : goal.returns-in-Ok-Prove-clause-long
returns-in-Ok-Prove-clause-long g c = proofs_taken _ (g.S.Source.left c.args.input.now) _ _ _ _ _ c.prove_logs.result.0 c.prove_logs.ensures.proves

pub returns-in-Ok-Prove-clause-other_same : goal.returns-in-Ok-Prove-clause-other_same
returns-in-Ok-Prove-clause-other_same g c = unchanged (g.E.Disk.state c.args.other.now)

pub returns-in-Ok-Carry-clause-does : goal.returns-in-Ok-Carry-clause-does
returns-in-Ok-Carry-clause-does g c =
    let P : Task → Type 0 = λ t. Does t (scene (g.D.Disk.state c.args.index.now) (g.E.Disk.state c.args.other.now) (g.L.Source.left c.args.log_in.now) (g.T.Sink.state c.args.log_out.now) (g.K.Sink.state c.args.out.now))
    (scene (g.D.Disk.state c.carry_logs.new.index) (g.E.Disk.state c.args.other.now) (g.L.Source.left c.carry_logs.new.log_in) (g.T.Sink.state c.carry_logs.new.log_out) (g.K.Sink.state c.carry_logs.new.out)) (g.S.Source.left c.args.input.now) c.carry_logs.result.0 in
    subst P (sym (task_is c.args.request.now c.in-Ok-Carry.field-0 (job.Carry c.in-Ok-Carry.field-0-0 c.in-Ok-Carry.field-0-1 c.in-Ok-Carry.field-0-2) c.in-Ok-Carry.ensures.job c.in-Ok-Carry.field-0-is)) c.carry_logs.ensures.carries

pub returns-in-Ok-Carry-clause-memory : goal.returns-in-Ok-Carry-clause-memory
returns-in-Ok-Carry-clause-memory g c = λ no is. c.carry_logs.ensures.carries.unchanged

pub returns-in-Ok-Carry-clause-long : goal.returns-in-Ok-Carry-clause-long
returns-in-Ok-Carry-clause-long g c =
    let P : Task → Type 0 = λ t. TakesWithin (HasTooManyPages (uses t) (g.D.Disk.state c.args.index.now)) (g.S.Source.left c.args.input.now) (g.S.Source.left c.args.input.now) (g.L.Source.left c.args.log_in.now) (g.L.Source.left c.carry_logs.new.log_in) c.carry_logs.result.0 in
    subst P (sym (task_is c.args.request.now c.in-Ok-Carry.field-0 (job.Carry c.in-Ok-Carry.field-0-0 c.in-Ok-Carry.field-0-1 c.in-Ok-Carry.field-0-2) c.in-Ok-Carry.ensures.job c.in-Ok-Carry.field-0-is)) (carried_taken (g.S.Source.left c.args.input.now) _ _ _ _ _ _ _ _ c.carry_logs.result.0 c.carry_logs.ensures.carries)

pub returns-in-Ok-Carry-clause-other_same : goal.returns-in-Ok-Carry-clause-other_same
returns-in-Ok-Carry-clause-other_same g c = unchanged (g.E.Disk.state c.args.other.now)

pub returns-in-Ok-Carry-clause-either_disk : goal.returns-in-Ok-Carry-clause-either_disk
returns-in-Ok-Carry-clause-either_disk g c = λ is. inl (c.carry_logs.ensures.disk is)

pub returns-in-Ok-Carry-clause-kept : goal.returns-in-Ok-Carry-clause-kept
returns-in-Ok-Carry-clause-kept g c = λ no a b. absurd (is_used (λ used. used.puts_early) c.args.request.now c.in-Ok-Carry.field-0 (job.Carry c.in-Ok-Carry.field-0-0 c.in-Ok-Carry.field-0-1 c.in-Ok-Carry.field-0-2) c.in-Ok-Carry.ensures.job c.in-Ok-Carry.field-0-is refl no)
