use Rattle.job_make.proofs.Migrated.{migrate_rose, migrate_statuses, refuses_nothing}
use Rattle.job_make.proofs.migrating.migrate_index.Goals as goal

pub returns-clause-complete : goal.returns-clause-complete
returns-clause-complete g c =
    refuses_nothing c.fault_is_not_open.ensures c.one_live_slot.ensures c.audit_faults_are_unsoundness.ensures (g.D.Disk.state c.args.index.now) (g.D.Disk.state c.migrate.new.index) (g.E.Disk.state c.args.other.now) (g.E.Disk.state c.migrate.new.other)
    (g.K.Sink.state c.args.out.now) (g.K.Sink.state c.migrate.new.out) c.migrate.result.0 c.migrate.ensures.migrates

pub returns-clause-statuses : goal.returns-clause-statuses
returns-clause-statuses g c =
    migrate_statuses (g.D.Disk.state c.args.index.now) (g.D.Disk.state c.migrate.new.index) (g.E.Disk.state c.args.other.now) (g.E.Disk.state c.migrate.new.other) (g.K.Sink.state c.args.out.now) (g.K.Sink.state c.migrate.new.out)
    c.migrate.result.0 c.migrate.ensures.migrates

pub returns-clause-disk : goal.returns-clause-disk
returns-clause-disk g c =
    migrate_rose (g.D.Disk.state c.args.index.now) (g.D.Disk.state c.migrate.new.index) (g.E.Disk.state c.args.other.now) (g.E.Disk.state c.migrate.new.other) (g.K.Sink.state c.args.out.now) (g.K.Sink.state c.migrate.new.out) c.migrate.result.0
    c.migrate.ensures.migrates
