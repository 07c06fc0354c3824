use Rattle.std.proofs.Common.{subst, Some}
use Rattle.index_core.specs.Files.{OpenFile, IsValidFile}
use Rattle.index_core.specs.Index.{OpenIndex}
use Rattle.index_core.specs.Writing.{HasWritten, Loads}
use Rattle.index_core.proofs.Damaged.{list_blames, load_blames, result_blames_nothing}
use Rattle.index_core.proofs.Loaded.{at_once, nothing_written}
use Rattle.index_core.proofs.Written.{exact_moved, then_written}
use Rattle.index_core.proofs.index.Index.load_tagged.Goals as goal

pub returns-in-Err-clause-written : goal.returns-in-Err-clause-written
returns-in-Err-clause-written g c = λ going.
    let valid = subst (λ (i : OpenIndex g.row.M.Denot). IsValidFile (g.M.Metric.space i.file.metric).dimension i.file) c.self.view_is c.is_valid.ensures in
    let alone = c.requires.stands going in
    nothing_written (g.M.Metric.space c.args.self.now.file.metric) (Loads c.args.rows.now.points c.args.tags.now) c.args.self.now (g.D.Disk.state c.args.disk.now) c.in-Err.fault valid alone.stands alone.only
    (at_once c.args.self.now c.len.result c.in-Err.fault c.in-Err.ensures.err)

pub returns-clause-written : goal.returns-clause-written
returns-clause-written g c = λ going.
    let valid = subst (λ (i : OpenIndex g.row.M.Denot). IsValidFile (g.M.Metric.space i.file.metric).dimension i.file) c.self.view_is c.is_valid.ensures in
    let alone = c.requires.stands going in
    then_written (g.M.Metric.space c.args.self.now.file.metric) (Loads c.args.rows.now.points c.args.tags.now) c.args.self.now c.load_on.new.self c.take_free.new.self.file c.in-Ok.free
    (g.D.Disk.state c.args.disk.now) (g.D.Disk.state c.take_free.new.disk) (g.D.Disk.state c.load_on.new.disk) c.load_on.result valid alone.stands alone.only c.in-Ok.ensures.reads c.in-Ok.ensures.list
    (λ points tags has exact. exact_moved c.in-Ok.free c.args.self.now.file c.take_free.new.self.file (g.D.Disk.state c.args.disk.now) (g.D.Disk.state c.take_free.new.disk) c.in-Ok.ensures.reads
    (c.in-Ok.ensures.exact (has.is_known, has.sound) exact))
    (subst (λ (o : OpenFile g.row.M.Denot). HasWritten (g.M.Metric.space o.metric) (Loads c.args.rows.now.points c.args.tags.now) (record c.args.self.now { file = c.take_free.new.self.file; free = Some c.in-Ok.free })
    c.load_on.new.self (g.D.Disk.state c.take_free.new.disk) (g.D.Disk.state c.load_on.new.disk) c.load_on.result) c.in-Ok.ensures.reads.rest
    (subst (λ (i : OpenIndex g.row.M.Denot). HasWritten (g.M.Metric.space i.file.metric) (Loads c.args.rows.now.points c.args.tags.now) (record i { free = Some c.in-Ok.free }) c.load_on.new.self
    (g.D.Disk.state c.take_free.new.disk) (g.D.Disk.state c.load_on.new.disk) c.load_on.result) c.in-Ok.ensures.rest c.load_on.ensures.written))

pub returns-in-Err-clause-damage : goal.returns-in-Err-clause-damage
returns-in-Err-clause-damage g c = load_blames c.args.self.now c.len.result (g.D.Disk.state c.args.disk.now) c.in-Err.fault c.in-Err.ensures.err

pub returns-in-Err-take_free-clause-damage : goal.returns-in-Err-take_free-clause-damage
returns-in-Err-take_free-clause-damage g c = list_blames c.args.self.now.file (g.D.Disk.state c.args.disk.now) _ c.in-Err-take_free.fault c.in-Err-take_free.ensures.cause

pub returns-clause-damage : goal.returns-clause-damage
returns-clause-damage g c = result_blames_nothing c.args.self.now.file (g.D.Disk.state c.args.disk.now) c.load_on.result c.load_on.ensures.undamaged
