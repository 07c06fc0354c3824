use Rattle.std.proofs.Common.{sym, subst, length, Some, Err}
use Rattle.tree_shape.specs.Tree.{Nodes, IsSoundTree}
use Rattle.free_pages.specs.Commits.{AreWithin}
use Rattle.index_core.specs.Files.{IsValidFile}
use Rattle.index_core.specs.Index.{OpenIndex, AreSpare}
use Rattle.index_core.specs.Loading.{HasLoadCause}
use Rattle.index_core.specs.Writing.{HasWritten, IsNumberedFor, IsPlacedFor, Loads}
use Rattle.index_core.proofs.Loaded.{commit_cause, counts, may_be_loaded, nothing_written}
use Rattle.index_core.proofs.index.Index.load_on.Goals as goal

pub build-requires-clause-within : goal.build-requires-clause-within
build-requires-clause-within g c = λ κs within.
    subst (λ (i : OpenIndex g.row.M.Denot). AreWithin i.file.live.pages c.args.free) (sym c.self.view_is) c.requires.valid.within

pub returns-in-Ok-clause-written : goal.returns-in-Ok-clause-written
returns-in-Ok-clause-written g c =
    let none = may_be_loaded c.args.self.now (length c.args.rows.now.points) c.requires.may in
    let loads = subst (λ (i : OpenIndex g.row.M.Denot). (nodes : Nodes) → IsSoundTree (g.M.Metric.space i.file.metric) nodes i.file.live → AreSpare nodes i.file.live c.args.free →
    IsPlacedFor (g.M.Metric.space i.file.metric) i.file.head (Loads c.args.rows.now.points c.args.tags.now) nodes i.file.live c.in-Ok.placement.placed) c.self.view_is c.in-Ok.ensures.loads in
    c.commit_placed.ensures.written (Loads c.args.rows.now.points c.args.tags.now) (counts _ _ _ c.in-Ok.ensures.many none) c.in-Ok.ensures.many (λ sound. loads _ sound.1 (c.requires.beside sound.0))
    (subst (λ (i : OpenIndex g.row.M.Denot). IsNumberedFor (Loads c.args.rows.now.points c.args.tags.now) i.file c.args.free c.in-Ok.placement.placed) c.self.view_is c.in-Ok.ensures.numbered)

pub returns-in-Ok-clause-cause : goal.returns-in-Ok-clause-cause
returns-in-Ok-clause-cause g c =
    commit_cause (g.M.Metric.space c.args.self.now.file.metric) (record c.args.self.now { free = Some c.args.free }) c.commit_placed.new.self c.args.rows.now.points c.args.tags.now (g.D.Disk.state c.args.disk.now)
    (g.D.Disk.state c.commit_placed.new.disk) (Loads c.args.rows.now.points c.args.tags.now) c.commit_placed.result (returns-in-Ok-clause-written g c) c.commit_placed.ensures.refusals

pub returns-in-Err-clause-written : goal.returns-in-Err-clause-written
returns-in-Err-clause-written g c =
    let valid = subst (λ (i : OpenIndex g.row.M.Denot). IsValidFile (g.M.Metric.space i.file.metric).dimension i.file) c.self.view_is c.is_valid.ensures in
    subst (λ (n : OpenIndex g.row.M.Denot). HasWritten (g.M.Metric.space c.args.self.now.file.metric) (Loads c.args.rows.now.points c.args.tags.now) (record c.args.self.now { free = Some c.args.free }) n
    (g.D.Disk.state c.args.disk.now) (g.D.Disk.state c.args.disk.now) (Err c.in-Err.fault)) (sym c.put_free.ensures)
    (nothing_written (g.M.Metric.space c.args.self.now.file.metric) (Loads c.args.rows.now.points c.args.tags.now) (record c.args.self.now { free = Some c.args.free }) (g.D.Disk.state c.args.disk.now) c.in-Err.fault
    valid c.requires.stands c.requires.only (λ e. subst (HasLoadCause (g.M.Metric.space c.self.inside.view.metric) c.self.inside.view c.args.free c.args.rows.now.points c.args.tags.now) e c.in-Err.ensures.cause))
