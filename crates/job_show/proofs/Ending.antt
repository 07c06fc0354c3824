-- What is said about an opened file, by what was put.
use Rattle.std.proofs.Common.{◌≡◌, ◌⊎◌, ℕ, List, Option, Some, None, refl, sym, subst}
use Rattle.std.specs.Prelude.{◌≤◌, IsTrue}
use Rattle.outside_io.specs.Sinks.{SinkState}
use Rattle.disk_model.specs.Disk.{DiskState, IsUnchanged}
use Rattle.tree_shape.specs.declared.live.Live.{Live}
use Rattle.node_page.specs.declared.head.Head.{Head}
use Rattle.node_page.specs.Opening.{OpensTo}
use Rattle.prune_log.specs.Reading.{log_at, frames_at}
use Rattle.job_files.specs.Spaces.{space_of}
use Rattle.job_files.specs.declared.logs.stop.LogStop.{LogStop}
use Rattle.job_files.specs.Logs.Files.{read_of}
use Rattle.job_files.specs.Logs.JobReports.{JobReport}
use Rattle.job_files.specs.Logs.Jobs.{Puts, Stops, Writes}
use Rattle.job_files.proofs.Published.{said_all, said_some}
use Rattle.job_show.specs.declared.report.Marks.{Marks}
use Rattle.job_show.specs.Jobs.{AreNodes, WritesShown, showing}

abbrev pub said_of : Marks → List ℕ → List ℕ → Head → Live → Option ℕ → JobReport
said_of what file bytes head live nodes = showing what (space_of head) (read_of file head live) live nodes (frames_at log_at bytes)

module _ (what : Marks) (d0 d1 d2 : DiskState) (bytes : List ℕ) (head : Head) (live : Live) (nodes : Option ℕ) (opening : IsUnchanged d0 d1) (counting : IsUnchanged d1 d2)
    (opens : IsTrue d0.is_known → OpensTo d0.bytes head live) (version : head.version ≡ 2) (nodes_are : IsTrue d1.is_known → AreNodes (read_of d1.bytes head live) live nodes) where
  -- what was said on the file of the second state is said on that of the first
  said_first : (status : ℕ) (w0 w1 : SinkState) → (IsTrue d2.is_known → Writes status (said_of what d2.bytes bytes head live nodes) w0 w1) → WritesShown what d0 bytes w0 w1 status
  said_first status w0 w1 writes is_known =
      let known1 : IsTrue d1.is_known = subst IsTrue (sym opening.same_known) is_known in
      let known2 : IsTrue d2.is_known = subst IsTrue (sym counting.same_known) known1 in (
        said_of what d0.bytes bytes head live nodes,
        record {
          head = head;
          live = live;
          opens = opens is_known;
          version = version;
          nodes = nodes;
          nodes_are = subst (λ (file : List ℕ). AreNodes (read_of file head live) live nodes) opening.same_bytes (nodes_are known1);
          said_is = refl;
        },
        subst (λ (file : List ℕ). Writes status (said_of what file bytes head live nodes) w0 w1) opening.same_bytes
            (subst (λ (file : List ℕ). Writes status (said_of what file bytes head live nodes) w0 w1) counting.same_bytes (writes known2)),
      )

  -- all was said
  pub shows_all : (w0 w1 : SinkState) (status : ℕ) → (status ≡ 0) ⊎ (status ≡ 1)
      → (IsTrue d2.is_known → Puts (said_of what d2.bytes bytes head live nodes).texts w0.written w1.written None) → (IsTrue d2.is_known → status ≡ (said_of what d2.bytes bytes head live nodes).status)
      → WritesShown what d0 bytes w0 w1 status
  shows_all w0 w1 status either puts is = said_first status w0 w1 (λ is_known. said_all (said_of what d2.bytes bytes head live nodes) w0 w1 status either (is is_known) (puts is_known))

  -- it stopped before
  pub shows_some : (w0 w1 w2 : SinkState) (status : ℕ) (why : LogStop) → w0.faults ≤ w1.faults
      → (IsTrue d2.is_known → Puts (said_of what d2.bytes bytes head live nodes).texts w0.written w1.written (Some why)) → Stops why w1 w2 status → WritesShown what d0 bytes w0 w2 status
  shows_some w0 w1 w2 status why later puts ends = said_first status w0 w2 (λ is_known. said_some (said_of what d2.bytes bytes head live nodes) w0 w1 w2 status why later (puts is_known) ends)
