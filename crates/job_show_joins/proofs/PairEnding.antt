-- What is said about two opened files, by what was put.
use Rattle.std.proofs.Common.{◌≡◌, ◌⊎◌, ⊎_elim, inl, inr, ℕ, true, List, Some, None, refl, sym, subst, ◌∙◌}
use Rattle.std.specs.Prelude.{◌≤◌, IsTrue}
use Rattle.outside_io.specs.Sinks.{SinkState}
use Rattle.outside_io.proofs.Published.{rose_before}
use Rattle.disk_model.specs.Disk.{DiskState, IsUnchanged}
use Rattle.tree_shape.specs.declared.live.Live.{Live}
use Rattle.node_page.specs.declared.head.Head.{Head}
use Rattle.job_files.specs.declared.logs.stop.LogStop.{LogStop}
use Rattle.job_files.specs.Logs.Jobs.{Puts, Stops, Writes}
use Rattle.job_files.proofs.Published.{said_all, said_some}
use Rattle.job_join.specs.Trees.{IsOpened, Tree, is_one_space, read_of, tree_of}
use Rattle.job_join.specs.Jobs.{EitherRose}
use Rattle.job_show.specs.declared.report.Marks.{Marks}
use Rattle.job_show.specs.Jobs.{AreNodes}
use Rattle.job_show_joins.specs.Frames.{BothNodes}
use Rattle.job_show_joins.specs.Jobs.{WritesShown, said_on}

abbrev tree_at : List ℕ → Head × Live → Tree
tree_at file opened = record { file = file; head = opened.0; live = opened.1 }

-- a disk failed since an earlier state
pub either_before : (d0 d1 d2 e0 e1 e2 : DiskState) → d0.faults ≤ d1.faults → e0.faults ≤ e1.faults → EitherRose d1 d2 e1 e2 → EitherRose d0 d2 e0 e2
either_before d0 d1 d2 e0 e1 e2 later other_later either =
    ⊎_elim (λ rose. inl (rose_before d0.faults d1.faults d2.faults later rose)) (λ rose. inr (rose_before e0.faults e1.faults e2.faults other_later rose)) either

module _ (what : Marks) (d0 d1 d2 e0 e1 e2 : DiskState) (bytes : List ℕ) (l r : Head × Live) (nodes : BothNodes) (opening : IsUnchanged d0 d1) (counting : IsUnchanged d1 d2) (other_opening : IsUnchanged e0 e1)
    (other_counting : IsUnchanged e1 e2) (opens : IsTrue d0.is_known → IsOpened (tree_of d0 l)) (other_opens : IsTrue e0.is_known → IsOpened (tree_of e0 r))
    (nodes_are : IsTrue d1.is_known → is_one_space l.0 r.0 ≡ true → AreNodes (read_of (tree_of d1 l)) l.1 nodes.0)
    (other_nodes_are : IsTrue e1.is_known → is_one_space l.0 r.0 ≡ true → AreNodes (read_of (tree_of e1 r)) r.1 nodes.1) where
  -- what was said on the files of the last states is said on those of the first
  said_first : (status : ℕ) (w0 w1 : SinkState) → (IsTrue d2.is_known → IsTrue e2.is_known → Writes status (said_on what (tree_of d2 l) (tree_of e2 r) nodes bytes) w0 w1) → WritesShown what d0 e0 bytes w0 w1 status
  said_first status w0 w1 writes t u =
      let t1 : IsTrue d1.is_known = subst IsTrue (sym opening.same_known) t in
      let u1 : IsTrue e1.is_known = subst IsTrue (sym other_opening.same_known) u in
      let there : d2.bytes ≡ d0.bytes = counting.same_bytes ∙ opening.same_bytes in
      let other_there : e2.bytes ≡ e0.bytes = other_counting.same_bytes ∙ other_opening.same_bytes in (
        tree_of d0 l,
        tree_of e0 r,
        refl,
        refl,
        opens t,
        other_opens u,
        (
          said_on what (tree_of d0 l) (tree_of e0 r) nodes bytes,
          record {
            nodes = nodes;
            left_nodes = λ one. subst (λ (file : List ℕ). AreNodes (read_of (tree_at file l)) l.1 nodes.0) opening.same_bytes (nodes_are t1 one);
            right_nodes = λ one. subst (λ (file : List ℕ). AreNodes (read_of (tree_at file r)) r.1 nodes.1) other_opening.same_bytes (other_nodes_are u1 one);
            said_is = refl;
          },
          subst (λ (file : List ℕ). Writes status (said_on what (tree_at file l) (tree_of e0 r) nodes bytes) w0 w1) there
              (subst (λ (file : List ℕ). Writes status (said_on what (tree_of d2 l) (tree_at file r) nodes bytes) w0 w1) other_there
              (writes (subst IsTrue (sym counting.same_known) t1) (subst IsTrue (sym other_counting.same_known) u1))),
        ),
      )

  -- all was said
  pub shows_all : (w0 w1 : SinkState) (status : ℕ) → (status ≡ 0) ⊎ (status ≡ 1)
      → (IsTrue d2.is_known → IsTrue e2.is_known → Puts (said_on what (tree_of d2 l) (tree_of e2 r) nodes bytes).texts w0.written w1.written None)
      → (IsTrue d2.is_known → IsTrue e2.is_known → status ≡ (said_on what (tree_of d2 l) (tree_of e2 r) nodes bytes).status)
      → WritesShown what d0 e0 bytes w0 w1 status
  shows_all w0 w1 status either puts is = said_first status w0 w1 (λ t u. said_all (said_on what (tree_of d2 l) (tree_of e2 r) nodes bytes) w0 w1 status either (is t u) (puts t u))

  -- it stopped before
  pub shows_some : (w0 w1 w2 : SinkState) (status : ℕ) (why : LogStop) → w0.faults ≤ w1.faults
      → (IsTrue d2.is_known → IsTrue e2.is_known → Puts (said_on what (tree_of d2 l) (tree_of e2 r) nodes bytes).texts w0.written w1.written (Some why)) → Stops why w1 w2 status → WritesShown what d0 e0 bytes w0 w2 status
  shows_some w0 w1 w2 status why later puts ends = said_first status w0 w2 (λ t u. said_some (said_on what (tree_of d2 l) (tree_of e2 r) nodes bytes) w0 w1 w2 status why later (puts t u) ends)
