-- How a job ends, by what its parts told.
use Rattle.std.proofs.Common.{◌≡◌, ◌≢◌, ◌⊎◌, inl, inr, ⊎_elim, ℕ, false, List, refl, sym, subst, arith}
use Rattle.std.specs.Prelude.{codes, ◌≤◌, IsTrue}
use Rattle.std.specs.Io.KnownBytes.{Appends}
use Rattle.outside_io.specs.Bytes.{AppendsPrefix}
use Rattle.outside_io.specs.Sinks.{SinkState, Tells}
use Rattle.disk_model.specs.Disk.{DiskState, IsUnchanged}
use Rattle.tree_shape.specs.declared.live.Live.{Live}
use Rattle.node_page.specs.declared.head.Head.{Head}
use Rattle.page_store.specs.declared.pages.PageFault.{PageFault}
use Rattle.page_store.specs.declared.pages.PageFault.TheVariants as pages
use Rattle.log_model.specs.declared.logs.JoinLog.{JoinLog}
use Rattle.metric_join.specs.declared.faults.JoinFault.{JoinFault}
use Rattle.metric_join.specs.declared.faults.JoinFault.TheVariants as join
use Rattle.job_files.specs.Jobs.{Refuses as RefusesFile}
use Rattle.job_files.proofs.Published.{of_two, of_three}
use Rattle.job_join.specs.declared.opened.Trees.{Trees}
use Rattle.job_join.specs.Lines.{spaces_text}
use Rattle.job_join.specs.Trees.{Tree, tree_of, IsOpened, is_one_space}
use Rattle.job_join.specs.Jobs.{EitherRose, Refuses, OnTrees, Joins, PutsJoin, CutsJoin, IsJoinOf, HaveOtherSpaces, HasRefusal, HasDamage, EndsRefused, IsDiskFault, IsDamage, AreDamaged}
use Rattle.outside_io.proofs.Published.{rose_before}

-- ---- what opening both files tells

-- both files opened to these trees
pub record Opened (d0 d1 e0 e1 : DiskState) (l r : Head × Live) : Type 0 where
  pub same : IsUnchanged d0 d1
  pub other_same : IsUnchanged e0 e1
  pub opens : IsTrue d0.is_known → IsOpened (tree_of d0 l)
  pub other_opens : IsTrue e0.is_known → IsOpened (tree_of e0 r)
  pub later : d0.faults ≤ d1.faults
  pub other_later : e0.faults ≤ e1.faults

-- what holds for the bytes after opening holds for those before
pub on_trees : (Holds : Tree → Tree → Type 0) (d0 d1 e0 e1 : DiskState) (l r : Head × Live) → Opened d0 d1 e0 e1 l r
    → (IsTrue d1.is_known → IsTrue e1.is_known → Holds (tree_of d1 l) (tree_of e1 r)) → OnTrees d0 e0 Holds
on_trees Holds d0 d1 e0 e1 l r opened holds t u = (
  tree_of d0 l,
  tree_of e0 r,
  refl,
  refl,
  opened.opens t,
  opened.other_opens u,
  subst (λ (file : List ℕ). Holds (record { file = file; head = l.0; live = l.1 }) (tree_of e0 r)) opened.same.same_bytes
      (subst (λ (file : List ℕ). Holds (tree_of d1 l) (record { file = file; head = r.0; live = r.1 })) opened.other_same.same_bytes
      (holds (subst IsTrue (sym opened.same.same_known) t) (subst IsTrue (sym opened.other_same.same_known) u))),
)

pub either_before : (d0 d1 d2 e0 e1 e2 : DiskState) (l r : Head × Live) → Opened d0 d1 e0 e1 l r → EitherRose d1 d2 e1 e2 → EitherRose d0 d2 e0 e2
either_before d0 d1 d2 e0 e1 e2 l r opened either =
    ⊎_elim (λ rose. inl (rose_before d0.faults d1.faults d2.faults opened.later rose)) (λ rose. inr (rose_before e0.faults e1.faults e2.faults opened.other_later rose)) either

-- the index was opened, and the other file was not
pub other_refuses : (d0 d1 e0 e1 : DiskState) (l : Head × Live) (w0 w1 : SinkState) (status : ℕ) → (IsTrue d0.is_known → IsOpened (tree_of d0 l)) → RefusesFile e0 e1 w0 w1 status → Refuses d0 d1 e0 e1 w0 w1 status
other_refuses d0 d1 e0 e1 l w0 w1 status opens refuses = record {
  disk = λ is. let told = refuses.disk is in (inr told.0, told.1);
  not_index = λ is. let told = refuses.not_index is in (told.0, told.1, inr ((λ t. (tree_of d0 l, refl, opens t)), told.2));
  statuses = refuses.statuses;
}

-- ---- join

pub join_refused : (radius : ℕ) (d0 d1 e0 e1 : DiskState) (w0 w1 v : SinkState) (status : ℕ) → IsUnchanged d0 d1 → IsUnchanged e0 e1
    → Refuses d0 d1 e0 e1 w0 w1 status → Joins radius d0 d1 e0 e1 w0 w1 v v status
join_refused radius d0 d1 e0 e1 w0 w1 v status same other refuses = record {
  unchanged = (same, other);
  done = λ is. of_two status 5 6 0 refuses.statuses is (omega arith) (omega arith);
  spaces = λ is. of_two status 5 6 1 refuses.statuses is (omega arith) (omega arith);
  output = λ is. of_two status 5 6 4 refuses.statuses is (omega arith) (omega arith);
  disk = refuses.disk;
  not_index = refuses.not_index;
  memory = λ is. of_two status 5 6 8 refuses.statuses is (omega arith) (omega arith);
  damaged = λ is. of_two status 5 6 9 refuses.statuses is (omega arith) (omega arith);
}

pub join_spaces : (radius : ℕ) (d0 d1 e0 e1 : DiskState) (l r : Head × Live) (w0 w1 v : SinkState) (status : ℕ) → Opened d0 d1 e0 e1 l r → is_one_space l.0 r.0 ≡ false
    → (status ≡ 1) ⊎ (status ≡ 4) → (status ≡ 1 → Appends w0.written w1.written spaces_text) → (status ≡ 4 → AppendsPrefix w0.written w1.written spaces_text) → Joins radius d0 d1 e0 e1 w0 w1 v v status
join_spaces radius d0 d1 e0 e1 l r w0 w1 v status opened differ either whole part = record {
  unchanged = (opened.same, opened.other_same);
  done = λ is. of_two status 1 4 0 either is (omega arith) (omega arith);
  spaces = λ is. (whole is, on_trees HaveOtherSpaces d0 d1 e0 e1 l r opened (λ t u. differ));
  output = λ is. inl (part is, refl, on_trees HaveOtherSpaces d0 d1 e0 e1 l r opened (λ t u. differ));
  disk = λ is. of_two status 1 4 5 either is (omega arith) (omega arith);
  not_index = λ is. of_two status 1 4 6 either is (omega arith) (omega arith);
  memory = λ is. of_two status 1 4 8 either is (omega arith) (omega arith);
  damaged = λ is. of_two status 1 4 9 either is (omega arith) (omega arith);
}

pub join_done : (radius : ℕ) (d0 d1 d2 e0 e1 e2 : DiskState) (l r : Head × Live) (log : JoinLog) (w0 w1 v0 v1 : SinkState) (status : ℕ) → Opened d0 d1 e0 e1 l r → IsUnchanged d0 d2 → IsUnchanged e0 e2
    → (IsTrue d1.is_known → IsTrue e1.is_known → IsJoinOf radius log (tree_of d1 l) (tree_of e1 r))
    → (status ≡ 0) ⊎ ((status ≡ 4) ⊎ (status ≡ 8)) → (status ≡ 0 → PutsJoin log w0 w1 v0 v1) → (status ≡ 4 → CutsJoin log w0 w1 v0 v1) → (status ≡ 8 → Tells w0 w1 (codes "fault memory\n"))
    → Joins radius d0 d2 e0 e2 w0 w1 v0 v1 status
join_done radius d0 d1 d2 e0 e1 e2 l r log w0 w1 v0 v1 status opened same other joined statuses whole part memory = record {
  unchanged = (same, other);
  done = λ is. (log, whole is, on_trees (IsJoinOf radius log) d0 d1 e0 e1 l r opened joined);
  spaces = λ is. of_three status 0 4 8 1 statuses is (omega arith) (omega arith) (omega arith);
  output = λ is. inr (log, part is, on_trees (IsJoinOf radius log) d0 d1 e0 e1 l r opened joined);
  disk = λ is. of_three status 0 4 8 5 statuses is (omega arith) (omega arith) (omega arith);
  not_index = λ is. of_three status 0 4 8 6 statuses is (omega arith) (omega arith) (omega arith);
  memory = memory;
  damaged = λ is. of_three status 0 4 8 9 statuses is (omega arith) (omega arith) (omega arith);
}

either_of : (trees : Trees) (d1 d2 e1 e2 : DiskState) (fault : JoinFault) → IsDiskFault fault → HasRefusal trees d1 d2.faults e1 e2.faults fault → EitherRose d1 d2 e1 e2
either_of trees d1 d2 e1 e2 fault is refusal =
    ⊎_elim (λ e. inl (subst (HasRefusal trees d1 d2.faults e1 e2.faults) e refusal)) (λ e. inr (subst (HasRefusal trees d1 d2.faults e1 e2.faults) e refusal)) is

left_damage : (trees : Trees) (d1 d2 e1 e2 : DiskState) (page : PageFault) → page ≢ pages.Disk → HasRefusal trees d1 d2.faults e1 e2.faults (join.Left page) → HasDamage trees d1 e1 page
left_damage trees d1 d2 e1 e2 pages.Disk other refusal = absurd (other refl)
left_damage trees d1 d2 e1 e2 (pages.Bad p f) other refusal = refusal
left_damage trees d1 d2 e1 e2 (pages.Outside p) other refusal = refusal
left_damage trees d1 d2 e1 e2 (pages.Repeats p) other refusal = refusal
left_damage trees d1 d2 e1 e2 pages.Memory other refusal = refusal
left_damage trees d1 d2 e1 e2 (pages.Level p) other refusal = refusal

right_damage : (trees : Trees) (d1 d2 e1 e2 : DiskState) (page : PageFault) → page ≢ pages.Disk → HasRefusal trees d1 d2.faults e1 e2.faults (join.Right page) → HasDamage trees d1 e1 page
right_damage trees d1 d2 e1 e2 pages.Disk other refusal = absurd (other refl)
right_damage trees d1 d2 e1 e2 (pages.Bad p f) other refusal = refusal
right_damage trees d1 d2 e1 e2 (pages.Outside p) other refusal = refusal
right_damage trees d1 d2 e1 e2 (pages.Repeats p) other refusal = refusal
right_damage trees d1 d2 e1 e2 pages.Memory other refusal = refusal
right_damage trees d1 d2 e1 e2 (pages.Level p) other refusal = refusal

damage_of : (trees : Trees) (d1 d2 e1 e2 : DiskState) (fault : JoinFault) (page : PageFault) → IsDamage fault page → HasRefusal trees d1 d2.faults e1 e2.faults fault → HasDamage trees d1 e1 page
damage_of trees d1 d2 e1 e2 fault page is refusal =
    ⊎_elim (λ e. left_damage trees d1 d2 e1 e2 page is.0 (subst (HasRefusal trees d1 d2.faults e1 e2.faults) e refusal)) (λ e. right_damage trees d1 d2 e1 e2 page is.0 (subst (HasRefusal trees d1 d2.faults e1 e2.faults) e refusal)) is.1

pub join_stopped : (radius : ℕ) (trees : Trees) (d0 d1 d2 e0 e1 e2 : DiskState) (fault : JoinFault) (w0 w1 v : SinkState) (status : ℕ) → Opened d0 d1 e0 e1 trees.left trees.right → IsUnchanged d0 d2 → IsUnchanged e0 e2
    → HasRefusal trees d1 d2.faults e1 e2.faults fault → EndsRefused fault w0 w1 status → Joins radius d0 d2 e0 e2 w0 w1 v v status
join_stopped radius trees d0 d1 d2 e0 e1 e2 fault w0 w1 v status opened same other refusal ends = record {
  unchanged = (same, other);
  done = λ is. of_three status 5 8 9 0 ends.statuses is (omega arith) (omega arith) (omega arith);
  spaces = λ is. of_three status 5 8 9 1 ends.statuses is (omega arith) (omega arith) (omega arith);
  output = λ is. of_three status 5 8 9 4 ends.statuses is (omega arith) (omega arith) (omega arith);
  disk = λ is.
      let told = ends.disk is in
      (either_before d0 d1 d2 e0 e1 e2 trees.left trees.right opened (either_of trees d1 d2 e1 e2 fault told.0 refusal), told.1);
  not_index = λ is. of_three status 5 8 9 6 ends.statuses is (omega arith) (omega arith) (omega arith);
  memory = ends.memory;
  damaged = λ is.
      let told = ends.damaged is in
      (told.0, told.2, on_trees (AreDamaged told.0) d0 d1 e0 e1 trees.left trees.right opened (damage_of trees d1 d2 e1 e2 fault told.0 told.1 refusal));
}
