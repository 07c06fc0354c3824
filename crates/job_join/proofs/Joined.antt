-- What a join answers or why it is refused, said of the files on disks.
use Rattle.std.proofs.Common.{◌≡◌, ℕ, Result, Ok, Err, IfOk, IfErr, sym, subst, ◌∙◌}
use Rattle.std.specs.Prelude.{IsTrue}
use Rattle.disk_model.specs.Disk.{DiskState}
use Rattle.metric_laws.specs.Space.{Space}
use Rattle.scan_model.specs.Join.{join_pairs}
use Rattle.tree_shape.specs.Tree.{IsSoundTree, points_by_id}
use Rattle.page_store.specs.Reading.{Read, nodes_of}
use Rattle.page_store.specs.Shelf.{Shelf}
use Rattle.log_model.specs.declared.logs.Joined.{Joined}
use Rattle.log_model.specs.SoundJoin.{IsLeastJoinLog}
use Rattle.metric_join.specs.declared.faults.JoinFault.{JoinFault}
use Rattle.metric_join.specs.Joined.{IsJoined, HasJoinCause, IsPassing}
use Rattle.job_join.specs.declared.opened.Trees.{Trees}
use Rattle.job_join.specs.Trees.{tree_of, read_of, space_of}
use Rattle.job_join.specs.Jobs.{IsJoinOf, HasRefusal}
use Rattle.job_join.proofs.Spaces.{one_space}
use Rattle.job_join.proofs.Refusals.{Sides, refusal}

-- what a join tells of two sound trees, by what the pages of both hold
abbrev pub Scans : Trees → ℕ → Joined → Space → Read → Read → Type 0
Scans trees radius joined s x y =
    IsSoundTree s (nodes_of x) trees.left.1 → IsSoundTree s (nodes_of y) trees.right.1 →
    joined.pairs ≡ join_pairs s (points_by_id (nodes_of x) trees.left.1) (points_by_id (nodes_of y) trees.right.1) radius

-- by the pages of the files
moved : (P : Space → Read → Read → Type 0) (s t : Space) (x x2 y y2 : Read) → s ≡ t → x ≡ x2 → y ≡ y2 → P s x y → P t x2 y2
moved P s t x x2 y y2 first second third holds =
    subst (λ (u : Space). P u x2 y2) first (subst (λ (v : Read). P s v y2) second (subst (λ (w : Read). P s x w) third holds))

pub join_of : (r : Result Joined JoinFault) (s : Space) (trees : Trees) (d0 e0 : DiskState) (radius : ℕ) (a a2 b b2 : Shelf) (used used2 : ℕ) → Sides trees d0 e0 a b → s ≡ space_of (tree_of d0 trees.left)
    → IfOk r (IsJoined s trees.left.1 trees.right.1 radius a a2 b b2 used used2)
    → IfOk r (λ joined. IsTrue a.is_known → IsTrue b.is_known → Scans trees radius joined s a.read b.read)
    → IfOk r (λ joined. IsTrue d0.is_known → IsTrue e0.is_known → IsJoinOf radius joined.log (tree_of d0 trees.left) (tree_of e0 trees.right))
join_of (Err fault) s trees d0 e0 radius a a2 b b2 used used2 sides same told scanned = tt
join_of (Ok joined) s trees d0 e0 radius a a2 b b2 used used2 sides same told scanned = λ t u.
    let ta : IsTrue a.is_known = subst IsTrue (sym sides.left.is_known) t in
    let tb : IsTrue b.is_known = subst IsTrue (sym sides.right.is_known) u in
    record {
      one_space = sides.one;
      least = moved (λ z x y. IsLeastJoinLog z (nodes_of x) (nodes_of y) trees.left.1 trees.right.1 radius joined.log) s (space_of (tree_of d0 trees.left)) a.read (read_of (tree_of d0 trees.left)) b.read (read_of (tree_of e0 trees.right))
          same sides.left.read sides.right.read (told.least ta tb);
      scanned = λ sl sr.
          sym told.log.pairs_are
          ∙ moved (Scans trees radius joined) s (space_of (tree_of d0 trees.left)) a.read (read_of (tree_of d0 trees.left)) b.read (read_of (tree_of e0 trees.right)) same sides.left.read sides.right.read (scanned ta tb) sl
          (subst (λ (z : Space). IsSoundTree z (nodes_of (read_of (tree_of e0 trees.right))) trees.right.1) (one_space trees.left.0 trees.right.0 sides.one) sr);
    }

pub refusal_of : (r : Result Joined JoinFault) (s : Space) (trees : Trees) (d0 : DiskState) (n : ℕ) (e0 : DiskState) (m : ℕ) (a a2 b b2 : Shelf) → Sides trees d0 e0 a b → s ≡ space_of (tree_of d0 trees.left) → a2.faults ≡ n → b2.faults ≡ m
    → IfErr r (HasJoinCause trees.left.1 trees.right.1 a a2 b b2)
    → IfErr r (λ fault. IsTrue a.is_known → IsTrue b.is_known → IsSoundTree s (nodes_of a.read) trees.left.1 → IsSoundTree s (nodes_of b.read) trees.right.1 → IsPassing fault)
    → IfErr r (HasRefusal trees d0 n e0 m)
refusal_of (Ok joined) s trees d0 n e0 m a a2 b b2 sides same af bf cause passes = tt
refusal_of (Err fault) s trees d0 n e0 m a a2 b b2 sides same af bf cause passes =
    refusal trees d0 n e0 m a a2 b b2 fault sides af bf cause
    (subst (λ (z : Space). IsTrue a.is_known → IsTrue b.is_known → IsSoundTree z (nodes_of a.read) trees.left.1 → IsSoundTree z (nodes_of b.read) trees.right.1 → IsPassing fault) same passes)
