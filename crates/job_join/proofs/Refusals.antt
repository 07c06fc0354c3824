-- Why the join of two opened files is refused, said of their disks.
use Rattle.std.proofs.Common.{◌≡◌, ◌≢◌, ℕ, true, refl, sym, subst, inl, inr}
use Rattle.std.specs.Prelude.{IsTrue, Err}
use Rattle.outside_io.specs.Causes.{Rose}
use Rattle.disk_model.specs.Disk.{DiskState}
use Rattle.metric_laws.specs.Space.{Space}
use Rattle.tree_shape.specs.Tree.{IsSoundTree}
use Rattle.page_store.specs.declared.pages.PageFault.{PageFault}
use Rattle.page_store.specs.declared.pages.PageFault.TheVariants as pages
use Rattle.page_store.specs.Reading.{Read, nodes_of}
use Rattle.page_store.specs.Shelf.{Shelf}
use Rattle.metric_join.specs.declared.faults.JoinFault.{JoinFault}
use Rattle.metric_join.specs.declared.faults.JoinFault.TheVariants as join
use Rattle.page_store.specs.Tours.{Names, NamesInside}
use Rattle.metric_join.specs.Joined.{HasSideCause, HasJoinCause, IsPassing}
use Rattle.job_join.specs.declared.opened.Trees.{Trees}
use Rattle.job_join.specs.Trees.{Tree, tree_of, read_of, space_of, is_one_space}
use Rattle.job_join.specs.Jobs.{IsDamaged, HasDamage, HasRefusal}
use Rattle.job_join.proofs.Spaces.{one_space}

-- what a disk's pages mean
pub record IsOf (shelf : Shelf) (disk : DiskState) (tree : Tree) : Type 0 where
  pub is_known : shelf.is_known ≡ disk.is_known
  pub read : shelf.read ≡ read_of tree
  pub faults : shelf.faults ≡ disk.faults

side_damage : (tree : Tree) (old new : Shelf) (fault : PageFault) → old.read ≡ read_of tree → IsTrue old.is_known → fault ≢ pages.Disk → HasSideCause tree.live old new fault → IsDamaged tree fault
side_damage tree old new pages.Disk is is_known other cause = absurd (other refl)
side_damage tree old new (pages.Bad page f) is is_known other cause =
    subst (λ (read : Read). (read page ≡ Err (pages.Bad page f)) × NamesInside (nodes_of read) tree.live page) is (cause.1 is_known)
side_damage tree old new (pages.Outside page) is is_known other cause =
    subst (λ (read : Read). (read page ≡ Err (pages.Outside page)) × NamesInside (nodes_of read) tree.live page) is (cause.1 is_known)
side_damage tree old new (pages.Repeats page) is is_known other cause =
    subst (λ (read : Read). Names (nodes_of read) tree.live.root tree.live.pages page) is (cause.1 is_known)
side_damage tree old new pages.Memory is is_known other cause = absurd cause
side_damage tree old new (pages.Level page) is is_known other cause = absurd cause

-- what is known of both sides before the join
pub record Sides (trees : Trees) (d0 e0 : DiskState) (a b : Shelf) : Type 0 where
  pub one : is_one_space trees.left.0 trees.right.0 ≡ true
  pub left : IsOf a d0 (tree_of d0 trees.left)
  pub right : IsOf b e0 (tree_of e0 trees.right)

-- a fault comes on two sound trees only if it is a passing one
abbrev pub PassesOn : Trees → Shelf → Shelf → DiskState → JoinFault → Type 0
PassesOn trees a b d0 fault =
    IsTrue a.is_known → IsTrue b.is_known → IsSoundTree (space_of (tree_of d0 trees.left)) (nodes_of a.read) trees.left.1 → IsSoundTree (space_of (tree_of d0 trees.left)) (nodes_of b.read) trees.right.1 → IsPassing fault

unsound : (trees : Trees) (d0 e0 : DiskState) (a b : Shelf) (fault : JoinFault) → Sides trees d0 e0 a b → PassesOn trees a b d0 fault → IsTrue a.is_known → IsTrue b.is_known →
    IsSoundTree (space_of (tree_of d0 trees.left)) (nodes_of (read_of (tree_of d0 trees.left))) trees.left.1 →
    IsSoundTree (space_of (tree_of e0 trees.right)) (nodes_of (read_of (tree_of e0 trees.right))) trees.right.1 → IsPassing fault
unsound trees d0 e0 a b fault sides passes ta tb sl sr =
    passes ta tb
    (subst (λ (read : Read). IsSoundTree (space_of (tree_of d0 trees.left)) (nodes_of read) trees.left.1) (sym sides.left.read) sl)
    (subst (λ (read : Read). IsSoundTree (space_of (tree_of d0 trees.left)) (nodes_of read) trees.right.1) (sym sides.right.read)
    (subst (λ (s : Space). IsSoundTree s (nodes_of (read_of (tree_of e0 trees.right))) trees.right.1) (one_space trees.left.0 trees.right.0 sides.one) sr))

damaged_left : (trees : Trees) (d0 e0 : DiskState) (a a2 b : Shelf) (fault : PageFault) → Sides trees d0 e0 a b → fault ≢ pages.Disk → (IsPassing (join.Left fault) → ⊥)
    → HasSideCause trees.left.1 a a2 fault → PassesOn trees a b d0 (join.Left fault) → HasDamage trees d0 e0 fault
damaged_left trees d0 e0 a a2 b fault sides other stays cause passes t u =
    let ta : IsTrue a.is_known = subst IsTrue (sym sides.left.is_known) t in
    let tb : IsTrue b.is_known = subst IsTrue (sym sides.right.is_known) u in
    record {
      one_space = sides.one;
      damaged = inl (side_damage (tree_of d0 trees.left) a a2 fault sides.left.read ta other cause);
      unsound = λ sl sr. stays (unsound trees d0 e0 a b (join.Left fault) sides passes ta tb sl sr);
    }

damaged_right : (trees : Trees) (d0 e0 : DiskState) (a b b2 : Shelf) (fault : PageFault) → Sides trees d0 e0 a b → fault ≢ pages.Disk → (IsPassing (join.Right fault) → ⊥)
    → HasSideCause trees.right.1 b b2 fault → PassesOn trees a b d0 (join.Right fault) → HasDamage trees d0 e0 fault
damaged_right trees d0 e0 a b b2 fault sides other stays cause passes t u =
    let ta : IsTrue a.is_known = subst IsTrue (sym sides.left.is_known) t in
    let tb : IsTrue b.is_known = subst IsTrue (sym sides.right.is_known) u in
    record {
      one_space = sides.one;
      damaged = inr (side_damage (tree_of e0 trees.right) b b2 fault sides.right.read tb other cause);
      unsound = λ sl sr. stays (unsound trees d0 e0 a b (join.Right fault) sides passes ta tb sl sr);
    }

rose_of : (a b c d : ℕ) → a ≡ c → b ≡ d → Rose a b → Rose c d
rose_of a b c d first last rose = subst (λ (n : ℕ). Rose n d) first (subst (λ (n : ℕ). Rose a n) last rose)

pub refusal : (trees : Trees) (d0 : DiskState) (n : ℕ) (e0 : DiskState) (m : ℕ) (a a2 b b2 : Shelf) (fault : JoinFault) → Sides trees d0 e0 a b → a2.faults ≡ n → b2.faults ≡ m
    → HasJoinCause trees.left.1 trees.right.1 a a2 b b2 fault → PassesOn trees a b d0 fault → HasRefusal trees d0 n e0 m fault
refusal trees d0 n e0 m a a2 b b2 join.Memory sides af bf cause passes = tt
refusal trees d0 n e0 m a a2 b b2 (join.Left pages.Disk) sides af bf cause passes = rose_of a.faults a2.faults d0.faults n sides.left.faults af cause
refusal trees d0 n e0 m a a2 b b2 (join.Left (pages.Bad p f)) sides af bf cause passes = damaged_left trees d0 e0 a a2 b (pages.Bad p f) sides (λ is. cc is) (λ no. no) cause passes
refusal trees d0 n e0 m a a2 b b2 (join.Left (pages.Outside p)) sides af bf cause passes = damaged_left trees d0 e0 a a2 b (pages.Outside p) sides (λ is. cc is) (λ no. no) cause passes
refusal trees d0 n e0 m a a2 b b2 (join.Left (pages.Repeats p)) sides af bf cause passes = damaged_left trees d0 e0 a a2 b (pages.Repeats p) sides (λ is. cc is) (λ no. no) cause passes
refusal trees d0 n e0 m a a2 b b2 (join.Left pages.Memory) sides af bf cause passes = absurd cause
refusal trees d0 n e0 m a a2 b b2 (join.Left (pages.Level p)) sides af bf cause passes = absurd cause
refusal trees d0 n e0 m a a2 b b2 (join.Right pages.Disk) sides af bf cause passes = rose_of b.faults b2.faults e0.faults m sides.right.faults bf cause.0
refusal trees d0 n e0 m a a2 b b2 (join.Right (pages.Bad p f)) sides af bf cause passes = damaged_right trees d0 e0 a b b2 (pages.Bad p f) sides (λ is. cc is) (λ no. no) cause.0 passes
refusal trees d0 n e0 m a a2 b b2 (join.Right (pages.Outside p)) sides af bf cause passes = damaged_right trees d0 e0 a b b2 (pages.Outside p) sides (λ is. cc is) (λ no. no) cause.0 passes
refusal trees d0 n e0 m a a2 b b2 (join.Right (pages.Repeats p)) sides af bf cause passes = damaged_right trees d0 e0 a b b2 (pages.Repeats p) sides (λ is. cc is) (λ no. no) cause.0 passes
refusal trees d0 n e0 m a a2 b b2 (join.Right pages.Memory) sides af bf cause passes = absurd cause.0
refusal trees d0 n e0 m a a2 b b2 (join.Right (pages.Level p)) sides af bf cause passes = absurd cause.0
