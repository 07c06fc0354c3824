-- What a load places for a file that has no objects.
use Rattle.std.proofs.Common.{◌≡◌, ◌⊎◌, ℕ, zero, suc, ◌+◌, ◌-◌, ◌*◌, ◌^◌, ◌≤◌, ◌<◌, Bool, true, false, List, [], ◌∷◌, ◌++◌, inl, inr, refl, sym, ap, subst, ◌∙◌, arith, append_assoc, take, Option, Some, None, Result, Ok, Err}
use Rattle.std.specs.Prelude.{◌==◌, nat_lt, if◌then◌else◌, IsTrue, IfErr}
use Rattle.std.specs.List.{range_with_len}
use Rattle.std.proofs.lemmas.Bool.Decides.{nat_tests}
use Rattle.disk_model.specs.Disk.{DiskState, LeavesOnly}
use Rattle.metric_laws.specs.Space.{Space}
use Rattle.tree_shape.specs.declared.live.Live.{Live}
use Rattle.tree_shape.specs.Tree.{Nodes, IsSoundTree, pages_at, times}
use Rattle.tree_shape.proofs.Published.{height_is_small, power_rises}
use Rattle.node_page.specs.declared.head.Head.{Head}
use Rattle.page_store.specs.declared.staging.Placed.{Placed}
use Rattle.page_store.specs.Placing.{AreOutside as AreBeside, live_pages}
use Rattle.page_store.specs.Staging.{pages_of}
use Rattle.bulk_load.specs.Loaded.{HasLoaded, Stand}
use Rattle.index_core.specs.declared.faults.IndexFault.{IndexFault}
use Rattle.index_core.specs.declared.faults.IndexFault.TheVariants.{Full, NotEmpty, Worn, Stopped, Memory, Commit}
use Rattle.free_pages.specs.Keeping.{FreePages}
use Rattle.index_core.specs.Files.{StandsOn, IsValidFile}
use Rattle.index_core.specs.Index.{OpenIndex, AreSpare}
use Rattle.index_core.specs.Loading.{HasLoadingCause, load_fault}
use Rattle.index_core.specs.Writing.{Write, Loads, IsMadeBy, IsPlacedFor, HasWritten}
use Rattle.index_core.proofs.Written.{refused_here, refused_written}
use Rattle.index_core.proofs.Listed.{free_outside}

no_height : (h : ℕ) → (1 ≤ h → 2 * 3 ^ h ≤ 0) → h ≡ 0
no_height zero big = refl
no_height (suc h) big = let b = big (omega arith) in let p = power_rises (suc h) 0 (suc h) (omega arith) in absurd (omega arith)

-- a sound tree that has no objects is its root
pub root_alone : (s : Space) (nodes : Nodes) (t : Live) → s.dimension ≤ 64 → t.count ≡ 0 → IsSoundTree s nodes t → live_pages nodes t ≡ t.root ∷ []
root_alone s nodes t few none sound =
    subst (λ (h : ℕ). pages_at nodes h t.root ≡ t.root ∷ []) (sym (no_height t.height (subst (λ (n : ℕ). 1 ≤ t.height → 2 * 3 ^ t.height ≤ n) none (height_is_small s nodes t few sound).0))) refl

-- a load is the write of its rows
pub load_makes : (s : Space) (head : Head) (old : Nodes) (t : Live) (rows : List (List ℕ)) (labels numbers : List ℕ) (placed : Placed) (new : Nodes) → s.dimension ≤ 64 → t.count ≡ 0 → IsSoundTree s old t →
    placed.left ≡ t.root ∷ [] → HasLoaded s rows labels t numbers placed new → IsMadeBy s head (Loads rows labels) old t placed new
load_makes s head old t rows labels numbers placed new few none sound left has = record {
  objects = record { sound = has.sound; points_are = has.points; tags_are = has.tags };
  tree = has.tree;
  balance = λ page. crossed _ _ _ _ (has.pages page) (ap (times page) (left ∙ sym (root_alone s old t few none sound)));
}
  where
    crossed : (a b c d : ℕ) → a ≡ d → b ≡ c → a + b ≡ c + d
    crossed a b c d e k = omega arith

-- what a load placed on the first free pages, said of any sound tree beside them
pub load_placed_for : (s : Space) (head : Head) (t : Live) (f : FreePages) (n : ℕ) (rows : List (List ℕ)) (labels numbers : List ℕ) (placed : Placed) → numbers ≡ take n f.free → s.dimension ≤ 64 → t.count ≡ 0 →
    placed.left ≡ t.root ∷ [] →
    ((old : Nodes) → IsSoundTree s old t → AreBeside old t numbers → AreBeside old t (pages_of placed.staged)) →
    ((new : Nodes) → Stand placed.staged new → HasLoaded s rows labels t numbers placed new) →
    (nodes : Nodes) → IsSoundTree s nodes t → AreSpare nodes t f → IsPlacedFor s head (Loads rows labels) nodes t placed
load_placed_for s head t f n rows labels numbers placed is few none left apart loaded nodes sound spare = record {
  apart = apart nodes sound (subst (AreBeside nodes t) (sym is) (free_outside s nodes t f n spare sound));
  makes = λ new over. load_makes s head nodes t rows labels numbers placed new few none sound left (loaded new over.stand);
}

-- ---- loads of an index

-- one tag more
pub one_tag : (row rows : ℕ) (tags next all : List ℕ) → row < rows → next ≡ tags ++ row ∷ [] → tags ++ range_with_len row (rows - row) ≡ all → next ++ range_with_len (row + 1) (rows - (row + 1)) ≡ all
one_tag row rows tags next all low is so_far =
    ap (λ (ts : List ℕ). ts ++ range_with_len (row + 1) (rows - (row + 1))) is
    ∙ (append_assoc tags (row ∷ []) (range_with_len (row + 1) (rows - (row + 1)))
    ∙ subst (λ (n : ℕ). tags ++ range_with_len row n ≡ all) {x = rows - row} {y = suc (rows - (row + 1))} (omega arith) so_far)

-- what refuses a load at once is none of the disk, and no commit
pub at_once : {M : Type 0} (index : OpenIndex M) (rows : ℕ) (fault : IndexFault) → load_fault index rows ≡ Some fault → (fault ≡ Commit → ⊥)
at_once index rows fault is e = tested index.stopped (index.file.live.count == 0) (nat_lt index.file.head.limit rows) (index.file.live.generation == 2 ^ 48 - 1) (is ∙ ap Some e)
  where
    tested : (a b c d : Bool) → (if a then Some Stopped else (if b then (if c then Some Full else (if d then Some Worn else None)) else Some NotEmpty)) ≡ Some Commit → ⊥
    tested true b c d e = cc
    tested false false c d e = cc
    tested false true true d e = cc
    tested false true false true e = cc
    tested false true false false e = cc

-- where nothing refuses a load at once there is no object
pub may_be_loaded : {M : Type 0} (index : OpenIndex M) (rows : ℕ) → load_fault index rows ≡ None → index.file.live.count ≡ 0
may_be_loaded index rows is = zero_of index.file.live.count (tested index.stopped (index.file.live.count == 0) _ is)
  where
    tested : (a b : Bool) (r : Option IndexFault) → (if a then Some Stopped else (if b then r else Some NotEmpty)) ≡ None → b ≡ true
    tested true b r e = cc
    tested false true r e = refl
    tested false false r e = cc

    zero_of : (n : ℕ) → (n == 0) ≡ true → n ≡ 0
    zero_of n e = grind (arith, nat_tests)

pub counts : (n m k : ℕ) → n ≡ m → k ≡ 0 → n ≡ k + m
counts n m k e none = omega arith

-- a refusal that touched nothing
pub nothing_written : {M : Type 0} (s : Space) (write : Write) (old : OpenIndex M) (disk : DiskState) (fault : IndexFault) → IsValidFile s.dimension old.file → StandsOn old.file disk →
    (IsTrue disk.is_known → LeavesOnly disk disk.bytes) → (fault ≡ Commit → ⊥) → HasWritten s write old old disk disk (Err fault)
nothing_written s write old disk fault valid stands only other =
    refused_written s write old old disk disk fault valid stands only other (refused_here old disk) (λ points tags has exact. exact)

-- a commit's refusal, as one of the load
pub commit_cause : {M : Type 0} (s : Space) (old new : OpenIndex M) (rows : List (List ℕ)) (labels : List ℕ) (before after : DiskState) (write : Write) (result : Result ℕ IndexFault) →
    HasWritten s write old new before after result → IfErr result (λ fault. (fault ≡ Memory) ⊎ (fault ≡ Commit)) → IfErr result (HasLoadingCause s old rows labels before after.faults)
commit_cause s old new rows labels before after write (Ok n) written refused = tt
commit_cause s old new rows labels before after write (Err fault) written refused = elim refused [
  | inl memory ↦ subst (HasLoadingCause s old rows labels before after.faults) (sym memory) tt
  | inr commit ↦ subst (HasLoadingCause s old rows labels before after.faults) (sym commit) (written.stops commit).1
]
