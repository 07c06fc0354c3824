-- A write that follows calls that only read.
use Rattle.std.proofs.Common.{◌≡◌, ◌⊎◌, ℕ, ◌+◌, ◌-◌, ◌≤◌, List, [], ◌∷◌, inl, inr, refl, sym, ap, subst, ◌∙◌, arith, Option, Some, None, Result, Ok, Err}
use Rattle.std.specs.Prelude.{IsTrue, MatchOption, OnOk, IfOk, IfErr}
use Rattle.std.specs.List.{AllByRecursion}
use Rattle.metric_laws.specs.Space.{Space}
use Rattle.outside_io.specs.Causes.{Rose}
use Rattle.disk_model.specs.Disk.{DiskState, MayLeave, LeavesOnly, EachImage, IsUnchanged}
use Rattle.disk_model.specs.Moments.{joined, then_unchanged, weakened}
use Rattle.tree_shape.specs.Plain.{tree_of}
use Rattle.tree_shape.specs.Tree.{IsSoundTree, points_by_id, tags_by_id}
use Rattle.node_page.specs.Opening.{page_of}
use Rattle.page_store.specs.Reading.{nodes_of, reading}
use Rattle.page_store.specs.Kept.{unchanged_by_none}
use Rattle.free_pages.specs.Keeping.{FreePages}
use Rattle.free_pages.specs.Commits.{AreOutside, IsGuarded}
use Rattle.index_core.specs.declared.faults.IndexFault.{IndexFault}
use Rattle.index_core.specs.declared.faults.IndexFault.TheVariants.{Commit, Memory as NoMemory}
use Rattle.tree_shape.specs.Plain.{Object}
use Rattle.page_store.specs.declared.staging.Placed.{Placed}
use Rattle.page_store.specs.Placing.{live_pages}
use Rattle.index_core.specs.Answers.{IsSoundOn}
use Rattle.index_core.specs.Causes.{HasInsertCause, IsListOf, IsMadeList}
use Rattle.index_core.specs.Files.{OpenFile, StandsOn, OnlyReads, IsValidFile, nodes_on}
use Rattle.index_core.specs.Index.{OpenIndex}
use Rattle.index_core.specs.Lending.{same_room_by_none, same_room_by_both}
use Rattle.index_core.specs.Writing.{Write, added_by, answer_to, offered_to, points_after, tags_after, tree_after, AreLeastPages, HasObjects, HoldsObjects, LeavesEither, IsExact, IsExactFor, IsNext, IsPlacedFor, IsRefused, GuardsPages, KeepsPages, HasWritten, StandsOnLeast}
use Rattle.outside_io.proofs.Published.{rose_before}

-- the file of an index on a disk that tells, with these objects
pub holds : {M : Type 0} (s : Space) (file : OpenFile M) (disk : DiskState) (points : List (List ℕ)) (tags : List ℕ) → IsValidFile s.dimension file → StandsOn file disk →
    HasObjects s file disk points tags → HoldsObjects s file.head points tags disk.bytes
holds s file disk points tags valid stands has = record {
  live = file.live;
  is = record {
    opens = stands.opens has.is_known;
    version = valid.version;
    dimension = valid.dimension_is;
    tree = record { sound = has.sound; points_are = has.points_are; tags_are = has.tags_are };
  };
}

-- the objects stay while the disk is only read
pub has_still : {M : Type 0} (s : Space) (old new : OpenFile M) (before after : DiskState) (points : List (List ℕ)) (tags : List ℕ) → OnlyReads old new before after →
    HasObjects s old before points tags → HasObjects s new after points tags
has_still {M} s old new before after points tags reads has = subst (λ (file : OpenFile M). HasObjects s file after points tags) (sym reads.rest) (record {
  is_known = rw reads.same.same_known has.is_known;
  sound = subst (λ (bytes : List ℕ). IsSoundTree s (nodes_of (reading old.head.dim old.live.pages bytes)) old.live) (sym reads.same.same_bytes) has.sound;
  points_are = subst (λ (bytes : List ℕ). points_by_id (nodes_of (reading old.head.dim old.live.pages bytes)) old.live ≡ points) (sym reads.same.same_bytes) has.points_are;
  tags_are = subst (λ (bytes : List ℕ). tags_by_id (nodes_of (reading old.head.dim old.live.pages bytes)) old.live ≡ tags) (sym reads.same.same_bytes) has.tags_are;
})

-- calls that only read leave what stood, where that was all that a crash might leave
pub either_still : (s : Space) {M : Type 0} (file : OpenFile M) (write : Write) (points : List (List ℕ)) (tags : List ℕ) (before after : DiskState) → IsValidFile s.dimension file → StandsOn file before →
    LeavesOnly before before.bytes → IsUnchanged before after → HasObjects s file before points tags → LeavesEither s file.head write points tags before after
either_still s file write points tags before after valid stands only same has =
    weakened before after (MayLeave before) (λ image. HoldsObjects s file.head points tags image ⊎ HoldsObjects s file.head (points_after write points) (tags_after write tags) image) same.time
    (λ image left. inl (subst (HoldsObjects s file.head points tags) (sym (only image left)) (holds s file before points tags valid stands has)))

pub pages_still : (tree : List ℕ) (before after : DiskState) → LeavesOnly before before.bytes → IsUnchanged before after → KeepsPages tree before after
pages_still tree before after only same =
    weakened before after (MayLeave before) (λ image. AllByRecursion (λ page. page_of image page ≡ page_of before.bytes page) tree) same.time
    (λ image left. all_same tree (only image left))
  where
    all_same : {image : List ℕ} (tree : List ℕ) → image ≡ before.bytes → AllByRecursion (λ page. page_of image page ≡ page_of before.bytes page) tree
    all_same [] e = tt
    all_same (page ∷ tree) e = (ap (λ (bytes : List ℕ). page_of bytes page) e, all_same tree e)

-- a refusal that only read
pub refused_written : {M : Type 0} (s : Space) (write : Write) (old new : OpenIndex M) (before after : DiskState) (fault : IndexFault) → IsValidFile s.dimension old.file → StandsOn old.file before →
    (IsTrue before.is_known → LeavesOnly before before.bytes) → (fault ≡ Commit → ⊥) → IsRefused old new before after →
    ((points : List (List ℕ)) (tags : List ℕ) → HasObjects s old.file before points tags → IsExact old before → IsExact new after) → HasWritten s write old new before after (Err fault)
refused_written s write old new before after fault valid stands only other refused exact = record {
  answer = tt;
  next = tt;
  refused = λ no. refused;
  stops = λ is. absurd (other is);
  forgets = λ is. absurd (other is);
  moments = λ points tags has. either_still s old.file write points tags before after valid stands (only has.is_known) refused.same has;
  objects = λ points tags has. tt;
  tree = λ points tags has. tt;
  least = tt;
  exact = exact;
  guarded = λ generation tree guards. tt;
  kept = λ generation tree is_known guards. pages_still tree before after (only is_known) refused.same;
}

-- the list that the index has, if it has one
pub list_is : {M : Type 0} (index : OpenIndex M) (disk : DiskState) (f : FreePages) → IsListOf index disk f → MatchOption index.free (Unit {0}) (λ g. f ≡ g)
list_is index disk f is = known index.free is
  where
    known : (free : Option FreePages) → MatchOption free (IsMadeList index.file disk f) (λ g. f ≡ g) → MatchOption free (Unit {0}) (λ g. f ≡ g)
    known None l = tt
    known (Some g) l = l

-- A write of the index whose free list was taken out, after calls that only read: a write of the index as it stood before them.
module _ {M : Type 0} (s : Space) (write : Write) (old new : OpenIndex M) (file : OpenFile M) (f : FreePages) (before mid after : DiskState) where
  taken_out : OpenIndex M
  taken_out = record old { file = file; free = Some f }

  next_then : OnlyReads old.file file before mid → IsNext write (record old { file = file; free = Some f }) new → IsNext write old new
  next_then reads next = record {
    live = next.live;
    is = next.is ∙ ap (λ (o : OpenFile M). record old { file = record o { live = next.live; kept = new.file.kept }; free = new.free }) reads.rest;
    side = next.side ∙ ap (λ (o : OpenFile M). 1 - o.live.side) reads.rest;
    generation = next.generation ∙ ap (λ (o : OpenFile M). o.live.generation + 1) reads.rest;
    count = next.count ∙ ap (λ (o : OpenFile M). o.live.count + added_by write) reads.rest;
    pages = subst (λ (o : OpenFile M). o.live.pages ≤ next.live.pages) reads.rest next.pages;
    room = same_room_by_both old.file.kept file.kept new.file.kept reads.room next.room;
  }

  refused_then : OnlyReads old.file file before mid → MatchOption old.free (Unit {0}) (λ g. f ≡ g) → IsRefused (record old { file = file; free = Some f }) new mid after → IsRefused old new before after
  refused_then reads list refused = record {
    is = refused.is ∙ ap (λ (o : OpenFile M). record old { file = record o { kept = new.file.kept }; free = new.free }) reads.rest;
    room = same_room_by_both old.file.kept file.kept new.file.kept reads.room refused.room;
    free = free_then old.free list;
    same = then_unchanged before mid after reads.same refused.same;
  }
    where
      free_then : (free : Option FreePages) → MatchOption free (Unit {0}) (λ g. f ≡ g) → MatchOption free (Unit {0}) (λ g. new.free ≡ Some g)
      free_then None l = tt
      free_then (Some g) l = refused.free ∙ ap Some l

  guards_then : (generation : ℕ) (tree : List ℕ) → OnlyReads old.file file before mid → MatchOption old.free (Unit {0}) (λ g. f ≡ g) → GuardsPages generation tree old →
      GuardsPages generation tree (record old { file = file; free = Some f })
  guards_then generation tree reads list guards = subst (λ (o : OpenFile M). GuardsPages generation tree (record old { file = o; free = Some f })) (sym reads.rest) (with_list old.free list guards)
    where
      with_list : (free : Option FreePages) → MatchOption free (Unit {0}) (λ g. f ≡ g) → MatchOption free ⊥ (λ g. IsGuarded old.file.live.pages generation g tree) → IsGuarded old.file.live.pages generation f tree
      with_list None l g = absurd g
      with_list (Some g) l guards = subst (λ (h : FreePages). IsGuarded old.file.live.pages generation h tree) (sym l) guards

  least_then : OnlyReads old.file file before mid → IsListOf old before f → StandsOnLeast s write (record old { file = file; free = Some f }) new mid after → StandsOnLeast s write old new before after
  least_then reads listed least = record {
    list = least.list;
    is = subst (IsListOf old before) (sym least.is) listed;
    pages = λ points tags has.
        subst (λ (bytes : List ℕ). AreLeastPages (offered_to write old.file.live least.list) old.file.live.pages (live_pages (nodes_of (reading old.file.head.dim old.file.live.pages bytes)) old.file.live)
        (live_pages (nodes_on new.file after) new.file.live)) reads.same.same_bytes
        (subst (λ (o : OpenFile M). AreLeastPages (offered_to write o.live least.list) o.live.pages (live_pages (nodes_on o mid) o.live) (live_pages (nodes_on new.file after) new.file.live)) reads.rest
        (least.pages points tags (has_still s old.file file before mid points tags reads has)));
  }

  pub then_written : (result : Result ℕ IndexFault) → IsValidFile s.dimension old.file → StandsOn old.file before → (IsTrue before.is_known → LeavesOnly before before.bytes) →
      OnlyReads old.file file before mid → IsListOf old before f →
      ((points : List (List ℕ)) (tags : List ℕ) → HasObjects s old.file before points tags → IsExact old before → IsExactFor file f mid) →
      HasWritten s write (record old { file = file; free = Some f }) new mid after result → HasWritten s write old new before after result
  then_written result valid stands only reads listed exact_list written = let list = list_is old before f listed in record {
    answer = answer result written.answer;
    next = each_ok result (next_then reads) written.next;
    refused = each_err result (λ fault h no. refused_then reads list (h no)) written.refused;
    stops = each_err result (λ fault h is. ((h is).0, rose_before before.faults mid.faults after.faults reads.later (h is).1)) written.stops;
    forgets = written.forgets;
    moments = λ points tags has.
        joined before mid after (λ image. HoldsObjects s old.file.head points tags image ⊎ HoldsObjects s old.file.head (points_after write points) (tags_after write tags) image)
        (either_still s old.file write points tags before mid valid stands (only has.is_known) reads.same has)
        (subst (λ (o : OpenFile M). LeavesEither s o.head write points tags mid after) reads.rest (written.moments points tags (has_still s old.file file before mid points tags reads has)));
    objects = λ points tags has. written.objects points tags (has_still s old.file file before mid points tags reads has);
    tree = λ points tags has. each_ok result (tree_then has) (written.tree points tags (has_still s old.file file before mid points tags reads has));
    least = each_ok result (least_then reads listed) written.least;
    exact = λ points tags has exact. written.exact points tags (has_still s old.file file before mid points tags reads has) (exact_list points tags has exact);
    guarded = λ generation tree guards. written.guarded generation tree (guards_then generation tree reads list guards);
    kept = λ generation tree is_known guards.
        joined before mid after (λ image. AllByRecursion (λ page. page_of image page ≡ page_of before.bytes page) tree) (pages_still tree before mid (only is_known) reads.same)
        (subst (λ (bytes : List ℕ). EachImage mid after (λ image. AllByRecursion (λ page. page_of image page ≡ page_of bytes page) tree)) reads.same.same_bytes
        (written.kept generation tree (rw reads.same.same_known is_known) (guards_then generation tree reads list guards)));
  }
    where
      answer : (r : Result ℕ IndexFault) → IfOk r (λ n. n ≡ answer_to write file.live.count) → IfOk r (λ n. n ≡ answer_to write old.file.live.count)
      answer (Ok n) e = e ∙ ap (λ (o : OpenFile M). answer_to write o.live.count) reads.rest
      answer (Err fault) e = tt

      each_ok : {P Q : Type 0} (r : Result ℕ IndexFault) → (P → Q) → OnOk r P → OnOk r Q
      each_ok (Ok n) h p = h p
      each_ok (Err fault) h p = tt

      each_err : {P Q : IndexFault → Type 0} (r : Result ℕ IndexFault) → ((fault : IndexFault) → P fault → Q fault) → IfErr r P → IfErr r Q
      each_err (Ok n) h p = tt
      each_err (Err fault) h p = h fault p

      tree_then : {points : List (List ℕ)} {tags : List ℕ} → HasObjects s old.file before points tags →
          tree_of (nodes_on new.file after) new.file.live ≡ tree_after s file.head write file.live.count (tree_of (nodes_on file mid) file.live) →
          tree_of (nodes_on new.file after) new.file.live ≡ tree_after s old.file.head write old.file.live.count (tree_of (nodes_on old.file before) old.file.live)
      tree_then has e =
          e ∙ (ap (λ (o : OpenFile M). tree_after s o.head write o.live.count (tree_of (nodes_on o mid) o.live)) reads.rest
          ∙ ap (λ (bytes : List ℕ). tree_after s old.file.head write old.file.live.count (tree_of (nodes_of (reading old.file.head.dim old.file.live.pages bytes)) old.file.live)) reads.same.same_bytes)

-- ---- what stands while the disk is only read

-- a refusal at once
pub refused_here : {M : Type 0} (index : OpenIndex M) (disk : DiskState) → IsRefused index index disk disk
refused_here index disk = record { is = refl; room = same_room_by_none index.file.kept; free = free_here index.free; same = unchanged_by_none disk }
  where
    free_here : (free : Option FreePages) → MatchOption free (Unit {0}) (λ f. free ≡ Some f)
    free_here None = tt
    free_here (Some f) = refl

pub reads_both : {M : Type 0} (a b c : OpenFile M) (before mid after : DiskState) → OnlyReads a b before mid → OnlyReads b c mid after → OnlyReads a c before after
reads_both {M} a b c before mid after first second = record {
  rest = second.rest ∙ ap (λ (f : OpenFile M). record f { kept = c.kept }) first.rest;
  room = same_room_by_both a.kept b.kept c.kept first.room second.room;
  same = then_unchanged before mid after first.same second.same;
  later = let l = first.later in let m = second.later in omega arith;
}

pub refused_by : {M : Type 0} (old : OpenIndex M) (file : OpenFile M) (f : FreePages) (before after : DiskState) → OnlyReads old.file file before after → MatchOption old.free (Unit {0}) (λ g. f ≡ g) →
    IsRefused old (record old { file = file; free = Some f }) before after
refused_by {M} old file f before after reads list = record {
  is = ap (λ (n : OpenFile M). record old { file = n; free = Some f }) reads.rest;
  room = reads.room;
  free = some old.free list;
  same = reads.same;
}
  where
    some : (free : Option FreePages) → MatchOption free (Unit {0}) (λ g. f ≡ g) → MatchOption free (Unit {0}) (λ g. Some f ≡ Some g)
    some None l = tt
    some (Some g) l = ap Some l

pub fits_moved : {M : Type 0} (space : M → Space) (write : Write) (placed : Placed) (old new : OpenFile M) (before after : DiskState) → OnlyReads old new before after →
    (IsSoundOn (space old.metric) old before → IsPlacedFor (space old.metric) old.head write (nodes_on old before) old.live placed) →
    IsSoundOn (space new.metric) new after → IsPlacedFor (space new.metric) new.head write (nodes_on new after) new.live placed
fits_moved {M} space write placed old new before after reads is_point =
    subst (λ (f : OpenFile M). IsSoundOn (space f.metric) f after → IsPlacedFor (space f.metric) f.head write (nodes_on f after) f.live placed) (sym reads.rest) (λ sound.
    subst (λ (bytes : List ℕ). IsPlacedFor (space old.metric) old.head write (nodes_of (reading old.head.dim old.live.pages bytes)) old.live placed) (sym reads.same.same_bytes)
    (is_point (rw (sym reads.same.same_known) sound.0, subst (λ (bytes : List ℕ). IsSoundTree (space old.metric) (nodes_of (reading old.head.dim old.live.pages bytes)) old.live) reads.same.same_bytes sound.1)))

pub exact_moved : {M : Type 0} (f : FreePages) (old new : OpenFile M) (before after : DiskState) → OnlyReads old new before after → IsExactFor old f before → IsExactFor new f after
exact_moved {M} f old new before after reads exact =
    subst (λ (n : OpenFile M). IsExactFor n f after) (sym reads.rest)
    (subst (λ (bytes : List ℕ). AreOutside old.live.pages (live_pages (nodes_of (reading old.head.dim old.live.pages bytes)) old.live) f) (sym reads.same.same_bytes) exact)

-- why a commit was refused
pub commit_cause : {M : Type 0} (s : Space) (index : OpenIndex M) (o : Object) (before mid after : DiskState) (r : Result ℕ IndexFault) → before.faults ≤ mid.faults →
    IfErr r (λ fault. (fault ≡ NoMemory) ⊎ (fault ≡ Commit)) → IfErr r (λ fault. fault ≡ Commit → Rose mid.faults after.faults) → IfErr r (HasInsertCause s index o before after)
commit_cause s index o before mid after (Ok n) later either rose = tt
commit_cause s index o before mid after (Err fault) later either rose = elim either [
  | inl e ↦ subst (HasInsertCause s index o before after) (sym e) tt
  | inr e ↦ subst (HasInsertCause s index o before after) (sym e) (rose_before before.faults mid.faults after.faults later (rose e))
]
