-- The file of an index after the commit of what was placed for it.
use Rattle.std.proofs.Common.{◌≡◌, ℕ, ◌*◌, ◌≤◌, List, refl, sym, subst, arith}
use Rattle.std.specs.Prelude.{IsTrue}
use Rattle.disk_model.specs.Disk.{DiskState, MayLeave, LeavesOnly, EachImage}
use Rattle.node_page.specs.Opening.{OpensTo}
use Rattle.page_store.specs.declared.staging.Placed.{Placed}
use Rattle.page_store.specs.Staging.{pages_of}
use Rattle.page_cache.proofs.Published.{agreement_lasts}
use Rattle.page_cache.specs.Laws.{ForgettingKeepsAgreement, GrowsTo}
use Rattle.shadow_root.specs.Commit.{IsBeforeOrAfter, HasNext, IsReady, IsStagedFor}
use Rattle.shadow_root.specs.Live.{IsSuccessor}
use Rattle.shadow_root.specs.Placements.{KeepsBytes, alone_keeps}
use Rattle.shadow_root.proofs.Published.{commits_keep_head}
use Rattle.free_pages.specs.Keeping.{FreePages, IsKept}
use Rattle.free_pages.specs.Commits.{after_commit, AreWithin}
use Rattle.index_core.specs.Files.{OpenFile, StandsOn, IsValidFile, nodes_on, pages_on}
use Rattle.index_core.specs.Index.{AreSpare}
use Rattle.index_core.specs.Writing.{Follows, IsCommitted, IsPlacedOn, forgotten_of}
use Rattle.index_core.proofs.Committed.{follows, is_ready, next_spare, next_within, page_same, read_same}
use Rattle.index_core.proofs.Forgetting.{forgotten_agrees, forgotten_valid, same_room}

-- what was placed for a file can be committed, whatever the list has room for
module _ {M : Type 0} (dimension : ℕ) (file : OpenFile M) (f : FreePages) (spare used : ℕ) (placed : Placed) (valid : IsValidFile dimension file) (kept : IsKept (record f { spare = spare }))
    (within : AreWithin file.live.pages f) (on : IsPlacedOn file f used placed) where
  with_room : FreePages
  with_room = record f { spare = spare }

  pub can_follow : IsSuccessor file.live placed.next × IsStagedFor file.head.dim file.live placed.next placed.staged
  can_follow = follows file.head file.live (record f { spare = spare }) on.asked on.added placed kept within on.placement valid.side

  pub ready : (disk : DiskState) → StandsOn file disk → (IsTrue disk.is_known → LeavesOnly disk disk.bytes) → (IsTrue disk.is_known → AreSpare (nodes_on file disk) file.live f) →
      IsTrue disk.is_known → IsReady file.head.dim file.live placed.next placed.staged disk
  ready disk stands only beside is_known =
      is_ready file.head file.live (record f { spare = spare }) on.asked on.added placed kept within on.placement disk (beside is_known).tree valid.version valid.side (stands.opens is_known) (only is_known)
      (beside is_known).stands (beside is_known).beside

  pub next_valid : IsValidFile dimension (record file { live = placed.next; kept = forgotten_of (pages_of placed.staged) file.kept })
  next_valid = record {
    head = valid.head;
    version = valid.version;
    dimension_is = valid.dimension_is;
    side = let s = on.placement.side in omega arith;
    live = (placed.next.pages * 4096, on.placement.valid);
    kept = forgotten_valid file.head.dim file.live.pages placed.next.pages (pages_of placed.staged) file.kept (can_follow.0.low_pages) valid.kept;
  }

  module _ (before after : DiskState) (stands : StandsOn file before) (only : IsTrue before.is_known → LeavesOnly before before.bytes)
      (beside : IsTrue before.is_known → AreSpare (nodes_on file before) file.live f) (turn : IsTrue before.is_known → Follows (nodes_on file before) file.live placed)
      (moments : IsTrue before.is_known → EachImage before after (IsBeforeOrAfter file.head.dim file.live placed.next placed.staged before))
      (last : LeavesOnly after after.bytes) (done : IsTrue before.is_known → HasNext file.head.dim placed.next placed.staged after.bytes) (known_same : after.is_known ≡ before.is_known)
      (image : IsTrue after.is_known → MayLeave after after.bytes) where
    told : IsTrue after.is_known → IsTrue before.is_known
    told is_known = rw (sym known_same) is_known

    others : IsTrue after.is_known → KeepsBytes file.live placed.staged before.bytes after.bytes
    others is_known = alone_keeps file.live placed.staged before after.bytes (only (told is_known))
        (((moments (told is_known)).each after.clock after.bytes ((moments (told is_known)).later) (omega arith) (image is_known)).others)

    next_opens : IsTrue after.is_known → OpensTo after.bytes file.head placed.next
    next_opens is_known = commits_keep_head file.head.dim file.head file.live placed.next placed.staged before.bytes after.bytes (stands.opens (told is_known)) can_follow.1 (others is_known) ((done (told is_known)).opens)

    grows : GrowsTo (pages_on file before 0) (pages_on (record file { live = placed.next; kept = forgotten_of (pages_of placed.staged) file.kept }) after 0)
    grows = record { dim = refl; pages = can_follow.0.low_pages; is_known = told }

    pub committed : ForgettingKeepsAgreement → 3 ≤ file.live.pages → (new : OpenFile M) (g : FreePages) → g ≡ after_commit used placed.left placed.next.generation (record f { spare = spare }) →
        new ≡ record file { live = placed.next; kept = forgotten_of (pages_of placed.staged) file.kept } → IsCommitted file new f g used placed before after
    committed law three new g g_is new_is = subst (λ (n : OpenFile M). IsCommitted file n f g used placed before after) (sym new_is) (record {
      file = refl;
      room = same_room (pages_of placed.staged) file.kept;
      spare = spare;
      free = g_is;
      within = subst (AreWithin placed.next.pages) (sym g_is)
          (next_within file.head file.live (record f { spare = spare }) on.asked on.added placed kept within on.placement used placed.next.generation three on.left_within on.used_is);
      stands = record {
        opens = next_opens;
        agrees = forgotten_agrees agreement_lasts law (pages_of placed.staged) file.kept (pages_on file before 0)
            (pages_on (record file { live = placed.next; kept = forgotten_of (pages_of placed.staged) file.kept }) after 0) grows
            (λ page node is unstaged is_known.
            read_same ((pages_on file before 0).read page) ((pages_on (record file { live = placed.next; kept = forgotten_of (pages_of placed.staged) file.kept }) after 0).read page) node (is.told (told is_known))
            (page_same file.head file.live (record f { spare = spare }) on.asked on.added placed kept within on.placement before.bytes after.bytes page valid.side is.within unstaged
            ((done (told is_known)).in_place) (others is_known)))
            stands.agrees;
      };
      only = λ is_known. last;
      beside = λ is_known. subst (AreSpare (nodes_on (record file { live = placed.next; kept = forgotten_of (pages_of placed.staged) file.kept }) after) placed.next) (sym g_is)
          (next_spare file.head file.live (record f { spare = spare }) on.asked on.added placed kept within on.placement before.bytes after.bytes used placed.next.generation (beside (told is_known)).tree valid.side three
          on.left_within on.used_is (beside (told is_known)).stands (beside (told is_known)).have (beside (told is_known)).beside (turn (told is_known)) ((done (told is_known)).in_place) (others is_known));
      next = done;
    })

-- a file whose kept pages were forgotten
pub forgotten_file : {M : Type 0} (dimension : ℕ) (file : OpenFile M) (pages : List ℕ) → IsValidFile dimension file → IsValidFile dimension (record file { kept = forgotten_of pages file.kept })
forgotten_file dimension file pages valid = record {
  head = valid.head;
  version = valid.version;
  dimension_is = valid.dimension_is;
  side = valid.side;
  live = valid.live;
  kept = forgotten_valid file.head.dim file.live.pages file.live.pages pages file.kept (omega arith) valid.kept;
}
