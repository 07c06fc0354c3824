-- What a commit of what was placed makes of an index.
use Rattle.std.proofs.Common.{◌≡◌, ◌⊎◌, ℕ, zero, suc, ◌+◌, ◌≤◌, true, List, [], ◌∷◌, inl, inr, refl, sym, ap, subst, ◌∙◌, arith, drop, length, map, max, Option, None, Some, Ok, Err}
use Rattle.std.specs.Prelude.{IsTrue, MatchOption}
use Rattle.std.specs.List.{AllByRecursion, range_with_len}
use Rattle.std.proofs.lemmas.List.{length-map}
use Rattle.metric_laws.specs.Lists.{IsIn}
use Rattle.metric_laws.specs.Space.{Space}
use Rattle.metric_laws.proofs.Published.{all_in, all_weaker}
use Rattle.outside_io.specs.Causes.{Rose}
use Rattle.disk_model.specs.Disk.{DiskState, MayLeave, LeavesOnly, EachImage}
use Rattle.disk_model.specs.Moments.{weakened}
use Rattle.tree_shape.specs.declared.live.Live.{Live}
use Rattle.tree_shape.specs.Plain.{tree_of}
use Rattle.tree_shape.specs.Tree.{Nodes, IsSoundTree, points_by_id, tags_by_id, times}
use Rattle.node_page.specs.Opening.{page_of}
use Rattle.page_store.specs.declared.staging.Placed.{Placed}
use Rattle.page_store.specs.declared.staging.StagedNode.{StagedNode}
use Rattle.page_store.specs.Files.{IsSoundFile, nodes_in}
use Rattle.page_store.specs.Numbers.{number_at}
use Rattle.page_store.specs.Placing.{AreOutside as AreBeside, IsOver, live_pages}
use Rattle.page_store.proofs.Published.{in_times, times_in}
use Rattle.page_store.specs.Reading.{IsWithin}
use Rattle.page_store.specs.Staging.{pages_of}
use Rattle.page_store.specs.Succession.{IsWritten}
use Rattle.shadow_root.specs.Commit.{IsBeforeOrAfter, IsNotStaged, IsStagedAs}
use Rattle.shadow_root.specs.Placements.{IsFileOf, IsTreeOf, KeepsBytes, alone_keeps}
use Rattle.shadow_root.proofs.Published.{in_place_is_written, commits_keep_lists}
use Rattle.free_pages.specs.Keeping.{FreePages, IsKept, with_left}
use Rattle.free_pages.specs.Commits.{with_all_left, AreOutside, AreWithin, IsExchange, IsGuarded}
use Rattle.free_pages.proofs.Published.{keep_outside, guard, none_in, pins_left}
use Rattle.index_core.specs.declared.faults.IndexFault.TheVariants.{Commit}
use Rattle.index_core.specs.Files.{OpenFile, StandsOn, IsValidFile, nodes_on}
use Rattle.index_core.specs.Index.{OpenIndex, AreSpare, IsValidFree}
use Rattle.index_core.specs.Writing.{Write, added_by, answer_to, offered_to, points_after, tags_after, tree_after, AreLeastPages, Follows, HasObjects, HoldsObjects, LeavesEither, IsCommitted, IsExactFor, IsMadeBy, IsNumberedFor, IsPlacedFor, IsPlacedOn, KeepsPages, HasWritten}
use Rattle.index_core.proofs.Committed.{exchange, unshared}
use Rattle.index_core.proofs.Settled.{can_follow}

beside_none : (nodes : Nodes) (t : Live) (pages : List ℕ) (page : ℕ) → AreBeside nodes t pages → IsIn page pages → times page (live_pages nodes t) ≡ 0
beside_none nodes t pages page apart i = all_in (λ n. times n (live_pages nodes t) ≡ 0) pages page apart i

newest_left : (generation : ℕ) (left : List ℕ) (f : FreePages) → f.newest ≤ generation → (with_all_left generation left f).newest ≤ generation
newest_left generation [] f low = low
newest_left generation (page ∷ left) f low = newest_left generation left (with_left f page generation) (let e : (with_left f page generation).newest ≡ max f.newest generation = refl in omega arith)

pins_all_left : (generation : ℕ) (left : List ℕ) (f : FreePages) → (with_all_left generation left f).pins ≡ f.pins
pins_all_left generation [] f = refl
pins_all_left generation (page ∷ left) f = pins_all_left generation left (with_left f page generation) ∙ pins_left f page generation

module _ {M : Type 0} (s : Space) (write : Write) (file : OpenFile M) (f : FreePages) (spare used : ℕ) (placed : Placed) (valid : IsValidFile s.dimension file)
    (kept : IsKept (record f { spare = spare })) (within : AreWithin file.live.pages f) (on : IsPlacedOn file f used placed) (before after : DiskState) (stands : StandsOn file before)
    (only : IsTrue before.is_known → LeavesOnly before before.bytes) (is_point : IsTrue before.is_known → IsSoundTree s (nodes_on file before) file.live → IsPlacedFor s file.head write (nodes_on file before) file.live placed)
    (moments : IsTrue before.is_known → EachImage before after (IsBeforeOrAfter file.head.dim file.live placed.next placed.staged before)) where
  three : 3 ≤ file.live.pages
  three = let low = valid.live.1.low_pages in omega arith

  exchanged : IsExchange file.live.pages placed.next.pages used f (pages_of placed.staged) placed.left
  exchanged = subst (λ (n : ℕ). IsExchange file.live.pages placed.next.pages n f (pages_of placed.staged) placed.left) (sym on.used_is) (
      let e = exchange file.head file.live (record f { spare = spare }) on.asked on.added placed kept within on.placement three on.left_within in
      record { given = e.given; uses = e.uses; more = e.more; fresh = e.fresh; once = e.once; left_within = e.left_within })

  sound_file : {points : List (List ℕ)} {tags : List ℕ} → HasObjects s file before points tags → IsSoundFile s file.head file.live before.bytes
  sound_file has = record { opens = stands.opens has.is_known; version = valid.version; dimension = valid.dimension_is; tree = has.sound }

  after_is : {points : List (List ℕ)} {tags : List ℕ} → HasObjects s file before points tags → {t : Live} {nodes : Nodes} →
      IsTreeOf s nodes t (points_after write (points_by_id (nodes_on file before) file.live)) (tags_after write (tags_by_id (nodes_on file before) file.live)) →
      IsTreeOf s nodes t (points_after write points) (tags_after write tags)
  after_is {points} {tags} has {t} {nodes} is =
      subst (λ (ps : List (List ℕ)). IsTreeOf s nodes t (points_after write ps) (tags_after write tags)) has.points_are
      (subst (λ (ts : List ℕ). IsTreeOf s nodes t (points_after write (points_by_id (nodes_on file before) file.live)) (tags_after write ts)) has.tags_are is)

  pub either : (points : List (List ℕ)) (tags : List ℕ) → HasObjects s file before points tags → LeavesEither s file.head write points tags before after
  either points tags has =
      weakened before after (IsBeforeOrAfter file.head.dim file.live placed.next placed.staged before)
      (λ image. HoldsObjects s file.head points tags image ⊎ HoldsObjects s file.head (points_after write points) (tags_after write tags) image) (moments has.is_known) (λ image is. one image is)
    where
      one : (image : List ℕ) → IsBeforeOrAfter file.head.dim file.live placed.next placed.staged before image →
          HoldsObjects s file.head points tags image ⊎ HoldsObjects s file.head (points_after write points) (tags_after write tags) image
      one image is = elim (commits_keep_lists s file.head file.live placed.next placed.staged (points_after write points) (tags_after write tags) before.bytes image (sound_file has)
          ((can_follow s.dimension file f spare used placed valid kept within on).0) ((can_follow s.dimension file f spare used placed valid kept within on).1)
          (λ new over. after_is has ((is_point has.is_known has.sound).makes new over).objects) is.either (alone_keeps file.live placed.staged before image (only has.is_known) is.others)) [
            | inl old ↦ inl (record {
              live = file.live;
              is = subst (λ (ps : List (List ℕ)). IsFileOf s file.head file.live ps tags image) has.points_are
                  (subst (λ (ts : List ℕ). IsFileOf s file.head file.live (points_by_id (nodes_on file before) file.live) ts image) has.tags_are old);
            })
            | inr new ↦ inr (record { live = placed.next; is = new })
          ]

  -- a guarded page is none of the new ones
  guarded_unstaged : (generation : ℕ) (tree : List ℕ) → IsGuarded file.live.pages generation f tree → (page : ℕ) → IsIn page tree → IsNotStaged placed.staged page
  guarded_unstaged generation tree guarded page i k node is e =
      guard.unwritten file.live.pages placed.next.pages used generation f tree (pages_of placed.staged) placed.left guarded exchanged page (staged_in placed.staged k node is e) i
    where
      staged_in : (staged : List StagedNode) (k : ℕ) (node : StagedNode) → IsStagedAs staged k node → node.page ≡ page → IsIn page (pages_of staged)
      staged_in [] k node is e = absurd (cc)
      staged_in (n ∷ staged) zero node is e = inl (sym e ∙ (let same : n ≡ node = cc in sym (ap (λ (x : StagedNode). x.page) same)))
      staged_in (n ∷ staged) (suc k) node is e = inr (staged_in staged k node is e)

  pub pages_kept : (generation : ℕ) (tree : List ℕ) → IsTrue before.is_known → IsGuarded file.live.pages generation f tree → KeepsPages tree before after
  pages_kept generation tree is_known guarded =
      weakened before after (IsBeforeOrAfter file.head.dim file.live placed.next placed.staged before) (λ image. AllByRecursion (λ page. page_of image page ≡ page_of before.bytes page) tree)
      (moments is_known) (λ image is. each image (alone_keeps file.live placed.staged before image (only is_known) is.others) tree (λ page i. i))
    where
      each : (image : List ℕ) → KeepsBytes file.live placed.staged before.bytes image → (pages : List ℕ) → ((page : ℕ) → IsIn page pages → IsIn page tree) →
          AllByRecursion (λ page. page_of image page ≡ page_of before.bytes page) pages
      each image keeps [] inside = tt
      each image keeps (page ∷ pages) inside = (
        keeps page (inr (all_in (IsWithin file.live.pages) tree page guarded.within (inside page (inl refl)))) (guarded_unstaged generation tree guarded page (inside page (inl refl))),
        each image keeps pages (λ q i. inside q (inr i)),
      )

  -- after Ok
  module _ (new : OpenFile M) (g : FreePages) (image : IsTrue after.is_known → MayLeave after after.bytes) (told : after.is_known ≡ before.is_known) (did : IsCommitted file new f g used placed before after) where
    made : {points : List (List ℕ)} {tags : List ℕ} → HasObjects s file before points tags → IsMadeBy s file.head write (nodes_on file before) file.live placed (nodes_on new after)
    made has = (is_point has.is_known has.sound).makes (nodes_on new after) (subst (λ (n : OpenFile M). IsOver (nodes_on file before) file.live placed.staged (nodes_on n after)) (sym did.file) (record {
      stand = written.stand;
      stay = written.stay;
    }))
      where
        is_known : IsTrue after.is_known
        is_known = rw told has.is_known

        now : IsBeforeOrAfter file.head.dim file.live placed.next placed.staged before after.bytes
        now = (moments has.is_known).each after.clock after.bytes ((moments has.is_known).later) (omega arith) (image is_known)

        written : IsWritten (nodes_on file before) (live_pages (nodes_on file before) file.live) placed.staged (nodes_in file.head.dim placed.next after.bytes)
        written = in_place_is_written file.head.dim file.live placed.next (live_pages (nodes_on file before) file.live) placed.staged before.bytes after.bytes
            ((can_follow s.dimension file f spare used placed valid kept within on).0.low_pages) has.sound.within ((can_follow s.dimension file f spare used placed valid kept within on).1)
            ((did.next has.is_known).in_place) (alone_keeps file.live placed.staged before after.bytes (only has.is_known) now.others)

    next_live : (P : Live → Type 0) → P placed.next → P new.live
    next_live P p = subst (λ (n : OpenFile M). P n.live) (sym did.file) p

    pub objects_after : (points : List (List ℕ)) (tags : List ℕ) → HasObjects s file before points tags → HasObjects s new after (points_after write points) (tags_after write tags)
    objects_after points tags has =
        let is = next_live (λ t. IsTreeOf s (nodes_on new after) t (points_after write points) (tags_after write tags)) (after_is has (made has).objects) in
        record { is_known = rw told has.is_known; sound = is.sound; points_are = is.points_are; tags_are = is.tags_are }

    pub tree_is : (points : List (List ℕ)) (tags : List ℕ) → HasObjects s file before points tags →
        tree_of (nodes_on new after) new.live ≡ tree_after s file.head write file.live.count (tree_of (nodes_on file before) file.live)
    tree_is points tags has = next_live (λ t. tree_of (nodes_on new after) t ≡ tree_after s file.head write file.live.count (tree_of (nodes_on file before) file.live)) (made has).tree

    pub exact_after : (points : List (List ℕ)) (tags : List ℕ) → HasObjects s file before points tags → IsExactFor file f before → IsExactFor new g after
    exact_after points tags has exact =
        next_live (λ t. AreOutside t.pages (live_pages (nodes_on new after) t) g)
        (subst (AreOutside placed.next.pages (live_pages (nodes_on new after) placed.next)) (sym did.free)
        (keep_outside file.live.pages placed.next.pages used placed.next.generation (record f { spare = did.spare }) (pages_of placed.staged) placed.left (live_pages (nodes_on file before) file.live)
        (live_pages (nodes_on new after) placed.next) (record { free_ascend = kept.free_ascend; held_ascend = kept.held_ascend; apart = kept.apart; pinned = kept.pinned })
        (record { given = exchanged.given; uses = exchanged.uses; more = exchanged.more; fresh = exchanged.fresh; once = exchanged.once; left_within = exchanged.left_within }) exact has.sound.once has.sound.within
        (made has).balance))

    -- the pages of the new tree that the old one has not
    pub least_pages : ((page : ℕ) → IsIn page (pages_of placed.staged) → IsIn page placed.left → ⊥) → IsNumberedFor write file f placed → (points : List (List ℕ)) (tags : List ℕ) → HasObjects s file before points tags →
        AreLeastPages (offered_to write file.live f) file.live.pages (live_pages (nodes_on file before) file.live) (live_pages (nodes_on new after) new.live)
    least_pages apart numbered points tags has =
        next_live (λ t. AreLeastPages (offered_to write file.live f) file.live.pages (live_pages (nodes_on file before) file.live) (live_pages (nodes_on new after) t)) (record {
          made = pages_of placed.staged;
          numbered = numbered ∙ ap (λ (n : ℕ). map (number_at (offered_to write file.live f) file.live.pages) (range_with_len 0 n)) (sym (let long : length (pages_of placed.staged) ≡ length placed.staged = rw length-map refl in long));
          are_new = λ page. (λ i. (in_new page i, in_old page i), λ j. made_there page j.0 j.1);
        })
      where
        in_old : (page : ℕ) → IsIn page (pages_of placed.staged) → IsIn page (live_pages (nodes_on file before) file.live) → ⊥
        in_old page i o =
            let none = beside_none (nodes_on file before) file.live (pages_of placed.staged) page (is_point has.is_known has.sound).apart i in
            let some = in_times page (live_pages (nodes_on file before) file.live) o in
            omega (arith, none, some)

        in_new : (page : ℕ) → IsIn page (pages_of placed.staged) → IsIn page (live_pages (nodes_on new after) placed.next)
        in_new page i = times_in page (live_pages (nodes_on new after) placed.next) (
            let none = beside_none (nodes_on file before) file.live (pages_of placed.staged) page (is_point has.is_known has.sound).apart i in
            let some = in_times page (pages_of placed.staged) i in
            let unleft = none_in page placed.left (apart page i) in
            let balance = (made has).balance page in
            omega (arith, none, some, unleft, balance))

        made_there : (page : ℕ) → IsIn page (live_pages (nodes_on new after) placed.next) → (IsIn page (live_pages (nodes_on file before) file.live) → ⊥) → IsIn page (pages_of placed.staged)
        made_there page n never = times_in page (pages_of placed.staged) (
            let none = none_in page (live_pages (nodes_on file before) file.live) never in
            let some = in_times page (live_pages (nodes_on new after) placed.next) n in
            let balance = (made has).balance page in
            omega (arith, none, some, balance))

    pub guarded_after : (generation : ℕ) (tree : List ℕ) → generation ≤ file.live.generation → IsGuarded file.live.pages generation f tree → IsGuarded new.live.pages generation g tree
    guarded_after generation tree low guarded =
        next_live (λ t. IsGuarded t.pages generation g tree)
        (subst (λ (h : FreePages). IsGuarded placed.next.pages generation h tree) (sym did.free)
        (guard.commit file.live.pages placed.next.pages used generation placed.next.generation (record f { spare = did.spare }) tree placed.left (let e = on.placement.generation in omega arith) exchanged.more
        (record { pinned = guarded.pinned; within = guarded.within; unfree = guarded.unfree; later = guarded.later })))

module _ {M : Type 0} (s : Space) (write : Write) (old : OpenIndex M) (f : FreePages) (used : ℕ) (placed : Placed) (valid : IsValidFile s.dimension old.file)
    (kept : IsKept (record f { spare = f.spare })) (list : IsValidFree old.file.live f) (on : IsPlacedOn old.file f used placed) (before after : DiskState) (stands : StandsOn old.file before)
    (only : IsTrue before.is_known → LeavesOnly before before.bytes)
    (is_point : IsTrue before.is_known → IsSoundTree s (nodes_on old.file before) old.file.live → IsPlacedFor s old.file.head write (nodes_on old.file before) old.file.live placed)
    (moments : IsTrue before.is_known → EachImage before after (IsBeforeOrAfter old.file.head.dim old.file.live placed.next placed.staged before)) where
  -- the commit failed
  pub failed_written : (new : OpenIndex M) → new.stopped ≡ true → new.free ≡ None → Rose before.faults after.faults → HasWritten s write (record old { free = Some f }) new before after (Err Commit)
  failed_written new stopped none rose = record {
    answer = tt;
    next = tt;
    refused = λ no. absurd (no refl);
    stops = λ is. (stopped, rose);
    forgets = λ is. none;
    moments = either s write old.file f f.spare used placed valid kept list.within on before after stands only is_point moments;
    objects = λ points tags has. tt;
    tree = λ points tags has. tt;
    least = tt;
    exact = λ points tags has exact. subst (λ (free : Option FreePages). MatchOption free (Unit {0}) (λ g. IsExactFor new.file g after)) (sym none) tt;
    guarded = λ generation tree guards. tt;
    kept = λ generation tree is_known guards. pages_kept s write old.file f f.spare used placed valid kept list.within on before after stands only is_point moments generation tree is_known guards;
  }

  -- the commit was done
  pub done_written : (file : OpenFile M) (g : FreePages) (answer : ℕ) → (IsTrue after.is_known → MayLeave after after.bytes) → after.is_known ≡ before.is_known → IsCommitted old.file file f g used placed before after →
      placed.next.count ≡ old.file.live.count + added_by write → answer ≡ answer_to write old.file.live.count →
      (IsTrue before.is_known → AreSpare (nodes_on old.file before) old.file.live f) → (IsTrue before.is_known → Follows (nodes_on old.file before) old.file.live placed) → IsNumberedFor write old.file f placed →
      HasWritten s write (record old { free = Some f }) (record old { file = file; free = Some g }) before after (Ok answer)
  done_written file g answer image told did count is beside follows numbered = record {
    answer = is;
    next = record {
      live = placed.next;
      is = ap (λ (n : OpenFile M). record old { file = n; free = Some g }) did.file;
      side = on.placement.side;
      generation = on.placement.generation;
      count = count;
      pages = let e = on.placement.pages in omega arith;
      room = did.room;
    };
    refused = tt;
    stops = tt;
    forgets = tt;
    moments = either s write old.file f f.spare used placed valid kept list.within on before after stands only is_point moments;
    objects = objects_after s write old.file f f.spare used placed valid kept list.within on before after stands only is_point moments file g image told did;
    tree = tree_is s write old.file f f.spare used placed valid kept list.within on before after stands only is_point moments file g image told did;
    least = record {
      list = f;
      is = refl;
      pages = λ points tags has.
          least_pages s write old.file f f.spare used placed valid kept list.within on before after stands only is_point moments file g image told did
          (let spare = beside has.is_known in
          unshared old.file.head old.file.live f on.asked on.added placed kept list.within on.placement (nodes_on old.file before) spare.tree spare.stands spare.beside (follows has.is_known)) numbered points tags has;
    };
    exact = exact_after s write old.file f f.spare used placed valid kept list.within on before after stands only is_point moments file g image told did;
    guarded = λ generation tree guards.
        guarded_after s write old.file f f.spare used placed valid kept list.within on before after stands only is_point moments file g image told did generation tree
        (all_in (λ (pin : ℕ). pin ≤ old.file.live.generation) f.pins generation list.pins guards.pinned) guards;
    kept = λ generation tree is_known guards. pages_kept s write old.file f f.spare used placed valid kept list.within on before after stands only is_point moments generation tree is_known guards;
  }

-- after a commit the free list is valid
pub next_list : {M : Type 0} (old : OpenFile M) (f : FreePages) (used : ℕ) (placed : Placed) → IsValidFree old.live f → IsPlacedOn old f used placed → (before after : DiskState) (file : OpenFile M) (g : FreePages) →
    IsCommitted old file f g used placed before after → IsValidFree file.live g
next_list {M} old f used placed list on before after file g did = subst (λ (n : OpenFile M). IsValidFree n.live g) (sym did.file) (record {
  within = did.within;
  newest = subst (λ (h : FreePages). h.newest ≤ placed.next.generation) (sym did.free)
      (newest_left placed.next.generation placed.left (record f { spare = did.spare; free = drop used f.free }) (let l = list.newest in let e = on.placement.generation in omega arith));
  pins = subst (λ (h : FreePages). AllByRecursion (λ pin. pin ≤ placed.next.generation) h.pins) (sym did.free)
      (subst (AllByRecursion (λ pin. pin ≤ placed.next.generation)) (sym (pins_all_left placed.next.generation placed.left (record f { spare = did.spare; free = drop used f.free })))
      (all_weaker (λ (pin : ℕ). pin ≤ old.live.generation) (λ pin. pin ≤ placed.next.generation) f.pins (λ pin l. let e = on.placement.generation in omega arith) list.pins));
})

-- how much the free list has room for doesn't matter
pub unspared : (f : FreePages) (spare : ℕ) → IsKept (record f { spare = spare }) → IsKept (record f { spare = f.spare })
unspared f spare kept = record { free_ascend = kept.free_ascend; held_ascend = kept.held_ascend; apart = kept.apart; pinned = kept.pinned }

pub spare_of : (nodes : Nodes) (t : Live) (f : FreePages) (spare : ℕ) → AreSpare nodes t f → AreSpare nodes t (record f { spare = spare })
spare_of nodes t f spare are = record { tree = are.tree; stands = are.stands; have = are.have; beside = are.beside }

pub committed_of : {M : Type 0} (old new : OpenFile M) (f g : FreePages) (spare used : ℕ) (placed : Placed) (before after : DiskState) → IsCommitted old new (record f { spare = spare }) g used placed before after →
    IsCommitted old new f g used placed before after
committed_of old new f g spare used placed before after did = record {
  file = did.file;
  room = did.room;
  spare = did.spare;
  free = did.free;
  within = did.within;
  stands = did.stands;
  only = did.only;
  beside = did.beside;
  next = did.next;
}
