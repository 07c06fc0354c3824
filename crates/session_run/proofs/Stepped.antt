-- A cursor that is opened, and one that gives its next hits.
use Rattle.std.proofs.Common.{◌≡◌, ℕ, ◌+◌, ◌≤◌, ◌<◌, ◌==◌, Bool, true, false, List, [], ◌∷◌, ◌++◌, ◌^◌, length, map, drop, take, get_or, min, refl, sym, ap, subst, ◌∙◌, arith, Option, Some, None, Ok}
use Rattle.std.specs.Prelude.{IsTrue, find, set, slice_index_or, nat_lt}
use Rattle.std.specs.List.{AllByRecursion, AllZip, position}
use Rattle.std.proofs.lemmas.List.{drop-drop, drop_min, drop-map, length-take, take-map}
use Rattle.metric_laws.specs.Space.{Space, IsSpace}
use Rattle.metric_laws.proofs.Published.{all_append, all_each}
use Rattle.disk_model.specs.Disk.{DiskState, IsUnchanged}
use Rattle.scan_model.specs.declared.hit.Hit.{Hit}
use Rattle.scan_model.specs.Scan.{nearest_hits}
use Rattle.rows_text.specs.declared.command.Command.{Command}
use Rattle.rows_text.specs.declared.command.Command.TheVariants as command
use Rattle.rows_text.specs.declared.refusal.Refusal.TheVariants as refusal
use Rattle.rows_text.specs.declared.reply.Reply.TheVariants as reply
use Rattle.rows_text.specs.Meaning.{Cursor, Step, advanced, close_from, cursor_over, next_from, most_cursors, step}
use Rattle.plain_scan.specs.OpenCursors.{OpenCursors, with_cursors}
use Rattle.tree_shape.specs.declared.live.Live.{Live}
use Rattle.tree_shape.specs.Tree.{Nodes, IsSoundTree, objects, points_by_id, tags_by_id}
use Rattle.page_store.specs.declared.pages.PageFault.{PageFault}
use Rattle.page_store.specs.declared.pages.PageFault.TheVariants as page
use Rattle.page_store.specs.Laws.{SoundTreesAreWhole}
use Rattle.page_store.specs.Placing.{live_pages}
use Rattle.page_store.specs.Reached.{IsReached}
use Rattle.page_store.specs.Reading.{nodes_of, reading}
use Rattle.page_store.specs.Shelf.{IsPassing}
use Rattle.node_page.specs.declared.node.Version.TheVariants.{Second}
use Rattle.page_store.specs.Shelves.{disk_shelf}
use Rattle.log_model.proofs.Published.{length-points}
use Rattle.pin_cursor.specs.Cursor.{OpenCursor, IsCursorOn, begun, rest_of, tags_of}
use Rattle.pin_cursor.specs.Steps.{GivesNext, HasStepCause as HasPageCause}
use Rattle.index_core.specs.declared.faults.IndexFault.{IndexFault}
use Rattle.index_core.specs.declared.faults.IndexFault.TheVariants as fault
use Rattle.index_core.specs.Answers.{IsSoundOn}
use Rattle.index_core.specs.Causes.{BlamesNoPage, HasListCause}
use Rattle.index_core.specs.Damage.{BlamesDamage}
use Rattle.index_core.specs.Files.{OpenFile, IsValidFile, OnlyReads, nodes_on}
use Rattle.index_core.specs.Index.{OpenIndex, StandsAlone}
use Rattle.index_core.specs.Lending.{same_room_by_none}
use Rattle.index_core.specs.Pinning.{AreReached, IsPinned}
use Rattle.index_core.specs.Writing.{GuardsPages}
use Rattle.session_run.specs.declared.pinned.PinnedCursor.{PinnedCursor}
use Rattle.session_run.specs.declared.pinned.PinnedCursors.{PinnedCursors}
use Rattle.session_run.specs.declared.stop.SessionStop.TheVariants as stop
use Rattle.session_run.specs.Pinned.{GoesThrough, AreKeptBy, AreNumbered, CanGoOn, GoesOn, HoldsTree, IsKeptBy, KeepsGuarded, StandFor, StandsFor}
use Rattle.session_run.specs.Session.{StandsBy, setting_of, state_on}
use Rattle.session_run.specs.Steps.{HasAdvanced, HasCarriedOut, HasClosed, HasStepCause, answer_of_fault, plain_answer, stop_of_page}
use Rattle.session_run.proofs.Carrying.{carried_plain, carried_stopped, each_kept, each_still, keeps_reading, same_pages, stands_still, still_through}
use Rattle.session_run.proofs.Faults.{blames_stands}
use Rattle.session_run.proofs.Inserts.{walk_damage}
use Rattle.session_run.proofs.Opening.{reads_none}
use Rattle.session_run.proofs.Trees.{goes_from_root, never_again, no_fault}
use Rattle.session_run.proofs.Standing.{all_at, all_set, moved_at, named_at, numbered_more, numbered_set, unnamed, zip_length, zip_more}

-- ---- the next hits

rest_after : (given n now : ℕ) (all hits : List Hit) → hits ≡ take n (drop given all) → now ≡ given + length hits → drop n (drop given all) ≡ drop now all
rest_after given n now all hits are is =
    sym (drop_min n (drop given all)) ∙ drop-drop (min n (length (drop given all))) given all
    ∙ ap (λ (k : ℕ). drop k all) (let few : length hits ≡ min n (length (drop given all)) = ap (λ (l : List Hit). length l) are ∙ length-take n (drop given all) in omega (arith, few, is))

module _ {M : Type 0} (s : Space) (index : OpenIndex M) (bytes : List ℕ) (c : PinnedCursor) (now : OpenCursor) (m : Cursor) (number n : ℕ) (hits : List Hit) (tags : List ℕ) (was : StandsFor s index bytes c m)
    (live : now.live ≡ c.cursor.live) (point : now.point ≡ c.cursor.point) (given : now.given ≡ c.cursor.given + length hits) (gives : GivesNext s was.nodes c.cursor now n hits tags) where
  abbrev all : List Hit
  all = nearest_hits s (points_by_id was.nodes c.cursor.live) c.cursor.point c.cursor.live.count

  hits_after : drop n m.hits ≡ rest_of s was.nodes now
  hits_after = ap (λ (l : List Hit). drop n l) was.hits ∙ rest_after c.cursor.given n now.given all hits gives.hits_are given
      ∙ (λ i. drop now.given (nearest_hits s (points_by_id was.nodes (sym live i)) (sym point i) (sym live i).count))

  tags_after : drop n m.tags ≡ tags_of was.nodes now.live (drop n m.hits)
  tags_after = ap (λ (l : List ℕ). drop n l) was.tags ∙ drop-map (λ (h : Hit). slice_index_or (tags_by_id was.nodes c.cursor.live) h.id 0) n m.hits
      ∙ ap (λ (t : Live). tags_of was.nodes t (drop n m.hits)) (sym live)

  stepped_stands : (m.number == number) ≡ true → StandsFor s index bytes (record c { cursor = now }) (advanced number n m)
  stepped_stands is = rw is (record {
    nodes = was.nodes;
    number = was.number;
    sound = subst (IsSoundTree s was.nodes) (sym live) was.sound;
    held = subst (λ (t : Live). HoldsTree index.file.head.dim was.nodes t bytes) (sym live) was.held;
    guarded = subst (λ (t : Live). GuardsPages t.generation (live_pages was.nodes t) index) (sym live) was.guarded;
    stands = gives.stands;
    hits = hits_after;
    tags = tags_after;
  })

  hits_given : take n m.hits ≡ hits
  hits_given = ap (λ (l : List Hit). take n l) was.hits ∙ sym gives.hits_are

  tags_given : take n m.tags ≡ tags
  tags_given = ap (λ (l : List ℕ). take n l) was.tags ∙ take-map (λ (h : Hit). slice_index_or (tags_by_id was.nodes c.cursor.live) h.id 0) n m.hits
      ∙ ap (λ (l : List Hit). tags_of was.nodes c.cursor.live l) hits_given ∙ sym gives.tags_are

-- a cursor gave these hits, and stands behind them
pub record IsStep (s : Space) (dim : ℕ) (disk : DiskState) (c now : OpenCursor) (n : ℕ) (hits : List Hit) (tags : List ℕ) : Type 0 where
  pub live : now.live ≡ c.live
  pub point : now.point ≡ c.point
  pub given : now.given ≡ c.given + length hits
  pub gives : (nodes : Nodes) → IsTrue disk.is_known → IsSoundTree s nodes c.live → HoldsTree dim nodes c.live disk.bytes → IsCursorOn s nodes c → GivesNext s nodes c now n hits tags

-- a cursor refused
pub record IsRefusal (s : Space) (dim : ℕ) (before after : DiskState) (c : OpenCursor) (fault : PageFault) : Type 0 where
  pub asked : ℕ
  pub cause : HasPageCause c (disk_shelf Second dim c.live.pages before 0) (disk_shelf Second dim c.live.pages after asked) fault
  pub sound : (nodes : Nodes) → IsTrue before.is_known → IsSoundTree s nodes c.live → HoldsTree dim nodes c.live before.bytes → IsCursorOn s nodes c → IsPassing fault

-- a disk that is only read
pub reads_only : {M : Type 0} (file : OpenFile M) (before after : DiskState) → IsUnchanged before after → before.faults ≤ after.faults → OnlyReads file file before after
reads_only file before after same later = record { rest = refl; room = same_room_by_none file.kept; same = same; later = later }

same_number : (n m : ℕ) → n ≡ m → (n == m) ≡ true
same_number n m is = grind arith

module _ {M : Type 0} (s : Space) (index : OpenIndex M) (before after : DiskState) (pinned0 pinned1 : PinnedCursors) (number n k : ℕ) (d : PinnedCursor) (now : OpenCursor) (kept : AreKeptBy s index pinned0)
    (below : k < length pinned0.cursors.items) (at : (get_or pinned0.cursors.items k d).number ≡ number) where
  abbrev it : PinnedCursor
  it = get_or pinned0.cursors.items k d

  -- the cursors are kept as they were
  pub kept_set : pinned1.cursors.items ≡ set pinned0.cursors.items k (record it { cursor = now }) → pinned1.next ≡ pinned0.next → now.live ≡ it.cursor.live → now.point ≡ it.cursor.point → AreKeptBy s index pinned1
  kept_set items next live point = record {
    each = subst (AllByRecursion (IsKeptBy s index)) (sym items) (all_set (IsKeptBy s index) pinned0.cursors.items k (record it { cursor = now }) here kept.each);
    numbers = subst (λ (l : List PinnedCursor). AreNumbered 0 pinned1.next l) (sym items)
        (numbered_set pinned0.cursors.items 0 pinned1.next k d (record it { cursor = now }) below refl (subst (λ (n : ℕ). AreNumbered 0 n pinned0.cursors.items) (sym next) kept.numbers));
  }
    where
      was : IsKeptBy s index it
      was = all_at (IsKeptBy s index) pinned0.cursors.items k d below kept.each

      here : IsKeptBy s index (record it { cursor = now })
      here = record {
        pinned = subst (λ (t : Live). IsPinned t.generation index) (sym live) was.pinned;
        point = subst (λ (p : List ℕ). IsTrue (s.is_point p)) (sym point) was.point;
        few = subst (λ (t : Live). t.pages ≤ 2 ^ 24) (sym live) was.few;
      }

  -- the next hits are given
  pub advanced_by : (opened : OpenCursors) (hits : List Hit) (tags : List ℕ) → IsUnchanged before after → before.faults ≤ after.faults → IsTrue before.is_known → StandFor s index before.bytes pinned0 opened →
      pinned1.cursors.items ≡ set pinned0.cursors.items k (record it { cursor = now }) → pinned1.next ≡ pinned0.next → IsStep s index.file.head.dim before it.cursor now n hits tags →
      HasAdvanced s index after.bytes pinned1 opened number n (reply.Next hits tags)
  advanced_by opened hits tags same later is_known stand items next step = record {
    cursors = record { cursors = map (advanced number n) opened.cursors; next = opened.next };
    stand = record {
      each = subst (λ (l : List PinnedCursor). AllZip (StandsFor s index after.bytes) l (map (advanced number n) opened.cursors)) (sym items)
          (moved_at (StandsFor s index before.bytes) (StandsFor s index after.bytes) (λ c m is. is.number) (λ c m is. stands_still s index index before after c m keeps is_known refl is)
          pinned0.cursors.items opened.cursors 0 pinned0.next k number n d (record it { cursor = now }) kept.numbers stand.each below at
          (λ m was. stands_still s index index before after (record it { cursor = now }) (advanced number n m) keeps is_known refl
          (stepped_stands s index before.bytes it now m number n hits tags was step.live step.point step.given (step.gives was.nodes is_known was.sound was.held was.stands) (same_number m.number number (was.number ∙ at)))));
      next = stand.next ∙ sym next;
    };
    meaning = λ objects. ap (λ (o : Option Cursor). next_from (with_cursors objects opened) number n o) named.1
        ∙ (λ i. (let done : Step = record {
          reply = reply.Next (hits_given s index before.bytes it now named.0 number n hits tags named.2 step.live step.point step.given (step.gives named.2.nodes is_known named.2.sound named.2.held named.2.stands) i)
              (tags_given s index before.bytes it now named.0 number n hits tags named.2 step.live step.point step.given (step.gives named.2.nodes is_known named.2.sound named.2.held named.2.stands) i);
          state = with_cursors objects (record { cursors = map (advanced number n) opened.cursors; next = opened.next });
        } in done));
  }
    where
      keeps : KeepsGuarded index index before after
      keeps = keeps_reading index index before after refl (reads_only index.file before after same later)

      named : (m : Cursor) × (find (λ c. c.number == number) opened.cursors ≡ Some m) × StandsFor s index before.bytes it m
      named = named_at (StandsFor s index before.bytes) (StandsFor s index before.bytes) (λ c m is. is.number) (λ c m is. is) pinned0.cursors.items opened.cursors 0 pinned0.next k number d kept.numbers stand.each below at

  sound_passes : (fault : PageFault) → IsRefusal s index.file.head.dim before after it.cursor fault → CanGoOn s index before pinned0 → IsPassing fault
  sound_passes fault refusal can =
      let named = named_at (StandsFor s index before.bytes) (StandsFor s index before.bytes) (λ c m is. is.number) (λ c m is. is) pinned0.cursors.items can.0.cursors 0 pinned0.next k number d kept.numbers
      can.1.cursors.each below at in
      refusal.sound named.2.nodes can.1.sound.0 named.2.sound named.2.held named.2.stands

  -- why the step ends the session
  pub step_cause : (fault : PageFault) → IsRefusal s index.file.head.dim before after it.cursor fault → HasStepCause (CanGoOn s index before pinned0) before after (stop_of_page fault)
  step_cause page.Disk refusal = refusal.cause
  step_cause page.Memory refusal = tt
  step_cause (page.Bad p f) refusal = (tt, λ can. sound_passes (page.Bad p f) refusal can)
  step_cause (page.Outside p) refusal = (tt, λ can. sound_passes (page.Outside p) refusal can)
  step_cause (page.Repeats p) refusal = (tt, λ can. sound_passes (page.Repeats p) refusal can)
  step_cause (page.Level p) refusal = absurd refusal.cause

-- where the disk tells its bytes, no page that the step came to is damaged
pub step_stands : {M : Type 0} (s : Space) (index : OpenIndex M) (before after : DiskState) (c : PinnedCursor) (fault : PageFault) → IsUnchanged before after → IsRefusal s index.file.head.dim before after c.cursor fault →
    (IsTrue before.is_known → GoesThrough index before.bytes c) → StandsBy index.file.head after (stop_of_page fault)
step_stands s index before after c page.Disk same refusal goes = tt
step_stands s index before after c page.Memory same refusal goes = tt
step_stands s index before after c (page.Bad p f) same refusal goes = λ is_known.
    let now : IsTrue before.is_known = subst IsTrue same.same_known is_known in
    let told = refusal.cause.1 now in absurd (no_fault index before.bytes c (goes now) p (page.Bad p f) told.0 told.1)
step_stands s index before after c (page.Outside p) same refusal goes = λ is_known.
    let now : IsTrue before.is_known = subst IsTrue same.same_known is_known in
    let told = refusal.cause.1 now in absurd (no_fault index before.bytes c (goes now) p (page.Outside p) told.0 told.1)
step_stands s index before after c (page.Repeats p) same refusal goes = λ is_known.
    let now : IsTrue before.is_known = subst IsTrue same.same_known is_known in
    absurd (never_again index before.bytes c (goes now) p (refusal.cause.1 now).1)
step_stands s index before after c (page.Level p) same refusal goes = absurd refusal.cause

-- no open cursor has the number
pub unnamed_by : {M : Type 0} (s : Space) (index : OpenIndex M) (bytes : List ℕ) (pinned : PinnedCursors) (opened : OpenCursors) (number n : ℕ) → position (λ c. c.number == number) pinned.cursors.items ≡ None →
    StandFor s index bytes pinned opened → HasAdvanced s index bytes pinned opened number n (reply.Refused refusal.NoCursor)
unnamed_by s index bytes pinned opened number n none stand = record {
  cursors = opened;
  stand = stand;
  meaning = λ objects. ap (λ (o : Option Cursor). next_from (with_cursors objects opened) number n o)
      (unnamed (StandsFor s index bytes) (StandsFor s index bytes) (λ c m is. is.number) (λ c m is. is) pinned.cursors.items opened.cursors number none stand.each);
}

pub unnamed_closed : {M : Type 0} (s : Space) (index : OpenIndex M) (bytes : List ℕ) (pinned : PinnedCursors) (opened : OpenCursors) (number : ℕ) → position (λ c. c.number == number) pinned.cursors.items ≡ None →
    StandFor s index bytes pinned opened → HasClosed s index bytes pinned opened number (reply.Refused refusal.NoCursor)
unnamed_closed s index bytes pinned opened number none stand = record {
  cursors = opened;
  stand = stand;
  meaning = λ objects. ap (λ (o : Option Cursor). close_from (with_cursors objects opened) number o)
      (unnamed (StandsFor s index bytes) (StandsFor s index bytes) (λ c m is. is.number) (λ c m is. is) pinned.cursors.items opened.cursors number none stand.each);
}

-- ---- a cursor more

-- the cursor stands for one over all objects
module _ {M : Type 0} (s : Space) (old new : OpenIndex M) (before after : DiskState) (pinned0 pinned1 : PinnedCursors) (opened : OpenCursors) (q : List ℕ) (c : PinnedCursor) (goes : GoesOn s old before pinned0 opened)
    (reads : OnlyReads old.file new.file before after) (guarded : (generation : ℕ) (tree : List ℕ) → GuardsPages generation tree old → GuardsPages generation tree new)
    (whole : SoundTreesAreWhole) (begins : c.cursor ≡ begun old.file.live q) (number : c.number ≡ pinned0.next) where
  abbrev nodes : Nodes
  nodes = nodes_on old.file before

  head : new.file.head ≡ old.file.head
  head = ap (λ (file : OpenFile M). file.head) reads.rest

  abbrev pub with_one : OpenCursors
  with_one = record { cursors = opened.cursors ++ cursor_over s (state_on old.file before opened) q ∷ []; next = opened.next + 1 }

  first_stands : (IsTrue before.is_known → (tree : List ℕ) → AreReached nodes old.file.live.root tree → GuardsPages old.file.live.generation tree new) →
      ((t : Space) (nodes : Nodes) → IsSpace t → IsSoundTree t nodes old.file.live → IsTrue (t.is_point q) → IsCursorOn t nodes c.cursor) → IsSpace s → IsTrue (s.is_point q) →
      StandsFor s new after.bytes c (cursor_over s (state_on old.file before opened) q)
  first_stands guards starts space is_point = record {
    nodes = nodes;
    number = goes.cursors.next ∙ sym number;
    sound = subst (λ (o : OpenCursor). IsSoundTree s nodes o.live) (sym begins) goes.sound.1;
    held = subst (λ (o : OpenCursor). HoldsTree new.file.head.dim nodes o.live after.bytes) (sym begins)
        (λ page i. (λ j. nodes_of (reading (head j).dim old.file.live.pages (reads.same.same_bytes j)) page));
    guarded = subst (λ (o : OpenCursor). GuardsPages o.live.generation (live_pages nodes o.live) new) (sym begins)
        (guards goes.sound.0 (live_pages nodes old.file.live)
        (all_each (IsReached nodes old.file.live.root) (live_pages nodes old.file.live) (λ page i. ((whole s nodes old.file.live goes.sound.1).reached page).0 i)));
    stands = starts s nodes space goes.sound.1 is_point;
    hits = subst (λ (o : OpenCursor). nearest_hits s (points_by_id nodes old.file.live) q (length (points_by_id nodes old.file.live)) ≡ rest_of s nodes o) (sym begins)
        (ap (λ (k : ℕ). nearest_hits s (points_by_id nodes old.file.live) q k) (length-points (objects nodes old.file.live) 0 old.file.live.count));
    tags = ap (λ (o : OpenCursor). tags_of nodes o.live (cursor_over s (state_on old.file before opened) q).hits) (sym begins);
  }

  pub opened_stand : (IsTrue before.is_known → (tree : List ℕ) → AreReached nodes old.file.live.root tree → GuardsPages old.file.live.generation tree new) →
      ((t : Space) (nodes : Nodes) → IsSpace t → IsSoundTree t nodes old.file.live → IsTrue (t.is_point q) → IsCursorOn t nodes c.cursor) → IsSpace s → IsTrue (s.is_point q) →
      pinned1.cursors.items ≡ pinned0.cursors.items ++ c ∷ [] → pinned1.next ≡ pinned0.next + 1 → StandFor s new after.bytes pinned1 with_one
  opened_stand guards starts space is_point items next = record {
    each = subst (λ (l : List PinnedCursor). AllZip (StandsFor s new after.bytes) l with_one.cursors) (sym items)
        (zip_more (StandsFor s new after.bytes) pinned0.cursors.items opened.cursors c (cursor_over s (state_on old.file before opened) q)
        (each_still s old new before after pinned0.cursors.items opened.cursors keeps goes.sound.0 head goes.cursors.each) (first_stands guards starts space is_point));
    next = ap (λ (n : ℕ). n + 1) goes.cursors.next ∙ sym next;
  }
    where
      keeps : KeepsGuarded old new before after
      keeps = record { guarded = guarded; kept = λ is_known generation tree is. same_pages tree before.bytes after.bytes reads.same.same_bytes }

  -- that is what the command means
  pub opened_means : IsTrue (s.is_point q) → nat_lt (length pinned0.cursors.items) most_cursors ≡ true →
      step (setting_of s old.file) (state_on old.file before opened) (command.Cursor q) ≡ record { reply = reply.Cursor pinned0.next; state = state_on old.file before with_one }
  opened_means is_point room =
      let few : nat_lt (length opened.cursors) most_cursors ≡ true = ap (λ (n : ℕ). nat_lt n most_cursors) (sym (zip_length (StandsFor s old before.bytes) pinned0.cursors.items opened.cursors goes.cursors.each)) ∙ room in
      rw (is_point, few) (ap (λ (n : ℕ). (let done : Step = record { reply = reply.Cursor n; state = state_on old.file before with_one } in done)) goes.cursors.next)

-- all cursors that may be open are
pub full_means : {M : Type 0} (s : Space) (old : OpenIndex M) (before : DiskState) (pinned : PinnedCursors) (opened : OpenCursors) (q : List ℕ) → GoesOn s old before pinned opened → IsTrue (s.is_point q) →
    nat_lt (length pinned.cursors.items) most_cursors ≡ false →
    step (setting_of s old.file) (state_on old.file before opened) (command.Cursor q) ≡ record { reply = reply.Refused refusal.Cursors; state = state_on old.file before opened }
full_means s old before pinned opened q goes is_point full =
    let no : nat_lt (length opened.cursors) most_cursors ≡ false = ap (λ (n : ℕ). nat_lt n most_cursors) (sym (zip_length (StandsFor s old before.bytes) pinned.cursors.items opened.cursors goes.cursors.each)) ∙ full in
    rw (is_point, no) refl

-- the cursors with one more are kept
pub kept_more : {M : Type 0} (s : Space) (old new : OpenIndex M) (pinned0 pinned1 : PinnedCursors) (c : PinnedCursor) → ((generation : ℕ) (tree : List ℕ) → GuardsPages generation tree old → GuardsPages generation tree new) →
    AreKeptBy s old pinned0 → IsKeptBy s new c → pinned1.cursors.items ≡ pinned0.cursors.items ++ c ∷ [] → pinned1.next ≡ pinned0.next + 1 → c.number ≡ pinned0.next → AreKeptBy s new pinned1
kept_more s old new pinned0 pinned1 c guarded kept is items next number = record {
  each = subst (AllByRecursion (IsKeptBy s new)) (sym items)
      (all_append (IsKeptBy s new) pinned0.cursors.items (c ∷ []) (each_kept s old new pinned0.cursors.items guarded kept.each) (is, tt));
  numbers = subst (λ (n : ℕ). AreNumbered 0 n pinned1.cursors.items) (sym next)
      (subst (λ (l : List PinnedCursor). AreNumbered 0 (pinned0.next + 1) l) (sym items) (numbered_more pinned0.cursors.items 0 pinned0.next c number kept.numbers));
}

-- ---- the command `cursor`

-- a cursor is opened
pub opened_carried : {M : Type 0} (s : Space) (show : Bool) (old new : OpenIndex M) (pinned0 pinned1 : PinnedCursors) (before after : DiskState) (q : List ℕ) (c : PinnedCursor) (live : Live) (point : List ℕ) →
    IsValidFile s.dimension old.file → StandsAlone old before → StandsAlone new after → new.stopped ≡ false → IsSpace s → IsTrue (s.is_point q) → OnlyReads old.file new.file before after →
    ((generation : ℕ) (tree : List ℕ) → GuardsPages generation tree old → GuardsPages generation tree new) → IsPinned old.file.live.generation new → SoundTreesAreWhole →
    (IsTrue before.is_known → (tree : List ℕ) → AreReached (nodes_on old.file before) old.file.live.root tree → GuardsPages old.file.live.generation tree new) →
    live ≡ old.file.live → point ≡ q → c.cursor ≡ begun live point →
    ((t : Space) (nodes : Nodes) → IsSpace t → IsSoundTree t nodes live → IsTrue (t.is_point point) → IsCursorOn t nodes c.cursor) →
    c.number ≡ pinned0.next → pinned1.cursors.items ≡ pinned0.cursors.items ++ c ∷ [] → pinned1.next ≡ pinned0.next + 1 → AreKeptBy s old pinned0 → nat_lt (length pinned0.cursors.items) most_cursors ≡ true →
    HasCarriedOut s show old new pinned0 pinned1 before after (command.Cursor q) (Ok (plain_answer (reply.Cursor pinned0.next)))
opened_carried {M} s show old new pinned0 pinned1 before after q c live point valid alone next_alone going space is_point reads guarded pinned whole guards live_is point_is begins starts number items next kept room =
    carried_plain s show old new pinned0 pinned1 before after (command.Cursor q) valid alone reads (reply.Cursor pinned0.next) going (omega (arith, next))
    (kept_more s old new pinned0 pinned1 c guarded kept (record {
      pinned = subst (λ (o : OpenCursor). IsPinned o.live.generation new) (sym here) pinned;
      point = subst (λ (o : OpenCursor). IsTrue (s.is_point o.point)) (sym here) is_point;
      few = subst (λ (o : OpenCursor). o.live.pages ≤ 2 ^ 24) (sym here) valid.live.1.high_pages;
    }) items next number)
    tt (rw is_point refl) (λ asks. asks) (λ opened goes. refl)
    (λ opened goes. (
      with_one s old new before after pinned0 pinned1 opened q c goes reads guarded whole here number,
      (
        opened_means s old new before after pinned0 pinned1 opened q c goes reads guarded whole here number is_point room,
        opened_stand s old new before after pinned0 pinned1 opened q c goes reads guarded whole here number guards started space is_point items next,
      ),
    ))
    (λ through is_known. subst (AllByRecursion (GoesThrough new after.bytes)) (sym items)
    (all_append (GoesThrough new after.bytes) pinned0.cursors.items (c ∷ [])
    (still_through old new before after pinned0 (record { guarded = guarded; kept = λ now generation tree is. same_pages tree before.bytes after.bytes reads.same.same_bytes }) reads.same.same_known
    (ap (λ (file : OpenFile M). file.head) reads.rest) through is_known)
    (goes_from_root new after c q next_alone (subst (λ (f : OpenFile M). IsPinned f.live.generation new) (sym reads.rest) pinned) (here ∙ ap (λ (f : OpenFile M). begun f.live q) (sym reads.rest)) is_known, tt)))
  where
    here : c.cursor ≡ begun old.file.live q
    here = begins ∙ (λ i. begun (live_is i) (point_is i))

    started : (t : Space) (nodes : Nodes) → IsSpace t → IsSoundTree t nodes old.file.live → IsTrue (t.is_point q) → IsCursorOn t nodes c.cursor
    started t nodes space sound is_point = starts t nodes space (subst (IsSoundTree t nodes) (sym live_is) sound) (subst (λ (p : List ℕ). IsTrue (t.is_point p)) (sym point_is) is_point)

-- as many are open as may be
pub full_carried : {M : Type 0} (s : Space) (show : Bool) (old : OpenIndex M) (pinned : PinnedCursors) (disk : DiskState) (q : List ℕ) → IsValidFile s.dimension old.file → StandsAlone old disk → old.stopped ≡ false →
    AreKeptBy s old pinned → IsTrue (s.is_point q) → nat_lt (length pinned.cursors.items) most_cursors ≡ false →
    HasCarriedOut s show old old pinned pinned disk disk (command.Cursor q) (Ok (plain_answer (reply.Refused refusal.Cursors)))
full_carried s show old pinned disk q valid alone going kept is_point full =
    carried_plain s show old old pinned pinned disk disk (command.Cursor q) valid alone (reads_none old.file disk) (reply.Refused refusal.Cursors) going (omega arith) kept tt (rw is_point refl) (λ asks. asks) (λ opened goes. refl)
    (λ opened goes. (opened, (full_means s old disk pinned opened q goes is_point full, goes.cursors))) (λ through. through)

-- the tree can't be pinned
pub pin_stopped : {M : Type 0} (s : Space) (show : Bool) (old new : OpenIndex M) (pinned0 pinned1 : PinnedCursors) (before after : DiskState) (c : Command) (why : IndexFault) → IsValidFile s.dimension old.file → StandsAlone old before →
    OnlyReads old.file new.file before after → HasListCause old.file before after.faults why → BlamesDamage old.file before why → (IsSoundOn s old.file before → BlamesNoPage why) →
    HasCarriedOut s show old new pinned0 pinned1 before after c (answer_of_fault why)
pin_stopped s show old new pinned0 pinned1 before after c fault.Disk valid alone reads cause blames undamaged = carried_stopped s show old new pinned0 pinned1 before after c valid alone reads stop.Disk cause (λ all. tt)
pin_stopped s show old new pinned0 pinned1 before after c (fault.Damaged f) valid alone reads cause blames undamaged =
    carried_stopped s show old new pinned0 pinned1 before after c valid alone reads (stop.Damaged f) (walk_damage f cause.0, λ can. undamaged can.1.sound)
    (λ all. blames_stands old.file before after alone.stands.opens reads.same.same_known (fault.Damaged f) (λ g is. reads.same.same_bytes) blames)
pin_stopped s show old new pinned0 pinned1 before after c fault.Memory valid alone reads cause blames undamaged = carried_stopped s show old new pinned0 pinned1 before after c valid alone reads stop.Memory tt (λ all. tt)
pin_stopped s show old new pinned0 pinned1 before after c fault.Full valid alone reads cause blames undamaged = absurd cause
pin_stopped s show old new pinned0 pinned1 before after c fault.NotEmpty valid alone reads cause blames undamaged = absurd cause
pin_stopped s show old new pinned0 pinned1 before after c (fault.NoRoom pages needed) valid alone reads cause blames undamaged = absurd cause
pin_stopped s show old new pinned0 pinned1 before after c fault.Worn valid alone reads cause blames undamaged = absurd cause
pin_stopped s show old new pinned0 pinned1 before after c fault.Stopped valid alone reads cause blames undamaged = absurd cause
pin_stopped s show old new pinned0 pinned1 before after c fault.Commit valid alone reads cause blames undamaged = absurd cause
