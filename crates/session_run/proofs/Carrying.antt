-- What a command leaves of the open cursors.
use Rattle.std.proofs.Common.{◌≡◌, ℕ, ◌+◌, ◌≤◌, Bool, false, List, [], ◌∷◌, refl, sym, ap, subst, ◌∙◌, arith, Option, Some, None, Result, Ok, Err}
use Rattle.std.specs.Prelude.{IsTrue, MatchOption, OnOk, if◌then◌else◌}
use Rattle.std.specs.List.{AllByRecursion, AllZip}
use Rattle.metric_laws.specs.Lists.{IsIn}
use Rattle.metric_laws.proofs.Published.{all_in, all_weaker}
use Rattle.metric_laws.specs.Space.{Space}
use Rattle.disk_model.specs.Disk.{DiskState, MayLeave}
use Rattle.node_page.specs.Nodes.{fault_in, node_in}
use Rattle.node_page.specs.Opening.{page_of}
use Rattle.node_page.specs.declared.node.Version.TheVariants.{Second}
use Rattle.page_store.specs.declared.pages.PageFault.TheVariants.{Outside}
use Rattle.page_store.specs.Placing.{live_pages}
use Rattle.page_store.specs.Reading.{is_within, judged, nodes_of, reading, reading_in}
use Rattle.rows_text.specs.declared.command.Command.{Command}
use Rattle.rows_text.specs.declared.command.Command.TheVariants as command
use Rattle.rows_text.specs.declared.reply.Reply.{Reply}
use Rattle.rows_text.specs.Meaning.{Cursor, State, Step, accepts, close_from, cursor_named, execute, has_points_of, next_from, step, TagsAre}
use Rattle.plain_scan.specs.OpenCursors.{OpenCursors}
use Rattle.free_pages.specs.Keeping.{FreePages}
use Rattle.free_pages.specs.Commits.{IsGuarded}
use Rattle.tree_shape.specs.Tree.{IsSoundTree}
use Rattle.index_core.specs.declared.faults.IndexFault.{IndexFault}
use Rattle.index_core.specs.declared.faults.IndexFault.TheVariants as fault
use Rattle.index_core.specs.Answers.{IsSoundOn}
use Rattle.index_core.specs.Files.{OpenFile, IsValidFile, OnlyReads}
use Rattle.index_core.specs.Index.{OpenIndex, StandsAlone}
use Rattle.index_core.specs.Pinning.{IsPinned}
use Rattle.index_core.specs.Writing.{Write, GuardsPages, HasWritten, IsRefused}
use Rattle.session_run.specs.declared.answer.Answer.{Answer}
use Rattle.session_run.specs.declared.pinned.PinnedCursor.{PinnedCursor}
use Rattle.session_run.specs.declared.pinned.PinnedCursors.{PinnedCursors}
use Rattle.session_run.specs.declared.stop.SessionStop.{SessionStop}
use Rattle.session_run.specs.declared.stop.SessionStop.TheVariants as stop
use Rattle.session_run.specs.Pinned.{AllGoThrough, GoesThrough, AreKeptBy, CanGoOn, GoesOn, HoldSame, IsKeptBy, KeepsGuarded, StandFor, StandsFor}
use Rattle.session_run.specs.Session.{IsAsking, StandsBy, no_cursors, setting_of, state_on}
use Rattle.session_run.specs.Steps.{HasAdvanced, HasCarriedOut, HasClosed, HasStepCause, HasStepped, IsTaken, plain_answer, written_answer}
use Rattle.answer_texts.specs.Asked.{Held, answered_query}
use Rattle.session_run.specs.Turns.{held_on}
use Rattle.session_run.proofs.Opening.{reads_none, unlogged}
use Rattle.session_run.proofs.Trees.{goes_still}
use Rattle.session_run.proofs.Reading.{either_reading, read_taken, sound_still}

-- ---- guarded pages

pub same_pages : (tree before after : List ℕ) → after ≡ before → HoldSame tree before after
same_pages [] before after same = tt
same_pages (page ∷ tree) before after same = (ap (λ (bytes : List ℕ). page_of bytes page) same, same_pages tree before after same)

-- while the index only reads
pub keeps_reading : {M : Type 0} (old new : OpenIndex M) (before after : DiskState) → new ≡ record old { file = new.file } → OnlyReads old.file new.file before after → KeepsGuarded old new before after
keeps_reading {M} old new before after rest reads = record {
  guarded = λ generation tree is. subst (λ (i : OpenIndex M). GuardsPages generation tree i) (sym rest)
      (subst (λ (file : OpenFile M). MatchOption old.free ⊥ (λ f. IsGuarded file.live.pages generation f tree)) (sym reads.rest) is);
  kept = λ is_known generation tree is. same_pages tree before.bytes after.bytes reads.same.same_bytes;
}

-- nothing is done
pub keeps_none : {M : Type 0} (index : OpenIndex M) (disk : DiskState) → KeepsGuarded index index disk disk
keeps_none index disk = record { guarded = λ generation tree is. is; kept = λ is_known generation tree is. same_pages tree disk.bytes disk.bytes refl }

still_listed : (pages generation : ℕ) (tree : List ℕ) (old new : Option FreePages) → MatchOption old (Unit {0}) (λ f. new ≡ Some f) →
    MatchOption old ⊥ (λ f. IsGuarded pages generation f tree) → MatchOption new ⊥ (λ f. IsGuarded pages generation f tree)
still_listed pages generation tree None new same is = absurd is
still_listed pages generation tree (Some f) new same is = subst (λ (free : Option FreePages). MatchOption free ⊥ (λ g. IsGuarded pages generation g tree)) (sym same) is

-- a write that was refused
keeps_refused : {M : Type 0} (old new : OpenIndex M) (before after : DiskState) → IsRefused old new before after → KeepsGuarded old new before after
keeps_refused {M} old new before after refused = record {
  guarded = λ generation tree is. subst (λ (i : OpenIndex M). GuardsPages generation tree i) (sym refused.is) (still_listed old.file.live.pages generation tree old.free new.free refused.free is);
  kept = λ is_known generation tree is. same_pages tree before.bytes after.bytes refused.same.same_bytes;
}

-- a write that is answered
pub keeps_written : {M : Type 0} (s : Space) (write : Write) (says : ℕ → Reply) (old new : OpenIndex M) (before after : DiskState) (result : Result ℕ IndexFault) → HasWritten s write old new before after result →
    (IsTrue after.is_known → MayLeave after after.bytes) → after.is_known ≡ before.is_known → OnOk (written_answer says result) (KeepsGuarded old new before after)
keeps_written s write says old new before after (Ok n) written image told = record {
  guarded = written.guarded;
  kept = λ is_known generation tree is.
      let kept = written.kept generation tree is_known is in kept.each after.clock after.bytes kept.later (omega arith) (image (rw told is_known));
}
keeps_written s write says old new before after (Err fault.Full) written image told = keeps_refused old new before after (written.refused (λ e. absurd (cc)))
keeps_written s write says old new before after (Err fault.NotEmpty) written image told = keeps_refused old new before after (written.refused (λ e. absurd (cc)))
keeps_written s write says old new before after (Err (fault.NoRoom pages needed)) written image told = keeps_refused old new before after (written.refused (λ e. absurd (cc)))
keeps_written s write says old new before after (Err fault.Worn) written image told = keeps_refused old new before after (written.refused (λ e. absurd (cc)))
keeps_written s write says old new before after (Err fault.Disk) written image told = tt
keeps_written s write says old new before after (Err (fault.Damaged f)) written image told = tt
keeps_written s write says old new before after (Err fault.Memory) written image told = tt
keeps_written s write says old new before after (Err fault.Stopped) written image told = tt
keeps_written s write says old new before after (Err fault.Commit) written image told = tt

-- ---- what always holds

-- a pin guards no page at least
none_guarded : (pages generation : ℕ) (free : Option FreePages) → MatchOption free ⊥ (λ f. IsIn generation f.pins) → MatchOption free ⊥ (λ f. IsGuarded pages generation f [])
none_guarded pages generation None is = is
none_guarded pages generation (Some f) is = record { pinned = is; within = tt; unfree = λ page no free. no; later = λ h held no. absurd no }

guarded_pinned : (pages generation : ℕ) (tree : List ℕ) (free : Option FreePages) → MatchOption free ⊥ (λ f. IsGuarded pages generation f tree) → MatchOption free ⊥ (λ f. IsIn generation f.pins)
guarded_pinned pages generation tree None is = is
guarded_pinned pages generation tree (Some f) is = is.pinned

-- a generation whose pin guards pages is pinned
pub guards_pinned : {M : Type 0} (index : OpenIndex M) (generation : ℕ) (tree : List ℕ) → GuardsPages generation tree index → IsPinned generation index
guards_pinned index generation tree is = guarded_pinned index.file.live.pages generation tree index.free is

pub pinned_still : {M : Type 0} (old new : OpenIndex M) → ((generation : ℕ) (tree : List ℕ) → GuardsPages generation tree old → GuardsPages generation tree new) → (generation : ℕ) → IsPinned generation old → IsPinned generation new
pinned_still old new guarded generation is = guards_pinned new generation [] (guarded generation [] (none_guarded old.file.live.pages generation old.free is))

pub each_kept : {M : Type 0} (s : Space) (old new : OpenIndex M) (cursors : List PinnedCursor) → ((generation : ℕ) (tree : List ℕ) → GuardsPages generation tree old → GuardsPages generation tree new) →
    AllByRecursion (IsKeptBy s old) cursors → AllByRecursion (IsKeptBy s new) cursors
each_kept s old new cursors guarded kept = all_weaker (IsKeptBy s old) (IsKeptBy s new) cursors (λ c is. record {
  pinned = pinned_still old new guarded c.cursor.live.generation is.pinned;
  point = is.point;
  few = is.few;
}) kept

kept_still : {M : Type 0} (s : Space) (old new : OpenIndex M) (pinned : PinnedCursors) → ((generation : ℕ) (tree : List ℕ) → GuardsPages generation tree old → GuardsPages generation tree new) →
    AreKeptBy s old pinned → AreKeptBy s new pinned
kept_still s old new pinned guarded kept = record { each = each_kept s old new pinned.cursors.items guarded kept.each; numbers = kept.numbers }

-- ---- what the cursors stand for

read_same : (dim pages : ℕ) (one other : List ℕ) (page : ℕ) → page_of one page ≡ page_of other page → reading dim pages one page ≡ reading dim pages other page
unfolding reading_in
read_same dim pages one other page same =
    ap (λ (bytes : List ℕ). if is_within pages page then judged page (fault_in Second dim bytes) (node_in Second dim bytes) else Err (Outside page)) same

pub stands_still : {M : Type 0} (s : Space) (old new : OpenIndex M) (before after : DiskState) (c : PinnedCursor) (meant : Cursor) → KeepsGuarded old new before after → IsTrue before.is_known → new.file.head ≡ old.file.head →
    StandsFor s old before.bytes c meant → StandsFor s new after.bytes c meant
stands_still s old new before after c meant keeps is_known head was = record {
  nodes = was.nodes;
  number = was.number;
  sound = was.sound;
  held = λ page i.
      let same : page_of after.bytes page ≡ page_of before.bytes page = all_in (λ page. page_of after.bytes page ≡ page_of before.bytes page) (live_pages was.nodes c.cursor.live) page
      (keeps.kept is_known c.cursor.live.generation (live_pages was.nodes c.cursor.live) was.guarded) i in
      ap (λ h. nodes_of (reading h.dim c.cursor.live.pages after.bytes) page) head
      ∙ ap (λ read. nodes_of (λ p. read) page) (read_same old.file.head.dim c.cursor.live.pages after.bytes before.bytes page same) ∙ was.held page i;
  guarded = keeps.guarded c.cursor.live.generation (live_pages was.nodes c.cursor.live) was.guarded;
  stands = was.stands;
  hits = was.hits;
  tags = was.tags;
}

pub each_still : {M : Type 0} (s : Space) (old new : OpenIndex M) (before after : DiskState) (cursors : List PinnedCursor) (meant : List Cursor) → KeepsGuarded old new before after → IsTrue before.is_known → new.file.head ≡ old.file.head →
    AllZip (StandsFor s old before.bytes) cursors meant → AllZip (StandsFor s new after.bytes) cursors meant
each_still s old new before after [] [] keeps is_known head was = tt
each_still s old new before after [] (m ∷ meant) keeps is_known head was = was
each_still s old new before after (c ∷ cursors) [] keeps is_known head was = was
each_still s old new before after (c ∷ cursors) (m ∷ meant) keeps is_known head was =
    (stands_still s old new before after c m keeps is_known head was.0, each_still s old new before after cursors meant keeps is_known head was.1)

stand_still : {M : Type 0} (s : Space) (old new : OpenIndex M) (before after : DiskState) (pinned : PinnedCursors) (opened : OpenCursors) → KeepsGuarded old new before after → IsTrue before.is_known → new.file.head ≡ old.file.head →
    StandFor s old before.bytes pinned opened → StandFor s new after.bytes pinned opened
stand_still s old new before after pinned opened keeps is_known head was = record {
  each = each_still s old new before after pinned.cursors.items opened.cursors keeps is_known head was.each;
  next = was.next;
}

-- and the trees that the cursors go through
pub still_through : {M : Type 0} (old new : OpenIndex M) (before after : DiskState) (pinned : PinnedCursors) → KeepsGuarded old new before after → after.is_known ≡ before.is_known → new.file.head ≡ old.file.head →
    AllGoThrough old before pinned → AllGoThrough new after pinned
still_through old new before after pinned keeps told head through = λ is_known.
    let now : IsTrue before.is_known = subst IsTrue told is_known in
    all_weaker (GoesThrough old before.bytes) (GoesThrough new after.bytes) pinned.cursors.items
    (λ c goes. goes_still old new before.bytes after.bytes c
    (λ page same. ap (λ h. nodes_of (reading h.dim c.cursor.live.pages after.bytes) page) head ∙ ap (λ read. nodes_of (λ p. read) page) (read_same old.file.head.dim c.cursor.live.pages after.bytes before.bytes page same))
    (λ tree guards. (keeps.guarded c.cursor.live.generation tree guards, keeps.kept now c.cursor.live.generation tree guards)) goes)
    (through now)

-- the file after a turn is sound
pub sound_after : {M : Type 0} (s : Space) (show : Bool) (old new : OpenFile M) (opened cursors : OpenCursors) (before after : DiskState) (c : Command) (a : Answer) → after.is_known ≡ before.is_known → IsTrue before.is_known →
    IsTaken s show old new opened cursors before after c a → IsSoundOn s new after
sound_after s show old new opened cursors before after c a told is_known taken = (rw told is_known, subst (λ (v : Held). IsSoundTree s v.nodes v.live) taken.file taken.is.objects.sound)

-- ---- commands

cause_of : {S T : Type 0} (before after : DiskState) (why : SessionStop) → (S → T) → HasStepCause T before after why → HasStepCause S before after why
cause_of before after stop.Disk of cause = cause
cause_of before after (stop.Damaged f) of cause = (cause.0, λ sound. cause.1 (of sound))
cause_of before after stop.Memory of cause = tt
cause_of before after stop.Sink of cause = absurd cause

-- a command that leaves the open cursors as they are
pub carried : {M : Type 0} (s : Space) (show : Bool) (old new : OpenIndex M) (pinned : PinnedCursors) (before after : DiskState) (c : Command) (result : Result Answer SessionStop) →
    ((cursors : OpenCursors) → HasStepped s show old new cursors cursors before after c result) → AreKeptBy s old pinned → OnOk result (KeepsGuarded old new before after) →
    HasCarriedOut s show old new pinned pinned before after c result
carried s show old new pinned before after c (Ok a) did kept keeps = let any = did no_cursors in record {
  going = any.going;
  head = any.head;
  metric = any.metric;
  is_known = any.is_known;
  later = any.later;
  numbers = omega arith;
  kept = kept_still s old new pinned keeps.guarded kept;
  spelled = any.spelled;
  tagged = any.tagged;
  cause = tt;
  stands = λ through. tt;
  through = λ through. still_through old new before after pinned keeps any.is_known any.head through;
  taken = λ opened goes. let taken = (did opened).taken goes.sound in (
    opened,
    taken,
    record {
      sound = sound_after s show old.file new.file opened opened before after c a any.is_known goes.sound.0 taken;
      cursors = stand_still s old new before after pinned opened keeps goes.sound.0 any.head goes.cursors;
    },
  );
  moments = λ opened goes. tt;
}
carried s show old new pinned before after c (Err why) did kept keeps = let any = did no_cursors in record {
  going = tt;
  head = tt;
  metric = tt;
  is_known = any.is_known;
  later = any.later;
  numbers = tt;
  kept = tt;
  spelled = tt;
  tagged = tt;
  cause = cause_of before after why (λ can. can.1.sound) any.cause;
  stands = λ through. any.stands;
  through = λ through. tt;
  taken = λ opened goes. tt;
  moments = λ opened goes. (did opened).moments goes.sound;
}

module _ {M : Type 0} (s : Space) (show : Bool) (old new : OpenIndex M) (pinned0 pinned1 : PinnedCursors) (before after : DiskState) (c : Command)
    (valid : IsValidFile s.dimension old.file) (alone : StandsAlone old before) (reads : OnlyReads old.file new.file before after) where
  -- what a reply means to the cursors
  abbrev pub Means : Reply → OpenCursors → OpenCursors → Type 0
  Means meant opened cursors =
      (step (setting_of s old.file) (state_on old.file before opened) c ≡ record { reply = meant; state = state_on old.file before cursors }) × StandFor s new after.bytes pinned1 cursors

  -- a command of cursors
  pub carried_plain : (meant : Reply) → new.stopped ≡ false → pinned1.next ≤ pinned0.next + 1 → AreKeptBy s new pinned1 → TagsAre meant → answered_query s c ≡ None → (IsAsking c → ⊥) →
      ((opened : OpenCursors) → GoesOn s old before pinned0 opened → accepts meant ≡ false) →
      ((opened : OpenCursors) → GoesOn s old before pinned0 opened → (cursors : OpenCursors) × Means meant opened cursors) → (AllGoThrough old before pinned0 → AllGoThrough new after pinned1) →
      HasCarriedOut s show old new pinned0 pinned1 before after c (Ok (plain_answer meant))
  carried_plain meant going numbers kept tagged unasked other none means through = record {
    going = going;
    head = ap (λ (file : OpenFile M). file.head) reads.rest;
    metric = ap (λ (file : OpenFile M). file.metric) reads.rest;
    is_known = reads.same.same_known;
    later = reads.later;
    numbers = numbers;
    kept = kept;
    spelled = tt;
    tagged = λ shown. tagged;
    cause = tt;
    stands = λ all. tt;
    through = through;
    taken = λ opened goes. let means = means opened goes in (
      means.0,
      read_taken s show old new.file opened means.0 before after c (plain_answer meant) None meant valid alone reads goes.sound means.1.0 (none opened goes) tt (unlogged s (held_on old.file before) unasked) refl
          (λ asks. absurd (other asks)),
      record { sound = sound_still s old.file new.file before after reads goes.sound; cursors = means.1.1 },
    );
    moments = λ opened goes. tt;
  }

  -- a command of cursors that ends the session
  pub carried_stopped : (why : SessionStop) → HasStepCause (CanGoOn s old before pinned0) before after why → (AllGoThrough old before pinned0 → StandsBy old.file.head after why) → HasCarriedOut s show old new pinned0 pinned1 before after c (Err why)
  carried_stopped why cause stands = record {
    going = tt;
    head = tt;
    metric = tt;
    is_known = reads.same.same_known;
    later = reads.later;
    numbers = tt;
    kept = tt;
    spelled = tt;
    tagged = tt;
    cause = cause;
    stands = stands;
    through = λ all. tt;
    taken = λ opened goes. tt;
    moments = λ opened goes. either_reading s old new.file opened before after (step (setting_of s old.file) (state_on old.file before opened) c).state valid alone reads goes.sound;
  }

-- ---- the commands `next` and `close`

next_accepts_none : (state : State) (number n : ℕ) (o : Option Cursor) → accepts (next_from state number n o).reply ≡ false
next_accepts_none state number n None = refl
next_accepts_none state number n (Some c) = refl

close_accepts_none : (state : State) (number : ℕ) (o : Option Cursor) → accepts (close_from state number o).reply ≡ false
close_accepts_none state number None = refl
close_accepts_none state number (Some c) = refl

module _ {M : Type 0} (s : Space) (show : Bool) (old new : OpenIndex M) (pinned0 pinned1 : PinnedCursors) (before after : DiskState) (c : Command)
    (valid : IsValidFile s.dimension old.file) (alone : StandsAlone old before) (going : new.stopped ≡ false) (points : IsTrue (has_points_of s c)) where
  executed : (opened : OpenCursors) (d : Command) → c ≡ d → step (setting_of s old.file) (state_on old.file before opened) c ≡ execute (setting_of s old.file) (state_on old.file before opened) d
  executed opened d is = rw points (ap (λ (e : Command). execute (setting_of s old.file) (state_on old.file before opened) e) is)

  pub next_carried : (number n : ℕ) (meant : Reply) → OnlyReads old.file new.file before after → c ≡ command.Next number n → pinned1.next ≡ pinned0.next → AreKeptBy s new pinned1 → TagsAre meant →
      ((opened : OpenCursors) → IsTrue before.is_known → StandFor s old before.bytes pinned0 opened → HasAdvanced s new after.bytes pinned1 opened number n meant) → (AllGoThrough old before pinned0 → AllGoThrough new after pinned1) →
      HasCarriedOut s show old new pinned0 pinned1 before after c (Ok (plain_answer meant))
  next_carried number n meant reads is next kept tagged advanced through =
      carried_plain s show old new pinned0 pinned1 before after c valid alone reads meant going (omega (arith, next)) kept tagged (rw points (rw is refl)) (λ asks. subst IsAsking is asks)
      (λ opened goes. let done = advanced opened goes.sound.0 goes.cursors in
      ap (λ (d : Step). accepts d.reply) (sym (done.meaning (state_on old.file before opened).objects))
      ∙ next_accepts_none (state_on old.file before opened) number n (cursor_named number (state_on old.file before opened)))
      (λ opened goes. let done = advanced opened goes.sound.0 goes.cursors in
      (done.cursors, (executed opened (command.Next number n) is ∙ done.meaning (state_on old.file before opened).objects, done.stand))) through

  pub close_carried : (number : ℕ) (meant : Reply) → OnlyReads old.file new.file before after → c ≡ command.Close number → pinned1.next ≡ pinned0.next → AreKeptBy s new pinned1 → TagsAre meant →
      ((opened : OpenCursors) → StandFor s old before.bytes pinned0 opened → HasClosed s new after.bytes pinned1 opened number meant) → (AllGoThrough old before pinned0 → AllGoThrough new after pinned1) →
      HasCarriedOut s show old new pinned0 pinned1 before after c (Ok (plain_answer meant))
  close_carried number meant reads is next kept tagged closed through =
      carried_plain s show old new pinned0 pinned1 before after c valid alone reads meant going (omega (arith, next)) kept tagged (rw points (rw is refl)) (λ asks. subst IsAsking is asks)
      (λ opened goes. let done = closed opened goes.cursors in
      ap (λ (d : Step). accepts d.reply) (sym (done.meaning (state_on old.file before opened).objects))
      ∙ close_accepts_none (state_on old.file before opened) number (cursor_named number (state_on old.file before opened)))
      (λ opened goes. let done = closed opened goes.cursors in
      (done.cursors, (executed opened (command.Close number) is ∙ done.meaning (state_on old.file before opened).objects, done.stand))) through

-- what holds anyway holds of an answer
pub any_ok : {A E B : Type 0} (result : Result A E) → B → OnOk result B
any_ok (Ok x) b = b
any_ok (Err e) b = tt

-- where only the free list may have changed, no page was read
pub free_reads : {M : Type 0} (old new : OpenIndex M) (disk : DiskState) → new ≡ record old { free = new.free } → OnlyReads old.file new.file disk disk
free_reads {M} old new disk only = subst (λ (f : OpenFile M). OnlyReads old.file f disk disk) (sym (ap (λ (i : OpenIndex M). i.file) only)) (reads_none old.file disk)
