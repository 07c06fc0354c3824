-- A session, turn by turn.
use Rattle.std.proofs.Common.{◌≡◌, ◌⊎◌, ℕ, suc, ◌+◌, ◌≤◌, ◌<◌, Bool, List, [], ◌∷◌, ◌++◌, length, drop, get_or, inl, inr, refl, sym, ap, subst, ◌∙◌, arith, append_assoc, length-append, Some, None, Result}
use Rattle.std.specs.List.{AllByRecursion, AllZip, concat}
use Rattle.std.specs.Io.KnownBytes.{Appends}
use Rattle.std.proofs.KnownBytes.{Appends-nil, Appends-trans}
use Rattle.std.proofs.lemmas.List.{append-nil}
use Rattle.std.proofs.Math.Seq.{drop-cons}
use Rattle.metric_laws.specs.Space.{Space}
use Rattle.outside_io.specs.Sinks.{SinkState}
use Rattle.disk_model.specs.Disk.{DiskState, EachImage}
use Rattle.disk_model.specs.Moments.{joined, started, weakened}
use Rattle.node_page.specs.declared.head.Head.{Head}
use Rattle.rows_text.specs.declared.command.Command.{Command}
use Rattle.rows_text.specs.Meaning.{Setting, State, step}
use Rattle.rows_text.specs.Texts.{text}
use Rattle.plain_scan.specs.OpenCursors.{OpenCursors}
use Rattle.log_model.specs.declared.logs.Log.{Log}
use Rattle.answer_texts.specs.Answered.{commands_of, framed, if_any, logs_of, texts_of}
use Rattle.answer_texts.specs.Asked.{Held}
use Rattle.answer_texts.specs.Put.{AreCut}
use Rattle.answer_texts.proofs.Published.{cut_behind, framed_both}
use Rattle.index_core.specs.Answers.{IsSoundOn}
use Rattle.index_core.specs.Files.{OpenFile, IsValidFile}
use Rattle.index_core.specs.Index.{OpenIndex, StandsAlone}
use Rattle.index_core.proofs.Published.{holds}
use Rattle.session_run.specs.declared.pinned.PinnedCursor.{PinnedCursor}
use Rattle.session_run.specs.declared.pinned.PinnedCursors.{PinnedCursors}
use Rattle.session_run.specs.declared.stop.SessionStop.{SessionStop}
use Rattle.session_run.specs.declared.stop.SessionStop.TheVariants as stop
use Rattle.session_run.specs.Pinned.{GoesOn, StandsFor}
use Rattle.session_run.specs.Session.{Ends, Grew, HasRun, HasStopCause, HoldsNext, HoldsSome, HoldsState, IsAsking, IsCutShort, no_cursors, records_in, setting_of, state_on}
use Rattle.session_run.specs.Steps.{HasTurned, HoldsEither, HoldsOne, IsPartlyPut, IsPut, IsStoppedAt}
use Rattle.session_run.specs.Turns.{AreTurns, IsTurn, Turn, answers_of, file_after, state_after, held_on}
use Rattle.session_run.proofs.Reading.{objects_on}
use Rattle.outside_io.proofs.Published.{rose_before}

-- ---- one turn more at the end
are_more : (setting : Setting) (head : Head) (state : State) (file : Held) (turns : List Turn) (t : Turn) → AreTurns setting head state file turns →
    IsTurn setting head (state_after state turns) (file_after file turns) t → AreTurns setting head state file (turns ++ t ∷ [])
are_more setting head state file [] t are is = (is, tt)
are_more setting head state file (u ∷ turns) t are is = (are.0, are_more setting head u.state u.file turns t are.1 is)

state_more : (state : State) (turns : List Turn) (t : Turn) → state_after state (turns ++ t ∷ []) ≡ t.state
state_more state [] t = refl
state_more state (u ∷ turns) t = state_more u.state turns t

file_more : (file : Held) (turns : List Turn) (t : Turn) → file_after file (turns ++ t ∷ []) ≡ t.file
file_more file [] t = refl
file_more file (u ∷ turns) t = file_more u.file turns t

commands_more : (turns : List Turn) (t : Turn) (rest : List Command) → commands_of (answers_of (turns ++ t ∷ [])) ++ rest ≡ commands_of (answers_of turns) ++ t.answered.command ∷ rest
commands_more [] t rest = refl
commands_more (u ∷ turns) t rest = ap (λ (l : List Command). u.answered.command ∷ l) (commands_more turns t rest)

texts_more : (show : Bool) (turns : List Turn) (t : Turn) → concat (texts_of show (answers_of (turns ++ t ∷ []))) ≡ concat (texts_of show (answers_of turns)) ++ text show t.answered.reply
texts_more show [] t = append-nil (text show t.answered.reply)
texts_more show (u ∷ turns) t = ap (λ (l : List ℕ). text show u.answered.reply ++ l) (texts_more show turns t) ∙ sym (append_assoc (text show u.answered.reply) (concat (texts_of show (answers_of turns))) (text show t.answered.reply))

logs_more : (turns : List Turn) (t : Turn) → logs_of (answers_of (turns ++ t ∷ [])) ≡ logs_of (answers_of turns) ++ if_any t.answered.log
logs_more [] t = append-nil (if_any t.answered.log)
logs_more (u ∷ turns) t = ap (λ (l : List Log). if_any u.answered.log ++ l) (logs_more turns t) ∙ sym (append_assoc (if_any u.answered.log) (logs_of (answers_of turns)) (if_any t.answered.log))

holds_more : (setting : Setting) (head : Head) (state : State) (turns : List Turn) (t : Turn) (image : List ℕ) → HoldsSome setting head state turns image → HoldsSome setting head state (turns ++ t ∷ []) image
holds_more setting head state [] t image holds = inl holds
holds_more setting head state (u ∷ turns) t image (inl holds) = inl holds
holds_more setting head state (u ∷ turns) t image (inr holds) = inr (holds_more setting head u.state turns t image holds)

holds_last : (setting : Setting) (head : Head) (state : State) (turns : List Turn) (image : List ℕ) → HoldsState setting.space head (state_after state turns) image → HoldsSome setting head state turns image
holds_last setting head state [] image holds = holds
holds_last setting head state (u ∷ turns) image holds = inr (holds_last setting head u.state turns image holds)

-- ---- what is read
records_both : (first second : List Log) → records_in (first ++ second) ≡ records_in first + records_in second
records_both [] second = omega arith
records_both (log ∷ first) second = let more = records_both first second in omega (arith, more)

read_more : (first second : List Log) (before mid after : ℕ) → mid ≤ before + records_in first → after ≤ mid + records_in second → after ≤ before + records_in (first ++ second)
read_more first second before mid after one two = let both = records_both first second in omega (arith, both, one, two)

asks_both : (turns : List Turn) (t : Turn) → AllByRecursion IsAsking (commands_of (answers_of (turns ++ t ∷ []))) → AllByRecursion IsAsking (commands_of (answers_of turns)) × IsAsking t.answered.command
asks_both [] t asks = (tt, asks.0)
asks_both (u ∷ turns) t asks = let more = asks_both turns t asks.1 in ((asks.0, more.0), more.1)

-- ---- a session that goes on
module _ {M : Type 0} (s : Space) (show : Bool) (old : OpenIndex M) (disk0 : DiskState) (commands : List Command) (out0 log0 : SinkState) where
  abbrev pub setting : Setting
  setting = setting_of s old.file

  abbrev pub state0 : State
  state0 = state_on old.file disk0 no_cursors

  abbrev pub file0 : Held
  file0 = held_on old.file disk0

  -- the first commands are done, each of them a turn, and `rest` are the others
  pub record HasDone (new : OpenIndex M) (pinned : PinnedCursors) (disk1 : DiskState) (rest : List Command) (out1 log1 : SinkState) (acknowledged : ℕ) : Type 0 where
    pub turns : List Turn
    pub cursors : OpenCursors
    pub whole : commands ≡ commands_of (answers_of turns) ++ rest
    pub are : AreTurns setting old.file.head state0 file0 turns
    pub state : state_after state0 turns ≡ state_on new.file disk1 cursors
    pub file : file_after file0 turns ≡ held_on new.file disk1
    pub count : acknowledged ≡ length turns
    pub written : Appends out0.written out1.written (concat (texts_of show (answers_of turns)))
    pub logged : Appends log0.written log1.written (framed (logs_of (answers_of turns)))
    pub goes : GoesOn s new disk1 pinned cursors
    pub reads : AllByRecursion IsAsking (commands_of (answers_of turns)) → disk1.reads ≤ disk0.reads + records_in (logs_of (answers_of turns))
    pub moments : EachImage disk0 disk1 (HoldsSome setting old.file.head state0 turns)

  pub begun : (pinned : PinnedCursors) → pinned.cursors.items ≡ [] → pinned.next ≡ 0 → IsValidFile s.dimension old.file → StandsAlone old disk0 → IsSoundOn s old.file disk0 →
      HasDone old pinned disk0 commands out0 log0 0
  begun pinned none first valid alone sound = record {
    turns = [];
    cursors = no_cursors;
    whole = refl;
    are = tt;
    state = refl;
    file = refl;
    count = refl;
    written = Appends-nil out0.written;
    logged = Appends-nil log0.written;
    goes = record {
      sound = sound;
      cursors = record { each = subst (λ (l : List PinnedCursor). AllZip (StandsFor s old disk0.bytes) l []) (sym none) tt; next = sym first };
    };
    reads = λ asks. omega arith;
    moments = started disk0 (HoldsSome setting old.file.head state0 []) (λ image left.
        subst (λ (file : List ℕ). HoldsState s old.file.head state0 file) (sym (alone.only sound.0 image left)) (holds s old.file disk0 _ _ valid alone.stands (objects_on s old.file disk0 sound)));
  }

  module _ (mid : OpenIndex M) (pinned : PinnedCursors) (disk1 : DiskState) (c : Command) (rest : List Command) (out1 log1 : SinkState) (acknowledged : ℕ)
      (same_head : mid.file.head ≡ old.file.head) (so_far : HasDone mid pinned disk1 (c ∷ rest) out1 log1 acknowledged) where
    abbrev cursors : OpenCursors
    cursors = so_far.cursors

    -- a turn is one of the session's
    turn_is : (t : Turn) → IsTurn (setting_of s mid.file) mid.file.head (state_on mid.file disk1 cursors) (held_on mid.file disk1) t →
        IsTurn setting old.file.head (state_after state0 so_far.turns) (file_after file0 so_far.turns) t
    turn_is t is = rw (so_far.state, so_far.file) (subst (λ (h : Head). IsTurn (record { space = s; limit = h.limit }) h (state_on mid.file disk1 cursors) (held_on mid.file disk1) t) same_head is)

    first_is : (image : List ℕ) → HoldsState s mid.file.head (state_on mid.file disk1 cursors) image → HoldsState s old.file.head (state_after state0 so_far.turns) image
    first_is image holds = subst (λ (state : State). HoldsState s old.file.head state image) (sym so_far.state) (subst (λ (h : Head). HoldsState s h (state_on mid.file disk1 cursors) image) same_head holds)

    pub one_more : (new : OpenIndex M) (after : PinnedCursors) (opens : OpenCursors) (disk2 : DiskState) (out2 log2 : SinkState) → IsPut s show mid.file new.file cursors opens disk1 disk2 c out1 out2 log1 log2 →
        GoesOn s new disk2 after opens → HasDone new after disk2 rest out2 log2 (acknowledged + 1)
    one_more new after opens disk2 out2 log2 put goes = record {
      turns = so_far.turns ++ put.turn ∷ [];
      cursors = opens;
      whole = so_far.whole ∙ ap (λ (d : Command). commands_of (answers_of so_far.turns) ++ d ∷ rest) (sym put.command) ∙ sym (commands_more so_far.turns put.turn rest);
      are = are_more setting old.file.head state0 file0 so_far.turns put.turn so_far.are (turn_is put.turn put.is);
      state = state_more state0 so_far.turns put.turn ∙ put.state;
      file = file_more file0 so_far.turns put.turn ∙ put.file;
      count = let n = length-append so_far.turns (put.turn ∷ []) in omega (arith, so_far.count, n);
      written = rw (texts_more show so_far.turns put.turn) (Appends-trans out0.written out1.written out2.written _ _ so_far.written put.written);
      logged = rw (logs_more so_far.turns put.turn, framed_both (logs_of (answers_of so_far.turns)) (if_any put.turn.answered.log)) (Appends-trans log0.written log1.written log2.written _ _ so_far.logged put.logged);
      goes = goes;
      reads = λ asks.
          let both = asks_both so_far.turns put.turn asks in
          rw (logs_more so_far.turns put.turn)
          (read_more (logs_of (answers_of so_far.turns)) (if_any put.turn.answered.log) disk0.reads disk1.reads disk2.reads (so_far.reads both.0) (put.reads (subst IsAsking put.command both.1)));
      moments = joined disk0 disk1 disk2 (HoldsSome setting old.file.head state0 (so_far.turns ++ put.turn ∷ []))
          (weakened disk0 disk1 (HoldsSome setting old.file.head state0 so_far.turns) (HoldsSome setting old.file.head state0 (so_far.turns ++ put.turn ∷ [])) so_far.moments
          (λ image holds. holds_more setting old.file.head state0 so_far.turns put.turn image holds))
          (weakened disk1 disk2 (HoldsOne s mid.file.head (state_on mid.file disk1 cursors) put.turn.state) (HoldsSome setting old.file.head state0 (so_far.turns ++ put.turn ∷ [])) put.moments (λ image holds. elim holds [
            | inl was ↦ holds_more setting old.file.head state0 so_far.turns put.turn image (holds_last setting old.file.head state0 so_far.turns image (first_is image was))
            | inr now ↦ holds_last setting old.file.head state0 (so_far.turns ++ put.turn ∷ []) image
                (subst (λ (state : State). HoldsState s old.file.head state image) (sym (state_more state0 so_far.turns put.turn)) (subst (λ (h : Head). HoldsState s h put.turn.state image) same_head now))
          ]));
    }

    second_is : (image : List ℕ) → HoldsEither s mid.file disk1 cursors c image →
        HoldsState s old.file.head (state_after state0 so_far.turns) image ⊎ HoldsNext setting old.file.head (state_after state0 so_far.turns) (c ∷ rest) image
    second_is image (inl was) = inl (first_is image was)
    second_is image (inr now) = inr (subst (λ (state : State). HoldsState s old.file.head (step setting state c).state image) (sym so_far.state)
        (subst (λ (h : Head). HoldsState s h (step (record { space = s; limit = h.limit }) (state_on mid.file disk1 cursors) c).state image) same_head now))

    -- it ends at a fault
    pub stopped : (new : OpenIndex M) (disk2 : DiskState) (out2 log2 : SinkState) (why : SessionStop) → EachImage disk1 disk2 (HoldsEither s mid.file disk1 cursors c) →
        IsStoppedAt s show mid.file cursors disk1 c out1 out2 log1 log2 why →
        HasRun setting old.file.head show commands state0 file0 disk0 disk2 out0 out2 log0 log2 acknowledged (Some why) (held_on new.file disk2)
    stopped new disk2 out2 log2 why moments at = record {
      turns = so_far.turns;
      more = c ∷ rest;
      rest = (puts why refl at).0;
      log_rest = (puts why refl at).1;
      whole = so_far.whole;
      are = so_far.are;
      count = so_far.count;
      ends = (puts why refl at).2;
      written = (puts why refl at).3;
      logged = (puts why refl at).4;
      last = λ e. absurd (cc);
      reads = λ e. absurd (cc);
      moments = joined disk0 disk1 disk2 _
          (weakened disk0 disk1 (HoldsSome setting old.file.head state0 so_far.turns) _ so_far.moments (λ image holds. inl holds))
          (weakened disk1 disk2 (HoldsEither s mid.file disk1 cursors c) _ moments (λ image holds. elim (second_is image holds) [
            | inl was ↦ inl (holds_last setting old.file.head state0 so_far.turns image was)
            | inr now ↦ inr now
          ]));
      remains = λ image left. second_is image (moments.each disk2.clock image moments.later (omega arith) left);
    }
      where
        Puts : Type 0
        Puts = (bytes : List ℕ) × (log_bytes : List ℕ) × Ends setting old.file.head show (state_after state0 so_far.turns) (file_after file0 so_far.turns) (c ∷ rest) (Some why) bytes log_bytes
            × Appends out0.written out2.written (concat (texts_of show (answers_of so_far.turns)) ++ bytes) × Appends log0.written log2.written (framed (logs_of (answers_of so_far.turns)) ++ log_bytes)

        silent : Ends setting old.file.head show (state_after state0 so_far.turns) (file_after file0 so_far.turns) (c ∷ rest) (Some why) [] [] → (out2 ≡ out1) × (log2 ≡ log1) → Puts
        silent ends same = (
          [],
          [],
          ends,
          rw (same.0, append-nil (concat (texts_of show (answers_of so_far.turns)))) so_far.written,
          rw (same.1, append-nil (framed (logs_of (answers_of so_far.turns)))) so_far.logged,
        )

        puts : (end : SessionStop) → why ≡ end → IsStoppedAt s show mid.file cursors disk1 c out1 out2 log1 log2 end → Puts
        puts stop.Disk is same = silent (rw is (refl, refl)) same
        puts (stop.Damaged page) is same = silent (rw is (refl, refl)) same
        puts stop.Memory is same = silent (rw is (refl, refl)) same
        puts stop.Sink is part =
            let behind = cut_behind (concat (texts_of show (answers_of so_far.turns))) (framed (logs_of (answers_of so_far.turns))) (text show part.turn.answered.reply) (framed (if_any part.turn.answered.log)) out0 out1 out2 log0 log1 log2 so_far.written so_far.logged part.cut in
            (behind.rest, behind.log_rest, rw is (cut_short part behind.rest behind.log_rest behind.cut), behind.written, behind.logged)
          where
            cut_short : (part : IsPartlyPut s show mid.file cursors disk1 c out1 out2 log1 log2) (bytes log_bytes : List ℕ) →
                AreCut (text show part.turn.answered.reply) (framed (if_any part.turn.answered.log)) bytes log_bytes →
                IsCutShort setting old.file.head show (state_after state0 so_far.turns) (file_after file0 so_far.turns) (c ∷ rest) bytes log_bytes
            cut_short part bytes log_bytes cut = record {
              turn = part.turn;
              others = rest;
              is = turn_is part.turn part.is;
              next = ap (λ (d : Command). d ∷ rest) (sym part.command);
              cut = cut;
            }

  -- no command is left
  pub finished : (new closed : OpenIndex M) (pinned : PinnedCursors) (disk1 : DiskState) (out1 log1 : SinkState) (acknowledged : ℕ) → new.file.head ≡ old.file.head → closed.file ≡ new.file → IsValidFile s.dimension new.file →
      StandsAlone new disk1 → HasDone new pinned disk1 [] out1 log1 acknowledged →
      HasRun setting old.file.head show commands state0 file0 disk0 disk1 out0 out1 log0 log1 acknowledged None (held_on closed.file disk1)
  finished new closed pinned disk1 out1 log1 acknowledged same_head same_file valid alone done = record {
    turns = done.turns;
    more = [];
    rest = [];
    log_rest = [];
    whole = done.whole;
    are = done.are;
    count = done.count;
    ends = (refl, refl, refl);
    written = rw (append-nil (concat (texts_of show (answers_of done.turns)))) done.written;
    logged = rw (append-nil (framed (logs_of (answers_of done.turns)))) done.logged;
    last = λ none. ap (λ (f : OpenFile M). held_on f disk1) same_file ∙ sym done.file;
    reads = λ none asks. done.reads (subst (AllByRecursion IsAsking) (done.whole ∙ append-nil (commands_of (answers_of done.turns))) asks);
    moments = weakened disk0 disk1 (HoldsSome setting old.file.head state0 done.turns) _ done.moments (λ image holds. inl holds);
    remains = λ image left. inl (subst (λ (state : State). HoldsState s old.file.head state image) (sym done.state)
        (subst (λ (h : Head). HoldsState s h (state_on new.file disk1 done.cursors) image) same_head
        (subst (λ (file : List ℕ). HoldsState s new.file.head (state_on new.file disk1 done.cursors) file) (sym (alone.only done.goes.sound.0 image left))
        (holds s new.file disk1 _ _ valid alone.stands (objects_on s new.file disk1 done.goes.sound)))));
  }

-- a fault that ends a session has its cause in the session
pub cause_since : {Sound Then : Type 0} (disk0 disk1 disk2 : DiskState) (out0 out1 out2 log0 log1 log2 : SinkState) (why : SessionStop) → disk0.faults ≤ disk1.faults → out0.faults ≤ out1.faults → log0.faults ≤ log1.faults →
    (Sound → Then) → HasStopCause Then disk1 disk2 out1 out2 log1 log2 why → HasStopCause Sound disk0 disk2 out0 out2 log0 log2 why
cause_since disk0 disk1 disk2 out0 out1 out2 log0 log1 log2 stop.Sink later out_later log_later kept cause = elim cause [
  | inl rose ↦ inl (rose_before _ _ _ out_later rose)
  | inr rose ↦ inr (rose_before _ _ _ log_later rose)
]
cause_since disk0 disk1 disk2 out0 out1 out2 log0 log1 log2 stop.Disk later out_later log_later kept cause = rose_before _ _ _ later cause
cause_since disk0 disk1 disk2 out0 out1 out2 log0 log1 log2 (stop.Damaged page) later out_later log_later kept cause = (cause.0, λ sound. cause.1 (kept sound))
cause_since disk0 disk1 disk2 out0 out1 out2 log0 log1 log2 stop.Memory later out_later log_later kept cause = tt

-- ---- for the loop

-- a turn of an index with the same metric
pub turned_on : {M : Type 0} (space : M → Space) (show : Bool) (old mid new : OpenIndex M) (pinned0 pinned1 : PinnedCursors) (before after : DiskState) (c : Command) (out0 out1 log0 log1 : SinkState) (result : Result (Unit {0}) SessionStop) →
    mid.file.metric ≡ old.file.metric → HasTurned (space mid.file.metric) show mid new pinned0 pinned1 before after c out0 out1 log0 log1 result →
    HasTurned (space old.file.metric) show mid new pinned0 pinned1 before after c out0 out1 log0 log1 result
turned_on {M} space show old mid new pinned0 pinned1 before after c out0 out1 log0 log1 result same turned =
    subst (λ (m : M). HasTurned (space m) show mid new pinned0 pinned1 before after c out0 out1 log0 log1 result) same turned

-- the next command
pub next_item : (commands : List Command) (i : ℕ) (c : Command) → i < length commands → c ≡ get_or commands i c → drop i commands ≡ c ∷ drop (i + 1) commands
next_item commands i c low is = let n : i + 1 ≡ suc i = omega arith in rw n (drop-cons commands i c low ∙ ap (λ (d : Command). d ∷ drop (suc i) commands) (sym is))

-- outputs that grew, and grew again
pub grew_more : (first mid last : SinkState) → Grew first mid → Grew mid last → Grew first last
grew_more first mid last one two = (one.0 ++ two.0, Appends-trans first.written mid.written last.written one.0 two.0 one.1 two.1)
