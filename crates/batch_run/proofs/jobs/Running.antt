-- A batch on an image.
use Rattle.std.proofs.Common.{◌≡◌, ◌≢◌, ◌⊎◌, ℕ, ◌≤◌, Bool, List, [], ◌∷◌, ◌++◌, inl, inr, refl, sym, ap, subst, ◌∙◌, arith, Option, Some, None, Result, Ok, Err}
use Rattle.std.specs.Prelude.{codes}
use Rattle.std.specs.List.{AllByRecursion, AllZip, concat}
use Rattle.std.specs.Io.KnownBytes.{Appends}
use Rattle.std.proofs.KnownBytes.{Appends-nil}
use Rattle.metric_laws.specs.Space.{Space}
use Rattle.outside_io.specs.Causes.{Rose}
use Rattle.outside_io.specs.Sinks.{SinkState, Tells}
use Rattle.scan_model.specs.declared.query.Query.{Query}
use Rattle.rows_text.specs.declared.command.Command.{Command}
use Rattle.rows_text.specs.Script.{script}
use Rattle.rows_text.specs.Texts.{text}
use Rattle.tree_shape.specs.declared.live.Live.{Live}
use Rattle.tree_shape.specs.Tree.{IsSoundTree}
use Rattle.page_store.specs.declared.pages.PageFault.{PageFault}
use Rattle.page_store.specs.Files.{nodes_in}
use Rattle.page_store.specs.Reading.{reading}
use Rattle.answer_texts.specs.Answered.{Answered, commands_of, framed, if_any, logs_of, texts_of}
use Rattle.answer_texts.specs.Asked.{Held, answered_query, held_in}
use Rattle.answer_texts.specs.Ending.{Ends, IsTold}
use Rattle.answer_texts.specs.Put.{AreCut}
use Rattle.answer_texts.proofs.Published.{framed_both, line_alone, told_behind}
use Rattle.image_answers.specs.declared.outcome.Outcome.{Outcome}
use Rattle.image_answers.specs.declared.outcome.Outcome.TheVariants as outcome
use Rattle.image_answers.specs.Outcomes.{HasDamage, IsOutcomeOf, IsTold as IsAnswered, IsTurn}
use Rattle.batch_run.specs.declared.jobs.piles.Prepared.{Prepared}
use Rattle.batch_run.specs.declared.jobs.piles.Prepared.TheVariants as prepared
use Rattle.batch_run.specs.Jobs.Preparing.{IsPrepared, IsPreparedFor}
use Rattle.batch_run.specs.declared.jobs.stop.BatchStop.{BatchStop}
use Rattle.batch_run.specs.declared.jobs.stop.BatchStop.TheVariants as stop
use Rattle.batch_run.specs.Jobs.Putting.{ArePut, HasEnded, all_logged, all_said, logged, said}
use Rattle.batch_run.specs.Jobs.Batches.{HasFinished, IsCutShort, RunsOn}

-- ---- lists

-- what is zipped with two lists, one after the other
pub zipped_split : {A B : Type 0} (R : A → B → Type 0) (xs : List A) (first second : List B) → AllZip R xs (first ++ second) →
    (front : List A) × (more : List A) × (xs ≡ front ++ more) × AllZip R front first × AllZip R more second
zipped_split R xs [] second zipped = ([], xs, refl, tt, zipped)
zipped_split R [] (b ∷ first) second zipped = absurd zipped
zipped_split {A} R (x ∷ xs) (b ∷ first) second zipped =
    let rest = zipped_split R xs first second zipped.1 in (x ∷ rest.0, rest.1, ap (λ (l : List A). x ∷ l) rest.2, (zipped.0, rest.3), rest.4)

-- ---- what is prepared, and turns

module _ (s : Space) (live : Live) (image : List ℕ) (show : Bool) where
  abbrev pub held : Held
  held = held_in s.dimension live image

  abbrev pub Sound : Type 0
  Sound = IsSoundTree s (nodes_in s.dimension live image) live

  abbrev pub IsSaidBy : Command → Prepared → Type 0
  IsSaidBy c p = (turn : Answered) × (turn.command ≡ c) × IsTurn s held turn × (text show turn.reply ≡ said p) × (framed (if_any turn.log) ≡ logged p)

  -- what is prepared on a sound image, as a turn
  turn_by : (c : Command) (o : Outcome) (p : Prepared) → Sound → IsOutcomeOf s live image c o → IsPrepared show o p → IsSaidBy c p
  turn_by c (outcome.Done r log) (prepared.Said reply frame) sound is ready = (record { command = c; reply = r; log = log }, refl, is.meant sound, sym ready.0, sym ready.1)
  turn_by c (outcome.Done r log) (prepared.Damaged named) sound is ready = absurd ready
  turn_by c (outcome.Damaged fault) p sound is ready = absurd (is.meant sound)

  turn_of : (c : Command) (p : Prepared) → Sound → IsPreparedFor s live image show c p → IsSaidBy c p
  turn_of c p sound is = turn_by c is.0 p sound is.1 is.2

  pub record HasTurns (cs : List Command) (ps : List Prepared) : Type 0 where
    pub turns : List Answered
    pub commands : commands_of turns ≡ cs
    pub are : AllByRecursion (IsTurn s held) turns
    pub texts : concat (texts_of show turns) ≡ all_said ps
    pub logs : framed (logs_of turns) ≡ all_logged ps

  pub turns_of : (cs : List Command) (ps : List Prepared) → Sound → AllZip (IsPreparedFor s live image show) cs ps → HasTurns cs ps
  turns_of [] [] sound zipped = record { turns = []; commands = refl; are = tt; texts = refl; logs = refl }
  turns_of [] (o ∷ ps) sound zipped = absurd zipped
  turns_of (c ∷ cs) [] sound zipped = absurd zipped
  turns_of (c ∷ cs) (o ∷ ps) sound zipped =
      let t = turn_of c o sound zipped.0 in
      let rest = turns_of cs ps sound zipped.1 in
      record {
        turns = t.0 ∷ rest.turns;
        commands = (λ i. t.1 i ∷ rest.commands i);
        are = (t.2, rest.are);
        texts = (λ i. t.3 i ++ rest.texts i);
        logs = framed_both (if_any t.0.log) (logs_of rest.turns) ∙ (λ i. t.4 i ++ rest.logs i);
      }

  -- ---- what a batch on a sound image writes

  module _ (bytes : List ℕ) (out0 log0 : SinkState) where
    -- the line of a fault is all that was put
    pub unread : (out1 : SinkState) (line : List ℕ) (status : ℕ) → Tells out0 out1 line →
        ((rest : List ℕ) → IsTold (Rose out0.faults out1.faults) rest line → Ends (Rose out0.faults out1.faults) (IsCutShort s show held (script s.dimension bytes)) status [] (script s.dimension bytes) rest []) → RunsOn show bytes s held out0 out1 log0 log0 status
    unread out1 line status told ends =
        let part = told_behind out0.written out0.written out1.written (Rose out0.faults out1.faults) [] line (Appends-nil out0.written) told in
        record {
          turns = [];
          more = script s.dimension bytes;
          rest = part.0;
          log_rest = [];
          whole = refl;
          are = tt;
          ends = ends part.0 part.1;
          unread = λ e. refl;
          written = part.2;
          logged = Appends-nil log0.written;
        }

    module _ (sound : Sound) (commands : List Command) (all : List Prepared) (script_is : commands ≡ script s.dimension bytes) (zipped : AllZip (IsPreparedFor s live image show) commands all) (out1 log1 : SinkState) where
      module _ (result : Result (Unit {0}) BatchStop) (put : ArePut all out0 out1 log0 log1 result) where
        pub parts : (front : List Command) × (more : List Command) × (commands ≡ front ++ more) × AllZip (IsPreparedFor s live image show) front put.put × AllZip (IsPreparedFor s live image show) more put.left
        parts = zipped_split (IsPreparedFor s live image show) commands put.put put.left (subst (λ (ps : List Prepared). AllZip (IsPreparedFor s live image show) commands ps) put.whole zipped)

        pub done : HasTurns parts.0 put.put
        done = turns_of parts.0 put.put sound parts.3

        whole : script s.dimension bytes ≡ commands_of done.turns ++ parts.1
        whole = sym script_is ∙ parts.2 ∙ ap (λ (cs : List Command). cs ++ parts.1) (sym done.commands)

        -- with nothing behind it, or what was put of one more
        pub runs : (status : ℕ) (out2 : SinkState) (rest : List ℕ) → status ≢ 5 → Ends (Rose out0.faults out2.faults) (IsCutShort s show held parts.1) status done.turns parts.1 rest put.log_rest →
            Appends out0.written out2.written (all_said put.put ++ rest) → RunsOn show bytes s held out0 out2 log0 log1 status
        runs status out2 rest other ends written = record {
          turns = done.turns;
          more = parts.1;
          rest = rest;
          log_rest = put.log_rest;
          whole = whole;
          are = done.are;
          ends = ends;
          unread = λ e. absurd (other e);
          written = subst (λ (l : List ℕ). Appends out0.written out2.written (l ++ rest)) (sym done.texts) written;
          logged = subst (λ (l : List ℕ). Appends log0.written log1.written (l ++ put.log_rest)) (sym done.logs) put.framed;
        }

      none_left : (cs : List Command) (ps : List Prepared) → AllZip (IsPreparedFor s live image show) cs ps → ps ≡ [] → cs ≡ []
      none_left [] ps zip is = refl
      none_left (c ∷ cs) [] zip is = absurd zip
      none_left (c ∷ cs) (o ∷ ps) zip is = absurd (cc)

      pub all_put : ArePut all out0 out1 log0 log1 (Ok tt) → RunsOn show bytes s held out0 out1 log0 log1 0
      all_put put = runs (Ok tt) put 0 out1 put.rest (λ e. omega arith) (record {
        done = λ e. (none_left (parts (Ok tt) put).1 put.left (parts (Ok tt) put).4 put.follows.0, put.follows.1, put.follows.2);
        input = λ e. absurd (omega arith);
        output = λ e. absurd (omega arith);
        disk = λ e. absurd (omega arith);
        long = λ e. absurd (omega arith);
        memory = λ e. absurd (omega arith);
        unlogged = λ e. put.follows.2;
        index = λ e. absurd (omega arith);
        undamaged = λ e. absurd (omega arith);
      }) put.written

      -- an output failed
      first_is : (cs : List Command) (ps : List Prepared) (o : Prepared) (others : List Prepared) → AllZip (IsPreparedFor s live image show) cs ps → ps ≡ o ∷ others →
          (c : Command) × (rest : List Command) × (cs ≡ c ∷ rest) × IsPreparedFor s live image show c o
      first_is cs ps o others zip is = at cs (subst (λ (l : List Prepared). AllZip (IsPreparedFor s live image show) cs l) is zip)
        where
          at : (ds : List Command) → AllZip (IsPreparedFor s live image show) ds (o ∷ others) → (c : Command) × (rest : List Command) × (ds ≡ c ∷ rest) × IsPreparedFor s live image show c o
          at [] zip = absurd zip
          at (c ∷ ds) zip = (c, ds, refl, zip.0)

      pub cut_short : (status : ℕ) → ArePut all out0 out1 log0 log1 (Err stop.Sink) → status ≡ 4 → RunsOn show bytes s held out0 out1 log0 log1 status
      cut_short status put is =
          let f = put.follows in
          let p = parts (Err stop.Sink) put in
          let first = first_is p.1 put.left f.0 f.1 p.4 f.2 in
          let t = turn_of first.0 f.0 sound first.3 in
          runs (Err stop.Sink) put status out1 put.rest (λ e. omega arith) (record {
            done = λ e. absurd (omega arith);
            input = λ e. absurd (omega arith);
            output = λ e. record {
              turn = t.0;
              others = first.1;
              is = t.2;
              next = first.2 ∙ ap (λ (c : Command). c ∷ first.1) (sym t.1);
              cut = subst (λ (reply : List ℕ). AreCut reply (framed (if_any t.0.log)) put.rest put.log_rest) (sym t.3)
                  (subst (λ (frame : List ℕ). AreCut (said f.0) frame put.rest put.log_rest) (sym t.4) f.4);
            };
            disk = λ e. absurd (omega arith);
            long = λ e. absurd (omega arith);
            memory = λ e. absurd (omega arith);
            unlogged = λ e. absurd (e is);
            index = λ e. absurd (omega arith);
            undamaged = λ e. absurd (omega arith);
          }) put.written

      no_damage : {P : Type 0} (c : Command) (o : Outcome) (fault : PageFault) → IsOutcomeOf s live image c o → IsPrepared show o (prepared.Damaged fault) → P
      no_damage c (outcome.Done r log) fault is ready = absurd ready
      no_damage c (outcome.Damaged named) fault is ready = absurd (is.meant sound)

      pub stopped : (why : BatchStop) (status : ℕ) (out2 : SinkState) → ArePut all out0 out1 log0 log1 (Err why) → out0.faults ≤ out1.faults → HasEnded why out1 out2 status → RunsOn show bytes s held out0 out2 log0 log1 status
      stopped stop.Sink status out2 put later ended = subst (λ (o : SinkState). RunsOn show bytes s held out0 o log0 log1 status) (sym ended.1) (cut_short status put ended.0)
      stopped (stop.Damaged fault) status out2 put later ended =
          let p = parts (Err (stop.Damaged fault)) put in
          let first = first_is p.1 put.left (prepared.Damaged fault) put.follows.0.0 p.4 put.follows.0.1 in
          no_damage first.0 first.3.0 fault first.3.1 first.3.2

  -- ---- why it ended, on any image

  damage_in : (c : Command) (a : Option Query) (fault : PageFault) → IsAnswered s live image c a (outcome.Damaged fault) → (asked : Query) × HasDamage s live (reading s.dimension live.pages image) asked fault
  damage_in c None fault told = absurd told
  damage_in c (Some asked) fault told = (asked, told)

  damage_by : (c : Command) (o : Outcome) (fault : PageFault) → IsOutcomeOf s live image c o → IsPrepared show o (prepared.Damaged fault) → (asked : Query) × HasDamage s live (reading s.dimension live.pages image) asked fault
  damage_by c (outcome.Done r log) fault is ready = absurd ready
  damage_by c (outcome.Damaged named) fault is ready = damage_in c (answered_query s c) fault (subst (λ (f : PageFault). IsAnswered s live image c (answered_query s c) (outcome.Damaged f)) (sym ready) is.told)

  damage_of : (cs : List Command) (ps put left others : List Prepared) (fault : PageFault) → AllZip (IsPreparedFor s live image show) cs ps → ps ≡ put ++ left → left ≡ prepared.Damaged fault ∷ others →
      (asked : Query) × HasDamage s live (reading s.dimension live.pages image) asked fault
  damage_of cs ps put left others fault zipped whole is =
      let p = zipped_split (IsPreparedFor s live image show) cs put (prepared.Damaged fault ∷ others)
      (subst (λ (l : List Prepared). AllZip (IsPreparedFor s live image show) cs (put ++ l)) is (subst (λ (l : List Prepared). AllZip (IsPreparedFor s live image show) cs l) whole zipped)) in
      at p.1 p.4
    where
      at : (ds : List Command) → AllZip (IsPreparedFor s live image show) ds (prepared.Damaged fault ∷ others) → (asked : Query) × HasDamage s live (reading s.dimension live.pages image) asked fault
      at [] zip = absurd zip
      at (c ∷ ds) zip = damage_by c zip.0.0 fault zip.0.1 zip.0.2

  pub finished : (commands : List Command) (all : List Prepared) (out0 out1 out2 log0 log1 : SinkState) (why : BatchStop) (status : ℕ) → AllZip (IsPreparedFor s live image show) commands all →
      ArePut all out0 out1 log0 log1 (Err why) → out0.faults ≤ out1.faults → out1.faults ≤ out2.faults → HasEnded why out1 out2 status →
      (why ≡ stop.Sink → Rose out0.faults out1.faults ⊎ Rose log0.faults log1.faults) → HasFinished s live image out0 out2 log0 log1 status
  finished commands all out0 out1 out2 log0 log1 stop.Sink status zipped put grown later ended rose = record {
    output = λ e. subst (λ (o : SinkState). Rose out0.faults o.faults ⊎ Rose log0.faults log1.faults) (sym ended.1) (rose refl);
    damaged = λ e. absurd (omega (arith, ended.0));
    memory = λ e. absurd (omega (arith, ended.0));
    statuses = inr (inl ended.0);
  }
  finished commands all out0 out1 out2 log0 log1 (stop.Damaged fault) status zipped put grown later ended rose =
      let damage = damage_of commands all put.put put.left put.follows.0.0 fault zipped put.whole put.follows.0.1 in
      elim (ended damage.1.damage) [
        | inl nine ↦ record {
          output = λ e. absurd (omega (arith, nine.0));
          damaged = λ e. (fault, record { mid = out1; bytes = all_said put.put ++ put.rest; grew = put.written; later = grown; told = nine.1 }, damage);
          memory = λ e. absurd (omega (arith, nine.0));
          statuses = inr (inr (inr nine.0));
        }
        | inr eight ↦ record {
          output = λ e. absurd (omega (arith, eight.0));
          damaged = λ e. absurd (omega (arith, eight.0));
          memory = λ e. record { mid = out1; bytes = all_said put.put ++ put.rest; grew = put.written; later = grown; told = eight.1 };
          statuses = inr (inr (inl eight.0));
        }
      ]

-- memory ran out before the first put
pub out_of_memory : (s : Space) (live : Live) (image : List ℕ) (out0 out1 log : SinkState) (status : ℕ) → status ≡ 8 → Tells out0 out1 (codes "fault memory\n") → HasFinished s live image out0 out1 log log status
out_of_memory s live image out0 out1 log status is told = record {
  output = λ e. absurd (omega arith);
  damaged = λ e. absurd (omega arith);
  memory = λ e. line_alone out0 out1 (codes "fault memory\n") told;
  statuses = inr (inr (inl is));
}
