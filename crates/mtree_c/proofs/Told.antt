-- What a job says of a disk, a source and a sink is said of their bytes.
use Rattle.std.proofs.Common.{◌≡◌, ◌≢◌, ◌⊎◌, inl, inr, ⊎_elim, ℕ, ◌^◌, ◌<◌, List, [], ◌∷◌, ◌++◌, length, length-append, append_assoc, Option, Some, None, sym, subst, ◌∙◌, ap, arith}
use Rattle.std.specs.Prelude.{codes, IsTrue, ◌≤◌}
use Rattle.std.proofs.lemmas.Bool.{cases_lt}
use Rattle.std.proofs.lemmas.List.{append-nil}
use Rattle.std.specs.List.{concat, flat_map}
use Rattle.std.specs.Io.KnownBytes.{Appends, Consumes, IsAtEnd}
use Rattle.outside_io.specs.Causes.{Rose}
use Rattle.outside_io.specs.Sinks.{SinkState, Tells}
use Rattle.disk_model.specs.Disk.{DiskState, IsUnchanged}
use Rattle.slice_disk.specs.Held.{held}
use Rattle.job_files.specs.Jobs.{Audits, IsAuditStatus, IsAudited, IsNoIndex, IsSoundWith}
use Rattle.job_files.specs.Lines.{damaged_text, not_index_text, rejected_text, shape_text, sound_text}
use Rattle.job_files.specs.Shapes.{IsDamaged, IsShapeOf, IsShapeStatus, IsSound, Shapes}
use Rattle.page_store.specs.Files.{IsLarge}
use Rattle.job_seal.specs.Seals.{IsSealed, IsSealStatus, Seals, sealed_text}
use Rattle.job_files.specs.Logs.JobReports.{JobReport}
use Rattle.job_files.specs.Logs.Jobs.{IsLogStatus, JudgesBytes, ReadsLogs, Writes}
use Rattle.caller_ends.specs.Rooms.{StandAtFront}
use Rattle.mtree_c.specs.Rooms.{HandsText}
use Rattle.prune_log.specs.Spelling.{frame_bytes}
use Rattle.job_seal.specs.Proofs.{IsProofStatus, ProvesLogs, Shown}
use Rattle.job_seal.specs.Carries.{CarriesLogs, CarriesOn, IsCarriedLogsStatus, IsDone, IsRefusal}
use Rattle.mtree_c.specs.declared.carrying.CarriedSizes.{CarriedSizes}
use Rattle.mtree_c.specs.Carrying.{HandsCarried, IsCarriedText, carried_sizes}
use Rattle.job_stats.specs.Jobs.{AreStatsOf, Stats, stats_text}
use Rattle.job_dump.specs.Jobs.{Dumps, HoldsRows, IsDamaged as IsDumpDamaged, IsDumpStatus, fault_text}
use Rattle.job_dump.specs.Scripts.{script_text}
use Rattle.mtree_c.specs.Texts.{IsAuditText, IsDumpText, IsProofText, IsSealText, IsShapeText, IsStatsText, IsTextOnLogs, IsUnopenedText}

pub unmoved : Rose 0 0 → ⊥
unmoved rose = omega (arith, rose)

-- bytes to which no write was tried did not fail
pub unwritten : (file0 file1 : List ℕ) (n0 n1 r0 r1 : ℕ) → n0 ≡ 0 → IsUnchanged (held file0 n0 r0) (held file1 n1 r1) → Rose n0 n1 → ⊥
unwritten file0 file1 n0 n1 r0 r1 fresh unchanged rose =
    let left = (unchanged.same_images (file1 ++ 0 ∷ [])).1 (λ some. absurd (omega (arith, some, fresh))) in
    let longer : length (file1 ++ 0 ∷ []) ≡ length file1 = ap length (left (omega (arith, rose))) in
    omega (arith, longer, length-append file1 (0 ∷ []))

-- a sink that held nothing and never failed holds what was put
appended : (a b : Option (List ℕ)) (text bytes : List ℕ) → a ≡ Some [] → b ≡ Some text → Appends a b bytes → text ≡ bytes
appended a b text bytes empty holds put = subst (λ (y : Option (List ℕ)). Appends (Some []) y bytes) holds (subst (λ (x : Option (List ℕ)). Appends x b bytes) empty put)

told : (o0 o1 : SinkState) (text line : List ℕ) → o0.written ≡ Some [] → o1.written ≡ Some text → o0.faults ≡ 0 → o1.faults ≡ 0 → Tells o0 o1 line → text ≡ line
told o0 o1 text line empty holds none never (inl put) = appended o0.written o1.written text line empty holds put
told o0 o1 text line empty holds none never (inr part) = absurd (unmoved (subst (λ (x : ℕ). Rose x 0) none (subst (λ (x : ℕ). Rose o0.faults x) never part.1)))

-- a text is handed over, where the memory for it sufficed
pub hands_text : (IsText : List ℕ → ℕ → Type 0) (before after written : List ℕ) (faults size status of : ℕ)
    → (status ≢ 4 → status ≢ 8 → (status ≡ of) × (faults ≡ 0) × StandAtFront written before after × (size ≡ length written))
    → (status ≡ 4 → (of ≢ 4) × (of ≢ 8) × (faults ≡ 0) × (after ≡ before) × (size ≡ length written) × (length before < size))
    → (status ≡ 8 → (after ≡ before) × (size ≡ 0)) → (faults ≡ 0 → of ≢ 4 → of ≢ 8 → IsText written of) → HandsText IsText before after size status
hands_text IsText before after written faults size status of done short memory says = record {
  done = λ a b. let d = done a b in (written, subst (IsText written) (sym d.0) (says d.1 (λ e. a (d.0 ∙ e)) (λ e. b (d.0 ∙ e))), d.2, d.3);
  short = λ e. let s = short e in (written, of, says s.2 s.0 s.1, s.3, s.4, s.5);
  memory = memory;
}

-- what was taken to the end is all that there was
taken_all : (a b : Option (List ℕ)) (logs left bytes : List ℕ) → a ≡ Some logs → b ≡ Some left → Consumes a b bytes → IsAtEnd b → bytes ≡ logs
taken_all a b logs left bytes had has taken end =
    let took : logs ≡ bytes ++ left = subst (λ (y : Option (List ℕ)). Consumes (Some logs) y bytes) has (subst (λ (x : Option (List ℕ)). Consumes x b bytes) had taken) in
    let empty : left ≡ [] = subst IsAtEnd has end in
    sym (append-nil bytes) ∙ ap (λ (x : List ℕ). bytes ++ x) (sym empty) ∙ sym took

taken_front : (a b : Option (List ℕ)) (logs left bytes : List ℕ) → a ≡ Some logs → b ≡ Some left → Consumes a b bytes → length bytes ≤ length logs
taken_front a b logs left bytes had has taken =
    let took : logs ≡ bytes ++ left = subst (λ (y : Option (List ℕ)). Consumes (Some logs) y bytes) has (subst (λ (x : Option (List ℕ)). Consumes x b bytes) had taken) in
    omega (arith, ap length took, length-append bytes left)

module _ (d0 d1 : DiskState) (o0 o1 : SinkState) (file text : List ℕ) (is_known : IsTrue d0.is_known) (bytes_are : d0.bytes ≡ file)
    (empty : o0.written ≡ Some []) (holds : o1.written ≡ Some text) (none : o0.faults ≡ 0) (never : o1.faults ≡ 0) where
  unopened : (name : List ℕ) → Tells o0 o1 (not_index_text name) → (IsTrue d0.is_known → IsNoIndex d0.bytes name) → IsUnopenedText file text
  unopened name line why = (name, subst (λ (x : List ℕ). IsNoIndex x name) bytes_are (why is_known), told o0 o1 text (not_index_text name) empty holds none never line)

  audit_ends : (status : ℕ) → IsAuditStatus status → status ≢ 4 → status ≢ 5 → status ≢ 8 → (status ≡ 0) ⊎ ((status ≡ 1) ⊎ (status ≡ 6))
  audit_ends status (inl is) a n b = inl is
  audit_ends status (inr (inl is)) a n b = inr (inl is)
  audit_ends status (inr (inr (inl is))) a n b = absurd (a is)
  audit_ends status (inr (inr (inr (inl is)))) a n b = absurd (n is)
  audit_ends status (inr (inr (inr (inr (inl is))))) a n b = inr (inr is)
  audit_ends status (inr (inr (inr (inr (inr is))))) a n b = absurd (b is)

  pub audit_text : (status : ℕ) → Audits d0 d1 o0 o1 status → IsAuditStatus status → status ≢ 4 → status ≢ 5 → status ≢ 8 → IsAuditText file text status
  audit_text status audits statuses not_short not_disk not_memory = record {
    sound = λ is. let s = audits.sound is in (s.0, s.1, subst (λ (x : List ℕ). IsSoundWith x s.0 s.1) bytes_are (s.3 is_known), appended o0.written o1.written text (sound_text s.0 s.1) empty holds s.2);
    rejected = λ is. let r = audits.rejected is in (r.0, subst (λ (x : List ℕ). IsAudited x (Some r.0)) bytes_are (r.2 is_known), appended o0.written o1.written text (rejected_text r.0) empty holds r.1);
    no_index = λ is. let n = audits.not_index is in unopened n.0 n.1 n.2;
    statuses = audit_ends status statuses not_short not_disk not_memory;
  }

  -- ---- shapes

  shape_ends : (status : ℕ) → IsShapeStatus status → status ≢ 4 → status ≢ 5 → status ≢ 8 → (status ≡ 0) ⊎ ((status ≡ 6) ⊎ (status ≡ 9))
  shape_ends status (inl is) a n b = inl is
  shape_ends status (inr (inl is)) a n b = absurd (a is)
  shape_ends status (inr (inr (inl is))) a n b = absurd (n is)
  shape_ends status (inr (inr (inr (inl is)))) a n b = inr (inl is)
  shape_ends status (inr (inr (inr (inr (inl is))))) a n b = absurd (b is)
  shape_ends status (inr (inr (inr (inr (inr is))))) a n b = inr (inr is)

  shaped_sound : (status : ℕ) → (status ≡ 0) ⊎ ((status ≡ 6) ⊎ (status ≡ 9)) → (status ≢ 6) × (status ≢ 9) → status ≡ 0
  shaped_sound status (inl is) other = is
  shaped_sound status (inr (inl is)) other = absurd (other.0 is)
  shaped_sound status (inr (inr is)) other = absurd (other.1 is)

  pub drawn_text : (status : ℕ) → Shapes d0 d1 o0 o1 status → IsShapeStatus status → status ≢ 4 → status ≢ 5 → status ≢ 8 → IsShapeText file text status
  drawn_text status shapes statuses not_short not_disk not_memory =
      let ends = shape_ends status statuses not_short not_disk not_memory in
      record {
        drawn = λ is.
            let d = shapes.done is in
            (d.0, d.1, d.2, subst (λ (x : List ℕ). IsShapeOf x d.0 d.1 d.2) bytes_are (d.4 is_known), appended o0.written o1.written text (shape_text d.0 d.1 d.2) empty holds d.3);
        no_index = λ is. let n = shapes.not_index is in unopened n.0 n.1 n.2;
        damaged = λ is.
            let d = shapes.damaged is in
            (d.0, subst (λ (x : List ℕ). IsDamaged x d.0) bytes_are (d.2 is_known), told o0 o1 text (damaged_text d.0) empty holds none never d.1);
        sound = λ head live is. shaped_sound status ends (shapes.sound is_known head live (subst (λ (x : List ℕ). IsSound head live x) (sym bytes_are) is));
        statuses = ends;
      }

  -- ---- stats

  pub told_text : (status : ℕ) → Stats d0 d1 o0 o1 status → IsShapeStatus status → status ≢ 4 → status ≢ 5 → status ≢ 8 → IsStatsText file text status
  told_text status stats statuses not_short not_disk not_memory =
      let ends = shape_ends status statuses not_short not_disk not_memory in
      record {
        told = λ is.
            let s = stats.done is in (
              s.head,
              s.live,
              s.nodes,
              s.levels,
              subst (λ (x : List ℕ). AreStatsOf x s.head s.live s.nodes s.levels) bytes_are (s.are is_known),
              appended o0.written o1.written text (stats_text s.head s.live s.nodes s.levels) empty holds s.put,
            );
        no_index = λ is. let n = stats.not_index is in unopened n.0 n.1 n.2;
        damaged = λ is.
            let d = stats.damaged is in
            (d.0, subst (λ (x : List ℕ). IsDamaged x d.0) bytes_are (d.2 is_known), told o0 o1 text (damaged_text d.0) empty holds none never d.1);
        sound = λ head live is. shaped_sound status ends (stats.sound is_known head live (subst (λ (x : List ℕ). IsSound head live x) (sym bytes_are) is));
        statuses = ends;
      }

  -- ---- dumps

  pub dumped_text : (status : ℕ) → Dumps d0 d1 o0 o1 status → IsDumpStatus status → status ≢ 4 → status ≢ 5 → status ≢ 8 → IsDumpText file text status
  dumped_text status dumps statuses not_short not_disk not_memory =
      let ends = shape_ends status statuses not_short not_disk not_memory in
      record {
        dumped = λ is.
            let d = dumps.done is in
            (d.0, subst (λ (x : List ℕ). HoldsRows x d.0) bytes_are (d.2 is_known), appended o0.written o1.written text (script_text d.0) empty holds d.1);
        no_index = λ is. let n = dumps.not_index is in unopened n.0 n.1 n.2;
        damaged = λ is.
            let d = dumps.damaged is in
            (d.0, subst (λ (x : List ℕ). IsDumpDamaged x d.0) bytes_are (d.2 is_known).1, told o0 o1 text (fault_text d.0) empty holds none never (d.2 is_known).0);
        sound = λ head live is. shaped_sound status ends (dumps.sound is_known head live (subst (λ (x : List ℕ). IsSound head live x) (sym bytes_are) is));
        statuses = ends;
      }

  -- ---- seals

  seal_ends : (status : ℕ) → IsSealStatus status → status ≢ 4 → status ≢ 5 → status ≢ 8 → (status ≡ 0) ⊎ ((status ≡ 1) ⊎ ((status ≡ 6) ⊎ (status ≡ 7)))
  seal_ends status (inl is) a n b = inl is
  seal_ends status (inr (inl is)) a n b = inr (inl is)
  seal_ends status (inr (inr (inl is))) a n b = absurd (a is)
  seal_ends status (inr (inr (inr (inl is)))) a n b = absurd (n is)
  seal_ends status (inr (inr (inr (inr (inl is))))) a n b = inr (inr (inl is))
  seal_ends status (inr (inr (inr (inr (inr (inl is)))))) a n b = inr (inr (inr is))
  seal_ends status (inr (inr (inr (inr (inr (inr is)))))) a n b = absurd (b is)

  pub seal_text : (status : ℕ) → Seals d0 d1 o0 o1 status → IsSealStatus status → status ≢ 4 → status ≢ 5 → status ≢ 8 → IsSealText file text status
  seal_text status seals statuses not_short not_disk not_memory = record {
    sealed = λ is. let s = seals.sealed is in (s.0, subst (λ (x : List ℕ). IsSealed x s.0) bytes_are (s.2 is_known), appended o0.written o1.written text (sealed_text s.0) empty holds s.1);
    rejected = λ is. let r = seals.rejected is in (r.0, subst (λ (x : List ℕ). IsAudited x (Some r.0)) bytes_are (r.2 is_known), appended o0.written o1.written text (rejected_text r.0) empty holds r.1);
    no_index = λ is. let n = seals.not_index is in unopened n.0 n.1 n.2;
    long = λ is. let l = seals.long is in (subst IsLarge bytes_are (l.1 is_known), told o0 o1 text (codes "fault long\n") empty holds none never l.0);
    large = λ is large. seals.large (⊎_elim (λ a. inl a) (λ b. inr (inl b)) is) is_known (subst IsLarge (sym bytes_are) large);
    statuses = seal_ends status statuses not_short not_disk not_memory;
  }

  -- ---- logs

  -- what a job does that says of files and logs what `IsSaid` tells
  abbrev pub SaysOn : (List ℕ → Type 0) → (List ℕ → List ℕ → JobReport → Type 0) → Option (List ℕ) → Option (List ℕ) → ℕ → Type 0
  SaysOn Same IsSaid l0 l1 status =
      ReadsLogs (IsUnchanged d0 d1) (λ bytes. JudgesBytes (Same bytes) (IsTrue d0.is_known → (said : JobReport) × IsSaid d0.bytes bytes said × Writes status said o0 o1)
      (Rose d0.faults d1.faults) (λ name. IsTrue d0.is_known → IsNoIndex d0.bytes name) o0 o1 status) l0 l1 o0 o1 status

  module _ (Same : List ℕ → Type 0) (IsSaid : List ℕ → List ℕ → JobReport → Type 0) (l0 l1 : Option (List ℕ)) (logs left : List ℕ) (had : l0 ≡ Some logs) (has : l1 ≡ Some left) (status : ℕ)
      (judged : SaysOn Same IsSaid l0 l1 status)
      (not_input : status ≢ 3) (not_short : status ≢ 4) (not_disk : status ≢ 5) (not_memory : status ≢ 8) where
    all_taken : status ≢ 7 → judged.bytes ≡ logs
    all_taken other = taken_all l0 l1 logs left judged.bytes had has judged.taken (judged.all not_input other not_memory)

    said : (status ≡ 0) ⊎ (status ≡ 1) → status ≢ 7 →
        (s : JobReport) × IsSaid file logs s × (text ≡ concat s.texts) × (status ≡ s.status)
    said is other =
        let w = (judged.judges not_input other).done is is_known in
        let e = w.2.ends.done is in
        let whole : w.0.texts ≡ w.2.put = w.2.whole ∙ ap (λ (x : List (List ℕ)). w.2.put ++ x) e.1 ∙ append-nil w.2.put in
        let put : text ≡ concat w.2.put = appended o0.written o1.written text (concat w.2.put) empty holds (subst (λ (m : Option (List ℕ)). Appends o0.written m (concat w.2.put)) (sym e.2) w.2.written) in
        (w.0, subst (λ (x : List ℕ). IsSaid x logs w.0) bytes_are (subst (λ (x : List ℕ). IsSaid d0.bytes x w.0) (all_taken other) w.1), put ∙ ap concat (sym whole), e.0)

    log_ends : IsLogStatus status → (status ≡ 0) ⊎ ((status ≡ 1) ⊎ ((status ≡ 6) ⊎ (status ≡ 7)))
    log_ends (inl is) = absurd (not_input is)
    log_ends (inr (inl is)) = inr (inr (inr is))
    log_ends (inr (inr (inl is))) = inl is
    log_ends (inr (inr (inr (inl is)))) = inr (inl is)
    log_ends (inr (inr (inr (inr (inl is))))) = absurd (not_short is)
    log_ends (inr (inr (inr (inr (inr (inl is)))))) = absurd (not_disk is)
    log_ends (inr (inr (inr (inr (inr (inr (inl is))))))) = inr (inr (inl is))
    log_ends (inr (inr (inr (inr (inr (inr (inr is))))))) = absurd (not_memory is)

    pub log_text : IsLogStatus status → IsTextOnLogs (IsSaid file logs) file logs text status
    log_text statuses = record {
      judged = λ is. said is (⊎_elim (λ z. λ s. absurd (omega (arith, z, s))) (λ one. λ s. absurd (omega (arith, one, s))) is);
      no_index = λ is. let n = (judged.judges not_input (λ s. omega (arith, is, s))).not_index is in unopened n.0 n.1 n.2;
      long = λ is. (omega (arith, judged.long.0 is, taken_front l0 l1 logs left judged.bytes had has judged.taken), told o0 o1 text (codes "fault long\n") empty holds none never (judged.long_line is));
      statuses = log_ends statuses;
    }

-- ---- carried logs

-- what was taken stands at the front
taken_then : (a b : Option (List ℕ)) (logs left bytes : List ℕ) → a ≡ Some logs → b ≡ Some left → Consumes a b bytes → logs ≡ bytes ++ left
taken_then a b logs left bytes had has taken = subst (λ (y : Option (List ℕ)). Consumes (Some logs) y bytes) has (subst (λ (x : Option (List ℕ)). Consumes x b bytes) had taken)

-- a sink that never failed took the whole line
whole_line : (o0 o1 : SinkState) (middle : Option (List ℕ)) (line : List ℕ) → o0.faults ≡ 0 → o1.faults ≡ 0 → Tells (record o0 { written = middle }) o1 line
    → Appends middle o1.written line
whole_line o0 o1 middle line none never (inl put) = put
whole_line o0 o1 middle line none never (inr part) = absurd (unmoved (subst (λ (x : ℕ). Rose x 0) none (subst (λ (x : ℕ). Rose o0.faults x) never part.1)))

appended_twice : (a m b : Option (List ℕ)) (text first second : List ℕ) → a ≡ Some [] → b ≡ Some text → Appends a m first → Appends m b second → text ≡ first ++ second
appended_twice a m b text first second empty holds one two =
    go m (subst (λ (x : Option (List ℕ)). Appends x m first) empty one) (subst (λ (x : Option (List ℕ)). Appends m x second) holds two)
  where
    go : (m : Option (List ℕ)) → Appends (Some []) m first → Appends m (Some text) second → text ≡ first ++ second
    go None put more = absurd put
    go (Some y) put more = more ∙ ap (λ (x : List ℕ). x ++ second) put

pub proof_text : (root logs left text : List ℕ) (l0 l1 : Option (List ℕ)) (o0 o1 : SinkState) (status : ℕ) → l0 ≡ Some logs → l1 ≡ Some left → o0.written ≡ Some [] → o1.written ≡ Some text
    → o0.faults ≡ 0 → o1.faults ≡ 0 → ProvesLogs root l0 l1 o0 o1 status → IsProofStatus status → status ≢ 3 → status ≢ 4 → status ≢ 8 → IsProofText root logs text status
proof_text root logs left text l0 l1 o0 o1 status had has empty holds none never proves statuses not_input not_short not_memory = record {
  shown = λ is.
      let d = proves.done is in
      let b = proves.before in (
        b.shown,
        b.rest,
        d.1.0,
        sym (taken_all l0 l1 logs left proves.bytes had has proves.taken d.0) ∙ b.framed,
        b.told,
        d.1.1,
        appended_twice o0.written proves.middle o1.written text (flat_map (λ (f : Shown). f.text) b.shown) d.1.0 empty holds b.written d.1.2,
      );
  long = λ is.
      let b = proves.before in (
        omega (arith, proves.long.0 is, taken_front l0 l1 logs left proves.bytes had has proves.taken),
        (
          b.shown,
          b.rest ++ left,
          taken_then l0 l1 logs left proves.bytes had has proves.taken ∙ ap (λ (x : List ℕ). x ++ left) b.framed
              ∙ append_assoc (flat_map (λ (f : Shown). frame_bytes f.body) b.shown) b.rest left,
          b.told,
          appended_twice o0.written proves.middle o1.written text (flat_map (λ (f : Shown). f.text) b.shown) (codes "fault long\n") empty holds b.written
              (whole_line o0 o1 proves.middle (codes "fault long\n") none never (proves.long_line is).1),
        ),
      );
  statuses = ends statuses;
}
  where
    ends : IsProofStatus status → (status ≡ 0) ⊎ ((status ≡ 1) ⊎ (status ≡ 7))
    ends (inl is) = inl is
    ends (inr (inl is)) = inr (inl is)
    ends (inr (inr (inl is))) = absurd (not_input is)
    ends (inr (inr (inr (inl is)))) = absurd (not_short is)
    ends (inr (inr (inr (inr (inl is))))) = inr (inr is)
    ends (inr (inr (inr (inr (inr is))))) = absurd (not_memory is)

-- ---- logs that are carried

-- the frames and the lines are handed over, where the memory for them sufficed
pub hands_carried : (Is : List ℕ → List ℕ → ℕ → Type 0) (carried0 carried1 text0 text1 frames text : List ℕ) (f0 f1 : ℕ) (sizes : CarriedSizes) (status of : ℕ)
    → (status ≢ 4 → status ≢ 8 → (status ≡ of) × (f0 ≡ 0) × (f1 ≡ 0) × StandAtFront frames carried0 carried1 × StandAtFront text text0 text1 × (sizes ≡ carried_sizes frames text))
    → (status ≡ 4 → (of ≢ 4) × (of ≢ 8) × (f0 ≡ 0) × (f1 ≡ 0) × (sizes ≡ carried_sizes frames text) × ((length carried0 < length frames) ⊎ (length text0 < length text)))
    → (status ≡ 8 → (sizes.carried ≡ 0) × (sizes.text ≡ 0)) → ((status ≡ 4) ⊎ (status ≡ 8) → (carried1 ≡ carried0) × (text1 ≡ text0))
    → (f0 ≡ 0 → f1 ≡ 0 → of ≢ 4 → of ≢ 8 → Is frames text of) → HandsCarried Is carried0 carried1 text0 text1 sizes status
hands_carried Is carried0 carried1 text0 text1 frames text f0 f1 sizes status of done short memory same says = record {
  done = λ a b. let d = done a b in (frames, text, subst (Is frames text) (sym d.0) (says d.1 d.2 (λ e. a (d.0 ∙ e)) (λ e. b (d.0 ∙ e))), d.3, d.4, d.5);
  short = λ e. let s = short e in (frames, text, of, says s.2 s.3 s.0 s.1, s.4, s.5);
  memory = memory;
  same = same;
}

module _ (d0 d1 : DiskState) (o0 o1 : SinkState) (file text : List ℕ) (is_known : IsTrue d0.is_known) (bytes_are : d0.bytes ≡ file)
    (empty : o0.written ≡ Some []) (holds : o1.written ≡ Some text) (none : o0.faults ≡ 0) (never : o1.faults ≡ 0)
    (s0 s1 l0 l1 : Option (List ℕ)) (logs left frames : List ℕ) (had : s0 ≡ Some logs) (has : s1 ≡ Some left) (first : l0 ≡ Some []) (last : l1 ≡ Some frames) (status : ℕ)
    (carries : CarriesLogs d0 d1 s0 s1 l0 l1 o0 o1 status) (not_input : status ≢ 3) (not_short : status ≢ 4) (not_disk : status ≢ 5) (not_memory : status ≢ 8) where
  all_read : status ≢ 7 → carries.bytes ≡ logs
  all_read other =
      let few : length carries.bytes ≤ 2 ^ 30 = ⊎_elim (λ more. absurd (other (carries.too_many more))) (λ less. omega (arith, less)) (cases_lt (2 ^ 30) (length carries.bytes)) in
      taken_all s0 s1 logs left carries.bytes had has carries.taken (carries.all not_input not_memory few)

  carried_on : IsDone status → status ≢ 7 → CarriesOn file logs (Some []) (Some frames) (Some []) (Some text) status
  carried_on is other =
      subst (λ (x : List ℕ). CarriesOn x logs (Some []) (Some frames) (Some []) (Some text) status) bytes_are
      (subst (λ (x : List ℕ). CarriesOn d0.bytes x (Some []) (Some frames) (Some []) (Some text) status) (all_read other)
      (subst (λ (x : Option (List ℕ)). CarriesOn d0.bytes carries.bytes x (Some frames) (Some []) (Some text) status) first
      (subst (λ (x : Option (List ℕ)). CarriesOn d0.bytes carries.bytes l0 x (Some []) (Some text) status) last
      (subst (λ (x : Option (List ℕ)). CarriesOn d0.bytes carries.bytes l0 l1 x (Some text) status) empty
      (subst (λ (x : Option (List ℕ)). CarriesOn d0.bytes carries.bytes l0 l1 o0.written x status) holds (carries.done is is_known))))))

  no_frames : IsRefusal status → frames ≡ []
  no_frames is = let same : l1 ≡ l0 = carries.no_frame is in cc (same, first, last)

  carry_ends : IsCarriedLogsStatus status → (status ≡ 0) ⊎ ((status ≡ 1) ⊎ ((status ≡ 6) ⊎ (status ≡ 7)))
  carry_ends (inl is) = absurd (not_input is)
  carry_ends (inr (inl is)) = inl is
  carry_ends (inr (inr (inl is))) = inr (inl is)
  carry_ends (inr (inr (inr (inl is)))) = absurd (not_short is)
  carry_ends (inr (inr (inr (inr (inl is))))) = absurd (not_disk is)
  carry_ends (inr (inr (inr (inr (inr (inl is)))))) = inr (inr (inl is))
  carry_ends (inr (inr (inr (inr (inr (inr (inl is))))))) = inr (inr (inr is))
  carry_ends (inr (inr (inr (inr (inr (inr (inr is))))))) = absurd (not_memory is)

  pub carried_text : IsCarriedLogsStatus status → IsCarriedText file logs frames text status
  carried_text statuses = record {
    carried = λ is. carried_on is (⊎_elim (λ z. λ s. absurd (omega (arith, z, s))) (λ one. λ s. absurd (omega (arith, one, s))) is);
    no_index = λ is.
        let n = carries.not_index is in
        ((n.0, subst (λ (x : List ℕ). IsNoIndex x n.0) bytes_are (n.2 is_known), told o0 o1 text (not_index_text n.0) empty holds none never n.1), no_frames (inr (inl is)));
    long = λ is.
        let l = carries.long is in (
          told o0 o1 text (codes "fault long\n") empty holds none never l.0,
          no_frames (inr (inr is)),
          ⊎_elim (λ big. inl (omega (arith, big, taken_front s0 s1 logs left carries.bytes had has carries.taken))) (λ large. inr (subst IsLarge bytes_are (large is_known))) l.1,
        );
    statuses = carry_ends statuses;
  }
