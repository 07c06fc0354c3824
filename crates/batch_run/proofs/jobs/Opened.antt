-- A batch that opens its index.
use Rattle.std.proofs.Common.{◌≡◌, ◌≢◌, ◌⊎◌, ℕ, ◌≤◌, Bool, List, [], inl, inr, sym, ap, subst, ◌∙◌, arith}
use Rattle.std.specs.Prelude.{codes, IsTrue}
use Rattle.outside_io.specs.Causes.{Rose}
use Rattle.outside_io.specs.Sinks.{SinkState, Tells}
use Rattle.disk_model.specs.Disk.{DiskState, IsUnchanged}
use Rattle.disk_model.specs.Moments.{then_unchanged}
use Rattle.rows_text.specs.Script.{script}
use Rattle.tree_shape.specs.declared.live.Live.{Live}
use Rattle.tree_shape.specs.Tree.{IsSoundTree}
use Rattle.node_page.specs.declared.head.Head.{Head}
use Rattle.node_page.specs.Laws.{FaultIsNotOpen, OneLiveSlot}
use Rattle.node_page.specs.Opening.{OpensTo}
use Rattle.page_store.specs.Files.{IsSoundFile, nodes_in}
use Rattle.page_store.specs.Reading.{Read, nodes_of, reading}
use Rattle.job_files.specs.Jobs.{Refuses}
use Rattle.job_files.proofs.Published.{no_index_unsound}
use Rattle.batch_run.specs.declared.images.ImageFault.{ImageFault}
use Rattle.batch_run.specs.declared.images.ImageFault.TheVariants as fault
use Rattle.batch_run.specs.Images.{HasImageCause, ImagesHoldTheFile, IsImageOf}
use Rattle.answer_texts.specs.Asked.{Held, held_in}
use Rattle.answer_texts.proofs.Published.{disk_ends, disk_told, input_ends, line_alone, long_ends, long_told, memory_ends, memory_told, none_told}
use Rattle.image_answers.specs.Outcomes.{HasDamage}
use Rattle.job_files.specs.Spaces.{space_of}
use Rattle.batch_run.specs.Jobs.Batches.{HasFinished, HasOpened, RunsOn, RunsScript}
use Rattle.batch_run.proofs.jobs.Running.{unread}
use Rattle.outside_io.proofs.Published.{rose_before}

-- another status
pub not_these : (n k : ℕ) → n ≡ k → k ≢ 0 → k ≢ 4 → k ≢ 9 → (n ≡ 0) ⊎ ((n ≡ 4) ⊎ (n ≡ 9)) → ⊥
not_these n k is a b c (inl e) = a (sym is ∙ e)
not_these n k is a b c (inr (inl e)) = b (sym is ∙ e)
not_these n k is a b c (inr (inr e)) = c (sym is ∙ e)

pub unfinished : (n k : ℕ) → n ≡ k → k ≢ 0 → k ≢ 9 → (n ≡ 0) ⊎ (n ≡ 9) → ⊥
unfinished n k is a b (inl e) = a (sym is ∙ e)
unfinished n k is a b (inr e) = b (sym is ∙ e)

-- a line is all that was put
module _ (show : Bool) (bytes : List ℕ) (disk0 : DiskState) (out0 out1 log : SinkState) (status : ℕ) where
  abbrev Failed : Type 0
  Failed = Rose out0.faults out1.faults

  pub input_line : status ≡ 3 → Tells out0 out1 (codes "fault input\n") → RunsScript show bytes disk0 out0 out1 log log status
  input_line is told is_known head live sound = unread (space_of head) live disk0.bytes show bytes out0 log out1 (codes "fault input\n") status told
      (λ rest line. input_ends Failed _ (script head.dim bytes) rest status is line)

  pub disk_line : status ≡ 5 → Tells out0 out1 (codes "fault disk\n") → RunsScript show bytes disk0 out0 out1 log log status
  disk_line is told is_known head live sound = unread (space_of head) live disk0.bytes show bytes out0 log out1 (codes "fault disk\n") status told
      (λ rest line. disk_ends Failed _ (script head.dim bytes) rest [] status is line)

  pub long_line : status ≡ 7 → Tells out0 out1 (codes "fault long\n") → RunsScript show bytes disk0 out0 out1 log log status
  long_line is told is_known head live sound = unread (space_of head) live disk0.bytes show bytes out0 log out1 (codes "fault long\n") status told
      (λ rest line. long_ends Failed _ (script head.dim bytes) rest status is line)

  pub memory_line : status ≡ 8 → Tells out0 out1 (codes "fault memory\n") → RunsScript show bytes disk0 out0 out1 log log status
  memory_line is told is_known head live sound = unread (space_of head) live disk0.bytes show bytes out0 log out1 (codes "fault memory\n") status told
      (λ rest line. memory_ends Failed _ (script head.dim bytes) rest [] status is line)

-- the index was not opened
pub refused : FaultIsNotOpen → OneLiveSlot → (show : Bool) (bytes : List ℕ) (disk0 disk1 : DiskState) (out0 out1 log : SinkState) (status : ℕ) → IsUnchanged disk0 disk1 → Refuses disk0 disk1 out0 out1 status →
    HasOpened show bytes disk0 disk1 out0 out1 log log status
refused faults one show bytes disk0 disk1 out0 out1 log status same refuses = elim refuses.statuses [
  | inl five ↦ record {
    runs = disk_line show bytes disk0 out0 out1 log status five (refuses.disk five).1;
    unchanged = same;
    output = λ e. absurd (omega arith);
    disk = λ e. (refuses.disk five).0;
    not_index = refuses.not_index;
    long = λ e. absurd (omega arith);
    damaged = λ e. absurd (omega arith);
    lines = disk_told status out0 out1 five (line_alone out0 out1 (codes "fault disk\n") (refuses.disk five).1);
    index = λ these. absurd (unfinished status 5 five (omega arith) (omega arith) these);
    large = λ is_known is these. not_these status 5 five (omega arith) (omega arith) (omega arith) these;
    statuses = inr (inr (inl five));
  }
  | inr six ↦ record {
    runs = λ is_known head live sound. (let named = refuses.not_index six in absurd (no_index_unsound faults one disk0.bytes named.0 (named.2 is_known) head live sound));
    unchanged = same;
    output = λ e. absurd (omega arith);
    disk = λ e. absurd (omega arith);
    not_index = refuses.not_index;
    long = λ e. absurd (omega arith);
    damaged = λ e. absurd (omega arith);
    lines = none_told status out0 out1 (λ e. omega arith) (λ e. omega arith) (λ e. omega arith) (λ e. omega arith);
    index = λ these. absurd (unfinished status 6 six (omega arith) (omega arith) these);
    large = λ is_known is these. not_these status 6 six (omega arith) (omega arith) (omega arith) these;
    statuses = inr (inr (inr (inl six)));
  }
]

module _ (show : Bool) (bytes : List ℕ) (disk0 disk1 disk2 : DiskState) (head : Head) (live : Live) (same : IsUnchanged disk0 disk1) (later : disk0.faults ≤ disk1.faults)
    (opens : IsTrue disk0.is_known → OpensTo disk0.bytes head live) (version : head.version ≡ 2) (still : IsUnchanged disk1 disk2) where
  -- the index was not read into memory
  pub unread_image : (out0 out1 log : SinkState) (status : ℕ) (why : ImageFault) → HasImageCause live.pages disk1.faults disk2.faults why →
      (status ≡ 7 → (why ≡ fault.TooLong) × Tells out0 out1 (codes "fault long\n")) → (status ≡ 5 → (why ≡ fault.Disk) × Tells out0 out1 (codes "fault disk\n")) →
      (status ≡ 8 → Tells out0 out1 (codes "fault memory\n")) → (status ≡ 5) ⊎ ((status ≡ 7) ⊎ (status ≡ 8)) → HasOpened show bytes disk0 disk2 out0 out1 log log status
  unread_image out0 out1 log status why cause long disk memory (inl five) = record {
    runs = disk_line show bytes disk0 out0 out1 log status five (disk five).1;
    unchanged = then_unchanged disk0 disk1 disk2 same still;
    output = λ e. absurd (omega arith);
    disk = λ e. rose_before _ _ _ later (subst (HasImageCause live.pages disk1.faults disk2.faults) (disk five).0 cause);
    not_index = λ e. absurd (omega arith);
    long = λ e. absurd (omega arith);
    damaged = λ e. absurd (omega arith);
    lines = disk_told status out0 out1 five (line_alone out0 out1 (codes "fault disk\n") (disk five).1);
    index = λ these. absurd (unfinished status 5 five (omega arith) (omega arith) these);
    large = λ is_known is these. not_these status 5 five (omega arith) (omega arith) (omega arith) these;
    statuses = inr (inr (inl five));
  }
  unread_image out0 out1 log status why cause long disk memory (inr (inl seven)) = record {
    runs = long_line show bytes disk0 out0 out1 log status seven (long seven).1;
    unchanged = then_unchanged disk0 disk1 disk2 same still;
    output = λ e. absurd (omega arith);
    disk = λ e. absurd (omega arith);
    not_index = λ e. absurd (omega arith);
    long = λ e is_known. (head, live, opens is_known, subst (HasImageCause live.pages disk1.faults disk2.faults) (long seven).0 cause);
    damaged = λ e. absurd (omega arith);
    lines = long_told status out0 out1 seven (line_alone out0 out1 (codes "fault long\n") (long seven).1);
    index = λ these. absurd (unfinished status 7 seven (omega arith) (omega arith) these);
    large = λ is_known is these. not_these status 7 seven (omega arith) (omega arith) (omega arith) these;
    statuses = inr (inr (inr (inr (inl seven))));
  }
  unread_image out0 out1 log status why cause long disk memory (inr (inr eight)) = record {
    runs = memory_line show bytes disk0 out0 out1 log status eight (memory eight);
    unchanged = then_unchanged disk0 disk1 disk2 same still;
    output = λ e. absurd (omega arith);
    disk = λ e. absurd (omega arith);
    not_index = λ e. absurd (omega arith);
    long = λ e. absurd (omega arith);
    damaged = λ e. absurd (omega arith);
    lines = memory_told status out0 out1 eight (line_alone out0 out1 (codes "fault memory\n") (memory eight));
    index = λ these. absurd (unfinished status 8 eight (omega arith) (omega arith) these);
    large = λ is_known is these. not_these status 8 eight (omega arith) (omega arith) (omega arith) these;
    statuses = inr (inr (inr (inr (inr (inl eight)))));
  }

  -- the index was read into memory
  module _ (one : OneLiveSlot) (holds : ImagesHoldTheFile) (image : List ℕ) (few : live.pages ≤ 262144) (is_image : IsTrue disk1.is_known → IsImageOf live.pages disk1.bytes image)
      (out0 out1 log0 log1 : SinkState) (status : ℕ) where
    read_is : IsTrue disk0.is_known → reading head.dim live.pages image ≡ reading head.dim live.pages disk0.bytes
    read_is is_known = holds head.dim live.pages disk0.bytes image (subst (λ (file : List ℕ). IsImageOf live.pages file image) same.same_bytes (is_image (subst IsTrue (sym same.same_known) is_known)))

    held_is : IsTrue disk0.is_known → held_in head.dim live image ≡ held_in head.dim live disk0.bytes
    held_is is_known = λ i. record { nodes = nodes_of (read_is is_known i); live = live }

    pub ran : (IsSoundTree (space_of head) (nodes_in head.dim live image) live → RunsOn show bytes (space_of head) (held_in head.dim live image) out0 out1 log0 log1 status) →
        HasFinished (space_of head) live image out0 out1 log0 log1 status → HasOpened show bytes disk0 disk2 out0 out1 log0 log1 status
    ran runs finished = record {
      runs = λ is_known other_head other_live sound.
          let slot = one disk0.bytes other_head head other_live live sound.opens (opens is_known) in
          subst (λ (l : Live). RunsOn show bytes (space_of other_head) (held_in other_head.dim l disk0.bytes) out0 out1 log0 log1 status) (sym slot.1)
          (subst (λ (h : Head). RunsOn show bytes (space_of h) (held_in h.dim live disk0.bytes) out0 out1 log0 log1 status) (sym slot.0)
          (subst (λ (held : Held). RunsOn show bytes (space_of head) held out0 out1 log0 log1 status) (held_is is_known)
          (runs (subst (λ (read : Read). IsSoundTree (space_of head) (nodes_of read) live) (sym (read_is is_known)) (sound_here is_known other_head other_live sound slot.0 slot.1)))));
      unchanged = then_unchanged disk0 disk1 disk2 same still;
      output = finished.output;
      disk = λ e. absurd (none_of e);
      not_index = λ e. absurd (none_of_six e);
      long = λ e. absurd (none_of_seven e);
      damaged = λ e. (let d = finished.damaged e in (
        d.0,
        d.1,
        λ is_known. record {
          head = head;
          live = live;
          opens = opens is_known;
          asked = d.2.0;
          damage = subst (λ (read : Read). HasDamage (space_of head) live read d.2.0 d.0) (read_is is_known) d.2.1;
        },
      ));
      lines = record { input = λ e. absurd (none_of_three e); disk = λ e. absurd (none_of e); long = λ e. absurd (none_of_seven e); memory = finished.memory };
      index = λ these is_known. (head, live, opens is_known, version);
      large = λ is_known is these. (let slot = one disk0.bytes is.0 head is.1 live is.2 (opens is_known) in absurd (omega (arith, few, is.3, ap (λ (l : Live). l.pages) slot.1)));
      statuses = among finished.statuses;
    }
      where
        sound_here : IsTrue disk0.is_known → (h : Head) (l : Live) → IsSoundFile (space_of h) h l disk0.bytes → h ≡ head → l ≡ live → IsSoundTree (space_of head) (nodes_in head.dim live disk0.bytes) live
        sound_here is_known h l sound head_is live_is =
            subst (λ (x : Live). IsSoundTree (space_of head) (nodes_in head.dim x disk0.bytes) x) live_is (subst (λ (x : Head). IsSoundTree (space_of x) (nodes_in x.dim l disk0.bytes) l) head_is sound.tree)

        none_of : status ≡ 5 → ⊥
        none_of e = elim finished.statuses [ inl a ↦ omega arith | inr b ↦ elim b [ inl a ↦ omega arith | inr d ↦ elim d [ inl a ↦ omega arith | inr a ↦ omega arith ] ] ]

        none_of_three : status ≡ 3 → ⊥
        none_of_three e = elim finished.statuses [ inl a ↦ omega arith | inr b ↦ elim b [ inl a ↦ omega arith | inr d ↦ elim d [ inl a ↦ omega arith | inr a ↦ omega arith ] ] ]

        none_of_six : status ≡ 6 → ⊥
        none_of_six e = elim finished.statuses [ inl a ↦ omega arith | inr b ↦ elim b [ inl a ↦ omega arith | inr d ↦ elim d [ inl a ↦ omega arith | inr a ↦ omega arith ] ] ]

        none_of_seven : status ≡ 7 → ⊥
        none_of_seven e = elim finished.statuses [ inl a ↦ omega arith | inr b ↦ elim b [ inl a ↦ omega arith | inr d ↦ elim d [ inl a ↦ omega arith | inr a ↦ omega arith ] ] ]

        among : (status ≡ 0) ⊎ ((status ≡ 4) ⊎ ((status ≡ 8) ⊎ (status ≡ 9))) → (status ≡ 0) ⊎ ((status ≡ 4) ⊎ ((status ≡ 5) ⊎ ((status ≡ 6) ⊎ ((status ≡ 7) ⊎ ((status ≡ 8) ⊎ (status ≡ 9))))))
        among (inl a) = inl a
        among (inr (inl a)) = inr (inl a)
        among (inr (inr b)) = inr (inr (inr (inr (inr b))))
