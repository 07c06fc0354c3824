-- What a new index that was filled holds, and what is written of it.
use Rattle.std.proofs.Common.{◌≡◌, ◌⊎◌, inl, inr, ⊎_elim, ℕ, zero, suc, ◌+◌, ◌<◌, ◌≤◌, false, List, refl, sym, ◌∙◌, ap, subst, arith, length}
use Rattle.std.specs.Prelude.{codes, IsTrue}
use Rattle.std.proofs.lemmas.Bool.{cases_lt}
use Rattle.std.specs.Io.KnownBytes.{Appends}
use Rattle.std.proofs.lemmas.List.FromFn.{length-map-range_with_len}
use Rattle.outside_io.specs.Bytes.{AppendsPrefix}
use Rattle.outside_io.specs.Sinks.{SinkState, Tells}
use Rattle.disk_model.specs.Disk.{DiskState, IsUnchanged, LeavesOnly, MayLeave}
use Rattle.disk_model.specs.Moments.{started}
use Rattle.metric_mix.specs.MixSpaces.{mix_space}
use Rattle.metric_mix.specs.MixKinds.{mix_dim, mix_kind}
use Rattle.metric_mix.specs.declared.mix_space.MixSpace.{MixSpace}
use Rattle.tree_shape.specs.declared.entry.LeafEntry.{LeafEntry}
use Rattle.tree_shape.specs.Tree.{objects, points_from}
use Rattle.tree_outline.specs.Shapes.{tree_lines}
use Rattle.node_page.specs.declared.head.Head.{Head}
use Rattle.page_store.specs.declared.pages.PageFault.{PageFault}
use Rattle.page_store.specs.declared.pages.PageFault.TheVariants as page
use Rattle.page_store.specs.Shelf.{IsPassing}
use Rattle.job_files.specs.Lines.{damaged_text}
use Rattle.index_core.specs.Answers.{IsSoundOn, points_on}
use Rattle.index_core.specs.Files.{OnlyReads, OpenFile, nodes_on}
use Rattle.index_core.specs.Index.{MayGoOn, OpenIndex}
use Rattle.tree_shape.specs.Plain.{tree_of}
use Rattle.tree_growth.specs.Bulk.{built}
use Rattle.page_store.specs.Files.{nodes_in}
use Rattle.shadow_root.specs.Placements.{IsFileOf}
use Rattle.job_make.specs.declared.generating.Generation.{Generation}
use Rattle.job_make.specs.Asking.{HasAskCause, hits_of}
use Rattle.job_files.specs.Spaces.{space_of}
use Rattle.job_make.specs.Filling.{IsFilled}
use Rattle.job_make.specs.Generator.{generated_row}
use Rattle.job_make.specs.Jobs.{Fills, IsFilledSince, IsFull, IsSummary, IsUnfilled, ids_of, points_of, summary}
use Rattle.outside_io.proofs.Published.{rose_before}

-- ---- a run without memory

pub unchanged : (disk : DiskState) → IsUnchanged disk disk
unchanged disk = record {
  same_known = refl;
  same_bytes = refl;
  same_images = λ image. (λ left. left, λ left. left);
  time = started disk (MayLeave disk) (λ image left. left);
}

module _ (head : Head) (points : List (List ℕ)) (tags : List ℕ) (IsText : List ℕ → List ℕ → Type 0) (d0 : DiskState) (out0 out1 : SinkState) (status : ℕ) where
  pub no_memory : status ≡ 8 → Tells out0 out1 (codes "fault memory\n") → Fills head points tags IsText d0 d0 out0 out1 status
  no_memory eight line = record {
    filled = λ is_known is. absurd (⊎_elim (λ e. (let no : ⊥ = omega (arith, e, eight) in no)) (λ e. (let no : ⊥ = omega (arith, e, eight) in no)) is);
    done = λ is_known is. absurd (omega (arith, is, eight));
    part = λ is_known is. absurd (omega (arith, is, eight));
    unfilled = record {
      disk = λ is. absurd (omega (arith, is, eight));
      not_empty = λ is. absurd (omega (arith, is, eight));
      memory = λ is. line;
      damaged = λ is. absurd (omega (arith, is, eight));
      left = λ is_known. inl (unchanged d0);
    };
  }

  -- it was not filled
  pub refused : (d1 : DiskState) → IsUnfilled head points tags d0 d1 out0 out1 status → (status ≡ 5) ⊎ ((status ≡ 6) ⊎ ((status ≡ 8) ⊎ (status ≡ 9))) → Fills head points tags IsText d0 d1 out0 out1 status
  refused d1 un statuses = record {
    filled = λ is_known is. absurd (⊎_elim (λ e. (let no : ⊥ = omega (arith, e, low) in no)) (λ e. (let no : ⊥ = omega (arith, e, low) in no)) is);
    done = λ is_known is. absurd (omega (arith, is, low));
    part = λ is_known is. absurd (omega (arith, is, low));
    unfilled = un;
  }
    where
      low : 5 ≤ status
      low = elim statuses [ inl e ↦ omega (arith, e) | inr (inl e) ↦ omega (arith, e) | inr (inr (inl e)) ↦ omega (arith, e) | inr (inr (inr e)) ↦ omega (arith, e) ]

  -- ---- it was, and then only read

  module _ (d1 d2 : DiskState) (file new : OpenFile MixSpace) (reads : OnlyReads file new d1 d2) (later : d0.faults ≤ d1.faults) (told : d1.is_known ≡ d0.is_known) (since : IsTrue d0.is_known → IsFilledSince head points tags d1) where
    pub still_since : IsTrue d0.is_known → IsFilledSince head points tags d2
    still_since is_known =
        let s = since is_known in
        record {
          from = s.from;
          within = (let w = s.within in let l = reads.same.time.later in omega arith);
          after = λ moment image from to left. elim (cases_lt moment d1.clock) [
            | inl lt ↦ s.after moment image from (omega (arith, lt)) (reads.same.time.past moment image lt left)
            | inr ge ↦ s.after d1.clock image s.within (omega arith) (reads.same.time.each moment image ge to left)
          ];
        }

    -- the search or the check of a log stopped
    pub stopped : (Sound : Type 0) (fault : PageFault) → (IsTrue d0.is_known → Sound) → HasAskCause Sound d1 d2 fault → (status ≡ 5 → (fault ≡ page.Disk) × Tells out0 out1 (codes "fault disk\n")) →
        (status ≡ 8 → Tells out0 out1 (codes "fault memory\n")) → (status ≡ 9 → (IsPassing fault → ⊥) × Tells out0 out1 (damaged_text fault)) → (status ≡ 5) ⊎ ((status ≡ 8) ⊎ (status ≡ 9)) →
        Fills head points tags IsText d0 d2 out0 out1 status
    stopped Sound fault sound cause five eight nine statuses = refused d2 (record {
      disk = λ is. (rose_before d0.faults d1.faults d2.faults later (subst (HasAskCause Sound d1 d2) (five is).0 cause), (five is).1);
      not_empty = λ is. absurd (elim statuses [ inl e ↦ omega (arith, e, is) | inr (inl e) ↦ omega (arith, e, is) | inr (inr e) ↦ omega (arith, e, is) ]);
      memory = eight;
      damaged = λ is. ((λ is_known. never fault (nine is).0 cause (sound is_known)), fault, (nine is).1);
      left = λ is_known. inr (inl (still_since is_known));
    }) (elim statuses [ inl e ↦ inl e | inr (inl e) ↦ inr (inr (inl e)) | inr (inr e) ↦ inr (inr (inr e)) ])
      where
        never : (f : PageFault) → (IsPassing f → ⊥) → HasAskCause Sound d1 d2 f → Sound → ⊥
        never page.Disk other c = absurd (other tt)
        never page.Memory other c = absurd (other tt)
        never (page.Bad p f) other c = c
        never (page.Outside p) other c = c
        never (page.Repeats p) other c = c
        never (page.Level p) other c = c

    -- the text was written
    pub written : (text : List ℕ) → (status ≡ 0) ⊎ (status ≡ 4) → (status ≡ 0 → Appends out0.written out1.written text) → (status ≡ 4 → AppendsPrefix out0.written out1.written text) →
        (IsTrue d0.is_known → (length d0.bytes ≡ 0) × IsFull head points tags d2.bytes × LeavesOnly d2 d2.bytes) → (IsTrue d0.is_known → IsText d2.bytes text) → Fills head points tags IsText d0 d2 out0 out1 status
    written text statuses done part full is = record {
      filled = λ is_known either. full is_known;
      done = λ is_known zero. (text, is is_known, done zero);
      part = λ is_known four. (text, is is_known, part four);
      unfilled = record {
        disk = λ five. absurd (elim statuses [ inl e ↦ omega (arith, e, five) | inr e ↦ omega (arith, e, five) ]);
        not_empty = λ six. absurd (elim statuses [ inl e ↦ omega (arith, e, six) | inr e ↦ omega (arith, e, six) ]);
        memory = λ eight. absurd (elim statuses [ inl e ↦ omega (arith, e, eight) | inr e ↦ omega (arith, e, eight) ]);
        damaged = λ nine. absurd (elim statuses [ inl e ↦ omega (arith, e, nine) | inr e ↦ omega (arith, e, nine) ]);
        left = λ is_known. inr (inl (still_since is_known));
      };
    }

-- ---- the file that was filled

module _ (head : Head) (version : head.version ≡ 2) (points : List (List ℕ)) (tags : List ℕ) (d1 d2 : DiskState) (i j : OpenIndex MixSpace) (heads : i.file.head ≡ head) (filled : IsFilled head points tags d1 i) (stands : MayGoOn i d1)
    (going : i.stopped ≡ false) (reads : OnlyReads i.file j.file d1 d2) where
  pub file_is : IsFileOf (space_of head) head i.file.live points tags d2.bytes
  file_is = subst (λ (h : Head). IsFileOf (space_of h) h i.file.live points tags d2.bytes) heads (at (subst (λ (h : Head). IsFilled h points tags d1 i) (sym heads) filled))
    where
      at : IsFilled i.file.head points tags d1 i → IsFileOf (space_of i.file.head) i.file.head i.file.live points tags d2.bytes
      at has = subst (λ (b : List ℕ). IsFileOf (space_of i.file.head) i.file.head i.file.live points tags b) (sym reads.same.same_bytes) (record {
        opens = (stands going).stands.opens has.objects.is_known;
        version = ap (λ (h : Head). h.version) heads ∙ version;
        dimension = refl;
        tree = record { sound = has.objects.sound; points_are = has.objects.points_are; tags_are = has.objects.tags_are };
      })

  tree_is : 0 < length points → tree_of (nodes_in head.dim i.file.live d2.bytes) i.file.live ≡ built (space_of head) points tags
  tree_is some =
      ap (λ (b : List ℕ). tree_of (nodes_in head.dim i.file.live b) i.file.live) reads.same.same_bytes
      ∙ ap (λ (h : Head). tree_of (nodes_in h.dim i.file.live d1.bytes) i.file.live) (sym heads) ∙ filled.tree some

  pub is_full : IsFull head points tags d2.bytes
  is_full = record { live = i.file.live; is = file_is; tree = tree_is }

  pub leaves_only : LeavesOnly d2 d2.bytes
  leaves_only image left = (stands going).only filled.objects.is_known image ((reads.same.same_images image).0 left) ∙ sym reads.same.same_bytes

length-points_from : (es : List LeafEntry) (id n : ℕ) → length (points_from es id n) ≡ n
length-points_from es id zero = refl
length-points_from es id (suc n) = let rest = length-points_from es (id + 1) n in omega arith

pub is_sound : (head : Head) (points : List (List ℕ)) (tags : List ℕ) (d1 : DiskState) (i : OpenIndex MixSpace) → mix_kind i.file.metric ≡ head.kind → mix_dim i.file.metric ≡ head.dim → IsFilled head points tags d1 i →
    IsSoundOn (mix_space (mix_kind i.file.metric) (mix_dim i.file.metric)) i.file d1
is_sound head points tags d1 i kind dim filled = rw (kind, dim) (filled.objects.is_known, filled.objects.sound)

-- ---- its summary

module _ (asked : Generation) (version : asked.head.version ≡ 2) (d1 d2 : DiskState) (i j : OpenIndex MixSpace) (heads : i.file.head ≡ asked.head) (kind : mix_kind i.file.metric ≡ asked.head.kind) (dim : mix_dim i.file.metric ≡ asked.head.dim)
    (filled : IsFilled asked.head (points_of asked) (ids_of asked) d1 i) (stands : MayGoOn i d1) (going : i.stopped ≡ false) (reads : OnlyReads i.file j.file d1 d2) (points : List (List ℕ)) (is : points ≡ points_of asked) where
  sound : IsSoundOn (mix_space (mix_kind i.file.metric) (mix_dim i.file.metric)) i.file d1
  sound = rw (kind, dim) (filled.objects.is_known, filled.objects.sound)

  count : i.file.live.count ≡ asked.count
  count =
      sym (length-points_from (objects (nodes_on i.file d1) i.file.live) 0 i.file.live.count) ∙ ap (λ (ps : List (List ℕ)). length ps) filled.objects.points_are
      ∙ length-map-range_with_len (generated_row asked.seed asked.head.dim) 0 asked.count

  nodes : length (tree_lines (nodes_on i.file d1) i.file.live) ≡ length (tree_lines (nodes_in asked.head.dim i.file.live d2.bytes) i.file.live)
  nodes =
      ap (λ (h : Head). length (tree_lines (nodes_in h.dim i.file.live d1.bytes) i.file.live)) heads
      ∙ ap (λ (b : List ℕ). length (tree_lines (nodes_in asked.head.dim i.file.live b) i.file.live)) (sym reads.same.same_bytes)

  hits : hits_of (mix_space (mix_kind i.file.metric) (mix_dim i.file.metric)) points 8 ≡ hits_of (space_of asked.head) (points_of asked) 8
  hits = rw (kind, dim, is) refl

  pub is_summary : (text : List ℕ) →
      (IsSoundOn (mix_space (mix_kind i.file.metric) (mix_dim i.file.metric)) i.file d1 → points_on i.file d1 ≡ points →
      text ≡ summary i.file.live.count (length (tree_lines (nodes_on i.file d1) i.file.live)) i.file.live.height (hits_of (mix_space (mix_kind i.file.metric) (mix_dim i.file.metric)) points 8) 8) → IsSummary asked d2.bytes text
  is_summary text says = record {
    live = i.file.live;
    is = file_is asked.head version (points_of asked) (ids_of asked) d1 d2 i j heads filled stands going reads;
    text_is =
        says sound (filled.objects.points_are ∙ sym is)
        ∙ ap (λ (c : ℕ). summary c (length (tree_lines (nodes_on i.file d1) i.file.live)) i.file.live.height (hits_of (mix_space (mix_kind i.file.metric) (mix_dim i.file.metric)) points 8) 8) count
        ∙ ap (λ (n : ℕ). summary asked.count n i.file.live.height (hits_of (mix_space (mix_kind i.file.metric) (mix_dim i.file.metric)) points 8) 8) nodes
        ∙ ap (λ (x : ℕ). summary asked.count (length (tree_lines (nodes_in asked.head.dim i.file.live d2.bytes) i.file.live)) i.file.live.height x 8) hits;
  }
