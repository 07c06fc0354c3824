-- What filling a new index leaves.
use Rattle.std.proofs.Common.{◌≡◌, ◌⊎◌, inl, inr, ℕ, ◌≤◌, ◌^◌, ◌&&◌, nat_le, Bool, true, false, List, [], ◌∷◌, None, Result, Ok, refl, sym, ◌∙◌, ap, subst, arith, length}
use Rattle.std.specs.Prelude.{All, IsTrue, nat_lt}
use Rattle.std.specs.List.{AllByRecursion}
use Rattle.std.proofs.lemmas.Bool.{leb-true, true≢false}
use Rattle.std.proofs.lemmas.Bool.Decides.{nat_tests}
use Rattle.std.proofs.lemmas.List.Elements.{recursion_from_All}
use Rattle.outside_io.specs.Causes.{Rose}
use Rattle.disk_model.specs.Disk.{DiskState, EachImage, LeavesOnly, MayLeave}
use Rattle.disk_model.specs.Moments.{joined, weakened}
use Rattle.metric_laws.specs.Space.{Space, IsSpace}
use Rattle.metric_mix.specs.MixKinds.{mix_dim, mix_kind}
use Rattle.metric_mix.specs.MixSpaces.{mix_space}
use Rattle.metric_mix.specs.declared.mix_space.MixSpace.{MixSpace}
use Rattle.tree_shape.specs.declared.live.Live.{Live}
use Rattle.node_page.specs.declared.head.Head.{Head}
use Rattle.job_files.specs.Laws.{HeadsHaveSpaces}
use Rattle.job_files.proofs.Published.{space_by_head}
use Rattle.node_page.specs.Heads.{IsValidHead, is_limit}
use Rattle.node_page.specs.Laws.{FaultIsNotOpen, OneLiveSlot}
use Rattle.node_page.specs.Opening.{OpensTo, open_fault}
use Rattle.page_store.specs.declared.pages.PageFault.TheVariants as page
use Rattle.page_store.specs.Files.{IsSoundFile}
use Rattle.shadow_root.specs.declared.faults.OpenFault.{OpenFault}
use Rattle.shadow_root.specs.declared.faults.OpenFault.TheVariants as open_fault
use Rattle.shadow_root.specs.Making.{IsMade, first_live}
use Rattle.shadow_root.specs.Opening.{HasOpenCause}
use Rattle.index_core.specs.declared.faults.IndexFault.{IndexFault}
use Rattle.index_core.specs.declared.faults.IndexFault.TheVariants as index
use Rattle.index_core.specs.Answers.{IsSoundOn}
use Rattle.index_core.specs.Causes.{BlamesNoPage, HasReaderCause}
use Rattle.index_core.specs.Files.{OpenFile}
use Rattle.index_core.specs.Index.{OpenIndex}
use Rattle.index_core.specs.Loading.{HasLoadingCause, load_fault}
use Rattle.index_core.specs.Writing.{HasObjects, HasWritten, HoldsObjects, Loads}
use Rattle.job_make.specs.declared.filling.FillFault.{FillFault}
use Rattle.job_make.specs.declared.filling.FillFault.TheVariants as fill
use Rattle.job_files.specs.Spaces.{space_of}
use Rattle.job_make.specs.Filling.{HasFillCause, HoldsNoneOrAll, IsDiskFault, IsFilled, IsOtherFile, fault_of}
use Rattle.job_make.proofs.Few.{few_nodes}
use Rattle.outside_io.proofs.Published.{rose_before}

pub limit_by_head : (limit : ℕ) → IsTrue (is_limit limit) → limit ≤ 2 ^ 24
unfolding is_limit
limit_by_head limit is = let both = both_true (nat_le 1 limit) (nat_le limit 16777216) is in leb-true limit 16777216 both.1
  where
    both_true : (a b : Bool) → (a && b) ≡ true → (a ≡ true) × (b ≡ true)
    both_true true true is = (refl, refl)
    both_true true false is = absurd (true≢false (sym is))
    both_true false b is = absurd (true≢false (sym is))

-- ---- nothing refuses a load at once

module _ (i : OpenIndex MixSpace) (rows : ℕ) (going : i.stopped ≡ false) (first : i.file.live ≡ first_live) (few : rows ≤ i.file.head.limit) where
  no_more : nat_lt i.file.head.limit rows ≡ false
  no_more = grind (arith, nat_tests)

  pub may_load : load_fault i rows ≡ None
  may_load = rw (going, first, no_more) refl

-- ---- the file that opens is the new one

module _ (law : OneLiveSlot) (head : Head) (d0 : DiskState) (is_known : IsTrue d0.is_known) (made : IsMade head d0.bytes) where
  sound_file : IsSoundFile (space_of head) head first_live d0.bytes
  sound_file = made (space_of head) refl

  pub same_file : (file : OpenFile MixSpace) (d1 : DiskState) → d1.bytes ≡ d0.bytes → OpensTo d1.bytes file.head file.live → (file.head ≡ head) × (file.live ≡ first_live)
  same_file file d1 bytes opens =
      let both = law d0.bytes file.head head file.live first_live (subst (λ (b : List ℕ). OpensTo b file.head file.live) bytes opens) sound_file.opens in
      (both.0, both.1)

  pub opens_still : FaultIsNotOpen → (dimension : ℕ) → dimension ≡ head.dim → (d1 : DiskState) (why : OpenFault) → HasReaderCause dimension d0 d1 why → why ≡ open_fault.Disk
  opens_still faults dimension dim d1 why (inl cause) = opened why cause
    where
      none : open_fault d0.bytes ≡ None
      none = (faults d0.bytes).1 (head, first_live, sound_file.opens)

      opened : (w : OpenFault) → HasOpenCause d0 d1 w → w ≡ open_fault.Disk
      opened open_fault.Disk c = refl
      opened open_fault.Short c = absurd (let e = c is_known in let n = none in cc)
      opened (open_fault.Head f) c = absurd (let e = c is_known in let n = none in cc)
      opened open_fault.Unfinished c = absurd (let e = c is_known in let n = none in cc)
      opened open_fault.TwoRoots c = absurd (let e = c is_known in let n = none in cc)
      opened open_fault.Slot c = absurd (let e = c is_known in let n = none in cc)
  opens_still faults dimension dim d1 why (inr (inl old)) =
      let there = old.1 is_known in
      let same = law d0.bytes there.0 head there.1 first_live there.2 sound_file.opens in
      absurd (let two = sound_file.version in let one = there.3 in let heads = ap (λ (h : Head). h.version) same.0 in omega (arith, two, one, heads))
  opens_still faults dimension dim d1 why (inr (inr wide)) =
      let there = wide.1 is_known in
      let same = law d0.bytes there.0 head there.1 first_live there.2 sound_file.opens in
      absurd (there.3.1 (ap (λ (h : Head). h.dim) same.0 ∙ sym dim))

  -- ---- what a crash leaves

  none : HoldsObjects (space_of head) head [] [] d0.bytes
  none = record {
    live = first_live;
    is = record { opens = sound_file.opens; version = sound_file.version; dimension = refl; tree = record { sound = sound_file.tree; points_are = refl; tags_are = refl } };
  }

  pub opening : LeavesOnly d0 d0.bytes → (points : List (List ℕ)) (tags : List ℕ) (d1 : DiskState) → EachImage d0 d1 (MayLeave d0) → EachImage d0 d1 (HoldsNoneOrAll head points tags)
  opening only points tags d1 time = weakened d0 d1 (MayLeave d0) (HoldsNoneOrAll head points tags) time (λ image left. inl (subst (λ (b : List ℕ). HoldsObjects (space_of head) head [] [] b) (sym (only image left)) none))

  pub has_none : (file : OpenFile MixSpace) (d1 : DiskState) → file.head ≡ head → file.live ≡ first_live → d1.bytes ≡ d0.bytes → d1.is_known ≡ d0.is_known → HasObjects (space_of head) file d1 [] []
  has_none file d1 heads lives bytes told = record {
    is_known = rw told is_known;
    sound = rw (heads, lives, bytes) sound_file.tree;
    points_are = rw lives refl;
    tags_are = rw lives refl;
  }

  module _ (s : Space) (same_space : s ≡ space_of head) (i j : OpenIndex MixSpace) (d1 d2 : DiskState) (points : List (List ℕ)) (tags : List ℕ) (result : Result ℕ IndexFault)
      (heads : i.file.head ≡ head) (lives : i.file.live ≡ first_live) (bytes : d1.bytes ≡ d0.bytes) (told : d1.is_known ≡ d0.is_known)
      (written : HasWritten s (Loads points tags) i j d1 d2 result) where
    here : HasWritten (space_of head) (Loads points tags) i j d1 d2 result
    here = subst (λ (t : Space). HasWritten t (Loads points tags) i j d1 d2 result) same_space written

    pub loading : LeavesOnly d0 d0.bytes → EachImage d0 d1 (MayLeave d0) → EachImage d0 d2 (HoldsNoneOrAll head points tags)
    loading only time =
        joined d0 d1 d2 (HoldsNoneOrAll head points tags) (opening only points tags d1 time)
        (subst (λ (h : Head). EachImage d1 d2 (λ image. HoldsObjects (space_of head) h [] [] image ⊎ HoldsObjects (space_of head) h points tags image)) heads
        (here.moments [] [] (has_none i.file d1 heads lives bytes told)))

    pub filled : (n : ℕ) → result ≡ Ok n → IsFilled head points tags d2 j
    filled n ok = record {
      objects = rw ok at (here.objects [] [] (has_none i.file d1 heads lives bytes told));
      tree = λ some. rw ok at (here.tree [] [] (has_none i.file d1 heads lives bytes told));
    }

-- an index without objects is filled with none
pub filled_none : (head : Head) (d2 : DiskState) (i : OpenIndex MixSpace) (points : List (List ℕ)) (tags : List ℕ) → length points ≡ 0 → length tags ≡ length points →
    HasObjects (space_of head) i.file d2 [] [] → IsFilled head points tags d2 i
filled_none head d2 i [] [] none same has = record { objects = has; tree = λ some. absurd (omega (arith, some)) }
filled_none head d2 i [] (t ∷ tags) none same has = absurd (omega (arith, same))
filled_none head d2 i (p ∷ points) tags none same has = absurd (omega (arith, none))

-- ---- why nothing was loaded

module _ (s : Space) (space : IsSpace s) (narrow : s.dimension ≤ 64) (i : OpenIndex MixSpace) (points : List (List ℕ)) (tags : List ℕ) (is_point : AllByRecursion (λ p. IsTrue (s.is_point p)) points) (few : length points ≤ 2 ^ 24)
    (first : i.file.live ≡ first_live) (d0 d1 : DiskState) (later : d0.faults ≤ d1.faults) (d2 : DiskState) where
  has_room : (pages needed : ℕ) → HasLoadingCause s i points tags d1 d2.faults (index.NoRoom pages needed) → ⊥
  has_room pages needed (f, list, c) =
      let nodes = few_nodes s space narrow points tags is_point in
      let there : pages ≡ 4 = c.1 ∙ ap (λ (t : Live). t.pages) first in
      let much = c.3 in let is = c.2 in
      omega (arith, nodes, few, there, much, is)

  pub load_cause : (fault : IndexFault) → HasLoadingCause s i points tags d1 d2.faults fault → (IsTrue d0.is_known → BlamesNoPage fault) → HasFillCause d0 d2 (fault_of fault)
  load_cause index.Disk cause told = rose_before d0.faults d1.faults d2.faults later cause.1
  load_cause index.Commit cause told = rose_before d0.faults d1.faults d2.faults later cause
  load_cause index.Stopped cause told = absurd cause.1
  load_cause index.Memory cause told = tt
  load_cause (index.Damaged page) cause told = (cause.1.0, told)
  load_cause index.Full cause told = absurd cause.1
  load_cause index.NotEmpty cause told = absurd cause.1
  load_cause (index.NoRoom pages needed) cause told = absurd (has_room pages needed cause)
  load_cause index.Worn cause told = absurd cause.1

-- ---- the index that was opened

pub record HasOpened (head : Head) (d0 d1 : DiskState) (i : OpenIndex MixSpace) : Type 0 where
  pub heads : i.file.head ≡ head
  pub lives : i.file.live ≡ first_live
  pub bytes : d1.bytes ≡ d0.bytes
  pub told : d1.is_known ≡ d0.is_known
  pub kind : mix_kind i.file.metric ≡ head.kind
  pub dim : mix_dim i.file.metric ≡ head.dim
  pub free : i.free ≡ None
  pub going : i.stopped ≡ false

abbrev pub space_in : OpenIndex MixSpace → Space
space_in i = mix_space (mix_kind i.file.metric) (mix_dim i.file.metric)

pub same_space : (head : Head) (d0 d1 : DiskState) (i : OpenIndex MixSpace) → HasOpened head d0 d1 i → space_in i ≡ space_of head
same_space head d0 d1 i opened = rw (opened.kind, opened.dim) refl

pub unopened_cause : FaultIsNotOpen → OneLiveSlot → (head : Head) (d0 d1 : DiskState) (dimension : ℕ) → dimension ≡ head.dim → (IsTrue d0.is_known → IsMade head d0.bytes) → (why : OpenFault) → HasReaderCause dimension d0 d1 why →
    HasFillCause d0 d1 (fill.Unopened why)
unopened_cause faults law head d0 d1 dimension dim made why cause = (λ is. rose is cause, λ is_known. opens_still law head d0 is_known (made is_known) faults dimension dim d1 why cause)
  where
    rose : why ≡ open_fault.Disk → HasReaderCause dimension d0 d1 why → Rose d0.faults d1.faults
    rose is (inl first) = subst (HasOpenCause d0 d1) is first
    rose is (inr (inl old)) = absurd (let e = sym is ∙ old.0 in cc)
    rose is (inr (inr wide)) = absurd (let e = sym is ∙ wide.0 in cc)

pub empty_filled : OneLiveSlot → (head : Head) (d0 d1 : DiskState) (i : OpenIndex MixSpace) → HasOpened head d0 d1 i → (IsTrue d0.is_known → IsMade head d0.bytes) → (points : List (List ℕ)) (tags : List ℕ) →
    length points ≡ 0 → length tags ≡ length points → IsTrue d0.is_known → IsFilled head points tags d1 i
empty_filled law head d0 d1 i o made points tags none same is_known = filled_none head d1 i points tags none same (has_none law head d0 is_known (made is_known) i.file d1 o.heads o.lives o.bytes o.told)

module _ (law : OneLiveSlot) (head : Head) (d0 d1 d2 : DiskState) (i j : OpenIndex MixSpace) (o : HasOpened head d0 d1 i) (made : IsTrue d0.is_known → IsMade head d0.bytes) (points : List (List ℕ)) (tags : List ℕ)
    (result : Result ℕ IndexFault) (written : i.stopped ≡ false → HasWritten (space_in i) (Loads points tags) i j d1 d2 result) where
  pub loaded_moments : LeavesOnly d0 d0.bytes → EachImage d0 d1 (MayLeave d0) → IsTrue d0.is_known → EachImage d0 d2 (HoldsNoneOrAll head points tags)
  loaded_moments only time is_known =
      loading law head d0 is_known (made is_known) (space_in i) (same_space head d0 d1 i o) i j d1 d2 points tags result o.heads o.lives o.bytes o.told (written o.going) only time

  pub loaded_filled : (n : ℕ) → result ≡ Ok n → IsTrue d0.is_known → IsFilled head points tags d2 j
  loaded_filled n ok is_known = filled law head d0 is_known (made is_known) (space_in i) (same_space head d0 d1 i o) i j d1 d2 points tags result o.heads o.lives o.bytes o.told (written o.going) n ok

  pub load_faults : HeadsHaveSpaces → IsValidHead head → All (λ p. IsTrue ((space_of head).is_point p)) points → length points ≤ head.limit → d0.faults ≤ d1.faults → (fault : IndexFault) →
      (load_fault i (length points) ≡ None → HasLoadingCause (space_in i) i points tags d1 d2.faults fault) → (IsSoundOn (space_in i) i.file d1 → BlamesNoPage fault) → HasFillCause d0 d2 (fault_of fault)
  load_faults spaces valid is_point few later fault cause told =
      let has = space_by_head head.kind head.dim valid.space in
      let lim = limit_by_head head.limit valid.limit in
      load_cause (space_of head) (spaces head valid) has.high_dim i points tags (recursion_from_All (λ p. IsTrue ((space_of head).is_point p)) points is_point) (omega (arith, few, lim)) o.lives d0 d1 later d2 fault
      (subst (λ (s : Space). HasLoadingCause s i points tags d1 d2.faults fault) (same_space head d0 d1 i o) (cause (may_load i (length points) o.going o.lives (rw o.heads few))))
      (λ is_known. subst (λ (s : Space). IsSoundOn s i.file d1 → BlamesNoPage fault) (same_space head d0 d1 i o) told
      (let none = has_none law head d0 is_known (made is_known) i.file d1 o.heads o.lives o.bytes o.told in (none.is_known, none.sound)))

pub has_opened : (head : Head) (live : Live) → live ≡ first_live → (d0 d1 : DiskState) (opened i : OpenIndex MixSpace) (metric : MixSpace) (workers : ℕ) →
    opened ≡ record { file = record opened.file { metric = metric; kept = None }; free = None; stopped = false; workers = 1 } → i ≡ record opened { workers = workers } → opened.file.head ≡ head → opened.file.live ≡ live →
    mix_kind metric ≡ head.kind → mix_dim metric ≡ head.dim → d1.bytes ≡ d0.bytes → d1.is_known ≡ d0.is_known → HasOpened head d0 d1 i
has_opened head live first d0 d1 opened i metric workers opens is heads lives kind dim bytes told = record {
  heads = ap (λ (x : OpenIndex MixSpace). x.file.head) is ∙ heads;
  lives = ap (λ (x : OpenIndex MixSpace). x.file.live) is ∙ lives ∙ first;
  bytes = bytes;
  told = told;
  kind = ap (λ (x : OpenIndex MixSpace). mix_kind x.file.metric) is ∙ ap (λ (x : OpenIndex MixSpace). mix_kind x.file.metric) opens ∙ kind;
  dim = ap (λ (x : OpenIndex MixSpace). mix_dim x.file.metric) is ∙ ap (λ (x : OpenIndex MixSpace). mix_dim x.file.metric) opens ∙ dim;
  free = ap (λ (x : OpenIndex MixSpace). x.free) is ∙ ap (λ (x : OpenIndex MixSpace). x.free) opens;
  going = ap (λ (x : OpenIndex MixSpace). x.stopped) is ∙ ap (λ (x : OpenIndex MixSpace). x.stopped) opens;
}

-- the index that opens on a disk that tells is the new one
pub never_changed : OneLiveSlot → (head : Head) (live : Live) → live ≡ first_live → (d0 d1 : DiskState) (file : OpenFile MixSpace) → (IsTrue d0.is_known → IsMade head d0.bytes) → d1.bytes ≡ d0.bytes → d1.is_known ≡ d0.is_known →
    (IsTrue d1.is_known → OpensTo d1.bytes file.head file.live) → (file.head ≡ head → file.live ≡ live → IsTrue false) → IsTrue d0.is_known → ⊥
never_changed law head live first d0 d1 file made bytes told opens differ is_known =
    let same = same_file law head d0 is_known (made is_known) file d1 bytes (opens (rw told is_known)) in
    true≢false (sym (differ same.0 (same.1 ∙ sym first)))

-- ---- how the job ends

pub rose_of : (d0 d2 : DiskState) (fault : FillFault) → IsDiskFault fault → HasFillCause d0 d2 fault → Rose d0.faults d2.faults
rose_of d0 d2 fill.Disk is cause = cause
rose_of d0 d2 fill.Memory is cause = absurd is
rose_of d0 d2 fill.Changed is cause = absurd is
rose_of d0 d2 (fill.Unopened open_fault.Disk) is cause = cause.0 refl
rose_of d0 d2 (fill.Unopened open_fault.Short) is cause = absurd is
rose_of d0 d2 (fill.Unopened (open_fault.Head f)) is cause = absurd is
rose_of d0 d2 (fill.Unopened open_fault.Unfinished) is cause = absurd is
rose_of d0 d2 (fill.Unopened open_fault.TwoRoots) is cause = absurd is
rose_of d0 d2 (fill.Unopened open_fault.Slot) is cause = absurd is
rose_of d0 d2 (fill.Damaged page.Disk) is cause = absurd cause.0
rose_of d0 d2 (fill.Damaged page.Memory) is cause = absurd is
rose_of d0 d2 (fill.Damaged (page.Bad p f)) is cause = absurd is
rose_of d0 d2 (fill.Damaged (page.Outside p)) is cause = absurd is
rose_of d0 d2 (fill.Damaged (page.Repeats p)) is cause = absurd is
rose_of d0 d2 (fill.Damaged (page.Level p)) is cause = absurd is

pub never_other : (d0 d2 : DiskState) (fault : FillFault) → IsOtherFile fault → HasFillCause d0 d2 fault → IsTrue d0.is_known → ⊥
never_other d0 d2 fill.Disk is cause is_known = is
never_other d0 d2 fill.Memory is cause is_known = is
never_other d0 d2 fill.Changed is cause is_known = cause is_known
never_other d0 d2 (fill.Unopened why) is cause is_known = is (cause.1 is_known)
never_other d0 d2 (fill.Damaged page) is cause is_known = is
