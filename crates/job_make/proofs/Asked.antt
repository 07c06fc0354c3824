-- Queries, one after another.
use Rattle.std.proofs.Common.{◌≡◌, ℕ, ◌+◌, ◌*◌, ◌≤◌, ◌<◌, ◌^◌, Bool, true, false, List, refl, ◌∙◌, ap, subst, arith, length}
use Rattle.std.specs.Int.{from_bool}
use Rattle.std.proofs.lemmas.List.FromFn.{sum_by-map-range_with_len_more}
use Rattle.outside_io.specs.Causes.{Rose}
use Rattle.disk_model.specs.Disk.{DiskState, IsUnchanged}
use Rattle.metric_laws.specs.Space.{Space}
use Rattle.page_store.specs.declared.pages.PageFault.TheVariants as page
use Rattle.tree_shape.specs.declared.live.Live.{Live}
use Rattle.page_store.specs.Reading.{nodes_of, reading}
use Rattle.log_model.specs.declared.logs.Log.{Log}
use Rattle.log_model.specs.Laws.{scan_answers}
use Rattle.log_model.specs.Sound.{IsSoundLog}
use Rattle.index_core.specs.declared.faults.IndexFault.{IndexFault}
use Rattle.index_core.specs.declared.faults.IndexFault.TheVariants as index
use Rattle.index_core.specs.Answers.{IsSoundOn, points_on, tags_on}
use Rattle.index_core.specs.Causes.{MayComeAnytime}
use Rattle.index_core.specs.Files.{OnlyReads, OpenFile, nodes_on}
use Rattle.index_core.specs.Writing.{HasObjects}
use Rattle.index_core.proofs.Published.{has_still, reads_both, stands_alone_still, stands_still}
use Rattle.index_core.specs.Lending.{same_room_by_none}
use Rattle.index_core.specs.Index.{MayGoOn, OpenIndex}
use Rattle.job_make.specs.declared.asking.Asked.{Asked}
use Rattle.job_make.specs.declared.asking.Tally.{Tally}
use Rattle.job_make.specs.Asking.{HasAskCause, IsAnswered, IsReading, hits_at, hits_of, page_fault, point_asked, query_at}

-- ---- one query

pub may_go_on_still : {M : Type 0} (index : OpenIndex M) (old new : DiskState) → IsUnchanged old new → old.faults ≤ new.faults → MayGoOn index old → MayGoOn index new
may_go_on_still index old new same later stands going =
    let alone = stands going in
    stands_alone_still index index.file old new (record { rest = refl; room = same_room_by_none index.file.kept; same = same; later = later }) (stands_still index.file old new same later alone.stands) alone

pub log_still : {M : Type 0} (space : M → Space) (old new : OpenFile M) (d0 d1 : DiskState) (dim : ℕ) (live : Live) (metric : M) (log : Log) → OnlyReads old new d0 d1 → metric ≡ new.metric → dim ≡ new.head.dim → live ≡ new.live →
    IsSoundLog (space old.metric) (nodes_on old d0) old.live log → IsSoundLog (space metric) (nodes_of (reading dim live.pages d1.bytes)) live log
log_still {M} space old new d0 d1 dim live metric log reads metrics dims lives sound =
    let m : metric ≡ old.metric = metrics ∙ ap (λ (f : OpenFile M). f.metric) reads.rest in
    let d : dim ≡ old.head.dim = dims ∙ ap (λ (f : OpenFile M). f.head.dim) reads.rest in
    let l : live ≡ old.live = lives ∙ ap (λ (f : OpenFile M). f.live) reads.rest in
    rw (m, d, l, reads.same.same_bytes) sound

pub search_cause : (Sound : Type 0) (old new : DiskState) (fault : IndexFault) → IsReading fault → (fault ≡ index.Disk → Rose old.faults new.faults) → (Sound → MayComeAnytime fault) → HasAskCause Sound old new (page_fault fault)
search_cause Sound old new index.Disk reading disk never = disk refl
search_cause Sound old new index.Memory reading disk never = tt
search_cause Sound old new (index.Damaged page.Disk) reading disk never = absurd reading
search_cause Sound old new (index.Damaged page.Memory) reading disk never = tt
search_cause Sound old new (index.Damaged (page.Bad p f)) reading disk never = never
search_cause Sound old new (index.Damaged (page.Outside p)) reading disk never = never
search_cause Sound old new (index.Damaged (page.Repeats p)) reading disk never = never
search_cause Sound old new (index.Damaged (page.Level p)) reading disk never = absurd reading
search_cause Sound old new index.Full reading disk never = absurd reading
search_cause Sound old new index.NotEmpty reading disk never = absurd reading
search_cause Sound old new (index.NoRoom pages needed) reading disk never = absurd reading
search_cause Sound old new index.Worn reading disk never = absurd reading
search_cause Sound old new index.Stopped reading disk never = absurd reading
search_cause Sound old new index.Commit reading disk never = absurd reading

-- ---- several queries

pub record HasAsked {M : Type 0} (s : Space) (old new : OpenIndex M) (before after : DiskState) (points : List (List ℕ)) (t : ℕ) (tally : Tally) : Type 0 where
  pub going : new.stopped ≡ false
  pub stands : MayGoOn new after
  pub reads : OnlyReads old.file new.file before after
  pub rest : new ≡ record old { file = new.file }
  pub few : tally.hits ≤ t * 2 ^ 32
  pub few_accepted : tally.accepted ≤ t
  pub told : IsSoundOn s old.file before → points_on old.file before ≡ points → (tally.hits ≡ hits_of s points t) × (tally.accepted ≡ t)

bit_few : (b : Bool) → from_bool b ≤ 1
bit_few true = omega arith
bit_few false = omega arith

module _ {M : Type 0} (space : M → Space) (old mid new : OpenIndex M) (d0 d1 d2 : DiskState) (points : List (List ℕ)) (t : ℕ) (tally : Tally) (a : Asked) (q : List ℕ)
    (before : HasAsked (space old.file.metric) old mid d0 d1 points t tally) where
  same_metric : mid.file.metric ≡ old.file.metric
  same_metric = ap (λ (f : OpenFile M). f.metric) before.reads.rest

  objects_still : IsSoundOn (space old.file.metric) old.file d0 → points_on old.file d0 ≡ points → HasObjects (space old.file.metric) mid.file d1 points (tags_on old.file d0)
  objects_still sound are = has_still (space old.file.metric) old.file mid.file d0 d1 points (tags_on old.file d0) before.reads (record { is_known = sound.0; sound = sound.1; points_are = are; tags_are = refl })

  pub asked_more : MayGoOn new d2 → OnlyReads mid.file new.file d1 d2 → new ≡ record mid { file = new.file } → a.hits < 2 ^ 32 →
      (IsSoundOn (space mid.file.metric) mid.file d1 → IsAnswered (space mid.file.metric) (query_at t q) (points_on mid.file d1) a) → q ≡ point_asked points t →
      HasAsked (space old.file.metric) old new d0 d2 points (t + 1) (record { hits = tally.hits + a.hits; accepted = tally.accepted + from_bool a.accepted })
  asked_more stands reads rest few answered is = record {
    going = ap (λ (i : OpenIndex M). i.stopped) rest ∙ before.going;
    stands = stands;
    reads = reads_both old.file mid.file new.file d0 d1 d2 before.reads reads;
    rest = rest ∙ ap (λ (i : OpenIndex M). record i { file = new.file }) before.rest;
    few = (let b = before.few in omega (arith, b, few));
    few_accepted = (let b = before.few_accepted in let bit = bit_few a.accepted in omega arith);
    told = λ sound are.
        let has = objects_still sound are in
        let said = before.told sound are in
        let ans : IsAnswered (space old.file.metric) (query_at t q) (points_on mid.file d1) a = subst (λ (m : M). IsSoundOn (space m) mid.file d1 → IsAnswered (space m) (query_at t q) (points_on mid.file d1) a) same_metric answered (has.is_known, has.sound) in
        let hits : a.hits ≡ hits_at (space old.file.metric) points t = ans.hits ∙ ap (λ (ps : List (List ℕ)). length (scan_answers (space old.file.metric) (query_at t q) ps)) has.points_are
        ∙ ap (λ (p : List ℕ). length (scan_answers (space old.file.metric) (query_at t p) points)) is in
        let more = sum_by-map-range_with_len_more (λ (hits : ℕ). hits) (hits_at (space old.file.metric) points) 0 t t (omega arith) in
        ((let first = said.0 in omega (arith, first, hits, more)), rw ans.accepted (let first = said.1 in omega (arith, first)));
  }
