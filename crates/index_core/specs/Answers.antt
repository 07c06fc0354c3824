-- What the reading calls of an opened index answer, and why they refuse.
use Rattle.std.specs.Prelude.{◌≡◌, ℕ, ◌+◌, ◌≤◌, min, List, [], ◌∷◌, length, Vec, vec_len, IsTrue, Result, IfOk, IfErr}
use Rattle.std.specs.List.{AllZip}
use Rattle.std.specs.declared.alloc.Global.{Global}
use Rattle.metric_laws.specs.Space.{Space, bound}
use Rattle.disk_model.specs.Disk.{DiskState}
use Rattle.scan_model.specs.declared.query.Query.{Query}
use Rattle.tree_shape.specs.Tree.{IsSoundTree, points_by_id, tags_by_id}
use Rattle.log_model.specs.declared.logs.Found.{Found}
use Rattle.metric_laws.specs.Counts.{count_up}
use Rattle.log_model.specs.Counts.{measured}
use Rattle.log_model.specs.Grammar.{query_point}
use Rattle.log_model.specs.Laws.{scan_answers}
use Rattle.log_model.specs.Met.{tagged_by}
use Rattle.log_model.specs.Sound.{IsLogOf, IsLeastLog}
use Rattle.log_model.specs.Walk.{search_at}
use Rattle.hit_tags.specs.Tags.{met_tags, object_tags, IsOwnTag, IsShown, HasTagsCause}
use Rattle.range_search.specs.Searched.{IsFound, HasWalkCause}
use Rattle.nearest_search.specs.Searched.{HasNearestCause}
use Rattle.index_core.specs.declared.faults.IndexFault.{IndexFault}
use Rattle.page_store.specs.Tours.{HasTourCause}
use Rattle.tree_outline.specs.declared.outline.Shape.{Shape}
use Rattle.tree_outline.specs.Shapes.{root_named, tree_lines, DrawsTo, IsCounted}
use Rattle.index_core.specs.Causes.{HasReadCause, MayComeAnytime}
use Rattle.index_core.specs.Files.{OpenFile, pages_on, nodes_on}

-- the disk tells its bytes, and the live tree in them is sound in the space
abbrev pub IsSoundOn : {M : Type 0} → Space → OpenFile M → DiskState → Type 0
IsSoundOn s file disk = IsTrue disk.is_known × IsSoundTree s (nodes_on file disk) file.live

-- the points of the objects, in order of id
abbrev pub points_on : {M : Type 0} → OpenFile M → DiskState → List (List ℕ)
points_on file disk = points_by_id (nodes_on file disk) file.live

-- and their tags
abbrev pub tags_on : {M : Type 0} → OpenFile M → DiskState → List ℕ
tags_on file disk = tags_by_id (nodes_on file disk) file.live

-- What a search finds on a sound file: the plain scan's answers and the least log of the query. The disk was read at most once per
-- record of it.
pub record IsAnswerOn {M : Type 0} (s : Space) (file : OpenFile M) (query : Query) (old new : DiskState) (found : Found) : Type 0 where
  pub hits : found.hits ≡ scan_answers s query (points_on file old)
  pub least : IsLeastLog s (nodes_on file old) file.live query found.log
  pub reads : new.reads ≤ old.reads + length found.log.records

-- What a search gives: a log of the query that can be spelled, and the objects that its walk meets where the disk tells its bytes; on
-- a sound file the answer, and no refusal but for the disk or memory.
pub record HasSearched {M : Type 0} (s : Space) (file : OpenFile M) (query : Query) (old new : DiskState) (result : Result Found IndexFault) : Type 0 where
  pub log : IfOk result (IsLogOf file.live query)
  pub tagged : IfOk result (λ found. IsTrue old.is_known →
      found.tagged ≡ tagged_by s (query_point query) (nodes_on file old) file.live.root found.log.records)
  pub answer : IsSoundOn s file old → IfOk result (IsAnswerOn s file query old new)
  pub undamaged : IsSoundOn s file old → IfErr result MayComeAnytime

-- What a range search finds: where the disk tells its bytes, the least log of the query. The disk was read at most once per
-- record of it.
abbrev pub IsFoundOn : {M : Type 0} → Space → OpenFile M → Query → DiskState → DiskState → Found → Type 0
IsFoundOn s file query old new found =
    IsFound s file.live query (pages_on file old 0) (pages_on file new (count_up 0 (length found.log.records))) 0
    (count_up 0 (measured found.log.records)) found

-- why a range search refuses: the disk failed, memory ran out, or the walk with the least marks came to a damaged page
abbrev pub HasRangeCause : {M : Type 0} → Space → OpenFile M → List ℕ → ℕ → DiskState → DiskState → IndexFault → Type 0
HasRangeCause s file q r old new =
    HasReadCause (HasWalkCause (search_at s q (min r bound)) file.live (pages_on file old 0)
    (pages_on file new (count_up 0 file.live.pages)))

-- why a search for the nearest refuses: the disk failed, memory ran out, or a reached page is damaged
abbrev pub HasReachCause : {M : Type 0} → OpenFile M → DiskState → DiskState → IndexFault → Type 0
HasReachCause file old new = HasReadCause (HasNearestCause file.live (pages_on file old 0) (pages_on file new (count_up 0 file.live.pages)))

-- why the walk of a shape refuses: the disk failed, memory ran out, or the walk in pre-order came to a damaged page
abbrev pub HasDrawCause : {M : Type 0} → OpenFile M → DiskState → DiskState → IndexFault → Type 0
HasDrawCause file old new = HasReadCause (HasTourCause file.live (pages_on file old 0) (pages_on file new (count_up 0 file.live.pages)))

-- What the walk of a shape gives: a line for each node that the disk was read for; where the disk tells its bytes, the lines of the
-- nodes that child numbers lead to, in pre-order; on a sound file those of the live tree, and no refusal but for the disk or memory.
pub record HasDrawn {M : Type 0} (s : Space) (file : OpenFile M) (old new : DiskState) (result : Result Shape IndexFault) : Type 0 where
  pub counted : IfOk result (IsCounted file.live)
  pub reads : IfOk result (λ shape. new.reads ≤ old.reads + length shape.lines)
  pub walk : IfOk result (λ shape. IsTrue old.is_known → DrawsTo (nodes_on file old) (root_named file.live.root ∷ []) shape.lines [])
  pub lines : IfOk result (λ shape. IsSoundOn s file old → shape.lines ≡ tree_lines (nodes_on file old) file.live)
  pub cause : IfErr result (HasDrawCause file old new)
  pub undamaged : IsSoundOn s file old → IfErr result MayComeAnytime

-- why there are no tags of what was found: the disk failed, memory ran out, or the walk by the found log came to a damaged page
abbrev pub HasTagCause : {M : Type 0} → OpenFile M → Found → DiskState → DiskState → IndexFault → Type 0
HasTagCause file found old new = HasReadCause (HasTagsCause (pages_on file old 0) (pages_on file new 0) (file.live.root ∷ []) found.log.records)

-- What the walk by a found log gives: a tag for each hit; where the disk tells its bytes, that of the first object with its id that
-- the walk meets; where the log shows the hits, those of the hits' objects. On a sound file no hit has another object's tag,
-- whatever the log says, and only the disk or memory refuses. The disk was read at most once per record of the log.
pub record HasTagged {M : Type 0} (s : Space) (file : OpenFile M) (found : Found) (old new : DiskState)
    (result : Result (Vec ℕ Global) IndexFault) : Type 0 where
  pub each : IfOk result (λ tags. vec_len tags ≡ length found.hits)
  pub met : IfOk result (λ tags. IsTrue old.is_known → tags.items ≡ met_tags (nodes_on file old) file.live found)
  pub own : IfOk result (λ tags. IsSoundOn s file old → AllZip (IsOwnTag (nodes_on file old) file.live) found.hits tags.items)
  pub objects : IfOk result (λ tags. IsTrue old.is_known → IsShown s (nodes_on file old) file.live found →
      tags.items ≡ object_tags (nodes_on file old) file.live found)
  pub reads : new.reads ≤ old.reads + length found.log.records
  pub cause : IfErr result (HasTagCause file found old new)
  pub undamaged : IsSoundOn s file old → IfErr result MayComeAnytime
