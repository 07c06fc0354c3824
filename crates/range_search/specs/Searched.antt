-- What a search walks, what it finds, and why it may fail.
use Rattle.std.specs.Prelude.{◌≡◌, ℕ, ◌+◌, ◌*◌, ◌≤◌, ◌<◌, false, List, [], ◌∷◌, length, IsTrue, Err}
use Rattle.std.specs.List.{AllByRecursion}
use Rattle.metric_laws.specs.Space.{Space}
use Rattle.outside_io.specs.Causes.{Rose}
use Rattle.scan_model.specs.declared.hit.Hit.{Hit}
use Rattle.scan_model.specs.declared.query.Query.{Query}
use Rattle.tree_shape.specs.declared.live.Live.{Live}
use Rattle.tree_shape.specs.Tree.{Nodes}
use Rattle.page_store.specs.declared.pages.PageFault.{PageFault}
use Rattle.page_store.specs.declared.pages.PageFault.TheVariants.{Disk, Bad, Outside, Memory, Repeats, Level}
use Rattle.page_store.specs.Reading.{IsWithin, is_within, nodes_of}
use Rattle.page_store.specs.Shelf.{Shelf, HoldsSame}
use Rattle.log_model.specs.declared.logs.Found.{Found}
use Rattle.log_model.specs.declared.marks.Record.{Record}
use Rattle.log_model.specs.declared.marks.Need.{Need}
use Rattle.log_model.specs.declared.tagged.TaggedHit.{TaggedHit}
use Rattle.metric_laws.specs.Counts.{count_up}
use Rattle.log_model.specs.Counts.{measured}
use Rattle.log_model.specs.Sound.{IsLogOf, IsLeastLog}
use Rattle.log_model.specs.Walk.{Search, ReachesBy, AreLeast, root_need}
use Rattle.log_model.specs.Met.{hits_among, tagged_by}

-- A walk from the root with the least marks has opened the pages of the records `records`, met the objects `tagged`, and needs the
-- pages `left`. It asked for one page for each record, and computed one distance for each entry that wasn't skipped. What the walk
-- is, is known only for pages that tell what they hold.
pub record IsUnderWay (f : Search) (old now : Shelf) (used_old used_now root : ℕ) (records : List Record) (tagged : List TaggedHit) (left : List Need) : Type 0 where
  pub holds : HoldsSame old now
  pub asked : now.asked ≡ count_up old.asked (length records)
  pub reads : now.reads ≤ old.reads + length records
  pub used : used_now ≡ count_up used_old (measured records)
  pub few_marks : AllByRecursion (λ r. length r.marks ≤ 32) records
  pub few_hits : length tagged ≤ 32 * length records
  pub walk : IsTrue old.is_known → ReachesBy AreLeast f (nodes_of old.read) (root_need root ∷ []) records (hits_among tagged) left
  pub tagged_are : IsTrue old.is_known → tagged ≡ tagged_by f.space f.point (nodes_of old.read) root records

-- the walk with the least marks opens `opened` pages and then needs page `page`
pub record Needs (f : Search) (nodes : Nodes) (root opened page : ℕ) : Type 0 where
  pub records : List Record
  pub hits : List Hit
  pub next : Need
  pub rest : List Need
  pub walk : ReachesBy AreLeast f nodes (root_need root ∷ []) records hits (next ∷ rest)
  pub is : next.page ≡ page
  pub count : length records ≡ opened

-- the same, after fewer opened pages than there are
abbrev pub NeedsInside : Search → Nodes → Live → ℕ → Type 0
NeedsInside f nodes live page = (opened : ℕ) × (opened < live.pages) × Needs f nodes live.root opened page

-- why a search fails: the disk failed; memory ran out; the walk with the least marks met a page that holds no node, or a page
-- outside the file; or it has opened as many pages as there are, and needs one more
abbrev pub HasWalkCause : Search → Live → Shelf → Shelf → PageFault → Type 0
HasWalkCause f live old new Disk = Rose old.faults new.faults
HasWalkCause f live old new Memory = Unit {0}
HasWalkCause f live old new (Bad page fault) =
    IsWithin old.pages page
    × (IsTrue old.is_known → (old.read page ≡ Err (Bad page fault)) × NeedsInside f (nodes_of old.read) live page)
HasWalkCause f live old new (Outside page) =
    (is_within old.pages page ≡ false) × (IsTrue old.is_known → (old.read page ≡ Err (Outside page)) × NeedsInside f (nodes_of old.read) live page)
HasWalkCause f live old new (Repeats page) = (new.asked ≡ count_up old.asked live.pages)
    × (IsTrue old.is_known → Needs f (nodes_of old.read) live.root live.pages page)
HasWalkCause f live old new (Level page) = ⊥

-- What a range search finds: the least log of the query, where the pages tell what they hold. It asked for one page for each record,
-- and computed one distance for each entry that isn't marked Skip.
pub record IsFound (s : Space) (live : Live) (query : Query) (old new : Shelf) (used_old used_new : ℕ) (found : Found) : Type 0 where
  pub log : IsLogOf live query found
  pub least : IsTrue old.is_known → IsLeastLog s (nodes_of old.read) live query found.log
  pub few : length found.log.records ≤ live.pages
  pub asked : new.asked ≡ count_up old.asked (length found.log.records)
  pub reads : new.reads ≤ old.reads + length found.log.records
  pub used : used_new ≡ count_up used_old (measured found.log.records)
