-- What a search for the nearest objects explores, what it answers, and why it may refuse.
use Rattle.std.specs.Prelude.{◌≡◌, ℕ, ◌+◌, ◌*◌, ◌≤◌, ◌<◌, ◌⊎◌, false, List, [], ◌∷◌, length, map, IsTrue, None, Err}
use Rattle.metric_laws.specs.Space.{Space}
use Rattle.metric_laws.specs.Lists.{IsIn}
use Rattle.outside_io.specs.Causes.{Rose}
use Rattle.scan_model.specs.declared.hit.Hit.{Hit}
use Rattle.scan_model.specs.declared.query.Query.TheVariants.{Nearest}
use Rattle.scan_model.specs.Scan.{nearest_hits}
use Rattle.tree_shape.specs.declared.live.Live.{Live}
use Rattle.tree_shape.specs.declared.entry.InnerEntry.{InnerEntry}
use Rattle.tree_shape.specs.Tree.{Nodes, IsSoundTree, points_by_id, inner_entries}
use Rattle.page_store.specs.declared.pages.PageFault.{PageFault}
use Rattle.page_store.specs.declared.pages.PageFault.TheVariants.{Disk, Bad, Outside, Memory, Repeats, Level}
use Rattle.page_store.specs.Reading.{IsWithin, is_within, nodes_of}
use Rattle.page_store.specs.Shelf.{Shelf, HoldsSame}
use Rattle.log_model.specs.declared.logs.Found.{Found}
use Rattle.log_model.specs.declared.logs.Log.{Log}
use Rattle.log_model.specs.declared.marks.Need.{Need}
use Rattle.log_model.specs.declared.marks.Record.{Record}
use Rattle.metric_laws.specs.Counts.{count_up}
use Rattle.log_model.specs.Sound.{IsLeastLog, selected}
use Rattle.log_model.specs.Walk.{search_at, ReachesBy, AreLeast, root_need}
use Rattle.nearest_search.specs.declared.pending.Pending.{Pending}
use Rattle.nearest_search.specs.Counts.{IsRadius, total}
use Rattle.nearest_search.specs.Keeping.{IsKept, AreSeenOf, KeepsFew}
use Rattle.nearest_search.specs.Machine.{Holds, entries_of, pending_root}
use Rattle.nearest_search.specs.Opened.{State}
use Rattle.nearest_search.specs.Walks.{HasOpened, OpensBefore}

-- the page is reached: it is the root, or a child of an entry in the node of a reached page; the path tells the children
abbrev pub IsReachedBy : Nodes → ℕ → List ℕ → ℕ → Type 0
IsReachedBy nodes page [] p = page ≡ p
IsReachedBy nodes page (c ∷ path) p = (e : InnerEntry) × IsIn e (inner_entries (nodes page)) × (e.child ≡ c) × IsReachedBy nodes c path p

abbrev pub IsReached : Nodes → ℕ → ℕ → Type 0
IsReached nodes root p = (path : List ℕ) × IsReachedBy nodes root path p

-- A search has opened `opened` pages, the root first, and asked for each of them once. Where the pages tell what they hold,
-- what it keeps was seen of their nodes, and it is a walk that may reach what it queues. Where they tell a sound tree, what it
-- knows is true of that tree.
pub record IsExploring (s : Space) (old now : Shelf) (live : Live) (q : List ℕ) (k : ℕ) (state : State) (opened used : ℕ) : Type 0 where
  pub same : HoldsSame old now
  pub asked : now.asked ≡ count_up old.asked opened
  pub reads : now.reads ≤ old.reads + opened
  pub few : opened ≤ live.pages
  pub keeps_few : KeepsFew state.kept
  pub begun : ((1 ≤ opened) × IsKept state.kept live.root None) ⊎ IsIn (pending_root live.root) state.queue
  pub agrees : IsTrue old.is_known → (rho : ℕ) → IsRadius k state.best rho → AreSeenOf s q rho (nodes_of old.read) state.kept
  pub reached : IsTrue old.is_known → (x : Pending) → IsIn x state.queue → IsReached (nodes_of old.read) live.root x.page
  pub walk : IsTrue old.is_known → HasOpened (nodes_of old.read) (live.root ∷ []) opened (map (λ x. x.page) state.queue)
  pub pages : List ℕ
  pub long : length pages ≡ opened
  pub spent : IsTrue old.is_known → state.used ≤ used + total (entries_of (nodes_of old.read)) pages
  pub holds : IsTrue old.is_known → IsSoundTree s (nodes_of old.read) live → Holds s (nodes_of old.read) q k live.root state.kept state.queue state.best pages

-- nothing within the radius is queued
pub record IsExplored (s : Space) (old now : Shelf) (live : Live) (q : List ℕ) (k : ℕ) (state : State) (rho opened used : ℕ) : Type 0 where
  pub radius : IsRadius k state.best rho
  pub beyond : (x : Pending) → IsIn x state.queue → rho < x.low
  pub exploring : IsExploring s old now live q k state opened used

-- The pages asked for are counted, at most `most`, and at most 32 distances were computed for each of them: one for each entry
-- that a node may have.
pub record IsFrugal (most asked used asked' used' : ℕ) : Type 0 where
  pub opened : ℕ
  pub few : opened ≤ most
  pub asked_is : asked' ≡ count_up asked opened
  pub used_few : used' ≤ used + 32 * opened

-- Why a search refuses: the disk failed or memory ran out; or a reached page holds no node, or lies outside the file; or a walk
-- opened as many pages as the file has, asked for each once, and reaches one page more.
abbrev pub HasNearestCause : Live → Shelf → Shelf → PageFault → Type 0
HasNearestCause live old new Disk = Rose old.faults new.faults
HasNearestCause live old new Memory = Unit {0}
HasNearestCause live old new (Bad page fault) =
    IsWithin old.pages page × (IsTrue old.is_known → (old.read page ≡ Err (Bad page fault)) × IsReached (nodes_of old.read) live.root page)
HasNearestCause live old new (Outside page) =
    (is_within old.pages page ≡ false) × (IsTrue old.is_known → (old.read page ≡ Err (Outside page)) × IsReached (nodes_of old.read) live.root page)
HasNearestCause live old new (Repeats page) =
    (new.asked ≡ count_up old.asked live.pages)
    × (IsTrue old.is_known → IsReached (nodes_of old.read) live.root page × OpensBefore (nodes_of old.read) (live.root ∷ []) live.pages page)
HasNearestCause live old new (Level page) = ⊥

-- the number of marks in a log, which is the number of entries in the nodes that its walk opens
abbrev pub marks_in : List Record → ℕ
marks_in rs = total (λ r. length r.marks) rs

-- On a sound tree: the scan's first k, the least log of the query, and one page asked for per record of the log.
pub record IsNearest (s : Space) (nodes : Nodes) (live : Live) (q : List ℕ) (k : ℕ) (old new : Shelf) (found : Found) : Type 0 where
  pub scanned : found.hits ≡ nearest_hits s (points_by_id nodes live) q k
  pub least : IsLeastLog s nodes live (Nearest q k) found.log
  pub asked : new.asked ≡ count_up old.asked (length found.log.records)
  pub reads : new.reads ≤ old.reads + length found.log.records

-- On any tree: the records are a front of the walk with the least marks at some radius, the root's record among them, and the
-- answers are the first k that this front names. So a root that holds no node has no answer.
pub record IsFront (s : Space) (nodes : Nodes) (live : Live) (q : List ℕ) (k : ℕ) (log : Log) : Type 0 where
  pub rho : ℕ
  pub hits : List Hit
  pub left : List Need
  pub walk : ReachesBy AreLeast (search_at s q rho) nodes (root_need live.root ∷ []) log.records hits left
  pub some : 1 ≤ length log.records
  pub answers_are : log.answers ≡ selected (Nearest q k) hits
