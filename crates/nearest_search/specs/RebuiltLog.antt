-- The log of a search is written by a walk over what it kept of the opened pages.
use Rattle.std.specs.Prelude.{◌≡◌, ◌⊎◌, ℕ, ◌*◌, ◌≤◌, List, [], ◌∷◌, ◌++◌, length, reverse, None}
use Rattle.std.specs.List.{AllByRecursion}
use Rattle.metric_laws.specs.Space.{Space}
use Rattle.tree_shape.specs.declared.live.Live.{Live}
use Rattle.tree_shape.specs.Tree.{Nodes}
use Rattle.log_model.specs.declared.marks.Record.{Record}
use Rattle.log_model.specs.declared.marks.Need.{Need}
use Rattle.log_model.specs.declared.tagged.TaggedHit.{TaggedHit}
use Rattle.log_model.specs.Walk.{search_at, ReachesBy, AreLeast, root_need}
use Rattle.log_model.specs.Met.{hits_among, tagged_by}
use Rattle.log_model.specs.declared.traversal.Traversal.{Traversal}
use Rattle.nearest_search.specs.Seeing.{Seen, tagged_near, needs_seen, record_seen}
use Rattle.nearest_search.specs.Keeping.{Sheets, AreSeenOf}

-- the walk needs nothing more, or has taken as many pages as there are, or needs a page that is not kept
abbrev pub IsStopped : Sheets → Live → List Record → List Need → Type 0
IsStopped kept live records [] = Unit {0}
IsStopped kept live records (n ∷ ns) = (length records ≡ live.pages) ⊎ (kept n.page n.above ≡ None)

-- for all nodes that what is kept was seen of, a walk with the least marks at the radius reaches this state, and has met these objects
abbrev pub IsWalk : ℕ → Sheets → ℕ → List Record → List TaggedHit → List Need → Type 0
IsWalk rho kept root records tagged left =
    (s : Space) (q : List ℕ) (nodes : Nodes) → AreSeenOf s q rho nodes kept →
    ReachesBy AreLeast (search_at s q rho) nodes (root_need root ∷ []) records (hits_among tagged) left × (tagged ≡ tagged_by s q nodes root records)

-- a page that was needed was taken in by what was seen of its entries
pub record TakesSeen (rho : ℕ) (n : Need) (seen : Seen) (old new : Traversal) : Type 0 where
  pub tagged : new.tagged.items ≡ old.tagged.items ++ tagged_near rho seen
  pub records : new.records.items ≡ old.records.items ++ record_seen rho n.page seen ∷ []
  pub needs : reverse new.stack.items ≡ needs_seen rho seen ++ reverse old.stack.items

-- the walk over what is kept has reached this state
pub record IsRebuilding (rho : ℕ) (kept : Sheets) (root : ℕ) (records : List Record) (tagged : List TaggedHit) (left : List Need) : Type 0 where
  pub walk : IsWalk rho kept root records tagged left
  pub few_marks : AllByRecursion (λ r. length r.marks ≤ 32) records
  pub few_hits : length tagged ≤ 32 * length records

-- the walk over what is kept has ended
pub record IsRebuiltLog (rho : ℕ) (kept : Sheets) (live : Live) (records : List Record) (tagged : List TaggedHit) : Type 0 where
  pub left : List Need
  pub walk : IsWalk rho kept live.root records tagged left
  pub ends : IsStopped kept live records left
  pub few : length records ≤ live.pages
  pub few_marks : AllByRecursion (λ r. length r.marks ≤ 32) records
  pub few_hits : length tagged ≤ 32 * length records
