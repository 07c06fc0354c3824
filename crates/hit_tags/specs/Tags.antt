-- The tags of a query's hits, and why there may be none.
use Rattle.std.specs.Prelude.{◌≡◌, ◌⊎◌, ℕ, List, [], ◌∷◌, map, IsTrue, slice_index_or, if◌then◌else◌, ◌==◌}
use Rattle.metric_laws.specs.Space.{Space}
use Rattle.scan_model.specs.declared.hit.Hit.{Hit}
use Rattle.tree_shape.specs.declared.entry.LeafEntry.{LeafEntry}
use Rattle.tree_shape.specs.declared.live.Live.{Live}
use Rattle.tree_shape.specs.Tree.{Nodes, IsSoundTree, tag_of, tags_by_id}
use Rattle.page_store.specs.declared.pages.PageFault.{PageFault}
use Rattle.page_store.specs.declared.pages.PageFault.TheVariants.{Memory}
use Rattle.page_store.specs.Reading.{nodes_of}
use Rattle.page_store.specs.Shelf.{Shelf, HasPageCause}
use Rattle.log_model.specs.declared.logs.Found.{Found}
use Rattle.log_model.specs.declared.marks.Record.{Record}
use Rattle.log_model.specs.declared.tagged.TaggedHit.{TaggedHit}
use Rattle.log_model.specs.Met.{met}
use Rattle.log_model.specs.Sound.{IsSoundLog}
use Rattle.hit_tags.specs.Comes.{ComesTo}

-- the tag of the first of these hits that has the id, or 0 where none has it
abbrev pub tag_among : ℕ → List TaggedHit → ℕ
tag_among id [] = 0
tag_among id (t ∷ ts) = if t.hit.id == id then t.tag else tag_among id ts

-- for each hit the tag of the first object with its id, or 0 where no object has it
abbrev pub tags_among : List LeafEntry → List Hit → List ℕ
tags_among objects hits = map (λ h. tag_of h.id objects) hits

-- these tags from the objects that the walk of the live tree by the found log meets
abbrev pub met_tags : Nodes → Live → Found → List ℕ
met_tags nodes t found = tags_among (met nodes (t.root ∷ []) found.log.records) found.hits

-- the tags of the tree's objects with the hits' ids
abbrev pub object_tags : Nodes → Live → Found → List ℕ
object_tags nodes t found = map (λ h. slice_index_or (tags_by_id nodes t) h.id 0) found.hits

-- a hit's tag is that of the tree's object with its id, or 0
abbrev pub IsOwnTag : Nodes → Live → Hit → ℕ → Type 0
IsOwnTag nodes t h tag = (tag ≡ slice_index_or (tags_by_id nodes t) h.id 0) ⊎ (tag ≡ 0)

-- the log shows what was found: the tree is sound, the log is sound on it, and the hits are the log's answers
pub record IsShown (s : Space) (nodes : Nodes) (t : Live) (found : Found) : Type 0 where
  pub tree : IsSoundTree s nodes t
  pub log : IsSoundLog s nodes t found.log
  pub hits_are : found.hits ≡ found.log.answers

-- why the walk of the needed pages by the records stopped: memory ran out, or a page that it reached gave no node
abbrev pub HasTagsCause : Shelf → Shelf → List ℕ → List Record → PageFault → Type 0
HasTagsCause old new needed records Memory = Unit {0}
HasTagsCause old new needed records fault =
    (page : ℕ) × HasPageCause old new page fault × (IsTrue old.is_known → ComesTo (nodes_of old.read) needed records page)
