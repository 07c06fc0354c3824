-- The steps of the join's walk.
use Rattle.std.specs.Prelude.{◌≡◌, ℕ, ◌+◌, ◌-◌, ◌^◌, ◌≤◌, true, false, List, [], ◌∷◌, ◌++◌, map, length, IsTrue, if◌then◌else◌}
use Rattle.std.specs.List.{AllByRecursion}
use Rattle.metric_laws.specs.Counts.{next_count, count_up, CountsUpTo}
use Rattle.scan_model.specs.declared.hit.Pair.{Pair}
use Rattle.tree_shape.specs.declared.live.Live.{Live}
use Rattle.tree_shape.specs.declared.entry.Node.{Node}
use Rattle.page_store.specs.declared.pages.PageFault.{PageFault}
use Rattle.page_store.specs.declared.pages.PageFault.TheVariants as pages
use Rattle.outside_io.specs.Causes.{Rose}
use Rattle.page_store.specs.Reading.{IsWithin, is_within, nodes_of}
use Rattle.page_store.specs.Shelf.{Shelf, HoldsSame, IsNodeOf, HasPageCause}
use Rattle.log_model.specs.declared.marks.Mark.{Mark}
use Rattle.log_model.specs.declared.marks.Mark.TheVariants.{Skip, Far, Near}
use Rattle.log_model.specs.declared.marks.JoinRecord.{JoinRecord}
use Rattle.log_model.specs.Items.{Item, Subtree, Object}
use Rattle.log_model.specs.declared.pairs.JoinNeed.{JoinNeed}
use Rattle.log_model.specs.Counts.{measured_by, join_measured}
use Rattle.log_model.specs.Walk.{near_ones}
use Rattle.log_model.specs.JoinWalk.{JoinSearch, JoinLeast, JoinWalksBy, Entry, radius_of, page_of, opens_right, opened, other, with_entry, far_apart, far_stored, is_need, least_for_entry}
use Rattle.log_model.specs.JoinSteps.{apart_from, hits_among, needs_among}
use Rattle.log_model.specs.SoundJoin.{root_pair}
use Rattle.page_store.specs.Tours.{IsWhole}
use Rattle.metric_join.specs.Joined.{opened_on}
use Rattle.metric_join.specs.declared.faults.JoinFault.{JoinFault}
use Rattle.metric_join.specs.declared.faults.JoinFault.TheVariants.{Left, Right, Memory}
use Rattle.metric_join.specs.declared.opening.Opening.{Opening}
use Rattle.metric_join.specs.declared.walking.Waiting.{Waiting}

-- the least mark of an entry by its own distance, given its point and radius
abbrev pub measured_at : JoinSearch → JoinNeed → List ℕ → ℕ → Mark
measured_at j n point radius = if far_apart (apart_from j.space n point) j.rho radius (radius_of (other n)) then Far else Near

-- the least mark of an entry, given its point, parent distance and radius
abbrev pub least_at : JoinSearch → JoinNeed → List ℕ → ℕ → ℕ → Mark
least_at j n point stored radius = if far_stored n.apart stored j.rho (radius + radius_of (other n)) then Skip else measured_at j n point radius

-- the least marks of entries, and the pairs that they leave
abbrev pub marks_for : JoinSearch → JoinNeed → List Entry → List Mark
marks_for j n es = map (least_for_entry j n) es

abbrev pub pairs_for : JoinSearch → JoinNeed → List Entry → List JoinNeed
pairs_for j n es = map (with_entry j.space n) (near_ones es (marks_for j n es))

-- the entries were marked, and the pairs that they leave were added
pub record TakesEntries (j : JoinSearch) (n : JoinNeed) (es : List Entry) (old new : Opening) : Type 0 where
  pub marks : new.marks.items ≡ old.marks.items ++ marks_for j n es
  pub hits : new.matches.hits.items ≡ old.matches.hits.items ++ hits_among (pairs_for j n es)
  pub needs : new.matches.needs.items ≡ old.matches.needs.items ++ needs_among (pairs_for j n es)

-- the waiting pairs, and how much there is still to walk
abbrev pub needs_in : List Waiting → List JoinNeed
needs_in ws = map (λ w. w.need) ws

abbrev pub weight_of : Waiting → ℕ
weight_of w = 33 ^ (w.left_room + w.right_room)

abbrev pub weight : List Waiting → ℕ
weight [] = 0
weight (w ∷ ws) = weight_of w + weight ws

-- a subtree was named by an inner node, or is a root; the walk from its page is whole within the room that is left
abbrev pub IsStanding : Shelf → Item → ℕ → Type 0
IsStanding shelf (Subtree page rank centre radius) room = (1 ≤ rank) × (IsTrue shelf.is_known → IsWhole (nodes_of shelf.read) page room)
IsStanding shelf (Object id point) room = Unit {0}

-- a waiting pair, when `lefts` and `rights` nodes were opened on the two sides
pub record IsWaiting (l r : Live) (left right : Shelf) (lefts rights : ℕ) (w : Waiting) : Type 0 where
  pub need : IsTrue (is_need w.need)
  pub left_stands : IsStanding left w.need.left w.left_room
  pub right_stands : IsStanding right w.need.right w.right_room
  pub left_room : l.pages ≤ w.left_room + lefts
  pub right_room : r.pages ≤ w.right_room + rights

-- a join that walked the least walk so far: what is left to walk makes the whole walk
pub record IsUnderWay (j : JoinSearch) (l r : Live) (left left2 right right2 : Shelf) (used used2 : ℕ) (records : List JoinRecord)
    (hits : List Pair) (stack : List Waiting) : Type 0 where
  pub left_holds : HoldsSame left left2
  pub right_holds : HoldsSame right right2
  pub left_asked : left2.asked ≡ count_up left.asked (opened_on false records)
  pub right_asked : right2.asked ≡ count_up right.asked (opened_on true records)
  pub used_up : CountsUpTo used used2 (join_measured records)
  pub few_marks : AllByRecursion (λ r. length r.marks ≤ 32) records
  pub waits : AllByRecursion (IsWaiting l r left right (opened_on false records) (opened_on true records)) stack
  pub walk : IsTrue left.is_known → IsTrue right.is_known → (rs : List JoinRecord) (hs : List Pair) →
      JoinWalksBy JoinLeast j (nodes_of left.read) (nodes_of right.read) (needs_in stack) rs hs →
      JoinWalksBy JoinLeast j (nodes_of left.read) (nodes_of right.read) (root_pair l r ∷ []) (records ++ rs) (hits ++ hs)

-- the waiting pair of a need that an opened pair leaves, with the room that is left on each side
abbrev pub following : Waiting → JoinNeed → Waiting
following w need =
    if opens_right w.need
    then record { need = need; left_room = w.left_room; right_room = w.right_room - 1 }
    else record { need = need; left_room = w.left_room - 1; right_room = w.right_room }

-- the record of an opened pair
abbrev pub record_for : Waiting → List Mark → JoinRecord
record_for w marks = record { right = opens_right w.need; page = page_of (opened w.need); marks = marks }

-- a page of one side was asked for once and gave `node`; the other side was left alone
pub record IsOpenedOn (side side2 other other2 : Shelf) (page room : ℕ) (node : Node) : Type 0 where
  pub is : IsNodeOf side page node
  pub asked : side2.asked ≡ next_count side.asked
  pub has_room : 1 ≤ room
  pub alone : other2 ≡ other

abbrev pub IsOpened : Shelf → Shelf → Shelf → Shelf → Waiting → Node → Type 0
IsOpened left left2 right right2 w node =
    (opens_right w.need ≡ false → IsOpenedOn left left2 right right2 (page_of (opened w.need)) w.left_room node)
    × (opens_right w.need ≡ true → IsOpenedOn right right2 left left2 (page_of (opened w.need)) w.right_room node)

-- why a side's page gives no node: its path has no room left, or the page's own cause
abbrev pub HasStop : ℕ → Shelf → Shelf → ℕ → PageFault → Type 0
HasStop room old new page (pages.Repeats p) = (p ≡ page) × (room ≡ 0) × (new ≡ old)
HasStop room old new page fault = HasPageCause old new page fault

-- why a pair is not opened
abbrev pub HasStopped : Shelf → Shelf → Shelf → Shelf → Waiting → JoinFault → Type 0
HasStopped left left2 right right2 w (Left pages.Memory) = ⊥
HasStopped left left2 right right2 w (Right pages.Memory) = ⊥
HasStopped left left2 right right2 w (Left fault) = (opens_right w.need ≡ false) × HasStop w.left_room left left2 (page_of (opened w.need)) fault
HasStopped left left2 right right2 w (Right fault) = (opens_right w.need ≡ true) × HasStop w.right_room right right2 (page_of (opened w.need)) fault
HasStopped left left2 right right2 w Memory = Unit {0}

-- distances were computed for some of the marks that were added, and for none that is Skip
abbrev pub CountsMarks : ℕ → ℕ → List Mark → List Mark → Type 0
CountsMarks used used2 old new = (n : ℕ) × (measured_by old + n ≤ measured_by new) × (used2 ≡ count_up used n)

-- why the walk of pairs stops on a side: the disk failed; where the pages tell what they hold nothing else comes, since the first
-- walk was whole
abbrev pub HasSideStop : Live → Shelf → Shelf → PageFault → Type 0
HasSideStop live old new pages.Disk = Rose old.faults new.faults
HasSideStop live old new (pages.Bad page fault) = IsWithin old.pages page × (IsTrue old.is_known → ⊥)
HasSideStop live old new (pages.Outside page) = (is_within old.pages page ≡ false) × (IsTrue old.is_known → ⊥)
HasSideStop live old new (pages.Repeats page) = ((asked : ℕ) × (live.pages ≤ asked) × (new.asked ≡ count_up old.asked asked)) × (IsTrue old.is_known → ⊥)
HasSideStop live old new pages.Memory = ⊥
HasSideStop live old new (pages.Level page) = ⊥

abbrev pub HasWalkCause : Live → Live → Shelf → Shelf → Shelf → Shelf → JoinFault → Type 0
HasWalkCause l r left left2 right right2 (Left fault) = HasSideStop l left left2 fault
HasWalkCause l r left left2 right right2 (Right fault) = HasSideStop r right right2 fault
HasWalkCause l r left left2 right right2 Memory = Unit {0}
