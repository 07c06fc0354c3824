-- What a join answers, and why it may refuse.
use Rattle.std.specs.Prelude.{◌≡◌, ◌⊎◌, ℕ, ◌+◌, ◌≤◌, Bool, true, false, List, [], ◌∷◌, length, IsTrue}
use Rattle.metric_laws.specs.Space.{Space}
use Rattle.tree_shape.specs.declared.live.Live.{Live}
use Rattle.page_store.specs.declared.pages.PageFault.{PageFault}
use Rattle.page_store.specs.declared.pages.PageFault.TheVariants as pages
use Rattle.page_store.specs.Reading.{nodes_of}
use Rattle.page_store.specs.Shelf.{Shelf}
use Rattle.log_model.specs.declared.logs.Joined.{Joined}
use Rattle.log_model.specs.declared.marks.JoinRecord.{JoinRecord}
use Rattle.metric_laws.specs.Counts.{count_up, CountsUpTo}
use Rattle.log_model.specs.Counts.{join_measured}
use Rattle.log_model.specs.Grammar.{IsValidJoinLog}
use Rattle.log_model.specs.SoundJoin.{IsLeastJoinLog}
use Rattle.page_store.specs.Tours.{Tours, IsToured, Names, HasTourCause}
use Rattle.metric_join.specs.declared.faults.JoinFault.{JoinFault}
use Rattle.metric_join.specs.declared.faults.JoinFault.TheVariants.{Left, Right, Memory}

-- the log has a spelling, and names the live trees and the radius; the pairs are the log's answers
pub record IsJoinLogOf (l r : Live) (radius : ℕ) (joined : Joined) : Type 0 where
  pub pairs_are : joined.pairs ≡ joined.log.answers
  pub left_is : joined.log.left ≡ (l.generation, l.root)
  pub right_is : joined.log.right ≡ (r.generation, r.root)
  pub radius_is : joined.log.r ≡ radius
  pub valid : IsValidJoinLog joined.log

-- the number of a log's records on one side
abbrev pub is_on : Bool → Bool → ℕ
is_on true true = 1
is_on false false = 1
is_on _ _ = 0

abbrev pub opened_on : Bool → List JoinRecord → ℕ
opened_on side [] = 0
opened_on side (r ∷ rs) = is_on side r.right + opened_on side rs

-- The walk of the live tree by child numbers was whole and opened no more pages than there are. The side was asked for each of them
-- once, and `further` times after that.
pub record IsWalked (live : Live) (old new : Shelf) (further : ℕ) : Type 0 where
  pub opened : ℕ
  pub few : opened ≤ live.pages
  pub whole : IsTrue old.is_known → (pages : List ℕ) × Tours (nodes_of old.read) (live.root ∷ []) pages [] × (length pages ≡ opened)
  pub asked : new.asked ≡ count_up old.asked (opened + further)

-- What a join answers: where both trees' pages tell what they hold, the least log of the join. Each tree was walked whole first. Then
-- a page was asked for once per record of its side, and no distance was computed for an entry that is marked Skip.
pub record IsJoined (s : Space) (l r : Live) (radius : ℕ) (left left2 right right2 : Shelf) (used used2 : ℕ) (joined : Joined) : Type 0 where
  pub log : IsJoinLogOf l r radius joined
  pub least : IsTrue left.is_known → IsTrue right.is_known → IsLeastJoinLog s (nodes_of left.read) (nodes_of right.read) l r radius joined.log
  pub left_walked : IsWalked l left left2 (opened_on false joined.log.records)
  pub right_walked : IsWalked r right right2 (opened_on true joined.log.records)
  pub distances : CountsUpTo used used2 (join_measured joined.log.records)

-- What a side was asked for before a page repeats: by the first walk exactly as many pages as there are; or by a whole first walk, and
-- then by the walk of pairs at least as many. The second case comes only where the pages don't tell what they hold.
abbrev pub AsksTooMany : Live → Shelf → Shelf → Type 0
AsksTooMany live old new =
    (new.asked ≡ count_up old.asked live.pages) ⊎ ((further : ℕ) × (live.pages ≤ further) × IsWalked live old new further × (IsTrue old.is_known → ⊥))

-- why a side's page is refused: for the causes of the first walk except Memory, which belongs to no side; a page may repeat in the
-- walk of pairs as well
abbrev pub HasSideCause : Live → Shelf → Shelf → PageFault → Type 0
HasSideCause live old new pages.Memory = ⊥
HasSideCause live old new (pages.Repeats page) = AsksTooMany live old new × (IsTrue old.is_known → Names (nodes_of old.read) live.root live.pages page)
HasSideCause live old new fault = HasTourCause live old new fault

-- why a join is refused: a page of the left tree; a page of the right tree, after the left one was walked whole; or memory ran out
abbrev pub HasJoinCause : Live → Live → Shelf → Shelf → Shelf → Shelf → JoinFault → Type 0
HasJoinCause l r left left2 right right2 (Left fault) = HasSideCause l left left2 fault
HasJoinCause l r left left2 right right2 (Right fault) = HasSideCause r right right2 fault × (IsTrue left.is_known → IsToured (nodes_of left.read) l)
HasJoinCause l r left left2 right right2 Memory = Unit {0}

-- faults that may come at any time: a disk failed, or memory ran out
abbrev pub IsPassing : JoinFault → Type 0
IsPassing (Left pages.Disk) = Unit {0}
IsPassing (Right pages.Disk) = Unit {0}
IsPassing Memory = Unit {0}
IsPassing _ = ⊥

-- the fault of a join, given the side and the page's fault
abbrev pub fault_of : Bool → PageFault → JoinFault
fault_of right pages.Memory = Memory
fault_of true fault = Right fault
fault_of false fault = Left fault
