-- Why the walk of pairs stops.
use Rattle.std.proofs.Common.{◌≡◌, ℕ, ◌+◌, ◌≤◌, Bool, true, false, List, ◌∷◌, refl, sym, ap, subst, ◌∙◌, None, Err, arith}
use Rattle.std.specs.Prelude.{IsTrue}
use Rattle.scan_model.specs.declared.hit.Pair.{Pair}
use Rattle.tree_shape.specs.declared.live.Live.{Live}
use Rattle.page_store.specs.declared.pages.PageFault.{PageFault}
use Rattle.page_store.specs.declared.pages.PageFault.TheVariants.{Disk, Bad, Outside, Memory, Repeats, Level}
use Rattle.page_store.specs.Reading.{Read, nodes_of, node_or_none, IsWithin, is_within}
use Rattle.page_store.specs.Shelf.{Shelf, HoldsSame}
use Rattle.log_model.specs.declared.marks.JoinRecord.{JoinRecord}
use Rattle.metric_laws.specs.Counts.{count_up}
use Rattle.log_model.specs.JoinWalk.{JoinSearch, page_of, opens_right, opened}
use Rattle.log_model.proofs.Published.{opened_side}
use Rattle.page_store.specs.Tours.{IsWhole}
use Rattle.metric_join.specs.Joined.{opened_on}
use Rattle.metric_join.specs.declared.faults.JoinFault.{JoinFault}
use Rattle.metric_join.specs.declared.faults.JoinFault.TheVariants as join
use Rattle.metric_join.specs.declared.walking.Waiting.{Waiting}
use Rattle.metric_join.specs.Steps.{IsWaiting, IsUnderWay, HasStop, HasStopped, HasSideStop, HasWalkCause}
use Rattle.metric_join.proofs.Tours.{whole_opens}
use Rattle.metric_join.proofs.Standing.{opened_whole}

-- a page of one side, whose path may go through `room` more nodes
module _ (live : Live) (old now next : Shelf) (page room asked : ℕ) (holds : HoldsSame old now) (count : now.asked ≡ count_up old.asked asked) (enough : live.pages ≤ room + asked)
    (whole : IsTrue old.is_known → IsWhole (nodes_of old.read) page room) where
  no_fault : (fault : PageFault) → now.read page ≡ Err fault → IsTrue old.is_known → ⊥
  no_fault fault is is_known =
      let node = whole_opens (nodes_of old.read) page room (whole is_known) in
      let same = node.1 in
      let none : nodes_of old.read page ≡ None = ap (λ (r : Read). node_or_none (r page)) (sym holds.read) ∙ ap node_or_none is in
      cc

  side_stop : (fault : PageFault) → (fault ≡ Memory → ⊥) → HasStop room now next page fault → HasSideStop live old next fault
  side_stop Disk passes stop = (let l = holds.faults in let c = stop in omega arith)
  side_stop (Bad p fault) passes stop = (
    subst (λ (n : ℕ). IsWithin n p) holds.pages (subst (λ (k : ℕ). IsWithin now.pages k) (sym stop.0) stop.1),
    λ is_known. no_fault (Bad page fault) (stop.2 (rw holds.is_known is_known)) is_known,
  )
  side_stop (Outside p) passes stop = (
    subst (λ (n : ℕ). is_within n p ≡ false) holds.pages (subst (λ (k : ℕ). is_within now.pages k ≡ false) (sym stop.0) stop.1),
    λ is_known. no_fault (Outside page) (stop.2 (rw holds.is_known is_known)) is_known,
  )
  side_stop Memory passes stop = absurd (passes refl)
  side_stop (Repeats p) passes stop = (
    (asked, (let none = stop.1 in omega (arith, enough, none)), ap (λ (s : Shelf). s.asked) stop.2 ∙ count),
    λ is_known.
        let some = (whole_opens (nodes_of old.read) page room (whole is_known)).2 in
        let none = stop.1 in
        absurd (omega (arith, some, none)),
  )
  side_stop (Level p) passes stop = absurd stop

pub walk_stops : (j : JoinSearch) (l r : Live) (left1 left left2 right1 right right2 : Shelf) (used1 used : ℕ) (records : List JoinRecord) (hits : List Pair) (w : Waiting) (rest : List Waiting) →
    IsUnderWay j l r left1 left right1 right used1 used records hits (w ∷ rest) → (fault : JoinFault) → HasStopped left left2 right right2 w fault → HasWalkCause l r left1 left2 right1 right2 fault
walk_stops j l r left1 left left2 right1 right right2 used1 used records hits w rest before join.Memory stopped = tt
walk_stops j l r left1 left left2 right1 right right2 used1 used records hits w rest before (join.Left fault) stopped = cases fault stopped
  where
    waits : IsWaiting l r left1 right1 (opened_on false records) (opened_on true records) w
    waits = before.waits.0

    stop : (f : PageFault) → (f ≡ Memory → ⊥) → opens_right w.need ≡ false → HasStop w.left_room left left2 (page_of (opened w.need)) f → HasSideStop l left1 left2 f
    stop f passes opens why =
        side_stop l left1 left left2 (page_of w.need.left) w.left_room (opened_on false records) before.left_holds before.left_asked waits.left_room
        (opened_whole l r left1 right1 (opened_on false records) (opened_on true records) w waits false opens) f passes
        (subst (λ (b : Bool). HasStop w.left_room left left2 (page_of (opened_side w.need b)) f) opens why)

    cases : (f : PageFault) → HasStopped left left2 right right2 w (join.Left f) → HasSideStop l left1 left2 f
    cases Disk why = stop Disk (λ e. absurd (cc)) why.0 why.1
    cases (Bad p k) why = stop (Bad p k) (λ e. absurd (cc)) why.0 why.1
    cases (Outside p) why = stop (Outside p) (λ e. absurd (cc)) why.0 why.1
    cases Memory why = absurd why
    cases (Repeats p) why = stop (Repeats p) (λ e. absurd (cc)) why.0 why.1
    cases (Level p) why = stop (Level p) (λ e. absurd (cc)) why.0 why.1
walk_stops j l r left1 left left2 right1 right right2 used1 used records hits w rest before (join.Right fault) stopped = cases fault stopped
  where
    waits : IsWaiting l r left1 right1 (opened_on false records) (opened_on true records) w
    waits = before.waits.0

    stop : (f : PageFault) → (f ≡ Memory → ⊥) → opens_right w.need ≡ true → HasStop w.right_room right right2 (page_of (opened w.need)) f → HasSideStop r right1 right2 f
    stop f passes opens why =
        side_stop r right1 right right2 (page_of w.need.right) w.right_room (opened_on true records) before.right_holds before.right_asked waits.right_room
        (opened_whole l r left1 right1 (opened_on false records) (opened_on true records) w waits true opens) f passes
        (subst (λ (b : Bool). HasStop w.right_room right right2 (page_of (opened_side w.need b)) f) opens why)

    cases : (f : PageFault) → HasStopped left left2 right right2 w (join.Right f) → HasSideStop r right1 right2 f
    cases Disk why = stop Disk (λ e. absurd (cc)) why.0 why.1
    cases (Bad p k) why = stop (Bad p k) (λ e. absurd (cc)) why.0 why.1
    cases (Outside p) why = stop (Outside p) (λ e. absurd (cc)) why.0 why.1
    cases Memory why = absurd why
    cases (Repeats p) why = stop (Repeats p) (λ e. absurd (cc)) why.0 why.1
    cases (Level p) why = stop (Level p) (λ e. absurd (cc)) why.0 why.1

-- the walk goes on with the same metric and radius
pub on_with : (f g : JoinSearch) (l r : Live) (left1 left left2 right1 right right2 : Shelf) (used1 used used2 : ℕ) (records records2 : List JoinRecord) (hits hits2 : List Pair) (w : Waiting) (stack rest stack2 : List Waiting) →
    g ≡ f → stack ≡ w ∷ rest →
    (IsUnderWay g l r left1 left right1 right used1 used records hits (w ∷ rest) → IsUnderWay g l r left1 left2 right1 right2 used1 used2 records2 hits2 stack2) →
    IsUnderWay f l r left1 left right1 right used1 used records hits stack → IsUnderWay f l r left1 left2 right1 right2 used1 used2 records2 hits2 stack2
on_with f g l r left1 left left2 right1 right right2 used1 used used2 records records2 hits hits2 w stack rest stack2 same top on way =
    subst (λ (h : JoinSearch). IsUnderWay h l r left1 left2 right1 right2 used1 used2 records2 hits2 stack2) same
    (on (subst (λ (h : JoinSearch). IsUnderWay h l r left1 left right1 right used1 used records hits (w ∷ rest)) (sym same)
    (subst (λ (s : List Waiting). IsUnderWay f l r left1 left right1 right used1 used records hits s) top way)))

pub stops_with : (f : JoinSearch) (l r : Live) (left1 left left2 right1 right right2 : Shelf) (used1 used : ℕ) (records : List JoinRecord) (hits : List Pair) (w : Waiting) (stack rest : List Waiting) →
    stack ≡ w ∷ rest → IsUnderWay f l r left1 left right1 right used1 used records hits stack → (fault : JoinFault) → HasStopped left left2 right right2 w fault → HasWalkCause l r left1 left2 right1 right2 fault
stops_with f l r left1 left left2 right1 right right2 used1 used records hits w stack rest top way fault stopped =
    walk_stops f l r left1 left left2 right1 right right2 used1 used records hits w rest (subst (λ (s : List Waiting). IsUnderWay f l r left1 left right1 right used1 used records hits s) top way) fault stopped
