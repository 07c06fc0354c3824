-- Where the walk of pairs begins, and what a whole one answers.
use Rattle.std.proofs.Common.{◌≡◌, ℕ, ◌+◌, ◌<◌, ◌^◌, Bool, true, false, List, [], ◌∷◌, ◌++◌, refl, sym, ap, subst, ◌∙◌, inl, inr, arith, length, min, reverse}
use Rattle.std.specs.Prelude.{IsTrue}
use Rattle.std.proofs.lemmas.List.{append-nil}
use Rattle.metric_laws.specs.Space.{Space, IsSpace, bound}
use Rattle.scan_model.specs.declared.hit.Pair.{Pair}
use Rattle.scan_model.specs.Join.{join_pairs}
use Rattle.tree_shape.specs.declared.live.Live.{Live}
use Rattle.tree_shape.specs.Tree.{Nodes, IsSoundTree, points_by_id}
use Rattle.page_store.specs.declared.pages.PageFault.{PageFault}
use Rattle.page_store.specs.declared.pages.PageFault.TheVariants as pages
use Rattle.page_store.specs.Reading.{Read, nodes_of, IsWithin, is_within}
use Rattle.page_store.specs.Shelf.{Shelf, HoldsSame}
use Rattle.log_model.specs.declared.logs.Joined.{Joined}
use Rattle.log_model.specs.declared.marks.JoinRecord.{JoinRecord}
use Rattle.metric_laws.specs.Counts.{count_up, CountsUpTo}
use Rattle.log_model.specs.Counts.{join_measured}
use Rattle.log_model.specs.InOrder.{in_order, pair_before}
use Rattle.log_model.specs.JoinWalk.{JoinSearch, JoinLeast, JoinWalksBy}
use Rattle.log_model.specs.SoundJoin.{root_pair, IsLeastJoinLog}
use Rattle.log_model.proofs.Published.{rising-in_order, pair_order, ascending_pairs, count_up_both, join_complete, join_least_sound}
use Rattle.log_model.specs.JoinSteps.{search_within}
use Rattle.page_store.specs.Tours.{IsToured, HasTourCause}
use Rattle.page_store.proofs.Published.{sound_names, tour_passes, holds_none}
use Rattle.metric_join.specs.Joined.{IsJoinLogOf, IsJoined, IsWalked, HasSideCause, HasJoinCause, IsPassing, opened_on, fault_of}
use Rattle.metric_join.specs.declared.faults.JoinFault.{JoinFault}
use Rattle.metric_join.specs.declared.faults.JoinFault.TheVariants as join
use Rattle.metric_join.specs.declared.walking.Waiting.{Waiting}
use Rattle.metric_join.specs.Steps.{IsUnderWay, HasSideStop, HasWalkCause}
use Rattle.metric_join.proofs.Course.{toured_of}

-- pages that hold the same tell the same
toured_then : (live : Live) (old now : Shelf) → HoldsSame old now → IsWalked live old now 0 → IsTrue now.is_known → IsToured (nodes_of now.read) live
toured_then live old now holds walked is_known =
    subst (λ (read : Read). IsToured (nodes_of read) live) (sym holds.read) (toured_of live old now 0 walked (subst (λ (b : Bool). IsTrue b) holds.is_known is_known))

pub walk_begins : (j : JoinSearch) (l r : Live) (left0 left right0 right : Shelf) (used : ℕ) (records : List JoinRecord) (hits : List Pair) (stack : List Waiting) →
    HoldsSame left0 left → HoldsSame right0 right → IsWalked l left0 left 0 → IsWalked r right0 right 0 →
    records ≡ [] → hits ≡ [] → stack ≡ (record { need = root_pair l r; left_room = l.pages; right_room = r.pages }) ∷ [] →
    IsUnderWay j l r left left right right used used records hits (reverse stack)
walk_begins j l r left0 left right0 right used records hits stack left_same right_same left_toured right_toured none no_hits one = rw (none, no_hits, one) (record {
  left_holds = holds_none left;
  right_holds = holds_none right;
  left_asked = refl;
  right_asked = refl;
  used_up = (0, omega arith, refl);
  few_marks = tt;
  waits = (
    record {
      need = refl;
      left_stands = ((omega arith), toured_then l left0 left left_same left_toured);
      right_stands = ((omega arith), toured_then r right0 right right_same right_toured);
      left_room = omega arith;
      right_room = omega arith;
    },
    tt,
  );
  walk = λ told_left told_right rs hs walk. walk;
})

-- a side was asked further after the first walk
walked_after : (live : Live) (old mid new : Shelf) (further : ℕ) → IsWalked live old mid 0 → new.asked ≡ count_up mid.asked further → IsWalked live old new further
walked_after live old mid new further walked asked = record {
  opened = walked.opened;
  few = walked.few;
  whole = walked.whole;
  asked = asked ∙ ap (λ (u : ℕ). count_up u further) walked.asked ∙ count_up_both old.asked (walked.opened + 0) further
      ∙ ap (λ (n : ℕ). count_up old.asked (n + further)) (let e : walked.opened + 0 ≡ walked.opened = omega arith in e);
}

module _ (s : Space) (l r : Live) (radius : ℕ) (left0 left1 left2 right0 right1 right2 : Shelf) (used used2 : ℕ) (records : List JoinRecord) (hits : List Pair)
    (left_same : HoldsSame left0 left1) (right_same : HoldsSame right0 right1)
    (way : IsUnderWay (search_within s (min radius bound)) l r left1 left2 right1 right2 used used2 records hits []) (joined : Joined)
    (left : joined.log.left ≡ (l.generation, l.root)) (right : joined.log.right ≡ (r.generation, r.root)) (radius_is : joined.log.r ≡ radius)
    (records_are : joined.log.records ≡ records) (answers : joined.log.answers ≡ in_order pair_before hits) (pairs : joined.pairs ≡ joined.log.answers) where
  log_is : (length joined.log.answers < 2 ^ 64) × (length joined.log.records < 2 ^ 64) → IsJoinLogOf l r radius joined
  log_is few = record {
    pairs_are = pairs;
    left_is = left;
    right_is = right;
    radius_is = radius_is;
    valid = record {
      answers_ascend = rw answers (ascending_pairs (in_order pair_before hits) (rising-in_order pair_before pair_order hits));
      few_answers = few.0;
      few_records = few.1;
      few_marks = rw records_are way.few_marks;
    };
  }

  least_is : IsTrue left0.is_known → IsTrue right0.is_known → IsLeastJoinLog s (nodes_of left0.read) (nodes_of right0.read) l r radius joined.log
  least_is told_left told_right = (
    radius_is,
    record {
      left_generation_is = ap (λ (p : ℕ × ℕ). p.0) left;
      left_root_is = ap (λ (p : ℕ × ℕ). p.1) left;
      right_generation_is = ap (λ (p : ℕ × ℕ). p.0) right;
      right_root_is = ap (λ (p : ℕ × ℕ). p.1) right;
      hits = hits;
      walk = rw (radius_is, records_are)
          (subst (λ (read : Read). JoinWalksBy JoinLeast (search_within s (min radius bound)) (nodes_of read) (nodes_of right0.read) (root_pair l r ∷ []) records hits) left_same.read
          (subst (λ (read : Read). JoinWalksBy JoinLeast (search_within s (min radius bound)) (nodes_of left1.read) (nodes_of read) (root_pair l r ∷ []) records hits) right_same.read whole));
      answers_are = answers;
    },
  )
    where
      whole : JoinWalksBy JoinLeast (search_within s (min radius bound)) (nodes_of left1.read) (nodes_of right1.read) (root_pair l r ∷ []) records hits
      whole =
          subst (λ (rs : List JoinRecord). JoinWalksBy JoinLeast (search_within s (min radius bound)) (nodes_of left1.read) (nodes_of right1.read) (root_pair l r ∷ []) rs hits) (append-nil records)
          (subst (λ (hs : List Pair). JoinWalksBy JoinLeast (search_within s (min radius bound)) (nodes_of left1.read) (nodes_of right1.read) (root_pair l r ∷ []) (records ++ []) hs) (append-nil hits)
          (way.walk (rw left_same.is_known told_left) (rw right_same.is_known told_right) [] [] refl))

  used_is : CountsUpTo used used2 (join_measured joined.log.records)
  used_is = rw records_are way.used_up

  pub joined_is : (length joined.log.answers < 2 ^ 64) × (length joined.log.records < 2 ^ 64) → IsWalked l left0 left1 0 → IsWalked r right0 right1 0 →
      IsJoined s l r radius left0 left2 right0 right2 used used2 joined
  joined_is few left_walked right_walked = record {
    log = log_is few;
    least = least_is;
    left_walked = rw records_are (walked_after l left0 left1 left2 (opened_on false records) left_walked way.left_asked);
    right_walked = rw records_are (walked_after r right0 right1 right2 (opened_on true records) right_walked way.right_asked);
    distances = used_is;
  }

-- on sound trees the pairs are those of the double loop
pub scanned_is : (s : Space) → IsSpace s → (l r : Live) (radius : ℕ) (left right : Nodes) (joined : Joined) → joined.pairs ≡ joined.log.answers → IsLeastJoinLog s left right l r radius joined.log →
    IsSoundTree s left l → IsSoundTree s right r → joined.pairs ≡ join_pairs s (points_by_id left l) (points_by_id right r) radius
scanned_is s axioms l r radius left right joined pairs least left_sound right_sound =
    pairs ∙ join_complete s left right l r joined.log axioms left_sound right_sound (join_least_sound s left right l r radius joined.log least)
    ∙ ap (join_pairs s (points_by_id left l) (points_by_id right r)) least.0

-- why a join is refused

-- the first walk of the left tree is refused
pub left_refused : (l r : Live) (left0 left1 right : Shelf) (fault : PageFault) → HasTourCause l left0 left1 fault → HasJoinCause l r left0 left1 right right (fault_of false fault)
left_refused l r left0 left1 right pages.Disk cause = cause
left_refused l r left0 left1 right (pages.Bad p f) cause = cause
left_refused l r left0 left1 right (pages.Outside p) cause = cause
left_refused l r left0 left1 right pages.Memory cause = tt
left_refused l r left0 left1 right (pages.Repeats p) cause = (inl cause.0, cause.1)
left_refused l r left0 left1 right (pages.Level p) cause = cause

-- the first walk of the right tree is refused
pub right_refused : (l r : Live) (left0 left1 right0 right1 : Shelf) (fault : PageFault) → IsWalked l left0 left1 0 → HasTourCause r right0 right1 fault → HasJoinCause l r left0 left1 right0 right1 (fault_of true fault)
right_refused l r left0 left1 right0 right1 pages.Disk walked cause = (cause, toured_of l left0 left1 0 walked)
right_refused l r left0 left1 right0 right1 (pages.Bad p f) walked cause = (cause, toured_of l left0 left1 0 walked)
right_refused l r left0 left1 right0 right1 (pages.Outside p) walked cause = (cause, toured_of l left0 left1 0 walked)
right_refused l r left0 left1 right0 right1 pages.Memory walked cause = tt
right_refused l r left0 left1 right0 right1 (pages.Repeats p) walked cause = ((inl cause.0, cause.1), toured_of l left0 left1 0 walked)
right_refused l r left0 left1 right0 right1 (pages.Level p) walked cause = (cause, toured_of l left0 left1 0 walked)

-- the walk of pairs is refused
side_refused : (live : Live) (old mid new : Shelf) (fault : PageFault) → HoldsSame old mid → IsWalked live old mid 0 → HasSideStop live mid new fault → HasSideCause live old new fault
side_refused live old mid new pages.Disk holds walked stop = (let l = holds.faults in let c = stop in omega arith)
side_refused live old mid new (pages.Bad p f) holds walked stop = (subst (λ (n : ℕ). IsWithin n p) holds.pages stop.0, λ is_known. absurd (stop.1 (rw holds.is_known is_known)))
side_refused live old mid new (pages.Outside p) holds walked stop = (subst (λ (n : ℕ). is_within n p ≡ false) holds.pages stop.0, λ is_known. absurd (stop.1 (rw holds.is_known is_known)))
side_refused live old mid new pages.Memory holds walked stop = absurd stop
side_refused live old mid new (pages.Repeats p) holds walked stop =
    let further = stop.0 in
    let never : IsTrue old.is_known → ⊥ = λ is_known. stop.1 (rw holds.is_known is_known) in
    (inr (further.0, further.1, walked_after live old mid new further.0 walked further.2, never), λ is_known. absurd (never is_known))
side_refused live old mid new (pages.Level p) holds walked stop = absurd stop

pub walk_refused : (l r : Live) (left0 left1 left2 right0 right1 right2 : Shelf) (fault : JoinFault) → HoldsSame left0 left1 → HoldsSame right0 right1 → IsWalked l left0 left1 0 → IsWalked r right0 right1 0 →
    HasWalkCause l r left1 left2 right1 right2 fault → HasJoinCause l r left0 left2 right0 right2 fault
walk_refused l r left0 left1 left2 right0 right1 right2 join.Memory left_same right_same lefts rights cause = tt
walk_refused l r left0 left1 left2 right0 right1 right2 (join.Left fault) left_same right_same lefts rights cause = side_refused l left0 left1 left2 fault left_same lefts cause
walk_refused l r left0 left1 left2 right0 right1 right2 (join.Right fault) left_same right_same lefts rights cause =
    (side_refused r right0 right1 right2 fault right_same rights cause, toured_of l left0 left1 0 lefts)

-- on sound trees nothing but a passing fault is refused

abbrev PassesSide : PageFault → Type 0
PassesSide pages.Disk = Unit {0}
PassesSide _ = ⊥

side_passes : (s : Space) (live : Live) (old new : Shelf) (fault : PageFault) → HasSideCause live old new fault → IsTrue old.is_known → IsSoundTree s (nodes_of old.read) live → PassesSide fault
side_passes s live old new pages.Disk cause is_known sound = tt
side_passes s live old new (pages.Bad p f) cause is_known sound = absurd (tour_passes s live old new (pages.Bad p f) cause is_known sound)
side_passes s live old new (pages.Outside p) cause is_known sound = absurd (tour_passes s live old new (pages.Outside p) cause is_known sound)
side_passes s live old new pages.Memory cause is_known sound = absurd cause
side_passes s live old new (pages.Repeats p) cause is_known sound =
    let low = (sound_names s (nodes_of old.read) live live.pages p sound (cause.1 is_known)).0 in
    absurd (omega (arith, low))
side_passes s live old new (pages.Level p) cause is_known sound = absurd cause

pub passes : (s : Space) (l r : Live) (left left2 right right2 : Shelf) (fault : JoinFault) → HasJoinCause l r left left2 right right2 fault → IsTrue left.is_known → IsTrue right.is_known →
    IsSoundTree s (nodes_of left.read) l → IsSoundTree s (nodes_of right.read) r → IsPassing fault
passes s l r left left2 right right2 join.Memory cause told_left told_right left_sound right_sound = tt
passes s l r left left2 right right2 (join.Left fault) cause told_left told_right left_sound right_sound = cases fault (side_passes s l left left2 fault cause told_left left_sound)
  where
    cases : (f : PageFault) → PassesSide f → IsPassing (join.Left f)
    cases pages.Disk p = tt
    cases (pages.Bad q f) p = absurd p
    cases (pages.Outside q) p = absurd p
    cases pages.Memory p = absurd p
    cases (pages.Repeats q) p = absurd p
    cases (pages.Level q) p = absurd p
passes s l r left left2 right right2 (join.Right fault) cause told_left told_right left_sound right_sound = cases fault (side_passes s r right right2 fault cause.0 told_right right_sound)
  where
    cases : (f : PageFault) → PassesSide f → IsPassing (join.Right f)
    cases pages.Disk p = tt
    cases (pages.Bad q f) p = absurd p
    cases (pages.Outside q) p = absurd p
    cases pages.Memory p = absurd p
    cases (pages.Repeats q) p = absurd p
    cases (pages.Level q) p = absurd p
