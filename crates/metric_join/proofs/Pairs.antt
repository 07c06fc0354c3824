-- One step of the walk of pairs.
use Rattle.std.proofs.Common.{◌≡◌, ℕ, suc, ◌+◌, ◌-◌, ◌<◌, ◌≤◌, Bool, true, false, List, [], ◌∷◌, ◌++◌, refl, sym, ap, subst, ◌∙◌, Some, arith, length, map, append_assoc}
use Rattle.std.specs.Prelude.{IsTrue, filter}
use Rattle.std.specs.List.{AllByRecursion}
use Rattle.std.proofs.lemmas.List.{map-append, length-map}
use Rattle.metric_laws.specs.Counts.{next_count, count_up, CountsUpTo}
use Rattle.metric_laws.proofs.Published.{all_append, all_weaker}
use Rattle.scan_model.specs.declared.hit.Pair.{Pair}
use Rattle.tree_shape.specs.declared.live.Live.{Live}
use Rattle.tree_shape.specs.declared.entry.Node.{Node}
use Rattle.node_page.specs.Nodes.{IsValidNode}
use Rattle.page_store.specs.Reading.{nodes_of}
use Rattle.page_store.specs.Shelf.{Shelf, HoldsSame, IsNodeOf}
use Rattle.log_model.specs.declared.marks.Mark.{Mark}
use Rattle.log_model.specs.declared.marks.JoinRecord.{JoinRecord}
use Rattle.log_model.specs.declared.pairs.JoinNeed.{JoinNeed}
use Rattle.log_model.specs.Counts.{measured_by, join_measured}
use Rattle.log_model.specs.Walk.{near_ones}
use Rattle.log_model.specs.JoinWalk.{JoinSearch, JoinLeast, JoinWalksBy, Entry, entries_of, page_of, opens_right, opened, with_entry, is_need, least_for_entry, join_needs, join_hits, side_of}
use Rattle.log_model.specs.SoundJoin.{root_pair}
use Rattle.log_model.proofs.Published.{with_side, opened_side, count_up_more, count_up_both}
use Rattle.log_model.specs.JoinSteps.{hits_among, needs_among}
use Rattle.metric_join.specs.Joined.{is_on, opened_on}
use Rattle.metric_join.specs.declared.walking.Waiting.{Waiting}
use Rattle.metric_join.specs.Steps.{following, record_for, weight, weight_of, needs_in, marks_for, pairs_for, IsStanding, IsWaiting, IsOpened, IsUnderWay}
use Rattle.metric_join.proofs.Tours.{whole_below}
use Rattle.metric_join.proofs.Standing.{shelf_on, room_on, left_after, right_after, opened_whole, entries_stand, needs_follow, needs_wait, needs_few, entries_few, lighter}
use Rattle.page_store.proofs.Published.{holds_both, told_then}

opened_on_more : (side : Bool) (rs : List JoinRecord) (r : JoinRecord) → opened_on side (rs ++ r ∷ []) ≡ opened_on side rs + is_on side r.right
opened_on_more side [] r = omega arith
opened_on_more side (q ∷ rs) r = let ih = opened_on_more side rs r in omega arith

measured_more : (rs : List JoinRecord) (r : JoinRecord) → join_measured (rs ++ r ∷ []) ≡ join_measured rs + measured_by r.marks
measured_more [] r = omega arith
measured_more (q ∷ rs) r = let ih = measured_more rs r in omega arith

-- the other item stands where it stood, and an entry's item where its parent's room is one less
sides_stand : (left right : Shelf) (w : Waiting) (j : JoinSearch) (b : Bool) → IsStanding left w.need.left w.left_room → IsStanding right w.need.right w.right_room →
    (es : List Entry) → AllByRecursion (λ e. IsStanding (shelf_on left right b) e.item (room_on w b - 1)) es →
    AllByRecursion (λ e. IsStanding left (with_side j.space w.need e b).left (left_after w b) × IsStanding right (with_side j.space w.need e b).right (right_after w b)) es
sides_stand left right w j b sl sr [] all = tt
sides_stand left right w j true sl sr (e ∷ es) all = ((sl, all.0), sides_stand left right w j true sl sr es all.1)
sides_stand left right w j false sl sr (e ∷ es) all = ((all.0, sr), sides_stand left right w j false sl sr es all.1)

module _ (j : JoinSearch) (l r : Live) (left1 left left2 right1 right right2 : Shelf) (used1 used used2 : ℕ) (records : List JoinRecord) (hits : List Pair) (w : Waiting) (rest : List Waiting)
    (before : IsUnderWay j l r left1 left right1 right used1 used records hits (w ∷ rest)) (node : Node) (left_same : HoldsSame left left2) (right_same : HoldsSame right right2)
    (opens_node : IsOpened left left2 right right2 w node) where
  waiting : IsWaiting l r left1 right1 (opened_on false records) (opened_on true records) w
  waiting = before.waits.0

  -- what the opening asked of each side
  pub record Asked (b : Bool) : Type 0 where
    pub dim : ℕ
    pub left_asked : left2.asked ≡ count_up left1.asked (opened_on false records + is_on false b)
    pub right_asked : right2.asked ≡ count_up right1.asked (opened_on true records + is_on true b)
    pub has_room : 1 ≤ room_on w b
    pub few : length (entries_of node) ≤ 32
    pub stand : (es : List Entry) → es ≡ entries_of node → AllByRecursion (λ e. IsStanding (shelf_on left1 right1 b) e.item (room_on w b - 1)) es
    pub told : IsTrue (shelf_on left1 right1 b).is_known → nodes_of (shelf_on left1 right1 b).read (page_of (opened w.need)) ≡ Some node

  one_more : (now next old n : ℕ) → next ≡ next_count now → now ≡ count_up old n → next ≡ count_up old (n + 1)
  one_more now next old n more so_far = more ∙ ap next_count so_far ∙ count_up_more old n ∙ ap (count_up old) (let e : suc n ≡ n + 1 = omega arith in e)

  no_more : (now next old n : ℕ) → next ≡ now → now ≡ count_up old n → next ≡ count_up old (n + 0)
  no_more now next old n same so_far = same ∙ so_far ∙ ap (count_up old) (let e : n ≡ n + 0 = omega arith in e)

  stands : (b : Bool) → opens_right w.need ≡ b → (dim : ℕ) → IsNodeOf (shelf_on left right b) (page_of (opened w.need)) node → HoldsSame (shelf_on left1 right1 b) (shelf_on left right b) →
      (es : List Entry) → es ≡ entries_of node → AllByRecursion (λ e. IsStanding (shelf_on left1 right1 b) e.item (room_on w b - 1)) es
  stands b opens dim is holds es same =
      rw same
      (entries_stand (shelf_on left1 right1 b) (room_on w b - 1) (shelf_on left right b).dim node is.valid
      (λ is_known. whole_below (nodes_of (shelf_on left1 right1 b).read) (page_of (opened_side w.need b)) (room_on w b) node
      (opened_whole l r left1 right1 (opened_on false records) (opened_on true records) w waiting b opens is_known)
      (subst (λ (c : Bool). nodes_of (shelf_on left1 right1 b).read (page_of (opened_side w.need c)) ≡ Some node) opens
      (told_then (shelf_on left1 right1 b) (shelf_on left right b) (page_of (opened w.need)) node holds is is_known))))

  asked_on : (b : Bool) → opens_right w.need ≡ b → Asked b
  asked_on false opens =
      let o = opens_node.0 opens in
      record {
        dim = left.dim;
        left_asked = one_more left.asked left2.asked left1.asked (opened_on false records) o.asked before.left_asked;
        right_asked = no_more right.asked right2.asked right1.asked (opened_on true records) (ap (λ (s : Shelf). s.asked) o.alone) before.right_asked;
        has_room = o.has_room;
        few = entries_few left.dim node o.is.valid;
        stand = stands false opens left.dim o.is before.left_holds;
        told = told_then left1 left (page_of (opened w.need)) node before.left_holds o.is;
      }
  asked_on true opens =
      let o = opens_node.1 opens in
      record {
        dim = right.dim;
        left_asked = no_more left.asked left2.asked left1.asked (opened_on false records) (ap (λ (s : Shelf). s.asked) o.alone) before.left_asked;
        right_asked = one_more right.asked right2.asked right1.asked (opened_on true records) o.asked before.right_asked;
        has_room = o.has_room;
        few = entries_few right.dim node o.is.valid;
        stand = stands true opens right.dim o.is before.right_holds;
        told = told_then right1 right (page_of (opened w.need)) node before.right_holds o.is;
      }

  asked : Asked (opens_right w.need)
  asked = asked_on (opens_right w.need) refl

  node_is : IsTrue left1.is_known → IsTrue right1.is_known → side_of (nodes_of left1.read) (nodes_of right1.read) (opens_right w.need) (page_of (opened w.need)) ≡ Some node
  node_is told_left told_right = cases (opens_right w.need) asked.told
    where
      cases : (b : Bool) → (IsTrue (shelf_on left1 right1 b).is_known → nodes_of (shelf_on left1 right1 b).read (page_of (opened w.need)) ≡ Some node) →
          side_of (nodes_of left1.read) (nodes_of right1.read) b (page_of (opened w.need)) ≡ Some node
      cases true told = told told_right
      cases false told = told told_left

  waits_longer : (lefts rights : ℕ) → opened_on false records ≤ lefts → opened_on true records ≤ rights → (v : Waiting) →
      IsWaiting l r left1 right1 (opened_on false records) (opened_on true records) v → IsWaiting l r left1 right1 lefts rights v
  waits_longer lefts rights more_left more_right v waits = record {
    need = waits.need;
    left_stands = waits.left_stands;
    right_stands = waits.right_stands;
    left_room = (let k = waits.left_room in omega (arith, k, more_left));
    right_room = (let k = waits.right_room in omega (arith, k, more_right));
  }

  abbrev lefts : ℕ
  lefts = opened_on false records + is_on false (opens_right w.need)

  abbrev rights : ℕ
  rights = opened_on true records + is_on true (opens_right w.need)

  module _ (marks : List Mark) (os : List Pair) (ns : List JoinNeed) (marks_are : marks ≡ marks_for j w.need (entries_of node)) (hits_are : os ≡ hits_among (pairs_for j w.need (entries_of node)))
      (needs_are : ns ≡ needs_among (pairs_for j w.need (entries_of node))) (counted : CountsUpTo used used2 (measured_by marks)) where
    abbrev made : JoinRecord
    made = record_for w marks

    new_wait : AllByRecursion (IsWaiting l r left1 right1 lefts rights) (map (following w) ns)
    new_wait =
        subst (λ (ms : List JoinNeed). AllByRecursion (IsWaiting l r left1 right1 lefts rights) (map (following w) ms)) (sym needs_are)
        (needs_wait l r left1 right1 lefts rights w (opens_right w.need) refl (left_room (opens_right w.need) asked.has_room) (right_room (opens_right w.need) asked.has_room) j (entries_of node)
        (sides_stand left1 right1 w j (opens_right w.need) waiting.left_stands waiting.right_stands (entries_of node) (asked.stand (entries_of node) refl)))
      where
        left_room : (b : Bool) → 1 ≤ room_on w b → l.pages ≤ left_after w b + (opened_on false records + is_on false b)
        left_room true some = let k = waiting.left_room in omega (arith, k)
        left_room false some = let k = waiting.left_room in omega (arith, k, some)

        right_room : (b : Bool) → 1 ≤ room_on w b → r.pages ≤ right_after w b + (opened_on true records + is_on true b)
        right_room true some = let k = waiting.right_room in omega (arith, k, some)
        right_room false some = let k = waiting.right_room in omega (arith, k)

    same_needs : needs_in (map (following w) ns ++ rest) ≡ join_needs j w.need node marks ++ needs_in rest
    same_needs =
        map-append (λ (v : Waiting). v.need) (map (following w) ns) rest
        ∙ ap (λ (l : List JoinNeed). l ++ needs_in rest) (needs_follow w ns ∙ needs_are ∙ ap (λ (ms : List Mark). filter is_need (map (with_entry j.space w.need) (near_ones (entries_of node) ms))) (sym marks_are))

    same_hits : os ≡ join_hits j w.need node marks
    same_hits = hits_are ∙ ap (λ (ms : List Mark). hits_among (map (with_entry j.space w.need) (near_ones (entries_of node) ms))) (sym marks_are)

    walks_on : IsTrue left1.is_known → IsTrue right1.is_known → (rs : List JoinRecord) (hs : List Pair) →
        JoinWalksBy JoinLeast j (nodes_of left1.read) (nodes_of right1.read) (needs_in (map (following w) ns ++ rest)) rs hs →
        JoinWalksBy JoinLeast j (nodes_of left1.read) (nodes_of right1.read) (root_pair l r ∷ []) ((records ++ made ∷ []) ++ rs) ((hits ++ os) ++ hs)
    walks_on told_left told_right rs hs walk =
        subst (λ (ps : List JoinRecord). JoinWalksBy JoinLeast j (nodes_of left1.read) (nodes_of right1.read) (root_pair l r ∷ []) ps ((hits ++ os) ++ hs)) (sym (append_assoc records (made ∷ []) rs))
        (subst (λ (ps : List Pair). JoinWalksBy JoinLeast j (nodes_of left1.read) (nodes_of right1.read) (root_pair l r ∷ []) (records ++ made ∷ rs) ps) (sym (append_assoc hits os hs))
        (before.walk told_left told_right (made ∷ rs) (os ++ hs) (
          node,
          node_is told_left told_right,
          refl,
          refl,
          marks_are,
          (
            hs,
            subst (λ (ms : List JoinNeed). JoinWalksBy JoinLeast j (nodes_of left1.read) (nodes_of right1.read) ms rs hs) same_needs walk,
            ap (λ (ps : List Pair). ps ++ hs) same_hits,
          ),
        )))

    pub goes_on : IsUnderWay j l r left1 left2 right1 right2 used1 used2 (records ++ made ∷ []) (hits ++ os) (map (following w) ns ++ rest)
    goes_on =
        let all_left = opened_on_more false records made in
        let all_right = opened_on_more true records made in
        let all_marks = measured_more records made in
        let long = length-map (entries_of node) (λ e. e.stored) in
        let few = before.used_up.1 in
        record {
          left_holds = holds_both left1 left left2 before.left_holds left_same;
          right_holds = holds_both right1 right right2 before.right_holds right_same;
          left_asked = asked.left_asked ∙ ap (count_up left1.asked) (sym all_left);
          right_asked = asked.right_asked ∙ ap (count_up right1.asked) (sym all_right);
          used_up = (
            before.used_up.0 + counted.0,
            (let more = counted.1 in omega (arith, few, more, all_marks)),
            counted.2 ∙ ap (λ (u : ℕ). count_up u counted.0) before.used_up.2 ∙ count_up_both used1 before.used_up.0 counted.0,
          );
          few_marks = all_append (λ (q : JoinRecord). length q.marks ≤ 32) records (made ∷ []) before.few_marks (marks_few, tt);
          waits = rw (all_left, all_right)
              (all_append (IsWaiting l r left1 right1 lefts rights) (map (following w) ns) rest new_wait
              (all_weaker (IsWaiting l r left1 right1 (opened_on false records) (opened_on true records)) (IsWaiting l r left1 right1 lefts rights) rest
              (waits_longer lefts rights (omega arith) (omega arith)) before.waits.1));
          walk = walks_on;
        }
      where
        marks_few : length marks ≤ 32
        marks_few = rw marks_are (let same = length-map (entries_of node) (least_for_entry j w.need) in let most = asked.few in omega arith)

-- an opened pair leaves less to walk
pub lighter_now : (j : JoinSearch) (left left2 right right2 : Shelf) (w : Waiting) (rest : List Waiting) (node : Node) → IsOpened left left2 right right2 w node → (ns : List JoinNeed) →
    ns ≡ needs_among (pairs_for j w.need (entries_of node)) → weight (map (following w) ns ++ rest) < weight_of w + weight rest
lighter_now j left left2 right right2 w rest node opens_node ns are = cases (opens_right w.need) refl
  where
    few : (dim : ℕ) → IsValidNode dim node → length ns ≤ 32
    few dim valid = rw are (let least = needs_few j w.need (entries_of node) in let most = entries_few dim node valid in omega arith)

    cases : (b : Bool) → opens_right w.need ≡ b → weight (map (following w) ns ++ rest) < weight_of w + weight rest
    cases false opens = let o = opens_node.0 opens in lighter w false opens o.has_room ns rest (few left.dim o.is.valid)
    cases true opens = let o = opens_node.1 opens in lighter w true opens o.has_room ns rest (few right.dim o.is.valid)
