-- Two sound trees have exactly one least log of a join.
use Rattle.std.proofs.Common.{◌≡◌, ℕ, zero, suc, ◌+◌, ◌<◌, Bool, true, false, cond, List, [], ◌∷◌, ◌++◌, refl, sym, ap, subst, ◌∙◌, Option, Some, arith}
use Rattle.std.specs.Prelude.{IsTrue, not, map, filter, if◌then◌else◌, nat_le, ◌&&◌}
use Rattle.std.specs.List.{AllByRecursion}
use Rattle.std.proofs.lemmas.Bool.Decides.{nat_tests}
use Rattle.metric_laws.specs.Space.{Space, IsSpace}
use Rattle.metric_laws.specs.Pruning.{pair_rules_out}
use Rattle.metric_laws.proofs.Published.{all_both}
use Rattle.scan_model.specs.declared.hit.Pair.{Pair}
use Rattle.scan_model.specs.Join.{join_pairs}
use Rattle.tree_shape.specs.declared.live.Live.{Live}
use Rattle.tree_shape.specs.declared.entry.LeafEntry.{LeafEntry}
use Rattle.tree_shape.specs.declared.entry.InnerEntry.{InnerEntry}
use Rattle.tree_shape.specs.declared.entry.Node.{Node}
use Rattle.tree_shape.specs.declared.entry.Node.TheVariants.{Leaf, Inner}
use Rattle.tree_shape.specs.Tree.{Nodes, IsSoundAt, IsSoundTree, points_by_id}
use Rattle.log_model.specs.declared.logs.JoinLog.{JoinLog}
use Rattle.log_model.specs.declared.marks.Mark.{Mark}
use Rattle.log_model.specs.declared.marks.Mark.TheVariants.{Skip, Far, Near}
use Rattle.log_model.specs.declared.marks.JoinRecord.{JoinRecord}
use Rattle.log_model.specs.Items.{Item, Subtree, Object}
use Rattle.log_model.specs.declared.pairs.JoinNeed.{JoinNeed}
use Rattle.log_model.specs.InOrder.{in_order, pair_before}
use Rattle.log_model.specs.Walk.{near_ones}
use Rattle.log_model.specs.JoinWalk.{JoinSearch, JoinRule, JoinAllowed, JoinLeast, JoinWalksBy, Entry, object_entry, subtree_entry, entries_of, rank_of, centre_of, radius_of, page_of, apart_of, opens_right, opened, with_entry, is_object, is_hit, is_need, far_apart, within_apart, join_skips, join_far, allows_entry, least_for_entry, join_needs, join_hits, side_of}
use Rattle.log_model.specs.SoundJoin.{IsLeastJoinLog, join_at, root_pair}
use Rattle.log_model.specs.Laws.{LeastJoinLogsAreSound, LeastJoinLogIsOne}
use Rattle.log_model.proofs.Least.{zip-map}
use Rattle.log_model.proofs.Walk.{same_node}
use Rattle.log_model.proofs.JoinNames.{IsSoundItem, IsGood, with_side, opened_side, other_side, near_good, item_opens, opens_some}
use Rattle.log_model.proofs.JoinScan.{join_complete, roots_sound}

-- the least mark is allowed

near_hit : (s : Space) (rho : ℕ) (a b : Item) (ra rb : ℕ) → (is_object a && is_object b) ≡ true → ra ≡ 0 → rb ≡ 0 →
    far_apart (apart_of s (centre_of a) (centre_of b)) rho ra rb ≡ false → within_apart (apart_of s (centre_of a) (centre_of b)) rho ≡ true
near_hit s rho (Subtree page rank centre radius) b ra rb h za zb far = absurd (cc)
near_hit s rho (Object i p) (Subtree page rank centre radius) ra rb h za zb far = absurd (cc)
near_hit s rho (Object i p) (Object k q) ra rb h za zb far = near (s.dist p q) far
  where
    near : (d : ℕ) → pair_rules_out d rho ra rb ≡ false → nat_le d rho ≡ true
    near d f = grind (arith, nat_tests)

object_radius : (a : Item) → is_object a ≡ true → radius_of a ≡ 0
object_radius (Subtree page rank centre radius) h = absurd (cc)
object_radius (Object id point) h = refl

both_left : (a b : Bool) → (a && b) ≡ true → a ≡ true
both_left true b h = refl
both_left false b h = h

both_right : (a b : Bool) → (a && b) ≡ true → b ≡ true
both_right true b h = h
both_right false b h = absurd (cc)

near_entry : (j : JoinSearch) (n : JoinNeed) (e : Entry) → join_far j n e ≡ false → IsTrue (allows_entry j n e Near)
near_entry j n e far = hits (is_hit (with_entry j.space n e)) refl
  where
    sides : (b : Bool) → is_hit (with_side j.space n e b) ≡ true →
        far_apart (with_side j.space n e b).apart j.rho (radius_of e.item) (radius_of (other_side n b)) ≡ false → within_apart (with_side j.space n e b).apart j.rho ≡ true
    sides true h f = near_hit j.space j.rho n.left e.item (radius_of e.item) (radius_of n.left) h
        (object_radius e.item (both_right (is_object n.left) (is_object e.item) h)) (object_radius n.left (both_left (is_object n.left) (is_object e.item) h)) f
    sides false h f = near_hit j.space j.rho e.item n.right (radius_of e.item) (radius_of n.right) h
        (object_radius e.item (both_left (is_object e.item) (is_object n.right) h)) (object_radius n.right (both_right (is_object e.item) (is_object n.right) h)) f

    hits : (b : Bool) → is_hit (with_entry j.space n e) ≡ b → IsTrue (if b then within_apart (with_entry j.space n e).apart j.rho else true)
    hits true h = sides (opens_right n) h far
    hits false h = refl

entry_allowed : (j : JoinSearch) (n : JoinNeed) (e : Entry) → IsTrue (allows_entry j n e (least_for_entry j n e))
entry_allowed j n e = cases (join_skips j.rho n e) (join_far j n e) refl refl
  where
    cases : (s c : Bool) → join_skips j.rho n e ≡ s → join_far j n e ≡ c → IsTrue (allows_entry j n e (if s then Skip else (if c then Far else Near)))
    cases true c i k = i
    cases false true i k = k
    cases false false i k = near_entry j n e k

join_least_allowed : (j : JoinSearch) (n : JoinNeed) (node : Node) (marks : List Mark) → JoinLeast j n node marks → JoinAllowed j n node marks
join_least_allowed j n node marks is = subst (JoinAllowed j n node) (sym is) (zip-map (allows_entry j n) (least_for_entry j n) (entry_allowed j n) (entries_of node))

-- a walk by one rule is one by a wider rule
join_walks_wider : (P Q : JoinRule) (j : JoinSearch) (left right : Nodes) → ((n : JoinNeed) (node : Node) (marks : List Mark) → P j n node marks → Q j n node marks) →
    (ns : List JoinNeed) (rs : List JoinRecord) (hits : List Pair) → JoinWalksBy P j left right ns rs hits → JoinWalksBy Q j left right ns rs hits
join_walks_wider P Q j left right h [] [] hits walk = walk
join_walks_wider P Q j left right h [] (r ∷ rs) hits walk = absurd walk
join_walks_wider P Q j left right h (n ∷ ns) [] hits walk = absurd walk
join_walks_wider P Q j left right h (n ∷ ns) (r ∷ rs) hits walk =
    (walk.0, walk.1, walk.2, walk.3, h n walk.0 r.marks walk.4, (walk.5.0, join_walks_wider P Q j left right h (join_needs j n walk.0 r.marks ++ ns) rs walk.5.0 walk.5.1, walk.5.2))

pub join_least_sound : LeastJoinLogsAreSound
join_least_sound s left right l r radius log least =
    let by = least.1 in
    record {
      left_generation_is = by.left_generation_is;
      left_root_is = by.left_root_is;
      right_generation_is = by.right_generation_is;
      right_root_is = by.right_root_is;
      hits = by.hits;
      walk = join_walks_wider JoinLeast JoinAllowed (join_at s log.r) left right (join_least_allowed (join_at s log.r)) (root_pair l r ∷ []) log.records by.hits by.walk;
      answers_are = by.answers_are;
    }

-- there is one walk with the least marks
join_least_same : (j : JoinSearch) (left right : Nodes) (ns : List JoinNeed) (rs rs' : List JoinRecord) (hits hits' : List Pair) →
    JoinWalksBy JoinLeast j left right ns rs hits → JoinWalksBy JoinLeast j left right ns rs' hits' → rs ≡ rs'
join_least_same j left right [] [] [] hits hits' walk walk' = refl
join_least_same j left right [] [] (r ∷ rs') hits hits' walk walk' = absurd walk'
join_least_same j left right [] (r ∷ rs) rs' hits hits' walk walk' = absurd walk
join_least_same j left right (n ∷ ns) [] rs' hits hits' walk walk' = absurd walk
join_least_same j left right (n ∷ ns) (r ∷ rs) [] hits hits' walk walk' = absurd walk'
join_least_same j left right (n ∷ ns) (r ∷ rs) (r' ∷ rs') hits hits' walk walk' =
    let node = same_node (side_of left right (opens_right n) (page_of (opened n))) walk.0 walk'.0 walk.1 walk'.1 in
    let marks : r.marks ≡ r'.marks = walk.4 ∙ ap (λ (m : Node). map (least_for_entry j n) (entries_of m)) node ∙ sym walk'.4 in
    let side : r.right ≡ r'.right = walk.2 ∙ sym walk'.2 in
    let page : r.page ≡ r'.page = walk.3 ∙ sym walk'.3 in
    let needs : join_needs j n walk'.0 r'.marks ++ ns ≡ join_needs j n walk.0 r.marks ++ ns = (λ i. join_needs j n (sym node i) (sym marks i) ++ ns) in
    let rest = join_least_same j left right (join_needs j n walk.0 r.marks ++ ns) rs rs' walk.5.0 walk'.5.0 walk.5.1
    (subst (λ (ms : List JoinNeed). JoinWalksBy JoinLeast j left right ms rs' walk'.5.0) needs walk'.5.1) in
    λ i. record { right = side i; page = page i; marks = marks i } ∷ rest i

-- a walk with the least marks ends on two sound trees: the ranks of a pair that is needed are less than those of the pair
-- that needs it

abbrev ranks : JoinNeed → ℕ
ranks n = rank_of n.left + rank_of n.right

abbrev HasRanksBelow : ℕ → List Entry → Type 0
HasRanksBelow rank es = AllByRecursion (λ e. rank_of e.item < rank) es

leaf_ranks : (es : List LeafEntry) (h : ℕ) → HasRanksBelow (suc h) (map object_entry es)
leaf_ranks [] h = tt
leaf_ranks (e ∷ es) h = (omega arith, leaf_ranks es h)

inner_ranks : (es : List InnerEntry) (h : ℕ) → HasRanksBelow (suc (suc h)) (map (subtree_entry (suc h)) es)
inner_ranks [] h = tt
inner_ranks (e ∷ es) h = (omega arith, inner_ranks es h)

-- the node of a sound page, whose entries rank lower
sound_node : (s : Space) (nodes : Nodes) (h least : ℕ) (above : Option (List ℕ)) (page : ℕ) → IsSoundAt s nodes h least above page →
    (node : Node) × (nodes page ≡ Some node) × HasRanksBelow (suc h) (entries_of node)
sound_node s nodes zero least above page sound = (Leaf sound.0, sound.1, leaf_ranks sound.0 0)
sound_node s nodes (suc h) least above page sound = (Inner (suc h) sound.0, sound.1, inner_ranks sound.0 h)

item_node : (s : Space) (nodes : Nodes) (it : Item) → IsSoundItem s nodes it → (rank_of it ≡ 0 → ⊥) →
    (node : Node) × (nodes (page_of it) ≡ Some node) × HasRanksBelow (rank_of it) (entries_of node)
item_node s nodes (Object id point) sound some = absurd (some refl)
item_node s nodes (Subtree page rank centre radius) sound some =
    rw sound.rank_is (sound_node s nodes sound.height sound.least centre page sound.sound)

module _ (j : JoinSearch) (axioms : IsSpace j.space) (left right : Nodes) where
  -- these needs have a walk
  pub record IsJoinWalked (ns : List JoinNeed) : Type 0 where
    pub records : List JoinRecord
    pub hits : List Pair
    pub walk : JoinWalksBy JoinLeast j left right ns records hits

  abbrev least_of : JoinNeed → Node → List Mark
  least_of n node = map (least_for_entry j n) (entries_of node)

  join_step : (n : JoinNeed) (node : Node) → side_of left right (opens_right n) (page_of (opened n)) ≡ Some node → (ns : List JoinNeed) →
      IsJoinWalked (join_needs j n node (least_of n node) ++ ns) → IsJoinWalked (n ∷ ns)
  join_step n node is ns rest = record {
    records = record { right = opens_right n; page = page_of (opened n); marks = least_of n node } ∷ rest.records;
    hits = join_hits j n node (least_of n node) ++ rest.hits;
    walk = (node, is, refl, refl, refl, (rest.hits, rest.walk, refl));
  }

  lower : (n : JoinNeed) (e : Entry) → rank_of e.item < rank_of (opened n) → ranks (with_entry j.space n e) < ranks n
  lower n e low = cases (opens_right n) low
    where
      cases : (b : Bool) → rank_of e.item < rank_of (opened_side n b) → ranks (with_side j.space n e b) < ranks n
      cases true low = omega arith
      cases false low = omega arith

  near_lower : (n : JoinNeed) (es : List Entry) (ms : List Mark) → HasRanksBelow (rank_of (opened n)) es →
      AllByRecursion (λ m. ranks m < ranks n) (filter is_need (map (with_entry j.space n) (near_ones es ms)))
  near_lower n [] ms low = tt
  near_lower n (e ∷ es) [] low = tt
  near_lower n (e ∷ es) (Skip ∷ ms) low = near_lower n es ms low.1
  near_lower n (e ∷ es) (Far ∷ ms) low = near_lower n es ms low.1
  near_lower n (e ∷ es) (Near ∷ ms) low = cases (is_hit (with_entry j.space n e)) (near_lower n es ms low.1)
    where
      cases : (b : Bool) → AllByRecursion (λ m. ranks m < ranks n) (filter is_need (map (with_entry j.space n) (near_ones es ms))) →
          AllByRecursion (λ m. ranks m < ranks n) (cond (not b) (with_entry j.space n e ∷ filter is_need (map (with_entry j.space n) (near_ones es ms))) (filter is_need (map (with_entry j.space n) (near_ones es ms))))
      cases true rest = rest
      cases false rest = (lower n e low.0, rest)

  abbrev Good : JoinNeed → Type 0
  Good n = IsGood j axioms left right n

  all_walked : (fuel : ℕ) → ((m : JoinNeed) → ranks m < fuel → Good m → (ns : List JoinNeed) → IsJoinWalked ns → IsJoinWalked (m ∷ ns)) →
      (ms : List JoinNeed) → AllByRecursion (λ m. Good m × (ranks m < fuel)) ms → (ns : List JoinNeed) → IsJoinWalked ns → IsJoinWalked (ms ++ ns)
  all_walked fuel each [] all ns rest = rest
  all_walked fuel each (m ∷ ms) all ns rest = each m all.0.1 all.0.0 (ms ++ ns) (all_walked fuel each ms all.1 ns rest)

  pub good_begins : (fuel : ℕ) (n : JoinNeed) → ranks n < fuel → Good n → (ns : List JoinNeed) → IsJoinWalked ns → IsJoinWalked (n ∷ ns)
  good_begins zero n low good ns rest = absurd (omega arith)
  good_begins (suc fuel) n low good ns rest =
      let some = opens_some j axioms left right n good.0 good.1 in
      let here = item_node j.space (side_of left right (opens_right n)) (opened n) (item_sound (opens_right n)) some in
      let opens = item_opens j axioms left right (side_of left right (opens_right n)) (opened n) (item_sound (opens_right n)) some here.0 here.1 in
      let needs = near_good j axioms left right n good.0 (entries_of here.0) (least_of n here.0) opens.0 in
      let lows = near_lower n (entries_of here.0) (least_of n here.0) here.2 in
      join_step n here.0 here.1 ns
      (all_walked fuel (good_begins fuel) (join_needs j n here.0 (least_of n here.0))
      (all_both Good (λ m. ranks m < fuel) (join_needs j n here.0 (least_of n here.0)) needs (less (join_needs j n here.0 (least_of n here.0)) lows)) ns rest)
    where
      item_sound : (b : Bool) → IsSoundItem j.space (side_of left right b) (opened_side n b)
      item_sound true = good.0.right_sound
      item_sound false = good.0.left_sound

      less : (ms : List JoinNeed) → AllByRecursion (λ m. ranks m < ranks n) ms → AllByRecursion (λ m. ranks m < fuel) ms
      less [] all = tt
      less (m ∷ ms) all = (omega (arith, all.0), less ms all.1)

module _ (s : Space) (left right : Nodes) (l r : Live) (radius : ℕ) (axioms : IsSpace s) (lsound : IsSoundTree s left l) (rsound : IsSoundTree s right r) where
  walked : IsJoinWalked (join_at s radius) axioms left right (root_pair l r ∷ [])
  walked = good_begins (join_at s radius) axioms left right (suc (ranks (root_pair l r))) (root_pair l r) (omega arith) (roots_sound s left right l r lsound rsound, refl) []
      (record { records = []; hits = []; walk = refl })

  join_exists : (log : JoinLog) × IsLeastJoinLog s left right l r radius log
  join_exists = (
    record { left = (l.generation, l.root); right = (r.generation, r.root); r = radius; answers = in_order pair_before walked.hits; records = walked.records },
    (
      refl,
      record {
        left_generation_is = refl;
        left_root_is = refl;
        right_generation_is = refl;
        right_root_is = refl;
        hits = walked.hits;
        walk = walked.walk;
        answers_are = refl;
      },
    ),
  )

  join_one : (a b : JoinLog) → IsLeastJoinLog s left right l r radius a → IsLeastJoinLog s left right l r radius b → a ≡ b
  join_one a b first second =
      let radius_same : a.r ≡ b.r = first.0 ∙ sym second.0 in
      let one = join_complete s left right l r a axioms lsound rsound (join_least_sound s left right l r radius a first) in
      let two = join_complete s left right l r b axioms lsound rsound (join_least_sound s left right l r radius b second) in
      let answers_same : a.answers ≡ b.answers = one ∙ ap (λ (d : ℕ). join_pairs s (points_by_id left l) (points_by_id right r) d) radius_same ∙ sym two in
      let records_same = join_least_same (join_at s b.r) left right (root_pair l r ∷ []) a.records b.records first.1.hits second.1.hits
      (subst (λ (d : ℕ). JoinWalksBy JoinLeast (join_at s d) left right (root_pair l r ∷ []) a.records first.1.hits) radius_same first.1.walk) second.1.walk in
      let left_generation : a.left.0 ≡ b.left.0 = first.1.left_generation_is ∙ sym second.1.left_generation_is in
      let left_root : a.left.1 ≡ b.left.1 = first.1.left_root_is ∙ sym second.1.left_root_is in
      let right_generation : a.right.0 ≡ b.right.0 = first.1.right_generation_is ∙ sym second.1.right_generation_is in
      let right_root : a.right.1 ≡ b.right.1 = first.1.right_root_is ∙ sym second.1.right_root_is in
      λ i. record {
        left = (left_generation i, left_root i);
        right = (right_generation i, right_root i);
        r = radius_same i;
        answers = answers_same i;
        records = records_same i;
      }

pub join_least_one : LeastJoinLogIsOne
join_least_one s left right l r radius axioms lsound rsound = (join_exists s left right l r radius axioms lsound rsound, join_one s left right l r radius axioms lsound rsound)
