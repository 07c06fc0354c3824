-- The walk of a join through two trees, and its marks.
use Rattle.std.specs.Prelude.{◌≡◌, ℕ, ◌+◌, Bool, true, false, not, List, [], ◌∷◌, ◌++◌, map, filter, Option, Some, None, IsTrue, if◌then◌else◌, nat_lt, nat_le, ◌&&◌}
use Rattle.std.specs.List.{AllZip}
use Rattle.metric_laws.specs.Space.{Space}
use Rattle.metric_laws.specs.Pruning.{pair_rules_out, parent_rules_out}
use Rattle.scan_model.specs.declared.hit.Pair.{Pair}
use Rattle.tree_shape.specs.declared.entry.LeafEntry.{LeafEntry}
use Rattle.tree_shape.specs.declared.entry.InnerEntry.{InnerEntry}
use Rattle.tree_shape.specs.declared.entry.Node.{Node}
use Rattle.tree_shape.specs.declared.entry.Node.TheVariants.{Leaf, Inner}
use Rattle.tree_shape.specs.Tree.{Nodes}
use Rattle.log_model.specs.declared.marks.Mark.{Mark}
use Rattle.log_model.specs.declared.marks.Mark.TheVariants.{Skip, Far, Near}
use Rattle.log_model.specs.declared.marks.JoinRecord.{JoinRecord}
use Rattle.log_model.specs.Items.{Item, Subtree, Object, object_item, subtree_item}
use Rattle.log_model.specs.declared.pairs.JoinNeed.{JoinNeed}
use Rattle.log_model.specs.Walk.{near_ones}

-- what a join searches by: a space, and the radius that prunes
pub record JoinSearch : Type 0 where
  pub space : Space
  pub rho : ℕ

-- the rank of a root is the height plus 1, that of a child is the level of its parent, and that of an object is 0
abbrev pub rank_of : Item → ℕ
rank_of (Subtree page rank centre radius) = rank
rank_of (Object id point) = 0

abbrev pub centre_of : Item → Option (List ℕ)
centre_of (Subtree page rank centre radius) = centre
centre_of (Object id point) = Some point

abbrev pub radius_of : Item → ℕ
radius_of (Subtree page rank centre radius) = radius
radius_of (Object id point) = 0

abbrev pub page_of : Item → ℕ
page_of (Subtree page rank centre radius) = page
page_of (Object id point) = 0

abbrev pub id_of : Item → ℕ
id_of (Subtree page rank centre radius) = 0
id_of (Object id point) = id

-- the distance of the centres of a left and a right item, where both have one
abbrev pub apart_of : Space → Option (List ℕ) → Option (List ℕ) → Option ℕ
apart_of s (Some c) (Some d) = Some (s.dist c d)
apart_of s None d = None
apart_of s (Some c) None = None

-- an entry of an opened node as an item, with its stored parent distance
pub record Entry : Type 0 where
  pub item : Item
  pub stored : ℕ

abbrev pub object_entry : LeafEntry → Entry
object_entry e = record { item = object_item e; stored = e.parent }

abbrev pub subtree_entry : ℕ → InnerEntry → Entry
subtree_entry level e = record { item = subtree_item level e; stored = e.parent }

abbrev pub entries_of : Node → List Entry
entries_of (Leaf es) = map object_entry es
entries_of (Inner level es) = map (subtree_entry level) es

-- the item of greater rank is opened, the left one at a tie
abbrev pub opens_right : JoinNeed → Bool
opens_right n = nat_lt (rank_of n.left) (rank_of n.right)

abbrev pub opened : JoinNeed → Item
opened n = if opens_right n then n.right else n.left

abbrev pub other : JoinNeed → Item
other n = if opens_right n then n.left else n.right

-- an entry of the opened item paired with the other item, each on its own side
abbrev pub with_entry : Space → JoinNeed → Entry → JoinNeed
with_entry s n e =
    if opens_right n
    then record { left = n.left; right = e.item; apart = apart_of s (centre_of n.left) (centre_of e.item) }
    else record { left = e.item; right = n.right; apart = apart_of s (centre_of e.item) (centre_of n.right) }

abbrev pub is_object : Item → Bool
is_object (Subtree page rank centre radius) = false
is_object (Object id point) = true

-- whether a pair is two objects, which make an answer
abbrev pub is_hit : JoinNeed → Bool
is_hit n = is_object n.left && is_object n.right

-- whether a pair has still to be opened
abbrev pub is_need : JoinNeed → Bool
is_need n = not (is_hit n)

-- the pair test, the parent test, and whether a distance is within the radius; each is false where no distance is known
abbrev pub far_apart : Option ℕ → ℕ → ℕ → ℕ → Bool
far_apart None rho ra rb = false
far_apart (Some d) rho ra rb = pair_rules_out d rho ra rb

abbrev pub far_stored : Option ℕ → ℕ → ℕ → ℕ → Bool
far_stored None stored rho radius = false
far_stored (Some d) stored rho radius = parent_rules_out d stored rho radius

abbrev pub within_apart : Option ℕ → ℕ → Bool
within_apart None rho = false
within_apart (Some d) rho = nat_le d rho

-- the test of an entry of the opened item against the other item by the distance of the two
abbrev pub join_far : JoinSearch → JoinNeed → Entry → Bool
join_far j n e = far_apart (with_entry j.space n e).apart j.rho (radius_of e.item) (radius_of (other n))

-- the test of such an entry by the stored distances, at the pruning radius `rho`
abbrev pub join_skips : ℕ → JoinNeed → Entry → Bool
join_skips rho n e = far_stored n.apart e.stored rho (radius_of e.item + radius_of (other n))

-- the marks that an entry may have
abbrev pub allows_entry : JoinSearch → JoinNeed → Entry → Mark → Bool
allows_entry j n e Skip = join_skips j.rho n e
allows_entry j n e Far = join_far j n e
allows_entry j n e Near = if is_hit (with_entry j.space n e) then within_apart (with_entry j.space n e).apart j.rho else true

-- a rule says which marks the record of an opened node may have
abbrev pub JoinRule : Type 1
JoinRule = JoinSearch → JoinNeed → Node → List Mark → Type 0

-- one mark for each entry, each of them allowed
abbrev pub JoinAllowed : JoinRule
JoinAllowed j n node marks = AllZip (λ e m. IsTrue (allows_entry j n e m)) (entries_of node) marks

-- the least marks: Skip where it is allowed, else Far where it is allowed, else Near
abbrev pub least_for_entry : JoinSearch → JoinNeed → Entry → Mark
least_for_entry j n e = if join_skips j.rho n e then Skip else (if join_far j n e then Far else Near)

abbrev pub JoinLeast : JoinRule
JoinLeast j n node marks = marks ≡ map (least_for_entry j n) (entries_of node)

-- the pairs that are marked Near: those of two objects are answers, and the others are needed
abbrev pub near_pairs : JoinSearch → JoinNeed → Node → List Mark → List JoinNeed
near_pairs j n node marks = map (with_entry j.space n) (near_ones (entries_of node) marks)

abbrev pub join_needs : JoinSearch → JoinNeed → Node → List Mark → List JoinNeed
join_needs j n node marks = filter is_need (near_pairs j n node marks)

abbrev pub dist_of : Option ℕ → ℕ
dist_of None = 0
dist_of (Some d) = d

abbrev pub pair_of : JoinNeed → Pair
pair_of n = record { left = id_of n.left; right = id_of n.right; dist = dist_of n.apart }

abbrev pub join_hits : JoinSearch → JoinNeed → Node → List Mark → List Pair
join_hits j n node marks = map pair_of (filter is_hit (near_pairs j n node marks))

abbrev pub side_of : Nodes → Nodes → Bool → Nodes
side_of left right is_right = if is_right then right else left

-- the walk of the needed pairs takes exactly these records. A pair's record comes before the records of the pairs that it needs.
-- Each record names the side and the page of the opened item, the page holds a node, and the marks keep the rule. The walk names
-- the hits
abbrev pub JoinWalksBy : JoinRule → JoinSearch → Nodes → Nodes → List JoinNeed → List JoinRecord → List Pair → Type 0
JoinWalksBy rule j left right [] [] hits = hits ≡ []
JoinWalksBy rule j left right [] (r ∷ rs) hits = ⊥
JoinWalksBy rule j left right (n ∷ ns) [] hits = ⊥
JoinWalksBy rule j left right (n ∷ ns) (r ∷ rs) hits =
    (node : Node) × (side_of left right (opens_right n) (page_of (opened n)) ≡ Some node) × (r.right ≡ opens_right n)
    × (r.page ≡ page_of (opened n)) × rule j n node r.marks
    × ((rest : List Pair) × JoinWalksBy rule j left right (join_needs j n node r.marks ++ ns) rs rest × (hits ≡ join_hits j n node r.marks ++ rest))
