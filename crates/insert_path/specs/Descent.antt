-- What each step of a descent stages.
use Rattle.std.specs.Prelude.{◌≡◌, ◌⊎◌, ℕ, zero, suc, ◌+◌, ◌<◌, ◌≤◌, max, List, [], ◌∷◌, ◌++◌, length, map, Option, Some, None, slice_index_or, Bool, true, false}
use Rattle.std.specs.List.{AllByRecursion}
use Rattle.metric_laws.specs.Space.{Space, bound}
use Rattle.tree_shape.specs.declared.entry.LeafEntry.{LeafEntry}
use Rattle.tree_shape.specs.declared.entry.InnerEntry.{InnerEntry}
use Rattle.tree_shape.specs.declared.entry.Node.{Node}
use Rattle.tree_shape.specs.declared.entry.Node.TheVariants.{Leaf, Inner}
use Rattle.tree_shape.specs.declared.filling.Bounds.{Bounds}
use Rattle.tree_shape.specs.declared.live.Live.{Live}
use Rattle.tree_shape.specs.Tree.{parent_distance}
use Rattle.tree_shape.specs.Plain.{Object}
use Rattle.tree_growth.specs.Dealing.{Ball}
use Rattle.tree_growth.specs.Insertion.{Rules, rules_for, chosen}
use Rattle.promote_split.specs.declared.halves.Half.{Half}
use Rattle.promote_split.specs.declared.halves.Halves.{Halves}
use Rattle.promote_split.specs.declared.promoting.Policy.{Policy}
use Rattle.promote_split.specs.Halves.{IsSplit, AreNear}
use Rattle.page_store.specs.Shelf.{Shelf, IsNodeOf}
use Rattle.insert_path.specs.declared.grew.Stem.{Stem}
use Rattle.insert_path.specs.declared.grew.Grew.{Grew}
use Rattle.insert_path.specs.declared.grew.Grew.TheVariants.{One, Two}
use Rattle.insert_path.specs.Walk.{inner_ball}

-- the parameters of an insertion: the space, the ways of promotion and partition, the most and the least entries of a node, the
-- number of the new node at each place, and the object
pub record Plan : Type 0 where
  pub space : Space
  pub promote : ℕ
  pub split : ℕ
  pub most : ℕ
  pub least : ℕ
  pub number : ℕ → ℕ
  pub object : Object

abbrev pub plan_of : Space → Policy → Bounds → (ℕ → ℕ) → Object → Plan
plan_of s policy bounds number o = record {
  space = s;
  promote = policy.promote;
  split = policy.split;
  most = bounds.most;
  least = bounds.least;
  number = number;
  object = o;
}

abbrev pub rules_of : Plan → Rules
rules_of P = rules_for P.space P.promote P.split P.most P.least

abbrev pub leaf_ball : LeafEntry → Ball
leaf_ball e = (e.point, 0)

abbrev pub leaf_with : LeafEntry → ℕ → LeafEntry
leaf_with e d = record e { parent = d }

abbrev pub inner_with : InnerEntry → ℕ → InnerEntry
inner_with e d = record e { parent = d }

-- a half on its page
abbrev pub stem_of : {E : Type 0} → ℕ → Half E → Stem
stem_of page h = record { page = page; point = h.point; radius = h.radius }

-- a node that has no entry too many is staged whole
pub record IsWhole {E : Type 0} (P : Plan) (make : List E → Node) (es : List E) (old new : List Node) (g : Grew) : Type 0 where
  pub few : length es ≤ P.most
  pub staged : new ≡ old ++ make es ∷ []
  pub grew : g ≡ One (P.number (length old))

-- two halves of the entries
pub record AreHalves {E : Type 0} (P : Plan) (ball : E → Ball) (set : E → ℕ → E) (es : List E) (hs : Halves E) : Type 0 where
  pub split : IsSplit P.space ball set P.promote P.split P.least es hs
  pub shares : (P.least ≤ length hs.first.entries) × (P.least ≤ length hs.second.entries) × (length hs.first.entries + length hs.second.entries ≡ length es)
  pub within : (hs.first.radius ≤ bound) × (hs.second.radius ≤ bound)
  pub near : AreNear P.space ball es hs.first.point × AreNear P.space ball es hs.second.point

-- a node with an entry too many is split, and its halves are staged, the first before the second
pub record IsHalved {E : Type 0} (P : Plan) (ball : E → Ball) (set : E → ℕ → E) (make : List E → Node) (es : List E)
    (hs : Halves E) (old new : List Node) (g : Grew) : Type 0 where
  pub many : P.most < length es
  pub halves : AreHalves P ball set es hs
  pub staged : new ≡ old ++ make hs.first.entries ∷ make hs.second.entries ∷ []
  pub grew : g ≡ Two (stem_of (P.number (length old)) hs.first) (stem_of (P.number (length old + 1)) hs.second)

-- a node of the entries is staged after others
abbrev pub IsStaged : {E : Type 0} → Plan → (E → Ball) → (E → ℕ → E) → (List E → Node) → List E → List Node → List Node → Grew → Type 0
IsStaged {E} P ball set make es old new g = IsWhole P make es old new g ⊎ ((hs : Halves E) × IsHalved P ball set make es hs old new g)

-- the entry of a new page
abbrev pub entry_of : (List ℕ → ℕ) → Stem → InnerEntry
entry_of par c = record { child = c.page; radius = c.radius; parent = par c.point; point = c.point }

-- the entries of a node, where the subtree at a place has grown
abbrev pub with_child : ℕ → (List ℕ → ℕ) → InnerEntry → Grew → List InnerEntry → List InnerEntry
with_child d par e (One page) es = record e { child = page; radius = max e.radius d } ∷ es
with_child d par e (Two c f) es = entry_of par c ∷ (es ++ entry_of par f ∷ [])

abbrev pub regrown : (List ℕ → ℕ) → (List ℕ → ℕ) → ℕ → Grew → List InnerEntry → List InnerEntry
regrown far par i g [] = []
regrown far par zero g (e ∷ es) = with_child (far e.point) par e g es
regrown far par (suc i) g (e ∷ es) = e ∷ regrown far par i g es

-- neither the radius nor the stored distance is above the bound
abbrev pub IsNear : InnerEntry → Type 0
IsNear e = (e.radius ≤ bound) × (e.parent ≤ bound)

-- no radius is above the bound
abbrev pub IsSmall : Grew → Type 0
IsSmall (One page) = Unit {0}
IsSmall (Two c f) = (c.radius ≤ bound) × (f.radius ≤ bound)

-- the entry of the new object
abbrev pub new_entry : Plan → Option (List ℕ) → LeafEntry
new_entry P above = record { id = P.object.id; tag = P.object.tag; parent = parent_distance P.space above P.object.point; point = P.object.point }

-- the routing point above, if there is one
abbrev pub above_of : Bool → List ℕ → Option (List ℕ)
above_of true q = None
above_of false q = Some q

-- the descent from a page at a height: which nodes it stages after others, which pages it leaves, and what the page's node has
-- grown to
abbrev pub Descends : Plan → Shelf → ℕ → ℕ → Option (List ℕ) → List ℕ → List Node → List ℕ → List Node → Grew → Type 0
Descends P shelf zero page above left_old old left_new new g =
    (es : List LeafEntry) × IsNodeOf shelf page (Leaf es) × (left_new ≡ left_old ++ page ∷ [])
    × IsStaged P leaf_ball leaf_with Leaf (es ++ new_entry P above ∷ []) old new g
    × (parent_distance P.space above P.object.point ≤ bound)
Descends P shelf (suc h) page above left_old old left_new new g =
    (es : List InnerEntry) × (c : InnerEntry) × (mid : List Node) × (below : Grew)
    × IsNodeOf shelf page (Inner (suc h) es)
    × (chosen P.space (map inner_ball es) P.object.point < length es)
    × (c ≡ slice_index_or es (chosen P.space (map inner_ball es) P.object.point) c)
    × Descends P shelf h c.child (Some c.point) (left_old ++ page ∷ []) old left_new mid below
    × IsStaged P inner_ball inner_with (Inner (suc h))
    (regrown (P.space.dist P.object.point) (parent_distance P.space above) (chosen P.space (map inner_ball es) P.object.point) below es) mid new g
    × AllByRecursion IsNear (regrown (P.space.dist P.object.point) (parent_distance P.space above) (chosen P.space (map inner_ball es) P.object.point) below es)

abbrev pub is_two : Grew → Bool
is_two (One page) = false
is_two (Two c d) = true

-- the entry of a half in a new root
abbrev pub root_entry : Stem → InnerEntry
root_entry c = entry_of (λ p. 0) c

-- the root after others were staged: where the old root has grown to two halves, a new node is staged above them
abbrev pub Roots : (ℕ → ℕ) → ℕ → Grew → List Node → List Node → ℕ → ℕ → Type 0
Roots number h (One page) old new root height = (new ≡ old) × (root ≡ page) × (height ≡ h)
Roots number h (Two c d) old new root height =
    (h < 14) × (new ≡ old ++ Inner (h + 1) (root_entry c ∷ root_entry d ∷ []) ∷ []) × (root ≡ number (length old)) × (height ≡ h + 1)

-- the walk of an insertion from the live root: the nodes that it stages, the pages that it leaves, and the new root
abbrev pub Walks : Plan → Shelf → Live → List ℕ → List Node → ℕ → ℕ → Type 0
Walks P shelf t left nodes root height =
    (mid : List Node) × (g : Grew) × Descends P shelf t.height t.root None [] [] left mid g × Roots P.number t.height g mid nodes root height
