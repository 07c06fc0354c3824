-- Stored distances and levels of a file with staged nodes.
use Rattle.std.proofs.Common.{◌≡◌, ℕ, zero, suc, ◌<◌, List, [], ◌∷◌, ◌++◌, refl, sym, ap, ◌∙◌, arith, length, map, subst, get_or, inl}
use Rattle.std.specs.Prelude.{Option, Some, IsTrue}
use Rattle.std.specs.List.{AllByRecursion}
use Rattle.metric_laws.specs.Space.{Space}
use Rattle.metric_laws.proofs.Published.{all_append, all_weaker, all_in}
use Rattle.tree_shape.specs.declared.entry.LeafEntry.{LeafEntry}
use Rattle.tree_shape.specs.declared.entry.InnerEntry.{InnerEntry}
use Rattle.tree_shape.specs.declared.entry.Node.{Node}
use Rattle.tree_shape.specs.declared.entry.Node.TheVariants.{Leaf, Inner}
use Rattle.tree_shape.specs.Fill.{least_for}
use Rattle.tree_shape.specs.Tree.{Nodes, leaf_entries, inner_entries, pages_at, objects_at, parent_distance, IsSoundObject, IsSoundEntry, IsSoundAt}
use Rattle.tree_growth.specs.Dealing.{Ball, split_of}
use Rattle.tree_growth.specs.Insertion.{taken, left, chosen}
use Rattle.tree_growth.proofs.Published.{all_taken, all_left}
use Rattle.tree_shape.proofs.Published.{Agree, all_within}
use Rattle.promote_split.specs.declared.halves.Half.{Half}
use Rattle.promote_split.specs.Halves.{IsHalf}
use Rattle.page_store.specs.Shelf.{Shelf}
use Rattle.page_store.specs.Reading.{nodes_of}
use Rattle.page_store.proofs.Published.{IsStoredAt, IsStoredEntry, HoldsFrom}
use Rattle.insert_path.specs.declared.grew.Grew.{Grew}
use Rattle.insert_path.specs.declared.grew.Grew.TheVariants.{One, Two}
use Rattle.insert_path.specs.Walk.{inner_ball}
use Rattle.insert_path.specs.Descent.{Plan, leaf_ball, leaf_with, inner_with, new_entry, entry_of, regrown, IsStaged, Descends}
use Rattle.insert_path.proofs.Holding.{by_staged, holds_staged, agree_below, chosen_in}
use Rattle.insert_path.proofs.Walked.{told_node}

abbrev pub GrownStored : Space → Nodes → ℕ → Option (List ℕ) → Grew → Type 0
GrownStored s nodes h above (One page) = IsStoredAt s nodes h above page
GrownStored s nodes h above (Two c d) = IsStoredAt s nodes h (Some c.point) c.page × IsStoredAt s nodes h (Some d.point) d.page

-- a sound subtree is stored so
pub stored_of_sound : (s : Space) (nodes : Nodes) (h least : ℕ) (above : Option (List ℕ)) (page : ℕ) → IsSoundAt s nodes h least above page → IsStoredAt s nodes h above page
stored_of_sound s nodes zero least above page sound = (sound.0, sound.1, all_weaker (IsSoundObject s above) (λ e. e.parent ≡ parent_distance s above e.point) sound.0 (λ e k. k.parent_is) sound.3)
stored_of_sound s nodes (suc h) least above page sound = (
  sound.0,
  sound.1,
  all_weaker (λ (e : InnerEntry). IsSoundEntry s above (objects_at nodes h e.child) e × IsSoundAt s nodes h (least_for s.dimension) (Some e.point) e.child) (IsStoredEntry s nodes h above) sound.0
      (λ e k. (k.0.parent_is, stored_of_sound s nodes h (least_for s.dimension) (Some e.point) e.child k.1)) sound.3,
)

-- a subtree depends on its own pages alone
pub stored_same : (s : Space) (old new : Nodes) (h page : ℕ) (above : Option (List ℕ)) → Agree old new (pages_at old h page) → IsStoredAt s old h above page → IsStoredAt s new h above page
stored_same s old new zero page above agree stored = (stored.0, agree page (inl refl) ∙ stored.1, stored.2)
stored_same s old new (suc h) page above agree stored = (
  stored.0,
  agree page (inl refl) ∙ stored.1,
  all_within (IsStoredEntry s old h above) (IsStoredEntry s new h above) stored.0
      (λ e k p. (p.0, stored_same s old new h e.child (Some e.point) (agree_below old new h page (suc h) stored.0 e stored.1 agree k) p.1)) stored.2,
)

-- a leaf on its new pages
pub leaf_stored : (P : Plan) (file : Nodes) (above : Option (List ℕ)) (es : List LeafEntry) (old new : List Node) (g : Grew) → IsStaged P leaf_ball leaf_with Leaf es old new g → HoldsFrom file P.number 0 new →
    AllByRecursion (λ e. e.parent ≡ parent_distance P.space above e.point) es → GrownStored P.space file zero above g
leaf_stored P file above es old new g staged holds all =
    by_staged P leaf_ball leaf_with Leaf es file old new g (GrownStored P.space file zero above) staged holds
    (λ few at. (es, at, all))
    (λ many hs by at at'. (
      (hs.first.entries, at, half (split_of P.space P.promote P.split P.least (map leaf_ball es)).first (taken (split_of P.space P.promote P.split P.least (map leaf_ball es)).mask es) hs.first by.0),
      (hs.second.entries, at', half (split_of P.space P.promote P.split P.least (map leaf_ball es)).second (left (split_of P.space P.promote P.split P.least (map leaf_ball es)).mask es) hs.second by.1),
    ))
  where
    each : (q : List ℕ) (xs : List LeafEntry) → AllByRecursion (λ (e : LeafEntry). e.parent ≡ P.space.dist e.point q) (map (λ e. leaf_with e (P.space.dist e.point q)) xs)
    each q [] = tt
    each q (x ∷ xs) = (refl, each q xs)

    half : (b : Ball) (xs : List LeafEntry) (h : Half LeafEntry) → IsHalf P.space leaf_ball leaf_with b xs h → AllByRecursion (λ (e : LeafEntry). e.parent ≡ P.space.dist e.point h.point) h.entries
    half b xs h is = rw (is.entries_are, is.point_is) (each b.0 xs)

-- an inner node on its new pages
pub inner_stored : (P : Plan) (file : Nodes) (h : ℕ) (above : Option (List ℕ)) (es : List InnerEntry) (old new : List Node) (g : Grew) → IsStaged P inner_ball inner_with (Inner (suc h)) es old new g → HoldsFrom file P.number 0 new →
    AllByRecursion (IsStoredEntry P.space file h above) es → GrownStored P.space file (suc h) above g
inner_stored P file h above es old new g staged holds all =
    by_staged P inner_ball inner_with (Inner (suc h)) es file old new g (GrownStored P.space file (suc h) above) staged holds
    (λ few at. (es, at, all))
    (λ many hs by at at'. (
      (
        hs.first.entries,
        at,
        half (split_of P.space P.promote P.split P.least (map inner_ball es)).first (taken (split_of P.space P.promote P.split P.least (map inner_ball es)).mask es) hs.first by.0
            (all_taken (IsStoredEntry P.space file h above) (split_of P.space P.promote P.split P.least (map inner_ball es)).mask es all),
      ),
      (
        hs.second.entries,
        at',
        half (split_of P.space P.promote P.split P.least (map inner_ball es)).second (left (split_of P.space P.promote P.split P.least (map inner_ball es)).mask es) hs.second by.1
            (all_left (IsStoredEntry P.space file h above) (split_of P.space P.promote P.split P.least (map inner_ball es)).mask es all),
      ),
    ))
  where
    each : (q : List ℕ) (xs : List InnerEntry) → AllByRecursion (IsStoredEntry P.space file h above) xs → AllByRecursion (IsStoredEntry P.space file h (Some q)) (map (λ e. inner_with e (P.space.dist e.point q)) xs)
    each q [] all = tt
    each q (x ∷ xs) all = ((refl, all.0.1), each q xs all.1)

    half : (b : Ball) (xs : List InnerEntry) (k : Half InnerEntry) → IsHalf P.space inner_ball inner_with b xs k → AllByRecursion (IsStoredEntry P.space file h above) xs → AllByRecursion (IsStoredEntry P.space file h (Some k.point)) k.entries
    half b xs k is all = rw (is.entries_are, is.point_is) (each b.0 xs all)

-- the entries of a node whose subtree has grown
pub regrown_stored : (s : Space) (file : Nodes) (h : ℕ) (above : Option (List ℕ)) (far : List ℕ → ℕ) (i : ℕ) (g : Grew) (es : List InnerEntry) (z : InnerEntry) → i < length es →
    AllByRecursion (IsStoredEntry s file h above) es → GrownStored s file h (Some (get_or es i z).point) g → AllByRecursion (IsStoredEntry s file h above) (regrown far (parent_distance s above) i g es)
regrown_stored s file h above far i g [] z low all grown = absurd (omega arith)
regrown_stored s file h above far zero (One page) (e ∷ es) z low all grown = ((all.0.0, grown), all.1)
regrown_stored s file h above far zero (Two c d) (e ∷ es) z low all grown =
    ((refl, grown.0), all_append (IsStoredEntry s file h above) es (entry_of (parent_distance s above) d ∷ []) all.1 ((refl, grown.1), tt))
regrown_stored s file h above far (suc i) g (e ∷ es) z low all grown = (all.0, regrown_stored s file h above far i g es z (omega arith) all.1 grown)

-- what has grown is stored as the old node was
pub descends_stored : (P : Plan) (shelf : Shelf) (new : Nodes) → IsTrue shelf.is_known → (h page : ℕ) (above : Option (List ℕ)) (l0 : List ℕ) (old : List Node) (l1 : List ℕ) (nodes : List Node) (g : Grew) →
    Descends P shelf h page above l0 old l1 nodes g → HoldsFrom new P.number 0 nodes → Agree (nodes_of shelf.read) new (pages_at (nodes_of shelf.read) h page) →
    IsStoredAt P.space (nodes_of shelf.read) h above page → GrownStored P.space new h above g
descends_stored P shelf new is_known zero page above l0 old l1 nodes g d holds agree stored =
    let same : stored.0 ≡ d.0 = ap leaf_entries (sym stored.1 ∙ told_node shelf page (Leaf d.0) (d.1.told is_known)) in
    leaf_stored P new above (d.0 ++ new_entry P above ∷ []) old nodes g d.3 holds
    (all_append (λ (e : LeafEntry). e.parent ≡ parent_distance P.space above e.point) d.0 (new_entry P above ∷ []) (subst (AllByRecursion (λ (e : LeafEntry). e.parent ≡ parent_distance P.space above e.point)) same stored.2) (refl, tt))
descends_stored P shelf new is_known (suc h) page above l0 old l1 nodes g d holds agree stored =
    let is : nodes_of shelf.read page ≡ Some (Inner (suc h) d.0) = told_node shelf page (Inner (suc h) d.0) (d.4.told is_known) in
    let same : stored.0 ≡ d.0 = ap inner_entries (sym stored.1 ∙ is) in
    let before : AllByRecursion (IsStoredEntry P.space (nodes_of shelf.read) h above) d.0 = subst (AllByRecursion (IsStoredEntry P.space (nodes_of shelf.read) h above)) same stored.2 in
    let mine = chosen_in d.0 (chosen P.space (map inner_ball d.0) P.object.point) d.1 d.5 d.6 in
    let deep = descends_stored P shelf new is_known h d.1.child (Some d.1.point) (l0 ++ page ∷ []) old l1 d.2 d.3 d.7 (holds_staged P inner_ball inner_with (Inner (suc h)) _ new d.2 nodes g d.8 holds)
    (agree_below (nodes_of shelf.read) new h page (suc h) d.0 d.1 is agree mine)
    (all_in (IsStoredEntry P.space (nodes_of shelf.read) h above) d.0 d.1 before mine).1 in
    inner_stored P new h above (regrown (P.space.dist P.object.point) (parent_distance P.space above) (chosen P.space (map inner_ball d.0) P.object.point) d.3 d.0) d.2 nodes g d.8 holds
    (regrown_stored P.space new h above (P.space.dist P.object.point) (chosen P.space (map inner_ball d.0) P.object.point) d.3 d.0 d.1 d.5
    (all_within (IsStoredEntry P.space (nodes_of shelf.read) h above) (IsStoredEntry P.space new h above) d.0
    (λ e k p. (p.0, stored_same P.space (nodes_of shelf.read) new h e.child (Some e.point) (agree_below (nodes_of shelf.read) new h page (suc h) d.0 e is agree k) p.1)) before)
    (subst (λ (e : InnerEntry). GrownStored P.space new h (Some e.point) d.3) d.6 deep))
