-- A subtree is opened.
use Rattle.std.proofs.Common.{◌≡◌, ℕ, zero, suc, ◌+◌, ◌-◌, ◌<◌, ◌≤◌, List, [], ◌∷◌, ◌++◌, Option, Some, refl, sym, ap, inl, inr, arith, ◌∙◌, length, length-append, subst}
use Rattle.std.specs.Prelude.{map, IsTrue, IsPermutation}
use Rattle.std.specs.List.{flat_map}
use Rattle.std.proofs.lemmas.List.{append-nil}
use Rattle.metric_laws.specs.Space.{Space, IsSpace}
use Rattle.metric_laws.specs.Lists.{IsIn}
use Rattle.metric_laws.proofs.Published.{all_in, all_weaker, in-append, in-map, flat_map-map}
use Rattle.tree_shape.specs.declared.live.Live.{Live}
use Rattle.tree_shape.specs.declared.entry.LeafEntry.{LeafEntry}
use Rattle.tree_shape.specs.declared.entry.InnerEntry.{InnerEntry}
use Rattle.tree_shape.specs.declared.entry.Node.{Node}
use Rattle.tree_shape.specs.declared.entry.Node.TheVariants.{Leaf, Inner}
use Rattle.tree_shape.specs.Fill.{least_for}
use Rattle.tree_shape.specs.Tree.{Nodes, IsSoundAt, IsSoundTree, IsNodePage, objects_at, pages_at, leaf_entries, inner_entries}
use Rattle.tree_shape.proofs.Published.{SoundSubtree, Fits, objects_fit, flat_map_agree, in-flat_map, few}
use Rattle.page_store.specs.Placing.{live_pages}
use Rattle.log_model.proofs.Published.{map-append}
use Rattle.pin_cursor.specs.declared.waiting.Subtree.{Subtree}
use Rattle.pin_cursor.specs.declared.waiting.Candidate.{Candidate}
use Rattle.pin_cursor.specs.Cursor.{OpenCursor, candidate_of, subtree_of, node_level, pages_below, coming, waiting, IsSubtreeOf, IsCursorOn}
use Rattle.nearest_search.specs.Counts.{total}
use Rattle.nearest_search.proofs.Published.{total-append, total-permutation, in-permutation_back}
use Rattle.pin_cursor.proofs.Lists.{one_of, times_total, still_in, was_in, same_total}
use Rattle.pin_cursor.proofs.Pops.{level_is}

map-flat_map : {X Y Z : Type 0} (g : Y → Z) (f : X → List Y) (xs : List X) → map g (flat_map f xs) ≡ flat_map (λ x. map g (f x)) xs
map-flat_map g f [] = refl
map-flat_map g f (x ∷ xs) = map-append g (f x) (flat_map f xs) ∙ ap (λ r. map g (f x) ++ r) (map-flat_map g f xs)

flat_length : {X Y : Type 0} (f : X → List Y) (xs : List X) → length (flat_map f xs) ≡ total (λ x. length (f x)) xs
flat_length f [] = refl
flat_length f (x ∷ xs) = length-append (f x) (flat_map f xs) ∙ ap (λ n. length (f x) + n) (flat_length f xs)

pub page_first : (nodes : Nodes) (h page : ℕ) → IsIn page (pages_at nodes h page)
page_first nodes zero page = inl refl
page_first nodes (suc h) page = inl refl

pub has_node : (s : Space) (nodes : Nodes) (h least : ℕ) (above : Option (List ℕ)) (page : ℕ) → IsSoundAt s nodes h least above page → (node : Node) × (nodes page ≡ Some node)
has_node s nodes zero least above page sound = (Leaf sound.0, sound.1)
has_node s nodes (suc h) least above page sound = (Inner (suc h) sound.0, sound.1)

module _ (s : Space) (axioms : IsSpace s) (nodes : Nodes) (live : Live) (q : List ℕ) (q_fits : IsTrue (s.is_point q)) where
  -- what a subtree's node holds stands for the subtree
  record Splits (x : Subtree) (o : Option Node) : Type 0 where
    pub coming_is : coming s q nodes x ≡ map (candidate_of s q) (leaf_entries o) ++ flat_map (coming s q nodes) (map (subtree_of s q) (inner_entries o))
    pub pages_are : pages_below nodes x ≡ x.page ∷ flat_map (pages_below nodes) (map (subtree_of s q) (inner_entries o))
    pub subtrees : (y : Subtree) → IsIn y (map (subtree_of s q) (inner_entries o)) → IsSubtreeOf s nodes live q y

  module _ (x : Subtree) where
    leaf_splits : (least : ℕ) (above : Option (List ℕ)) → IsSoundAt s nodes zero least above x.page → Splits x (nodes x.page)
    leaf_splits least above sound = record {
      coming_is = ap (λ h. map (candidate_of s q) (objects_at nodes h x.page)) level ∙ sym (append-nil (map (candidate_of s q) (leaf_entries (nodes x.page))))
          ∙ ap (λ es. map (candidate_of s q) (leaf_entries (nodes x.page)) ++ flat_map (coming s q nodes) (map (subtree_of s q) es)) (sym none);
      pages_are = ap (λ h. pages_at nodes h x.page) level ∙ ap (λ es. x.page ∷ flat_map (pages_below nodes) (map (subtree_of s q) es)) (sym none);
      subtrees = λ y k. absurd (subst (λ (es : List InnerEntry). IsIn y (map (subtree_of s q) es)) none k);
    }
      where
        level : node_level (nodes x.page) ≡ zero
        level = level_is s nodes zero least above x.page sound

        none : inner_entries (nodes x.page) ≡ []
        none = ap inner_entries sound.1

    module _ (h least : ℕ) (above : Option (List ℕ)) (sound : IsSoundAt s nodes (suc h) least above x.page) (within : (page : ℕ) → IsIn page (pages_at nodes (suc h) x.page) → IsIn page (live_pages nodes live)) where
      abbrev es : List InnerEntry
      es = inner_entries (nodes x.page)

      level : node_level (nodes x.page) ≡ suc h
      level = level_is s nodes (suc h) least above x.page sound

      are : es ≡ sound.0
      are = ap inner_entries sound.1

      none : leaf_entries (nodes x.page) ≡ []
      none = ap leaf_entries sound.1

      entry : (e : InnerEntry) → IsIn e es → SoundSubtree s nodes h above e
      entry e k = all_in (SoundSubtree s nodes h above) sound.0 e sound.3 (subst (λ (l : List InnerEntry). IsIn e l) are k)

      child_level : (e : InnerEntry) → IsIn e es → node_level (nodes e.child) ≡ h
      child_level e k = level_is s nodes h (least_for s.dimension) (Some e.point) e.child (entry e k).1

      child_low : (e : InnerEntry) → IsIn e es → (o : LeafEntry) → IsIn o (objects_at nodes h e.child) → s.dist e.point q - e.radius ≤ s.dist o.point q
      child_low e k o i =
          let sub = entry e k in
          let fit = all_in (Fits s) (objects_at nodes h e.child) o (objects_fit s nodes h (least_for s.dimension) (Some e.point) e.child sub.1) i in
          let cover = all_in (λ o. s.dist o.point e.point ≤ e.radius) (objects_at nodes h e.child) o sub.0.covers i in
          let t = axioms.triangle e.point o.point q sub.0.point_fits fit q_fits in
          let y = axioms.symmetric e.point o.point sub.0.point_fits fit in
          omega arith

      child : (e : InnerEntry) → IsIn e es → IsSubtreeOf s nodes live q (subtree_of s q e)
      child e k = record {
        height = h;
        least = least_for s.dimension;
        above = Some e.point;
        sound = (entry e k).1;
        low = child_low e k;
        within = λ page i. within page (inr (in-flat_map (λ e. pages_at nodes h e.child) es e page k i));
      }

      inner_splits : Splits x (nodes x.page)
      inner_splits = record {
        coming_is = ap (λ l. map (candidate_of s q) (objects_at nodes l x.page)) level ∙ map-flat_map (candidate_of s q) (λ e. objects_at nodes h e.child) es
            ∙ flat_map_agree (λ e. map (candidate_of s q) (objects_at nodes h e.child)) (λ e. coming s q nodes (subtree_of s q e)) es
            (λ e k. ap (λ l. map (candidate_of s q) (objects_at nodes l e.child)) (sym (child_level e k)))
            ∙ sym (flat_map-map (coming s q nodes) (subtree_of s q) es) ∙ ap (λ l. map (candidate_of s q) l ++ flat_map (coming s q nodes) (map (subtree_of s q) es)) (sym none);
        pages_are = ap (λ l. pages_at nodes l x.page) level
            ∙ ap (λ r. x.page ∷ r) (flat_map_agree (λ e. pages_at nodes h e.child) (λ e. pages_below nodes (subtree_of s q e)) es (λ e k. ap (λ l. pages_at nodes l e.child) (sym (child_level e k)))
            ∙ sym (flat_map-map (pages_below nodes) (subtree_of s q) es));
        subtrees = λ y k. let e = in-map (subtree_of s q) es y k in subst (IsSubtreeOf s nodes live q) (sym e.2) (child e.0 e.1);
      }

    splits : (h least : ℕ) (above : Option (List ℕ)) → IsSoundAt s nodes h least above x.page → ((page : ℕ) → IsIn page (pages_at nodes h x.page) → IsIn page (live_pages nodes live)) → Splits x (nodes x.page)
    splits zero least above sound within = leaf_splits least above sound
    splits (suc h) least above sound within = inner_splits h least above sound within

module _ (s : Space) (axioms : IsSpace s) (nodes : Nodes) (c : OpenCursor) (q_fits : IsTrue (s.is_point c.point)) (sound : IsSoundTree s nodes c.live) (on : IsCursorOn s nodes c)
    (x : Subtree) (rest : List Subtree) (popped : IsPermutation c.subtrees (x ∷ rest)) where
  subtree : IsSubtreeOf s nodes c.live c.point x
  subtree = on.subtrees x (in-permutation_back c.subtrees (x ∷ rest) x popped (inl refl))

  whole : Splits s axioms nodes c.live c.point q_fits x (nodes x.page)
  whole = splits s axioms nodes c.live c.point q_fits x subtree.height subtree.least subtree.above subtree.sound subtree.within

  pub page_there : IsIn x.page (live_pages nodes c.live)
  page_there = subtree.within x.page (page_first nodes subtree.height x.page)

  pub node_there : (node : Node) × (nodes x.page ≡ Some node)
  node_there = has_node s nodes subtree.height subtree.least subtree.above x.page subtree.sound

  pages_left : length (flat_map (pages_below nodes) c.subtrees) ≡ length (pages_below nodes x) + total (λ y. length (pages_below nodes y)) rest
  pages_left = flat_length (pages_below nodes) c.subtrees ∙ total-permutation (λ y. length (pages_below nodes y)) c.subtrees (x ∷ rest) popped

  -- a page is left
  pub opens_room : c.opened < c.live.pages
  opens_room =
      let all = few c.live.pages (live_pages nodes c.live) (all_weaker (IsNodePage c.live) (λ p. p < c.live.pages) (live_pages nodes c.live) (λ p k. k.1) sound.within) sound.once in
      let o = on.opened in let l = pages_left in let p = ap length whole.pages_are in omega arith

  module _ (node : Node) (is : nodes x.page ≡ Some node) (cs' : List Candidate) (xs' : List Subtree)
      (met : IsPermutation (map (candidate_of s c.point) (leaf_entries (Some node)) ++ c.candidates) cs') (queued : IsPermutation (map (subtree_of s c.point) (inner_entries (Some node)) ++ rest) xs') where
    abbrev pub after : OpenCursor
    after = record { live = c.live; point = c.point; given = c.given; opened = c.opened + 1; subtrees = xs'; candidates = cs' }

    abbrev N : List Candidate
    N = map (candidate_of s c.point) (leaf_entries (Some node))

    abbrev M : List Subtree
    M = map (subtree_of s c.point) (inner_entries (Some node))

    split : Splits s axioms nodes c.live c.point q_fits x (Some node)
    split = subst (λ (o : Option Node). Splits s axioms nodes c.live c.point q_fits x o) is whole

    subtrees_after : (y : Subtree) → IsIn y xs' → IsSubtreeOf s nodes c.live c.point y
    subtrees_after y k =
        elim (in-append M rest y (in-permutation_back (M ++ rest) xs' y queued k)) [
          | inl fresh ↦ split.subtrees y fresh
          | inr old ↦ on.subtrees y (in-permutation_back c.subtrees (x ∷ rest) y popped (inr old))
        ]

    opened_after : c.opened + 1 + length (flat_map (pages_below nodes) xs') ≡ length (live_pages nodes c.live)
    opened_after =
        let o = on.opened in let l = pages_left in let p : length (pages_below nodes x) ≡ suc (length (flat_map (pages_below nodes) M)) = ap length split.pages_are in
        let m = flat_length (pages_below nodes) M in
        let n = flat_length (pages_below nodes) xs' in
        let r = total-permutation (λ y. length (pages_below nodes y)) (M ++ rest) xs' queued in
        let a = total-append (λ y. length (pages_below nodes y)) M rest in omega arith

    pub opened_stands : IsCursorOn s nodes after
    opened_stands = record {
      subtrees = subtrees_after;
      waits = λ y. (
        (λ k. (on.waits y).0 (was_in (coming s c.point nodes) c.candidates cs' N c.subtrees rest xs' M x popped met queued split.coming_is y k)),
        (λ k. still_in (coming s c.point nodes) c.candidates cs' N c.subtrees rest xs' M x popped met queued split.coming_is y ((on.waits y).1 k)),
      );
      once = λ id.
          let o = on.once id in let t = times_total id (waiting s nodes c) in let u = times_total id (cs' ++ flat_map (coming s c.point nodes) xs') in
          let e = same_total (coming s c.point nodes) c.candidates cs' N c.subtrees rest xs' M x popped met queued split.coming_is (one_of id) in omega arith;
      opened = opened_after;
    }
