-- The file with the nodes of an insertion has the tree of the insertion.
use Rattle.std.proofs.Common.{◌≡◌, ◌⊎◌, ℕ, suc, ◌+◌, ◌<◌, ◌≤◌, List, [], ◌∷◌, ◌++◌, refl, sym, ap, ◌∙◌, arith, length, map, subst, inl, inr}
use Rattle.std.specs.Prelude.{◌↔◌, Some, None, IsTrue, if◌then◌else◌, nat_lt, count_by}
use Rattle.std.specs.List.{AllByRecursion}
use Rattle.metric_laws.specs.Space.{IsSpace}
use Rattle.metric_laws.specs.Lists.{IsIn}
use Rattle.metric_laws.proofs.Published.{all_in, all_each}
use Rattle.tree_shape.specs.declared.live.Live.{Live}
use Rattle.tree_shape.specs.declared.entry.Node.{Node}
use Rattle.tree_shape.specs.Fill.{root_least}
use Rattle.tree_shape.specs.Tree.{Nodes, pages_at, times, objects, IsNodePage, IsSoundTree, points_by_id, points_from, tags_by_id, tags_from}
use Rattle.tree_shape.specs.Plain.{Object, Plain, Tall, objects_of, object_of, tree_at, tree_of}
use Rattle.tree_shape.specs.Sound.{ObjectFits, IsSoundTall}
use Rattle.tree_growth.specs.Insertion.{Rules, Grown, new_root, rules, placed_by}
use Rattle.tree_growth.proofs.Published.{insertion_adds_one, sound_has_entries, insertion_keeps_sound}
use Rattle.tree_shape.proofs.Published.{sound_without_pages, same_objects, Agree}
use Rattle.page_store.specs.declared.staging.StagedNode.{StagedNode}
use Rattle.page_store.specs.declared.staging.Placed.{Placed}
use Rattle.page_store.specs.Shelf.{Shelf}
use Rattle.page_store.specs.Reading.{nodes_of}
use Rattle.page_store.specs.Staging.{pages_of, staged_for}
use Rattle.page_store.proofs.Published.{IsStoredAt, sound_of_stored, AreCounted, with_id, HoldsFrom, trees_from, pages_from, stand_holds, trees_numbered, in_times, times_in, lower_or, given_once, free_none, pages_numbered, given_free, given_apart, given_each}
use Rattle.insert_path.specs.Placing.{fresh, fresh_root, fresh_of, HasInserted}
use Rattle.insert_path.specs.Descent.{Plan, rules_of, Walks}
use Rattle.insert_path.proofs.Holding.{grown_tree}
use Rattle.insert_path.proofs.Walked.{descends_shown, descends_fresh}
use Rattle.insert_path.proofs.Stored.{stored_of_sound, descends_stored}
use Rattle.insert_path.proofs.Paged.{descends_pages, descends_in}
use Rattle.insert_path.proofs.Rooted.{tall, root_holds, root_tree, root_stored, root_pages, root_fresh}
use Rattle.insert_path.proofs.Listing.{ids_more, placed_all, old_one, new_one, points_more, tags_more}
use Rattle.page_store.specs.Placing.{live_pages, staged_tree, IsOver}
use Rattle.page_store.specs.Numbers.{numbered}

module _ (P : Plan) (shelf : Shelf) (is_known : IsTrue shelf.is_known) (t : Live) (left : List ℕ) (nodes : List Node) (root height : ℕ) (walks : Walks P shelf t left nodes root height) (new : Nodes)
    (holds : HoldsFrom new P.number 0 nodes) (agree : Agree (nodes_of shelf.read) new (live_pages (nodes_of shelf.read) t)) where
  pub mid_holds : HoldsFrom new P.number 0 walks.0
  mid_holds = root_holds P.number t.height new walks.1 walks.0 nodes root height walks.3 holds

  -- the new tree
  pub new_tree : tall new root height ≡ placed_by (rules_of P) P.object (tree_of (nodes_of shelf.read) t)
  new_tree = root_tree P.number t.height new walks.1 walks.0 nodes root height walks.3 holds
      ∙ ap (new_root t.height) (descends_shown P shelf new is_known t.height t.root None [] [] left walks.0 walks.1 walks.2 mid_holds agree)

  pub new_fresh : trees_from new P.number 0 nodes ≡ fresh_of (rules_of P) P.object (tree_of (nodes_of shelf.read) t)
  new_fresh = root_fresh P.number t.height new walks.1 walks.0 nodes root height walks.3 holds
      ∙ ap (λ (r : List Tall). r ++ fresh_root t.height (grown_tree new t.height walks.1)) (descends_fresh P shelf new is_known t.height t.root None [] [] left walks.0 walks.1 walks.2 mid_holds agree)
      ∙ ap (λ (g : Grown (Plain t.height)). fresh (rules_of P) P.object t.height (tree_at (nodes_of shelf.read) t.height t.root) ++ fresh_root t.height g)
      (descends_shown P shelf new is_known t.height t.root None [] [] left walks.0 walks.1 walks.2 mid_holds agree)

  pub new_stored : IsStoredAt P.space (nodes_of shelf.read) t.height None t.root → IsStoredAt P.space new height None root
  new_stored stored = root_stored P.space P.number t.height new walks.1 walks.0 nodes root height walks.3 holds
      (descends_stored P shelf new is_known t.height t.root None [] [] left walks.0 walks.1 walks.2 mid_holds agree stored)

  pub new_pages : (n : ℕ) → times n (pages_at new height root) + times n left ≡ times n (live_pages (nodes_of shelf.read) t) + times n (pages_from P.number 0 nodes)
  new_pages n =
      let a = descends_pages P shelf new is_known t.height t.root None [] [] left walks.0 walks.1 walks.2 mid_holds agree n in
      let b = root_pages P.number t.height n new walks.1 walks.0 nodes root height walks.3 holds in omega (arith, a, b)

  pub left_in : (n : ℕ) → IsIn n left → IsIn n (live_pages (nodes_of shelf.read) t)
  left_in n k = elim (descends_in P shelf is_known t.height t.root None [] [] left walks.0 walks.1 walks.2 n k) [ inl a ↦ absurd a | inr b ↦ b ]

  module _ (next : Live) (at_root : next.root ≡ root) (at_height : next.height ≡ height) (counted : next.count ≡ t.count + 1) (space : IsSpace P.space) (is_point : ObjectFits P.space P.object)
      (same : rules_of P ≡ rules P.space P.promote P.split) (named : P.object.id ≡ t.count) (sound : IsSoundTree P.space (nodes_of shelf.read) t)
      (up : (i : ℕ) → P.number i < P.number (i + 1)) (out : (i : ℕ) → times (P.number i) (live_pages (nodes_of shelf.read) t) ≡ 0)
      (within : (i : ℕ) → i < length nodes → IsNodePage next (P.number i)) (wide : t.pages ≤ next.pages) where
    pub next_tree : tree_of new next ≡ placed_by (rules P.space P.promote P.split) P.object (tree_of (nodes_of shelf.read) t)
    next_tree = ap (λ (k : ℕ). tall new k next.height) at_root ∙ ap (tall new root) at_height ∙ new_tree ∙ ap (λ (R : Rules). placed_by R P.object (tree_of (nodes_of shelf.read) t)) same

    pub was_sound : IsSoundTall P.space (tree_of (nodes_of shelf.read) t)
    was_sound = sound_without_pages P.space (nodes_of shelf.read) t.height (root_least t.height) None t.root sound.parts

    pub now_sound : IsSoundTall P.space (tree_of new next)
    now_sound = subst (IsSoundTall P.space) (sym next_tree) (insertion_keeps_sound P.space space P.promote P.split P.object is_point (tree_of (nodes_of shelf.read) t) was_sound)

    pub next_pages : live_pages new next ≡ pages_at new height root
    next_pages = ap (λ (k : ℕ). pages_at new next.height k) at_root ∙ ap (λ (k : ℕ). pages_at new k root) at_height

    pub balance : (n : ℕ) → times n (live_pages new next) + times n left ≡ times n (live_pages (nodes_of shelf.read) t) + times n (pages_from P.number 0 nodes)
    balance n = ap (λ (ps : List ℕ). times n ps + times n left) next_pages ∙ new_pages n

    pub few : (n : ℕ) → times n (live_pages (nodes_of shelf.read) t) + times n (pages_from P.number 0 nodes) ≤ 1
    few n =
        let old = sound.once n in
        let given = (given_once P.number up n 0 nodes).0 in
        lower_or 0 (times n (pages_from P.number 0 nodes)) (λ some. let none = given_apart P.number (live_pages (nodes_of shelf.read) t) n 0 nodes out some in omega (arith, given, none)) (λ none. omega (arith, old, none))

    pub new_ids : AreCounted (objects new next) (t.count + 1)
    new_ids id = ids_more id t.count P.object (objects (nodes_of shelf.read) t) (objects new next) named (sound.ids id)
        (ap (count_by (with_id id)) (sym (same_objects new next.height next.root)) ∙ ap (λ (u : Tall). count_by (with_id id) (objects_of u)) next_tree
        ∙ insertion_adds_one P.space P.promote P.split P.object (tree_of (nodes_of shelf.read) t) (sound_has_entries P.space space.few_coordinates (tree_of (nodes_of shelf.read) t) was_sound) (with_id id)
        ∙ ap (λ (os : List Object). count_by (with_id id) os + (if with_id id P.object then 1 else 0)) (same_objects (nodes_of shelf.read) t.height t.root))

    pub next_sound : IsSoundTree P.space new next
    next_sound = record {
      parts = sound_of_stored P.space new next.height (root_least next.height) None next.root
          (subst (λ (k : ℕ). IsStoredAt P.space new next.height None k) (sym at_root) (subst (λ (k : ℕ). IsStoredAt P.space new k None root) (sym at_height)
          (new_stored (stored_of_sound P.space (nodes_of shelf.read) t.height (root_least t.height) None t.root sound.parts))))
          now_sound;
      within = all_each (IsNodePage next) (live_pages new next) (λ n k.
          lower_or 0 (times n (live_pages (nodes_of shelf.read) t))
          (λ some. let old = all_in (IsNodePage t) (live_pages (nodes_of shelf.read) t) n sound.within (times_in n (live_pages (nodes_of shelf.read) t) some) in let a = old.0 in let b = old.1 in let w = wide in (a, omega (arith, b, w)))
          (λ none. let here = in_times n (live_pages new next) k in let sum = balance n in
          all_in (IsNodePage next) (pages_from P.number 0 nodes) n (given_each (IsNodePage next) P.number 0 (length nodes) nodes (omega arith) within) (times_in n (pages_from P.number 0 nodes) (omega (arith, here, sum, none)))));
      once = λ n. let f = few n in let sum = balance n in omega (arith, f, sum);
      ids = λ id. new_ids id ∙ ap (λ (c : ℕ). if nat_lt id c then 1 else 0) (sym counted);
    }

    -- each object is an old one or the new one
    pub new_or_old : AllByRecursion (λ x. IsIn x (map object_of (objects (nodes_of shelf.read) t)) ⊎ (x ≡ P.object)) (map object_of (objects new next))
    new_or_old = subst (AllByRecursion (λ x. IsIn x (map object_of (objects (nodes_of shelf.read) t)) ⊎ (x ≡ P.object)))
        (ap objects_of (sym next_tree) ∙ same_objects new next.height next.root)
        (placed_all (rules P.space P.promote P.split) (λ x. IsIn x (map object_of (objects (nodes_of shelf.read) t)) ⊎ (x ≡ P.object)) P.object (inr refl) (tree_of (nodes_of shelf.read) t)
        (all_objects (objects_of (tree_of (nodes_of shelf.read) t)) (λ x k. inl (subst (IsIn x) (same_objects (nodes_of shelf.read) t.height t.root) k))))
      where
        all_objects : {Q : Object → Type 0} (os : List Object) → ((x : Object) → IsIn x os → Q x) → AllByRecursion Q os
        all_objects [] each = tt
        all_objects (o ∷ os) each = (each o (inl refl), all_objects os (λ x k. each x (inr k)))

    pub next_points : points_by_id new next ≡ points_by_id (nodes_of shelf.read) t ++ P.object.point ∷ []
    next_points =
        ap (points_from (objects new next) 0) (counted ∙ (let e : t.count + 1 ≡ suc t.count = omega arith in e))
        ∙ points_more (objects new next) (objects (nodes_of shelf.read) t) P.object.point 0 t.count
        (λ id low high. (old_one t.count P.object (objects (nodes_of shelf.read) t) (objects new next) named sound.ids new_ids new_or_old id (omega (arith, high))).0)
        (let e : 0 + t.count ≡ t.count = omega arith in rw e (new_one t.count P.object (objects (nodes_of shelf.read) t) (objects new next) named sound.ids new_ids new_or_old).0)

    pub next_tags : tags_by_id new next ≡ tags_by_id (nodes_of shelf.read) t ++ P.object.tag ∷ []
    next_tags =
        ap (tags_from (objects new next) 0) (counted ∙ (let e : t.count + 1 ≡ suc t.count = omega arith in e))
        ∙ tags_more (objects new next) (objects (nodes_of shelf.read) t) P.object.tag 0 t.count
        (λ id low high. (old_one t.count P.object (objects (nodes_of shelf.read) t) (objects new next) named sound.ids new_ids new_or_old id (omega (arith, high))).1)
        (let e : 0 + t.count ≡ t.count = omega arith in rw e (new_one t.count P.object (objects (nodes_of shelf.read) t) (objects new next) named sound.ids new_ids new_or_old).1)

    -- the pages that are left are those of the old tree that are not in the new one
    pub next_left : (page : ℕ) → IsIn page left ↔ (IsIn page (live_pages (nodes_of shelf.read) t) × (IsIn page (live_pages new next) → ⊥))
    next_left page = (
      (λ k. (
        left_in page k,
        λ there.
            let a = in_times page left k in let b = in_times page (live_pages new next) there in let f = few page in let sum = balance page in absurd (omega (arith, a, b, f, sum)),
      )),
      (λ both. times_in page left
          (let a = in_times page (live_pages (nodes_of shelf.read) t) both.0 in let sum = balance page in
          lower_or 0 (times page (live_pages new next)) (λ some. absurd (both.1 (times_in page (live_pages new next) some))) (λ none. omega (arith, a, sum, none)))),
    )

-- a file over which the staged nodes stand has the tree of the insertion
pub has_inserted : (P : Plan) (shelf : Shelf) → IsTrue shelf.is_known → (t : Live) (nodes : List Node) (root height : ℕ) (placed : Placed) → Walks P shelf t placed.left nodes root height →
    placed.staged ≡ numbered P.number 0 nodes → placed.next.root ≡ root → placed.next.height ≡ height → placed.next.count ≡ t.count + 1 → IsSpace P.space → ObjectFits P.space P.object →
    rules_of P ≡ rules P.space P.promote P.split → P.object.id ≡ t.count → IsSoundTree P.space (nodes_of shelf.read) t →
    ((i : ℕ) → P.number i < P.number (i + 1)) → ((i : ℕ) → times (P.number i) (live_pages (nodes_of shelf.read) t) ≡ 0) →
    ((i : ℕ) → i < length nodes → IsNodePage placed.next (P.number i)) → t.pages ≤ placed.next.pages →
    (new : Nodes) → IsOver (nodes_of shelf.read) t placed.staged new → HasInserted P.space (rules P.space P.promote P.split) (nodes_of shelf.read) t P.object placed new
has_inserted P shelf is_known t nodes root height placed walks staged at_root at_height counted space is_point same named sound up out within wide new over =
    let holds : HoldsFrom new P.number 0 nodes = stand_holds new P.number 0 nodes (subst (AllByRecursion (λ (s : StagedNode). new s.page ≡ Some s.node)) staged over.stand) in
    let agree : Agree (nodes_of shelf.read) new (live_pages (nodes_of shelf.read) t) = λ page k.
    over.stay page k (ap (λ (ss : List StagedNode). staged_for ss page) staged ∙ free_none (numbered P.number 0 nodes) page (given_free P.number (live_pages (nodes_of shelf.read) t) page 0 nodes out k)) in
    record {
      tree = next_tree P shelf is_known t placed.left nodes root height walks new holds agree placed.next at_root at_height counted space is_point same named sound up out within wide;
      sound = next_sound P shelf is_known t placed.left nodes root height walks new holds agree placed.next at_root at_height counted space is_point same named sound up out within wide;
      points = next_points P shelf is_known t placed.left nodes root height walks new holds agree placed.next at_root at_height counted space is_point same named sound up out within wide;
      tags = next_tags P shelf is_known t placed.left nodes root height walks new holds agree placed.next at_root at_height counted space is_point same named sound up out within wide;
      fresh = ap (map (staged_tree new)) staged ∙ trees_numbered new P.number 0 nodes ∙ new_fresh P shelf is_known t placed.left nodes root height walks new holds agree ∙ ap (λ (R : Rules). fresh_of R P.object (tree_of (nodes_of shelf.read) t)) same;
      left = next_left P shelf is_known t placed.left nodes root height walks new holds agree placed.next at_root at_height counted space is_point same named sound up out within wide;
      balance = λ page. balance P shelf is_known t placed.left nodes root height walks new holds agree placed.next at_root at_height counted space is_point same named sound up out within wide page ∙ ap (λ (ps : List ℕ). times page (live_pages (nodes_of shelf.read) t) + times page ps) (sym (ap pages_of staged ∙ pages_numbered P.number 0 nodes));
    }
