-- A file with the nodes of a bulk load has its tree.
use Rattle.std.proofs.Common.{◌≡◌, ℕ, zero, suc, ◌+◌, ◌-◌, ◌*◌, ◌^◌, ◌<◌, ◌≤◌, true, List, [], ◌∷◌, refl, sym, ap, ◌∙◌, arith, length, map, subst}
use Rattle.std.proofs.Math.Nat.{one-le-pow}
use Rattle.std.specs.Prelude.{count_by, Some, None, if◌then◌else◌, nat_lt}
use Rattle.std.specs.List.{AllByRecursion}
use Rattle.metric_laws.specs.Space.{IsSpace}
use Rattle.metric_laws.specs.Lists.{IsIn}
use Rattle.metric_laws.proofs.Published.{all_in, all_each}
use Rattle.tree_shape.specs.declared.live.Live.{Live}
use Rattle.tree_shape.specs.declared.entry.Node.{Node}
use Rattle.tree_shape.specs.Fill.{root_least}
use Rattle.tree_shape.specs.Tree.{Nodes, pages_at, times, objects, IsNodePage, IsSoundTree, point_of, points_by_id, points_from, tag_of, tags_by_id, tags_from}
use Rattle.tree_shape.specs.Plain.{Tall, objects_of, object_of, tree_at, tree_of}
use Rattle.tree_shape.specs.Sound.{IsSoundTall}
use Rattle.tree_growth.specs.Bulk.{Load, object_at, built_at, built_of, built, places}
use Rattle.tree_shape.proofs.Published.{height_is_small, same_objects}
use Rattle.tree_growth.proofs.Published.{load_keeps_objects, load_is_sound, built_all}
use Rattle.page_store.specs.declared.staging.StagedNode.{StagedNode}
use Rattle.page_store.specs.declared.staging.Placed.{Placed}
use Rattle.page_store.specs.Numbers.{number_at, numbered, AreNumbers}
use Rattle.page_store.specs.Placing.{live_pages, AreOutside, staged_tree}
use Rattle.page_store.specs.Staging.{pages_of}
use Rattle.page_store.proofs.Published.{HoldsFrom, pages_from, trees_from, trees_numbered, stand_holds, in_times, times_in, number_up, number_within, given_once, pages_numbered, given_out, given_apart, given_each, IsStoredAt, sound_of_stored, with_id, tally_ids, tally_count, AreCounted}
use Rattle.bulk_load.specs.Sets.{top_height, top_nodes, IsValidLoad}
use Rattle.bulk_load.specs.Postorder.{subtrees_of, last_of}
use Rattle.bulk_load.specs.Loaded.{Stand, LeavesOld, HasLoaded}
use Rattle.bulk_load.proofs.Shown.{Shown, shown}
use Rattle.bulk_load.proofs.Suited.{same_load, most_some}
use Rattle.bulk_load.proofs.Kept.{IsRow, rows_once, row_of_id, points_all, tags_all}

module _ (l : Load) (space : IsSpace l.space) (valid : IsValidLoad l) (number : ℕ → ℕ) (new : Nodes) (next : Live) (at_root : next.root ≡ last_of number 0 (top_nodes l number)) (at_height : next.height ≡ top_height l)
    (counted : next.count ≡ length l.points) (holds : HoldsFrom new number 0 (top_nodes l number)) where
  pub is : Shown l new number (top_height l) None (built_at l true (top_height l) (places l)) 0 (top_nodes l number)
  is = shown l new number (top_height l) None (places l) 0 holds

  pub built_same : built_of l ≡ built l.space l.points l.tags
  built_same = sym (ap built_of (same_load l space valid))

  abbrev tall : ℕ → ℕ → Tall
  tall root height = record { height = height; tree = tree_at new height root }

  pub next_tree : tree_of new next ≡ built l.space l.points l.tags
  next_tree =
      ap (λ (k : ℕ). tall k next.height) at_root ∙ ap (tall (last_of number 0 (top_nodes l number))) at_height
      ∙ ap (λ (t : _). record { height = top_height l; tree = t }) is.tree ∙ built_same

  pub next_objects : objects_of (built l.space l.points l.tags) ≡ map object_of (objects new next)
  next_objects = sym (ap objects_of next_tree) ∙ same_objects new next.height next.root

  pub next_ids : AreCounted (objects new next) (length l.points)
  next_ids id =
      tally_ids id (objects new next) ∙ tally_count id (map object_of (objects new next)) ∙ ap (count_by (with_id id)) (sym next_objects ∙ ap objects_of (sym built_same))
      ∙ load_keeps_objects l (let m = most_some l space valid in omega (arith, m)) (with_id id) ∙ sym (tally_count id (map (object_at l) (places l))) ∙ rows_once l id (length l.points)

  pub next_rows : AllByRecursion (IsRow l.points l.tags) (map object_of (objects new next))
  next_rows = subst (AllByRecursion (IsRow l.points l.tags)) next_objects
      (built_all l.space space l.points l.tags valid.is_point (IsRow l.points l.tags) true _ _ (each (places l)))
    where
      each : (ks : List ℕ) → AllByRecursion (λ k. IsRow l.points l.tags (object_at l k)) ks
      each [] = tt
      each (k ∷ ks) = ((refl, refl), each ks)

  pub next_points : points_by_id new next ≡ l.points
  next_points = ap (points_from (objects new next) 0) counted
      ∙ points_all (objects new next) 0 l.points (λ k low. ap (λ (j : ℕ). point_of j (objects new next)) (let e : 0 + k ≡ k = omega arith in e) ∙ (row_of_id l.points l.tags (length l.points) (objects new next) next_ids next_rows k low).0)

  pub next_tags : tags_by_id new next ≡ l.tags
  next_tags = ap (tags_from (objects new next) 0) (counted ∙ sym valid.tagged)
      ∙ tags_all (objects new next) 0 l.tags (λ k low. ap (λ (j : ℕ). tag_of j (objects new next)) (let e : 0 + k ≡ k = omega arith in e)
      ∙ (row_of_id l.points l.tags (length l.points) (objects new next) next_ids next_rows k (let t = valid.tagged in omega (arith, low, t))).1)

  pub next_pages : (n : ℕ) → times n (live_pages new next) ≡ times n (pages_from number 0 (top_nodes l number))
  next_pages n = ap (λ (k : ℕ). times n (pages_at new next.height k)) at_root ∙ ap (λ (k : ℕ). times n (pages_at new k (last_of number 0 (top_nodes l number)))) at_height ∙ is.pages n

  pub next_sound : ((i : ℕ) → number i < number (i + 1)) → ((i : ℕ) → i < length (top_nodes l number) → IsNodePage next (number i)) → IsSoundTree l.space new next
  next_sound up within = record {
    parts = sound_of_stored l.space new next.height (root_least next.height) None next.root
        (subst (λ (k : ℕ). IsStoredAt l.space new next.height None k) (sym at_root) (subst (λ (k : ℕ). IsStoredAt l.space new k None (last_of number 0 (top_nodes l number))) (sym at_height) is.stored))
        (subst (IsSoundTall l.space) (sym next_tree) (load_is_sound l.space space l.points l.tags valid.is_point));
    within = all_each (IsNodePage next) (live_pages new next) (λ n k.
        let here = in_times n (live_pages new next) k in let same = next_pages n in
        all_in (IsNodePage next) (pages_from number 0 (top_nodes l number)) n (given_each (IsNodePage next) number 0 (length (top_nodes l number)) (top_nodes l number) (omega arith) within)
        (times_in n (pages_from number 0 (top_nodes l number)) (omega (arith, here, same))));
    once = λ n. let f = (given_once number up n 0 (top_nodes l number)).0 in let same = next_pages n in omega (arith, f, same);
    ids = λ id. next_ids id ∙ ap (λ (c : ℕ). if nat_lt id c then 1 else 0) (sym counted);
  }

  pub next_fresh : trees_from new number 0 (top_nodes l number) ≡ subtrees_of (built l.space l.points l.tags)
  next_fresh = is.fresh ∙ ap subtrees_of built_same

-- an empty tree is one leaf
pub empty_pages : (l : Load) → IsSpace l.space → (old : Nodes) (t : Live) → IsSoundTree l.space old t → t.count ≡ 0 → live_pages old t ≡ t.root ∷ []
empty_pages l space old t sound none = flat t.height (height_is_small l.space old t space.few_coordinates sound).0
  where
    flat : (h : ℕ) → (1 ≤ h → 2 * 3 ^ h ≤ t.count) → pages_at old h t.root ≡ t.root ∷ []
    flat zero many = refl
    flat (suc h) many = absurd (let a = many (omega arith) in let b : 1 ≤ 3 ^ suc h = one-le-pow (suc h) 3 (omega arith) in omega (arith, a, b, none))

pub has_loaded : (l : Load) → IsSpace l.space → IsValidLoad l → (t : Live) (numbers : List ℕ) (placed : Placed) → t.count ≡ 0 → 3 ≤ t.pages → AreNumbers t.pages numbers →
    placed.staged ≡ numbered (number_at numbers t.pages) 0 (top_nodes l (number_at numbers t.pages)) → placed.next.root ≡ last_of (number_at numbers t.pages) 0 (top_nodes l (number_at numbers t.pages)) →
    placed.next.height ≡ top_height l → placed.next.count ≡ t.count + length l.points → placed.next.pages ≡ t.pages + (length (top_nodes l (number_at numbers t.pages)) - length numbers) → placed.left ≡ t.root ∷ [] →
    (new : Nodes) → Stand placed.staged new → HasLoaded l.space l.points l.tags t numbers placed new
has_loaded l space valid t numbers placed empty low are staged at_root at_height counted pages left new stand = record {
  tree = next_tree l space valid number new placed.next at_root at_height count holds;
  sound = next_sound l space valid number new placed.next at_root at_height count holds up within;
  points = next_points l space valid number new placed.next at_root at_height count holds;
  tags = next_tags l space valid number new placed.next at_root at_height count holds;
  fresh = ap (map (staged_tree new)) staged ∙ trees_numbered new number 0 (top_nodes l number) ∙ next_fresh l space valid number new placed.next at_root at_height count holds;
  pages = λ page. next_pages l space valid number new placed.next at_root at_height count holds page ∙ ap (times page) (sym (ap pages_of staged ∙ pages_numbered number 0 (top_nodes l number)));
  left = leaves;
}
  where
    number : ℕ → ℕ
    number = number_at numbers t.pages

    count : placed.next.count ≡ length l.points
    count = omega (arith, counted, empty)

    holds : HoldsFrom new number 0 (top_nodes l number)
    holds = stand_holds new number 0 (top_nodes l number) (subst (AllByRecursion (λ (s : StagedNode). new s.page ≡ Some s.node)) staged stand)

    up : (i : ℕ) → number i < number (i + 1)
    up = number_up numbers t.pages are

    within : (i : ℕ) → i < length (top_nodes l number) → IsNodePage placed.next (number i)
    within i less = let w = number_within numbers t.pages are low i (length (top_nodes l number)) less in let a = w.0 in let b = w.1 in (a, omega (arith, b, pages))

    leaves : (old : Nodes) → IsSoundTree l.space old t → AreOutside old t numbers → LeavesOld old t placed new
    leaves old sound outside page =
        let one = empty_pages l space old t sound empty in
        let out = given_out old t numbers outside sound.within in
        let same = next_pages l space valid number new placed.next at_root at_height count holds page in (
          (λ k.
              let old_one : IsIn page (live_pages old t) = subst (IsIn page) (left ∙ sym one) k in (
                old_one,
                λ there.
                    let a = in_times page (live_pages old t) old_one in
                    let b = in_times page (live_pages new placed.next) there in
                    let none = given_apart number (live_pages old t) page 0 (top_nodes l number) out (omega (arith, b, same)) in absurd (omega (arith, a, none)),
              )),
          (λ both. subst (IsIn page) (one ∙ sym left) both.0),
        )

-- by the tree whose nodes were staged
pub has_loaded_by : (l : Load) → IsSpace l.space → IsValidLoad l → (t : Live) (numbers : List ℕ) (placed : Placed) (nodes : List Node) (root height added : ℕ) → t.count ≡ 0 → 3 ≤ t.pages → AreNumbers t.pages numbers →
    nodes ≡ top_nodes l (number_at numbers t.pages) → root ≡ last_of (number_at numbers t.pages) 0 nodes → height ≡ top_height l → added ≡ length l.points →
    placed.staged ≡ numbered (number_at numbers t.pages) 0 nodes →
    placed.next ≡ record { side = 1 - t.side; generation = t.generation + 1; root = root; height = height; count = t.count + added; pages = t.pages + (length nodes - length numbers) } → placed.left ≡ t.root ∷ [] →
    (new : Nodes) → Stand placed.staged new → HasLoaded l.space l.points l.tags t numbers placed new
has_loaded_by l space valid t numbers placed nodes root height added empty low are is at high many staged next left =
    has_loaded l space valid t numbers placed empty low are
    (staged ∙ ap (numbered (number_at numbers t.pages) 0) is)
    (ap (λ (n : Live). n.root) next ∙ at ∙ ap (last_of (number_at numbers t.pages) 0) is)
    (ap (λ (n : Live). n.height) next ∙ high)
    (ap (λ (n : Live). n.count) next ∙ ap (λ (k : ℕ). t.count + k) many)
    (ap (λ (n : Live). n.pages) next ∙ ap (λ (ns : List Node). t.pages + (length ns - length numbers)) is)
    left
