-- A step from its beginning to its end, over pages that may tell a sound tree or not.
use Rattle.std.proofs.Common.{◌≡◌, ℕ, suc, ◌+◌, ◌-◌, ◌*◌, ◌^◌, ◌<◌, ◌≤◌, List, [], ◌∷◌, ◌++◌, Option, Some, None, Err, refl, sym, ap, inl, inr, arith, ◌∙◌, length, length-append, take, drop, subst}
use Rattle.std.specs.Prelude.{map, false, IsTrue, IsPermutation}
use Rattle.std.proofs.lemmas.List.Sorted.{length_permutation, IsPermutation-pop_more}
use Rattle.std.specs.List.{flat_map}
use Rattle.metric_laws.specs.Space.{Space, IsSpace}
use Rattle.metric_laws.specs.Counts.{next_count, count_up, CountsUpTo}
use Rattle.metric_laws.specs.Lists.{IsIn}
use Rattle.metric_laws.proofs.Published.{in-append, in-map, length_map}
use Rattle.scan_model.specs.declared.hit.Hit.{Hit}
use Rattle.scan_model.specs.Scan.{nearest_hits}
use Rattle.tree_shape.specs.declared.live.Live.{Live}
use Rattle.tree_shape.specs.declared.entry.Node.{Node}
use Rattle.tree_shape.specs.declared.entry.Node.TheVariants.{Leaf, Inner}
use Rattle.tree_shape.specs.Tree.{Nodes, IsSoundTree, leaf_entries, inner_entries, points_by_id}
use Rattle.node_page.specs.Nodes.{IsValidNode}
use Rattle.page_store.specs.declared.pages.PageFault.{PageFault}
use Rattle.page_store.specs.declared.pages.PageFault.TheVariants.{Disk, Bad, Outside, Memory, Repeats, Level}
use Rattle.page_store.specs.Reached.{IsReached}
use Rattle.page_store.specs.Reached.IsReached.{at_root, by_child}
use Rattle.page_store.specs.Reading.{Read, IsWithin, is_within, nodes_of, node_or_none}
use Rattle.page_store.specs.Shelf.{Shelf, HoldsSame, HasPageCause, IsPassing}
use Rattle.log_model.proofs.Published.{count_up_more, map-append}
use Rattle.pin_cursor.specs.declared.waiting.Subtree.{Subtree}
use Rattle.pin_cursor.specs.declared.waiting.Candidate.{Candidate}
use Rattle.pin_cursor.specs.Order.{IsReach, AllBeyond, IsFirst}
use Rattle.pin_cursor.specs.Cursor.{OpenCursor, candidate_of, subtree_of, hit_of, rest_of, tags_of, waiting, IsCursorOn, IsWalked, HoldsTree}
use Rattle.pin_cursor.specs.Steps.{IsReachedFrom, HasStepCause, IsOpened, Gives, IsUnderWay, IsAccounted, objects_in, subtrees_in, stage, HasGiven, GivesNext}
use Rattle.nearest_search.proofs.Published.{in-permutation_back}
use Rattle.pin_cursor.proofs.Lists.{drop_add, take_more, take_rest, account_begun, account_opened, account_met}
use Rattle.pin_cursor.proofs.Pops.{standing, given_first, given_stands, given_tag}
use Rattle.pin_cursor.proofs.Walking.{walk_opens, opens_before}
use Rattle.pin_cursor.proofs.Opens.{page_there, node_there, opens_room, opened_stands}
use Rattle.page_store.proofs.Published.{holds_none, holds_both}

objects_few : (dim : ℕ) (node : Node) → IsValidNode dim node → length (leaf_entries (Some node)) ≤ 32
objects_few dim (Leaf es) valid = let few = valid.0 in omega arith
objects_few dim (Inner level es) valid = omega arith

none_in : {X : Type 0} (l : List X) → ((x : X) → IsIn x l → ⊥) → l ≡ []
none_in [] none = refl
none_in (x ∷ l) none = absurd (none x (inl refl))

module _ (s : Space) (axioms : IsSpace s) (old : Shelf) (live : Live) (q : List ℕ) (q_fits : IsTrue (s.is_point q)) (g0 o0 : ℕ) (xs0 : List Subtree) (cs0 : List Candidate) where
  abbrev pub start : OpenCursor
  start = stage live q g0 o0 xs0 cs0

  pub way_begins : o0 ≤ live.pages → g0 + length cs0 ≤ 32 * o0 → IsUnderWay s old old start start [] []
  way_begins few room = record {
    same = holds_none old;
    more = omega arith;
    few = few;
    asked = ap (count_up old.asked) (let e : 0 ≡ o0 - o0 = omega arith in e);
    reads = omega arith;
    given = omega arith;
    tagged = refl;
    room = room;
    reached = λ is_known x k. (x, k, at_root);
    walks = λ is_known walked. walked;
    accounted = λ is_known. record {
      opened = [];
      given = [];
      count = omega arith;
      have = tt;
      subtrees = account_begun xs0;
      objects = account_begun cs0;
      hits_are = refl;
      tags_are = refl;
    };
    gives = λ nodes is_known sound holds on. record { hits_are = refl; tags_are = refl; stands = on };
  }

  module _ (now : Shelf) (g o : ℕ) (xs : List Subtree) (cs : List Candidate) (hits : List Hit) (tags : List ℕ) (way : IsUnderWay s old now start (stage live q g o xs cs) hits tags) where
    abbrev here : OpenCursor
    here = stage live q g o xs cs

    -- the hits can be counted
    pub way_small : live.pages < 2 ^ 32 → g + 1 < 2 ^ 64
    way_small low = let r = way.room in let f = way.few in omega arith

    pub one_more : (new : Shelf) → new.asked ≡ next_count now.asked → new.asked ≡ count_up old.asked ((o + 1) - o0)
    one_more new next =
        next ∙ ap next_count way.asked ∙ count_up_more old.asked (o - o0) ∙ ap (count_up old.asked) (let m = way.more in let e : suc (o - o0) ≡ (o + 1) - o0 = omega arith in e)

    pub way_asked_more : (new : Shelf) → o < live.pages → new.asked ≡ next_count now.asked → CountsUpTo old.asked new.asked (live.pages - o0)
    way_asked_more new low next = ((o + 1) - o0, (let m = way.more in omega arith), one_more new next)

    -- ---- a subtree is taken

    module _ (x : Subtree) (rest : List Subtree) (popped : IsPermutation xs (x ∷ rest)) where
      there : IsIn x xs
      there = in-permutation_back xs (x ∷ rest) x popped (inl refl)

      pub reached : IsTrue old.is_known → IsReachedFrom (nodes_of old.read) start x.page
      reached is_known = way.reached is_known x there

      module _ (new : Shelf) (cs' : List Candidate) (xs' : List Subtree) (done : IsOpened s q now x.page cs cs' rest xs') (kept : HoldsSame now new) (asked : new.asked ≡ next_count now.asked)
          (reads : new.reads ≤ now.reads + 1) (low : o < live.pages) where
        told : IsTrue old.is_known → nodes_of old.read x.page ≡ Some done.node
        told is_known = ap (λ (r : Read). node_or_none (r x.page)) (sym way.same.read) ∙ ap node_or_none (done.is.told (rw way.same.is_known is_known))

        reached_after : IsTrue old.is_known → (y : Subtree) → IsIn y xs' → IsReachedFrom (nodes_of old.read) start y.page
        reached_after is_known y k =
            elim (in-append (map (subtree_of s q) (inner_entries (Some done.node))) rest y (in-permutation_back (map (subtree_of s q) (inner_entries (Some done.node)) ++ rest) xs' y done.subtrees k)) [
              | inl fresh ↦ (let e = in-map (subtree_of s q) (inner_entries (Some done.node)) y fresh in let r = reached is_known in (
                r.0,
                r.1,
                subst (λ (z : Subtree). IsReached (nodes_of old.read) r.0.page z.page) (sym e.2)
                    (by_child x.page e.0 r.2 (subst (λ (n : Option Node). IsIn e.0 (inner_entries n)) (sym (told is_known)) e.1)),
              ))
              | inr before ↦ way.reached is_known y (in-permutation_back xs (x ∷ rest) y popped (inr before))
            ]

        room_after : g + length cs' ≤ 32 * (o + 1)
        room_after =
            let r = way.room in let l = length_permutation (map (candidate_of s q) (leaf_entries (Some done.node)) ++ cs) cs' done.candidates in
            let a = length-append (map (candidate_of s q) (leaf_entries (Some done.node))) cs in let m = length_map (candidate_of s q) (leaf_entries (Some done.node)) in
            let f = objects_few now.dim done.node done.is.valid in omega arith

        gives_after : (nodes : Nodes) → IsTrue old.is_known → IsSoundTree s nodes live → HoldsTree nodes live old → IsCursorOn s nodes start →
            Gives s nodes start (stage live q g (o + 1) xs' cs') hits tags
        gives_after nodes is_known sound holds on =
            let so_far = way.gives nodes is_known sound holds on in
            let is : nodes x.page ≡ Some done.node = sym (holds x.page (page_there s axioms nodes here q_fits sound so_far.stands x rest popped)) ∙ told is_known in
            record {
              hits_are = so_far.hits_are;
              tags_are = so_far.tags_are;
              stands = opened_stands s axioms nodes here q_fits sound so_far.stands x rest popped done.node is cs' xs' done.candidates done.subtrees;
            }

        accounted_after : IsTrue old.is_known → IsAccounted s (nodes_of old.read) start (stage live q g (o + 1) xs' cs') hits tags
        accounted_after is_known =
            let so_far = way.accounted is_known in record {
              opened = x ∷ so_far.opened;
              given = so_far.given;
              count = (let n = so_far.count in omega arith);
              have = ((done.node, told is_known), so_far.have);
              subtrees = account_opened xs0 (subtrees_in s q (nodes_of old.read) x) (flat_map (subtrees_in s q (nodes_of old.read)) so_far.opened) so_far.opened xs rest xs' x so_far.subtrees popped
                  (subst (λ (n : Option Node). IsPermutation (map (subtree_of s q) (inner_entries n) ++ rest) xs') (sym (told is_known)) done.subtrees);
              objects = account_met cs0 (objects_in s q (nodes_of old.read) x) (flat_map (objects_in s q (nodes_of old.read)) so_far.opened) so_far.given cs cs' so_far.objects
                  (subst (λ (n : Option Node). IsPermutation (map (candidate_of s q) (leaf_entries n) ++ cs) cs') (sym (told is_known)) done.candidates);
              hits_are = so_far.hits_are;
              tags_are = so_far.tags_are;
            }

        pub way_opens : IsUnderWay s old new start (stage live q g (o + 1) xs' cs') hits tags
        way_opens = record {
          same = holds_both old now new way.same kept;
          more = (let m = way.more in omega arith);
          few = omega arith;
          asked = one_more new asked;
          reads = (let r = way.reads in let m = way.more in omega arith);
          given = way.given;
          tagged = way.tagged;
          room = room_after;
          reached = reached_after;
          walks = λ is_known walked. walk_opens (nodes_of old.read) (live.root ∷ []) o xs rest x popped (way.walks is_known walked) s q done.node xs' (told is_known) done.subtrees;
          accounted = accounted_after;
          gives = gives_after;
        }

      pub way_cause : (new : Shelf) (fault : PageFault) → HasPageCause now new x.page fault → HasStepCause start old new fault
      way_cause new Disk cause = (let l = way.same.faults in let c = cause in omega arith)
      way_cause new (Bad page fault) cause = (
        subst (λ (p : ℕ). IsWithin p page) way.same.pages (subst (λ (p : ℕ). IsWithin now.pages p) (sym cause.0) cause.1),
        λ is_known. (
          subst (λ (p : ℕ). old.read p ≡ Err (Bad page fault)) (sym cause.0)
              (subst (λ (p : ℕ). old.read x.page ≡ Err (Bad p fault)) (sym cause.0)
              (ap (λ (r : Read). r x.page) (sym way.same.read) ∙ cause.2 (rw way.same.is_known is_known))),
          subst (λ (p : ℕ). IsReachedFrom (nodes_of old.read) start p) (sym cause.0) (reached is_known),
        ),
      )
      way_cause new (Outside page) cause = (
        subst (λ (p : ℕ). is_within p page ≡ false) way.same.pages (subst (λ (p : ℕ). is_within now.pages p ≡ false) (sym cause.0) cause.1),
        λ is_known. (
          subst (λ (p : ℕ). old.read p ≡ Err (Outside page)) (sym cause.0)
              (subst (λ (p : ℕ). old.read x.page ≡ Err (Outside p)) (sym cause.0)
              (ap (λ (r : Read). r x.page) (sym way.same.read) ∙ cause.2 (rw way.same.is_known is_known))),
          subst (λ (p : ℕ). IsReachedFrom (nodes_of old.read) start p) (sym cause.0) (reached is_known),
        ),
      )
      way_cause new Memory cause = tt
      way_cause new (Repeats page) cause = absurd cause
      way_cause new (Level page) cause = absurd cause

      pub way_repeats : o ≡ live.pages → HasStepCause start old now (Repeats x.page)
      way_repeats all = (
        way.asked ∙ ap (λ (n : ℕ). count_up old.asked (n - o0)) all,
        λ is_known. (reached is_known, λ walked. opens_before (nodes_of old.read) (live.root ∷ []) o xs rest x popped (way.walks is_known walked) live.pages all),
      )

      module _ (nodes : Nodes) (is_known : IsTrue old.is_known) (sound : IsSoundTree s nodes live) (holds : HoldsTree nodes live old) (on : IsCursorOn s nodes start) where
        so_far : IsCursorOn s nodes here
        so_far = (way.gives nodes is_known sound holds on).stands

        no_fault : (page : ℕ) (fault : PageFault) → page ≡ x.page → old.read page ≡ Err fault → ⊥
        no_fault page fault same is =
            let none : nodes_of old.read x.page ≡ None = ap (nodes_of old.read) (sym same) ∙ ap node_or_none is in
            let some = node_there s axioms nodes here q_fits sound so_far x rest popped in
            let held = holds x.page (page_there s axioms nodes here q_fits sound so_far x rest popped) in
            let wrong : None ≡ Some some.0 = sym none ∙ held ∙ some.1 in cc

        -- on a sound tree only a passing fault is refused
        pub way_passes : (new : Shelf) (fault : PageFault) → HasPageCause now new x.page fault → IsPassing fault
        way_passes new Disk cause = tt
        way_passes new Memory cause = tt
        way_passes new (Bad page fault) cause = absurd (no_fault page (Bad page fault) cause.0 (((way_cause new (Bad page fault) cause).1 is_known).0))
        way_passes new (Outside page) cause = absurd (no_fault page (Outside page) cause.0 (((way_cause new (Outside page) cause).1 is_known).0))
        way_passes new (Repeats page) cause = absurd cause
        way_passes new (Level page) cause = absurd cause

        pub way_room : o ≡ live.pages → ⊥
        way_room all = let r = opens_room s axioms nodes here q_fits sound so_far x rest popped in omega arith

    -- ---- a candidate is taken

    module _ (x : Candidate) (rest : List Candidate) (popped : IsPermutation cs (x ∷ rest)) (first : IsFirst x cs) (reach : Option ℕ) (is : IsReach cs reach) (beyond : AllBeyond reach xs) where
      long : length (hits ++ hit_of x ∷ []) ≡ length hits + 1
      long = length-append hits (hit_of x ∷ [])

      fewer : suc (length rest) ≡ length cs
      fewer = length_permutation cs (x ∷ rest) popped

      gives_next : (nodes : Nodes) → IsTrue old.is_known → IsSoundTree s nodes live → HoldsTree nodes live old → IsCursorOn s nodes start →
          Gives s nodes start (stage live q (g + 1) o xs rest) (hits ++ hit_of x ∷ []) (tags ++ x.tag ∷ [])
      gives_next nodes is_known sound holds on =
          let so_far = way.gives nodes is_known sound holds on in
          let head = given_first s axioms nodes here sound so_far.stands x rest popped first reach is beyond in
          let all : List Hit = nearest_hits s (points_by_id nodes live) q live.count in
          let next : drop (length hits) (rest_of s nodes start) ≡ hit_of x ∷ head.0 =
          drop_add g0 (length hits) all ∙ ap (λ (n : ℕ). drop n all) (sym way.given) ∙ head.1 in
          record {
            hits_are = ap (λ (l : List Hit). l ++ hit_of x ∷ []) so_far.hits_are ∙ sym (take_more (length hits) (rest_of s nodes start) head.0 (hit_of x) next)
                ∙ ap (λ (n : ℕ). take n (rest_of s nodes start)) (sym long);
            tags_are = ap (λ (l : List ℕ). l ++ x.tag ∷ []) so_far.tags_are
                ∙ ap (λ (t : ℕ). tags_of nodes live hits ++ t ∷ []) (sym (given_tag s axioms nodes here sound so_far.stands x rest popped first reach is beyond))
                ∙ sym (map-append _ hits (hit_of x ∷ []));
            stands = given_stands s axioms nodes here sound so_far.stands x rest popped first reach is beyond;
          }

      accounted_next : IsTrue old.is_known → IsAccounted s (nodes_of old.read) start (stage live q (g + 1) o xs rest) (hits ++ hit_of x ∷ []) (tags ++ x.tag ∷ [])
      accounted_next is_known =
          let so_far = way.accounted is_known in record {
            opened = so_far.opened;
            given = so_far.given ++ x ∷ [];
            count = so_far.count;
            have = so_far.have;
            subtrees = so_far.subtrees;
            objects = IsPermutation-pop_more (cs0 ++ flat_map (objects_in s q (nodes_of old.read)) so_far.opened) so_far.given cs rest x so_far.objects popped;
            hits_are = ap (λ (l : List Hit). l ++ hit_of x ∷ []) so_far.hits_are ∙ sym (map-append hit_of so_far.given (x ∷ []));
            tags_are = ap (λ (l : List ℕ). l ++ x.tag ∷ []) so_far.tags_are ∙ sym (map-append (λ c. c.tag) so_far.given (x ∷ []));
          }

      pub way_gives : IsUnderWay s old now start (stage live q (g + 1) o xs rest) (hits ++ hit_of x ∷ []) (tags ++ x.tag ∷ [])
      way_gives = record {
        same = way.same;
        more = way.more;
        few = way.few;
        asked = way.asked;
        reads = way.reads;
        given = (let e = way.given in let l = long in omega arith);
        tagged = (let e = way.tagged in let l = long in let t = length-append tags (x.tag ∷ []) in omega arith);
        room = (let r = way.room in let f = fewer in omega arith);
        reached = way.reached;
        walks = way.walks;
        accounted = accounted_next;
        gives = gives_next;
      }

    -- ---- the end

    pub way_ends : (n : ℕ) → HasGiven n hits cs xs → (nodes : Nodes) → IsTrue old.is_known → IsSoundTree s nodes live → HoldsTree nodes live old → IsCursorOn s nodes start →
        GivesNext s nodes start here n hits tags
    way_ends n given nodes is_known sound holds on =
        let so_far = way.gives nodes is_known sound holds on in record {
          hits_are = elim given [
            | inl is ↦ so_far.hits_are ∙ ap (λ (k : ℕ). take k (rest_of s nodes start)) is
            | inr over ↦ so_far.hits_are ∙ take_rest (length hits) n (rest_of s nodes start) (nothing_left so_far.stands over.1 over.2) over.0
          ];
          tags_are = so_far.tags_are;
          stands = so_far.stands;
        }
      where
        all : List Hit
        all = nearest_hits s (points_by_id nodes live) q live.count

        nothing_left : IsCursorOn s nodes here → cs ≡ [] → xs ≡ [] → drop (length hits) (rest_of s nodes start) ≡ []
        nothing_left stands none_met none_left =
            drop_add g0 (length hits) all ∙ ap (λ (n : ℕ). drop n all) (sym way.given)
            ∙ none_in (rest_of s nodes here) (λ h k. let y = standing s axioms nodes here sound stands h k in
            let empty : waiting s nodes here ≡ [] = (λ i. waiting s nodes (stage live q g o (none_left i) (none_met i))) in
            subst (λ (l : List Candidate). IsIn y.0 l) empty y.1)

-- what a whole step gives: from the cursor a it made the cursor b
module _ (s : Space) (axioms : IsSpace s) (old now : Shelf) (live : Live) (q : List ℕ) (g0 o0 : ℕ) (xs0 : List Subtree) (cs0 : List Candidate) (g o : ℕ) (xs : List Subtree) (cs : List Candidate)
    (hits : List Hit) (tags : List ℕ) (way : IsUnderWay s old now (stage live q g0 o0 xs0 cs0) (stage live q g o xs cs) hits tags) (a b : OpenCursor)
    (first : stage live q g0 o0 xs0 cs0 ≡ a) (last : b ≡ stage a.live a.point g o xs cs) where
  end_is : stage live q g o xs cs ≡ b
  end_is = (λ i. stage (first i).live (first i).point g o xs cs) ∙ sym last

  pub step_reached : IsTrue old.is_known → (x : Subtree) → IsIn x b.subtrees → IsReachedFrom (nodes_of old.read) a x.page
  step_reached is_known x k =
      subst (λ (c : OpenCursor). IsReachedFrom (nodes_of old.read) c x.page) first (way.reached is_known x (subst (λ (c : OpenCursor). IsIn x c.subtrees) (sym end_is) k))

  pub step_walks : IsTrue old.is_known → IsWalked (nodes_of old.read) a → IsWalked (nodes_of old.read) b
  step_walks is_known walked = subst (IsWalked (nodes_of old.read)) end_is (way.walks is_known (subst (IsWalked (nodes_of old.read)) (sym first) walked))

  pub step_accounted : (h : List Hit) (t : List ℕ) → h ≡ hits → t ≡ tags → IsTrue old.is_known → IsAccounted s (nodes_of old.read) a b h t
  step_accounted h t hits_are tags_are is_known =
      subst (λ (c : OpenCursor). IsAccounted s (nodes_of old.read) c b h t) first
      (subst (λ (c : OpenCursor). IsAccounted s (nodes_of old.read) (stage live q g0 o0 xs0 cs0) c h t) end_is
      (subst (λ (l : List Hit). IsAccounted s (nodes_of old.read) (stage live q g0 o0 xs0 cs0) (stage live q g o xs cs) l t) (sym hits_are)
      (subst (λ (l : List ℕ). IsAccounted s (nodes_of old.read) (stage live q g0 o0 xs0 cs0) (stage live q g o xs cs) hits l) (sym tags_are) (way.accounted is_known))))

  pub step_gives : IsTrue (s.is_point a.point) → (n : ℕ) → HasGiven n hits cs xs → (h : List Hit) (t : List ℕ) → h ≡ hits → t ≡ tags → (nodes : Nodes) → IsTrue old.is_known → IsSoundTree s nodes a.live →
      HoldsTree nodes a.live old → IsCursorOn s nodes a → GivesNext s nodes a b n h t
  step_gives is_point n given h t hits_are tags_are nodes is_known sound holds on =
      let given_next : GivesNext s nodes (stage live q g0 o0 xs0 cs0) (stage live q g o xs cs) n hits tags =
      way_ends s axioms old live q (subst (λ (c : OpenCursor). IsTrue (s.is_point c.point)) (sym first) is_point) g0 o0 xs0 cs0 now g o xs cs hits tags way n given nodes is_known
      (subst (λ (c : OpenCursor). IsSoundTree s nodes c.live) (sym first) sound) (subst (λ (c : OpenCursor). HoldsTree nodes c.live old) (sym first) holds) (subst (IsCursorOn s nodes) (sym first) on) in
      subst (λ (c : OpenCursor). GivesNext s nodes c b n h t) first
      (subst (λ (c : OpenCursor). GivesNext s nodes (stage live q g0 o0 xs0 cs0) c n h t) end_is
      (subst (λ (l : List Hit). GivesNext s nodes (stage live q g0 o0 xs0 cs0) (stage live q g o xs cs) n l t) (sym hits_are)
      (subst (λ (l : List ℕ). GivesNext s nodes (stage live q g0 o0 xs0 cs0) (stage live q g o xs cs) n hits l) (sym tags_are) given_next)))
