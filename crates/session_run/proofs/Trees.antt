-- Cursors go through trees that stand, on whatever file.
use Rattle.std.proofs.Common.{◌≡◌, ℕ, ◌+◌, ◌≤◌, ◌<◌, List, [], ◌∷◌, ◌++◌, inl, inr, refl, sym, ap, subst, ◌∙◌, arith, Option, Some, None, IsSome, Err}
use Rattle.std.specs.Prelude.{IsTrue, MatchOption, map}
use Rattle.std.specs.List.{AllByRecursion}
use Rattle.metric_laws.specs.Lists.{IsIn}
use Rattle.metric_laws.specs.Space.{Space}
use Rattle.metric_laws.proofs.Published.{all_in, all_each, map-in}
use Rattle.disk_model.specs.Disk.{DiskState}
use Rattle.node_page.specs.Opening.{page_of}
use Rattle.tree_shape.specs.declared.entry.Node.{Node}
use Rattle.tree_shape.specs.declared.live.Live.{Live}
use Rattle.tree_shape.specs.Tree.{Nodes, IsNodePage, inner_entries, times}
use Rattle.tree_shape.proofs.Published.{few, times-append}
use Rattle.page_store.specs.declared.pages.PageFault.{PageFault}
use Rattle.page_store.specs.Reached.{IsReached, StandsOnPages, named_in}
use Rattle.page_store.specs.Reached.IsReached.{at_root, by_child}
use Rattle.page_store.specs.Reading.{node_or_none, nodes_of, reading}
use Rattle.page_store.proofs.Published.{fewer_named, stand_on_pages, stands_named}
use Rattle.nearest_search.specs.Walks.{OpensBefore, WalksTo, named_of}
use Rattle.free_pages.specs.Commits.{IsGuarded}
use Rattle.free_pages.specs.Keeping.{FreePages}
use Rattle.pin_cursor.specs.declared.waiting.Subtree.{Subtree}
use Rattle.pin_cursor.specs.Cursor.{IsWalked, OpenCursor, begun}
use Rattle.pin_cursor.specs.Steps.{IsReachedFrom}
use Rattle.index_core.specs.Files.{OpenFile, nodes_on}
use Rattle.index_core.specs.Index.{OpenIndex, AreSpare, StandsAlone}
use Rattle.index_core.specs.Pinning.{IsPinned}
use Rattle.index_core.specs.Writing.{GuardsPages}
use Rattle.index_core.proofs.Published.{walk_reached}
use Rattle.session_run.specs.declared.pinned.PinnedCursor.{PinnedCursor}
use Rattle.session_run.specs.Pinned.{GoesThrough, IsKeptBy, nodes_for}

-- ---- walks of a tree that stands

-- the pages that a walk opened and may still open are at most its start pages and those that the opened ones name
balance : (nodes : Nodes) (start opened coming : List ℕ) → WalksTo nodes start opened coming → (k : ℕ) → times k opened + times k coming ≤ times k (start ++ named_in nodes opened)
balance nodes start [] coming walk k = let few = walk k in let a = times-append k start [] in omega arith
balance nodes start (page ∷ opened) coming (before, walk, is, some, counts) k =
    let ih = balance nodes start opened before walk k in
    let c = counts k in
    let a = times-append k before (named_of nodes page) in
    let b = times-append k start (named_in nodes opened) in
    let d = times-append k start (named_in nodes (page ∷ opened)) in
    let e = times-append k (named_of nodes page) (named_in nodes opened) in
    omega arith

one_of : (xs : List ℕ) (x : ℕ) → IsIn x xs → (k : ℕ) → times k (x ∷ []) ≤ times k xs
one_of [] x i k = absurd i
one_of (y ∷ xs) x i k = elim i [
  | inl same ↦ subst (λ (z : ℕ). times k (x ∷ []) ≤ times k (z ∷ xs)) same (omega arith)
  | inr more ↦ (let ih = one_of xs x more k in omega arith)
]

-- what is reached from a reached page is reached
further : (nodes : Nodes) (root from page : ℕ) → IsReached nodes root from → IsReached nodes from page → IsReached nodes root page
further nodes root from _ reached at_root = reached
further nodes root from _ reached (by_child page e deep is) = by_child page e (further nodes root from page reached deep) is

module _ (nodes : Nodes) (t : Live) (tree : List ℕ) (stands : StandsOnPages nodes t tree) where
  in_tree : (page : ℕ) → IsReached nodes t.root page → IsIn page tree
  in_tree page reached = stand_on_pages.reached nodes t tree page stands reached

  -- no page of it is opened or comes twice
  once : (opened coming : List ℕ) → WalksTo nodes (t.root ∷ []) opened coming → (k : ℕ) → times k opened + times k coming ≤ times k tree
  once [] coming walk k =
      let few = walk k in
      let named = stands_named nodes t tree stands k in
      omega arith
  once (page ∷ opened) coming (before, walk, is, some, counts) k =
      let sum = balance nodes (t.root ∷ []) (page ∷ opened) coming (before, walk, is, some, counts) k in
      let less = fewer_named nodes (page ∷ opened) tree (λ j. among j (once opened before walk j)) k in
      let named = stands_named nodes t tree stands k in
      omega arith
    where
      among : (j : ℕ) → times j opened + times j before ≤ times j tree → times j (page ∷ opened) ≤ times j tree
      among j so_far = let more = one_of before page is j in omega arith

  all_opened : (opened coming : List ℕ) → WalksTo nodes (t.root ∷ []) opened coming → AllByRecursion (λ x. x < t.pages) opened
  all_opened [] coming walk = tt
  all_opened (page ∷ opened) coming (before, walk, is, some, counts) =
      ((all_in (IsNodePage t) tree page stands.within (in_tree page (walk_reached nodes t.root opened before walk page is))).1, all_opened opened before walk)

  -- so a walk never opens as many pages as there are
  pub no_repeat : (page : ℕ) → OpensBefore nodes (t.root ∷ []) t.pages page → ⊥
  no_repeat page (coming, has, is) =
      let many = few t.pages (page ∷ has.opened)
      ((all_in (IsNodePage t) tree page stands.within (in_tree page (walk_reached nodes t.root has.opened coming has.walk page is))).1, all_opened has.opened coming has.walk)
      (λ k. let o = once has.opened coming has.walk k in let s = stands.once k in let b = one_of coming page is k in omega arith) in
      let c = has.count_is in
      omega arith

-- ---- other pages that hold what these held

module _ (old new : Nodes) (t : Live) (tree : List ℕ) (stands : StandsOnPages old t tree) (same : (page : ℕ) → IsIn page tree → new page ≡ old page) where
  named_same : (pages : List ℕ) → ((page : ℕ) → IsIn page pages → new page ≡ old page) → named_in new pages ≡ named_in old pages
  named_same [] each = refl
  named_same (page ∷ pages) each =
      let rest = named_same pages (λ p i. each p (inr i)) in
      (λ i. map (λ e. e.child) (inner_entries (each page (inl refl) i)) ++ rest i)

  pub stands_same : StandsOnPages new t tree
  stands_same = record {
    root = stands.root;
    within = stands.within;
    once = stands.once;
    named = λ page. ap (times page) (named_same tree same) ∙ stands.named page;
  }

  pub walk_same : (opened coming : List ℕ) → WalksTo old (t.root ∷ []) opened coming → WalksTo new (t.root ∷ []) opened coming
  walk_same [] coming walk = walk
  walk_same (page ∷ opened) coming (before, walk, is, some, counts) =
      let here : new page ≡ old page = same page (in_tree old t tree stands page (walk_reached old t.root opened before walk page is)) in (
        before,
        walk_same opened before walk,
        is,
        subst (λ (n : Option Node). IsSome n) (sym here) some,
        (λ k. subst (λ (n : Option Node). times k (page ∷ coming) ≤ times k (before ++ map (λ e. e.child) (inner_entries n))) (sym here) (counts k)),
      )

-- ---- one cursor

module _ {M : Type 0} (index : OpenIndex M) (bytes : List ℕ) (c : PinnedCursor) (goes : GoesThrough index bytes c) where
  abbrev nodes : Nodes
  nodes = nodes_for index bytes c

  -- what is reached from its subtrees is of its tree, and holds a node
  reached_some : (page : ℕ) → IsReachedFrom nodes c.cursor page → IsSome (nodes page)
  reached_some page (x, waits, deep) =
      all_in (λ p. IsSome (nodes p)) goes.tree page goes.have
      (in_tree nodes c.cursor.live goes.tree goes.stands page
      (further nodes c.cursor.live.root x.page page
      (walk_reached nodes c.cursor.live.root goes.walked.opened (map (λ y. y.page) c.cursor.subtrees) goes.walked.walk x.page (map-in (λ (y : Subtree). y.page) c.cursor.subtrees x waits)) deep))

  pub no_fault : (page : ℕ) (fault : PageFault) → reading index.file.head.dim c.cursor.live.pages bytes page ≡ Err fault → IsReachedFrom nodes c.cursor page → ⊥
  no_fault page fault is reached =
      let none : nodes page ≡ None = ap node_or_none is in
      let some : IsSome {T = Node} None = subst (λ (n : Option Node). IsSome n) none (reached_some page reached) in
      cc

  pub never_again : (page : ℕ) → (IsWalked nodes c.cursor → OpensBefore nodes (c.cursor.live.root ∷ []) c.cursor.live.pages page) → ⊥
  never_again page comes = no_repeat nodes c.cursor.live goes.tree goes.stands page (comes goes.walked)

  -- the cursor after a step
  pub goes_on : (now : OpenCursor) → now.live ≡ c.cursor.live → IsWalked nodes now → GoesThrough index bytes (record c { cursor = now })
  goes_on now live walked = record {
    tree = goes.tree;
    stands = subst (λ (t : Live). StandsOnPages (nodes_of (reading index.file.head.dim t.pages bytes)) t goes.tree) (sym live) goes.stands;
    have = subst (λ (t : Live). AllByRecursion (λ page. IsSome (nodes_of (reading index.file.head.dim t.pages bytes) page)) goes.tree) (sym live) goes.have;
    guarded = subst (λ (t : Live). GuardsPages t.generation goes.tree index) (sym live) goes.guarded;
    walked = subst (λ (t : Live). IsWalked (nodes_of (reading index.file.head.dim t.pages bytes)) now) (sym live) walked;
  }

-- the pages of its tree hold what they held
pub goes_still : {M : Type 0} (old new : OpenIndex M) (before after : List ℕ) (c : PinnedCursor) → ((page : ℕ) → page_of after page ≡ page_of before page → nodes_for new after c page ≡ nodes_for old before c page) →
    ((tree : List ℕ) → GuardsPages c.cursor.live.generation tree old → GuardsPages c.cursor.live.generation tree new × AllByRecursion (λ page. page_of after page ≡ page_of before page) tree) →
    GoesThrough old before c → GoesThrough new after c
goes_still old new before after c reads keeps goes =
    let kept = keeps goes.tree goes.guarded in
    let same : (page : ℕ) → IsIn page goes.tree → nodes_for new after c page ≡ nodes_for old before c page =
    (λ page i. reads page (all_in (λ p. page_of after p ≡ page_of before p) goes.tree page kept.1 i)) in
    record {
      tree = goes.tree;
      stands = stands_same (nodes_for old before c) (nodes_for new after c) c.cursor.live goes.tree goes.stands same;
      have = all_each (λ page. IsSome (nodes_for new after c page)) goes.tree
          (λ page i. subst (λ (n : Option Node). IsSome n) (sym (same page i)) (all_in (λ p. IsSome (nodes_for old before c p)) goes.tree page goes.have i));
      guarded = kept.0;
      walked = record {
        opened = goes.walked.opened;
        walk = walk_same (nodes_for old before c) (nodes_for new after c) c.cursor.live goes.tree goes.stands same goes.walked.opened (map (λ x. x.page) c.cursor.subtrees) goes.walked.walk;
        count_is = goes.walked.count_is;
      };
    }

-- ---- a cursor that was opened

-- the pages of the live tree are guarded by its pin
guarded_live : (nodes : Nodes) (t : Live) (free : Option FreePages) (generation : ℕ) → MatchOption free ⊥ (λ f. IsIn generation f.pins) → MatchOption free (Unit {0}) (AreSpare nodes t) →
    (tree : List ℕ) × StandsOnPages nodes t tree × AllByRecursion (λ page. IsSome (nodes page)) tree × MatchOption free ⊥ (λ f. IsGuarded t.pages generation f tree)
guarded_live nodes t None generation pinned spare = absurd pinned
guarded_live nodes t (Some f) generation pinned spare = (
  spare.tree,
  spare.stands,
  spare.have,
  record {
    pinned = pinned;
    within = spare.stands.within;
    unfree = λ page i free. spare.beside page (inl free) i;
    later = λ h held i. absurd (spare.beside h.page (inr (map-in (λ h. h.page) f.held h held)) i);
  },
)

pub goes_from_root : {M : Type 0} (index : OpenIndex M) (disk : DiskState) (c : PinnedCursor) (q : List ℕ) → StandsAlone index disk → IsPinned index.file.live.generation index → c.cursor ≡ begun index.file.live q → IsTrue disk.is_known →
    GoesThrough index disk.bytes c
goes_from_root index disk c q alone pinned begins is_known =
    let live = guarded_live (nodes_on index.file disk) index.file.live index.free index.file.live.generation pinned (alone.spare is_known) in
    subst (λ (o : OpenCursor). GoesThrough index disk.bytes (record { number = c.number; cursor = o })) (sym begins) (record {
      tree = live.0;
      stands = live.1;
      have = live.2;
      guarded = live.3;
      walked = record { opened = []; walk = λ k. omega arith; count_is = refl };
    })

-- ---- a cursor that was closed

-- the trees of the cursors that are left are still guarded
pub left_through : {M : Type 0} (s : Space) (old new : OpenIndex M) (bytes : List ℕ) (cursors : List PinnedCursor) → new.file ≡ old.file →
    ((other : ℕ) (tree : List ℕ) → IsPinned other new → GuardsPages other tree old → GuardsPages other tree new) → AllByRecursion (IsKeptBy s new) cursors → AllByRecursion (GoesThrough old bytes) cursors →
    AllByRecursion (GoesThrough new bytes) cursors
left_through s old new bytes [] file guarded kept all = tt
left_through {M} s old new bytes (c ∷ cursors) file guarded kept all = (
  goes_still old new bytes bytes c (λ page same. ap (λ (f : OpenFile M). nodes_of (reading f.head.dim c.cursor.live.pages bytes) page) file)
      (λ tree guards. (guarded c.cursor.live.generation tree kept.0.pinned guards, all_each (λ page. page_of bytes page ≡ page_of bytes page) tree (λ page i. refl))) all.0,
  left_through s old new bytes cursors file guarded kept.1 all.1,
)
