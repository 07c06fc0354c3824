-- The free list of a file, and what is placed on its pages.
use Rattle.std.proofs.Common.{◌≡◌, ℕ, zero, suc, ◌+◌, ◌≤◌, ◌<◌, List, [], ◌∷◌, inl, inr, refl, sym, ap, subst, arith, take, ◌++◌, Bool, true, false, Option, Result, Ok, Err}
use Rattle.std.specs.Prelude.{IsTrue, IsSome, ◌==◌, if◌then◌else◌}
use Rattle.std.specs.List.{AllByRecursion}
use Rattle.metric_laws.specs.Lists.{IsIn}
use Rattle.metric_laws.specs.Space.{Space}
use Rattle.metric_laws.proofs.Published.{all_append, all_in}
use Rattle.tree_shape.specs.declared.live.Live.{Live}
use Rattle.tree_shape.specs.declared.entry.Node.{Node}
use Rattle.tree_shape.specs.Tree.{Nodes, IsSoundTree, times}
use Rattle.tree_growth.specs.Insertion.{rules}
use Rattle.node_page.specs.declared.head.Head.{Head}
use Rattle.page_store.specs.declared.staging.Placed.{Placed}
use Rattle.page_store.specs.Numbers.{Ascends, AreNumbers}
use Rattle.page_store.specs.Placing.{AreOutside as AreBeside, IsOver, live_pages}
use Rattle.page_store.specs.Staging.{pages_of}
use Rattle.page_store.specs.Reading.{Read, node_or_none, nodes_of}
use Rattle.page_store.specs.Shelf.{Shelf}
use Rattle.page_store.proofs.Published.{times_in, sound_is_whole, stand_on_pages}
use Rattle.insert_path.specs.Placing.{HasInserted}
use Rattle.free_pages.specs.Keeping.{FreePages, IsFreeOrHeld, held_pages}
use Rattle.free_pages.specs.Commits.{AreOutside}
use Rattle.free_pages.specs.Free.{AreOutsideTree, IsFresh}
use Rattle.free_pages.proofs.Published.{outside_is}
use Rattle.disk_model.specs.Disk.{DiskState}
use Rattle.outside_io.specs.Causes.{Rose}
use Rattle.page_store.specs.declared.pages.PageFault.{PageFault}
use Rattle.page_store.specs.declared.pages.PageFault.TheVariants.{Disk, Bad, Outside, Memory, Repeats, Level}
use Rattle.page_store.specs.Shelf.{IsPassing}
use Rattle.page_store.specs.Tours.{children}
use Rattle.free_pages.specs.Walk.{IsWalkFault, on_children, outside_pages, tree_walk, walked}
use Rattle.index_core.specs.declared.faults.IndexFault.{IndexFault}
use Rattle.index_core.specs.Causes.{BlamesNoPage, HasListCause, IsMadeList, LieOutside, read_fault}
use Rattle.index_core.specs.Files.{OpenFile, pages_on}
use Rattle.index_core.specs.Index.{AreSpare, IsValidFree}
use Rattle.index_core.specs.Writing.{Inserts, IsMadeBy, IsPlacedFor}

above : (low x : ℕ) (xs : List ℕ) → Ascends low xs → IsIn x xs → low ≤ x
above low x [] up i = absurd i
above low x (y ∷ xs) up i = elim i [ inl s ↦ (let h = up.0 in omega arith) | inr w ↦ (let h = up.0 in let k = above (y + 1) x xs up.1 w in omega arith) ]

-- nothing of a fresh list is held
none_held : (f : FreePages) (page : ℕ) → IsFresh f → IsIn page (held_pages f.held) → ⊥
none_held f page fresh i = subst (λ hs. IsIn page (held_pages hs)) fresh.held i

-- a fresh list is made by the walk of the file
pub fresh_made : {M : Type 0} (file : OpenFile M) (disk : DiskState) (f : FreePages) → (IsTrue disk.is_known → LieOutside (pages_on file disk 0).read file.live f.free) → IsFresh f → IsMadeList file disk f
fresh_made file disk f outside fresh = record { free = outside; held = fresh.held; pins = fresh.pins }

pub fresh_valid : (t : Live) (f : FreePages) → AreNumbers t.pages f.free → IsFresh f → IsValidFree t f
fresh_valid t f numbers fresh = record {
  within = λ page i. elim i [
    | inl free ↦ (above 3 page f.free numbers.ascending free, all_in (λ n. n < t.pages) f.free page numbers.below free)
    | inr held ↦ absurd (none_held f page fresh held)
  ];
  newest = let e = fresh.newest in omega arith;
  pins = subst (AllByRecursion (λ pin. pin ≤ t.generation)) (sym fresh.pins) tt;
}

-- each page that a walk opened holds a node
walked_have : (read : Read) (most : ℕ) (opened coming tree : List ℕ) → AllByRecursion (λ page. IsSome (nodes_of read page)) opened → walked read most opened coming ≡ Ok tree →
    AllByRecursion (λ page. IsSome (nodes_of read page)) tree
walked_have read zero opened [] tree have is = let e : opened ≡ tree = (cc) in subst (AllByRecursion (λ page. IsSome (nodes_of read page))) e have
walked_have read zero opened (page ∷ coming) tree have is = absurd (cc)
walked_have read (suc most) opened [] tree have is = let e : opened ≡ tree = (cc) in subst (AllByRecursion (λ page. IsSome (nodes_of read page))) e have
walked_have read (suc most) opened (page ∷ coming) tree have is =
    tested (times page opened == 0) (read page) refl (λ node all. walked_have read most (opened ++ page ∷ []) (children node ++ coming) tree all) is
  where
    tested : (b : Bool) (r : Result Node PageFault) → read page ≡ r →
        ((node : Node) → AllByRecursion (λ p. IsSome (nodes_of read p)) (opened ++ page ∷ []) → walked read most (opened ++ page ∷ []) (children node ++ coming) ≡ Ok tree →
        AllByRecursion (λ p. IsSome (nodes_of read p)) tree) →
        (if b then on_children r (λ named. walked read most (opened ++ page ∷ []) (named ++ coming)) else Err (Repeats page)) ≡ Ok tree → AllByRecursion (λ p. IsSome (nodes_of read p)) tree
    tested false r there deeper is = absurd (cc)
    tested true (Err why) there deeper is = absurd (cc)
    tested true (Ok node) there deeper is =
        deeper node (all_append (λ p. IsSome (nodes_of read p)) opened (page ∷ []) have (subst (λ (n : Option Node). IsSome n) (sym (ap node_or_none there)) refl, tt)) is

pub fresh_spare : (old new : Shelf) (t : Live) (f : FreePages) → AreOutsideTree t old new f.free → IsFresh f → AreSpare (nodes_of old.read) t f
fresh_spare old new t f out fresh = record {
  tree = out.tree;
  stands = stand_on_pages.whole (nodes_of old.read) t out.tree out.whole;
  have = walked_have old.read (suc t.pages) [] (t.root ∷ []) out.tree tt out.walk;
  beside = λ page i stands. elim i [
    | inl free ↦ ((outside_is t.pages out.tree page).0 (subst (λ (ps : List ℕ). IsIn page ps) out.outside free)).1 stands
    | inr held ↦ none_held f page fresh held
  ];
}

pub fresh_exact : (t : Live) (tree : List ℕ) (f : FreePages) → f.free ≡ outside_pages t.pages tree → IsFresh f → AreOutside t.pages tree f
fresh_exact t tree f is fresh page = (
  λ i. elim i [
    | inl free ↦ (outside_is t.pages tree page).0 (subst (λ (ps : List ℕ). IsIn page ps) is free)
    | inr held ↦ absurd (none_held f page fresh held)
  ],
  λ both. inl (subst (λ (ps : List ℕ). IsIn page ps) (sym is) ((outside_is t.pages tree page).1 both)),
)

-- the first free pages lie outside a sound tree
pub free_outside : (s : Space) (nodes : Nodes) (t : Live) (f : FreePages) (n : ℕ) → AreSpare nodes t f → IsSoundTree s nodes t → AreBeside nodes t (take n f.free)
free_outside s nodes t f n spare sound = all n f.free (λ page i. inl i)
  where
    none_if : (m : ℕ) → (1 ≤ m → ⊥) → m ≡ 0
    none_if zero never = refl
    none_if (suc m) never = absurd (never (omega arith))

    all : (n : ℕ) (pages : List ℕ) → ((page : ℕ) → IsIn page pages → IsFreeOrHeld f page) → AllByRecursion (λ page. times page (live_pages nodes t) ≡ 0) (take n pages)
    all zero pages free = tt
    all (suc n) [] free = tt
    all (suc n) (page ∷ pages) free = (
      none_if (times page (live_pages nodes t)) (λ some.
          spare.beside page (free page (inl refl))
          (stand_on_pages.reached nodes t spare.tree page spare.stands (((sound_is_whole s nodes t sound).reached page).0 (times_in page (live_pages nodes t) some)))),
      all n pages (λ q i. free q (inr i)),
    )

-- an insertion is the write of its object
pub insertion_makes : (s : Space) (head : Head) (old : Nodes) (t : Live) (tag : ℕ) (point : List ℕ) (placed : Placed) (new : Nodes) →
    HasInserted s (rules s head.promote head.split) old t (record { id = t.count; tag = tag; point = point }) placed new → IsMadeBy s head (Inserts point tag) old t placed new
insertion_makes s head old t tag point placed new has = record {
  objects = record { sound = has.sound; points_are = has.points; tags_are = has.tags };
  tree = has.tree;
  balance = has.balance;
}

-- what an insertion placed, said of pages that are those of a file
pub placed_for : (s space : Space) → s ≡ space → (old pages : Shelf) → old ≡ pages → (head : Head) (t : Live) (tag : ℕ) (point : List ℕ) (placed : Placed) →
    (IsTrue old.is_known → IsSoundTree s (nodes_of old.read) t → AreBeside (nodes_of old.read) t (pages_of placed.staged)) →
    (IsTrue old.is_known → IsSoundTree s (nodes_of old.read) t → (new : Nodes) → IsOver (nodes_of old.read) t placed.staged new →
    HasInserted s (rules s head.promote head.split) (nodes_of old.read) t (record { id = t.count; tag = tag; point = point }) placed new) →
    IsTrue pages.is_known → IsSoundTree space (nodes_of pages.read) t → IsPlacedFor space head (Inserts point tag) (nodes_of pages.read) t placed
placed_for s space same old pages is head t tag point placed apart inserted =
    subst (λ (h : Shelf). IsTrue h.is_known → IsSoundTree space (nodes_of h.read) t → IsPlacedFor space head (Inserts point tag) (nodes_of h.read) t placed) is
    (subst (λ (m : Space). IsTrue old.is_known → IsSoundTree m (nodes_of old.read) t → IsPlacedFor m head (Inserts point tag) (nodes_of old.read) t placed) same
    (λ is_known sound. record {
      apart = apart is_known sound;
      makes = λ new over. insertion_makes s head (nodes_of old.read) t tag point placed new (inserted is_known sound new over);
    }))

-- why no free list was made, by why its walk stopped
pub list_cause : {M : Type 0} (fault : PageFault) (result : IndexFault) (before_pages after_pages : Shelf) (file : OpenFile M) (before : DiskState) (faults : ℕ) (t : Live) → before_pages ≡ pages_on file before 0 →
    t ≡ file.live → after_pages.faults ≡ faults → result ≡ read_fault fault → IsWalkFault before_pages after_pages (tree_walk before_pages.read t) fault → HasListCause file before faults result
list_cause {M} fault result before_pages after_pages file before faults t old live new is walk =
    subst (HasListCause file before faults) (sym is) (cases fault (subst (λ (l : Live). IsWalkFault (pages_on file before 0) after_pages (tree_walk (pages_on file before 0).read l) fault) live
    (subst (λ (h : Shelf). IsWalkFault h after_pages (tree_walk h.read t) fault) old walk)))
  where
    cases : (f : PageFault) → IsWalkFault (pages_on file before 0) after_pages (tree_walk (pages_on file before 0).read file.live) f → HasListCause file before faults (read_fault f)
    cases Disk w = subst (λ (n : ℕ). Rose before.faults n) new w
    cases Memory w = tt
    cases (Bad page f) w = (tt, w.1)
    cases (Outside page) w = (tt, w.1)
    cases (Repeats page) w = (tt, w.1)
    cases (Level page) w = absurd w

-- a walk that stops only because the disk fails or memory runs out blames no page
pub blames_none : (fault : PageFault) (result : IndexFault) → result ≡ read_fault fault → IsPassing fault → BlamesNoPage result
blames_none fault result is passing = subst BlamesNoPage (sym is) (cases fault passing)
  where
    cases : (f : PageFault) → IsPassing f → BlamesNoPage (read_fault f)
    cases Disk p = tt
    cases Memory p = tt
    cases (Bad page f) p = absurd p
    cases (Outside page) p = absurd p
    cases (Repeats page) p = absurd p
    cases (Level page) p = absurd p
