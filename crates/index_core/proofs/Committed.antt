-- What a commit of placed nodes needs, and what it leaves.
use Rattle.std.proofs.Common.{◌≡◌, ◌⊎◌, ℕ, zero, suc, ◌≤◌, Bool, true, false, List, [], ◌∷◌, ◌++◌, inl, inr, refl, sym, ap, subst, arith, length, take, min, Option, Some, None, Result, Ok, Err}
use Rattle.std.specs.Prelude.{IsSome, ◌==◌}
use Rattle.std.specs.List.{AllByRecursion}
use Rattle.std.proofs.lemmas.Bool.Decides.{nat_tests}
use Rattle.metric_laws.specs.Lists.{IsIn}
use Rattle.metric_laws.proofs.Published.{all_append, all_in, all_each, in-append, in-filter}
use Rattle.disk_model.specs.Disk.{DiskState, LeavesOnly}
use Rattle.tree_shape.specs.declared.live.Live.{Live}
use Rattle.tree_shape.specs.declared.entry.Node.{Node}
use Rattle.tree_shape.specs.Tree.{Nodes, IsNodePage, times}
use Rattle.node_page.specs.declared.head.Head.{Head}
use Rattle.node_page.specs.Opening.{OpensTo}
use Rattle.page_store.specs.declared.staging.Placed.{Placed}
use Rattle.page_store.specs.declared.staging.StagedNode.{StagedNode}
use Rattle.page_store.specs.declared.pages.PageFault.{PageFault}
use Rattle.page_store.specs.Files.{nodes_in}
use Rattle.page_store.specs.Laws.{AreNew}
use Rattle.page_store.specs.Placing.{IsPlacement}
use Rattle.page_store.specs.Reached.{StandsOnPages}
use Rattle.page_store.specs.Reading.{IsWithin, node_or_none}
use Rattle.page_store.specs.Staging.{pages_of, staged_for}
use Rattle.page_store.specs.Succession.{IsWritten, ShareNone, without}
use Rattle.page_store.proofs.Published.{placements_new, go_on, new_stands, stand_on_pages, in_times as times_from_in}
use Rattle.shadow_root.specs.Commit.{IsReady, IsStagedFor, IsInPlace, KeepsTree}
use Rattle.shadow_root.specs.Live.{IsSuccessor}
use Rattle.shadow_root.specs.Placements.{KeepsBytes}
use Rattle.shadow_root.proofs.Published.{in_place_is_written, new_is_beside, placements_can_follow}
use Rattle.free_pages.specs.Keeping.{FreePages, IsKept}
use Rattle.free_pages.specs.Commits.{after_commit, AreWithin, LiesBeside, IsExchange}
use Rattle.free_pages.proofs.Published.{free_numbers, placements_exchange, keep_within, keep_beside}
use Rattle.index_core.specs.Index.{AreSpare}
use Rattle.index_core.specs.Writing.{Follows}

in_take : (n : ℕ) (xs : List ℕ) (x : ℕ) → IsIn x (take n xs) → IsIn x xs
in_take zero xs x i = absurd i
in_take (suc n) [] x i = absurd i
in_take (suc n) (y ∷ xs) x i = elim i [ inl s ↦ inl s | inr w ↦ inr (in_take n xs x w) ]

none_for : (page : ℕ) (staged : List StagedNode) → (IsIn page (pages_of staged) → ⊥) → staged_for staged page ≡ None
none_for page [] never = refl
none_for page (s ∷ staged) never = tested (s.page == page) refl (none_for page staged (λ i. never (inr i)))
  where
    tested : (b : Bool) → (s.page == page) ≡ b → staged_for staged page ≡ None → staged_for (s ∷ staged) page ≡ None
    tested true e ih = let same : s.page ≡ page = grind (arith, nat_tests) in absurd (never (inl (sym same)))
    tested false e ih = rw e ih

-- the pages of staged nodes hold them
staged_have : (new : Nodes) (staged : List StagedNode) → AllByRecursion (λ s. new s.page ≡ Some s.node) staged → AllByRecursion (λ page. IsSome (new page)) (pages_of staged)
staged_have new [] stand = tt
staged_have new (s ∷ staged) stand = (subst (λ (n : Option Node). IsSome n) (sym stand.0) refl, staged_have new staged stand.1)

-- nodes were placed for a file, on the first of its free pages
module _ (head : Head) (t : Live) (f : FreePages) (asked added : ℕ) (placed : Placed) (kept : IsKept f) (within : AreWithin t.pages f)
    (placement : IsPlacement head t (take asked f.free) added placed) where
  pub follows : t.side ≤ 1 → IsSuccessor t placed.next × IsStagedFor head.dim t placed.next placed.staged
  follows side = placements_can_follow head t (take asked f.free) added placed side placement

  pub news : (tree : List ℕ) → AllByRecursion (IsNodePage t) tree → LiesBeside tree f → AreNew placed.next tree (pages_of placed.staged)
  news tree inside beside =
      placements_new head t tree (take asked f.free) added placed inside (free_numbers t.pages asked f kept within) (λ page i stands. beside page (inl (in_take asked f.free page i)) stands) placement

  pub exchange : 3 ≤ t.pages → AllByRecursion (IsWithin t.pages) placed.left →
      IsExchange t.pages placed.next.pages (min (length placed.staged) (length (take asked f.free))) f (pages_of placed.staged) placed.left
  exchange three left = placements_exchange head t asked added f placed kept within three left placement

  pub is_ready : (disk : DiskState) (tree : List ℕ) → head.version ≡ 2 → t.side ≤ 1 → OpensTo disk.bytes head t → LeavesOnly disk disk.bytes →
      StandsOnPages (nodes_in head.dim t disk.bytes) t tree → LiesBeside tree f → IsReady head.dim t placed.next placed.staged disk
  is_ready disk tree version side opens only stands beside = record {
    head = head;
    opens = opens;
    version = version;
    dim_is = refl;
    count = placement.valid.count;
    images = λ image left. subst (KeepsTree head.dim t disk.bytes) (sym (only image left)) (record { opens = record { head = head; opens = opens }; tree = λ p i. refl });
    beside = new_is_beside (nodes_in head.dim t disk.bytes) t placed.next tree placed.staged stands (news tree stands.within beside);
  }

  -- no new node gets a page that is left
  pub unshared : (nodes : Nodes) (tree : List ℕ) → StandsOnPages nodes t tree → LiesBeside tree f → Follows nodes t placed → (page : ℕ) → IsIn page (pages_of placed.staged) → IsIn page placed.left → ⊥
  unshared nodes tree stands beside turn page new l =
      (news tree stands.within beside).outside page new (elim turn [
        | inl takes ↦ stand_on_pages.reached nodes t tree page stands (all_in _ placed.left page takes.left l)
        | inr alone ↦ elim (subst (λ (ps : List ℕ). IsIn page ps) alone.1 l) [ inl same ↦ subst (λ (p : ℕ). IsIn p tree) (sym same) stands.root | inr none ↦ absurd none ]
      ])

  -- after the commit the next tree stands beside the free and held pages
  pub next_spare : (old new : List ℕ) (used generation : ℕ) (tree : List ℕ) → t.side ≤ 1 → 3 ≤ t.pages → AllByRecursion (IsWithin t.pages) placed.left →
      used ≡ min (length placed.staged) (length (take asked f.free)) →
      StandsOnPages (nodes_in head.dim t old) t tree → AllByRecursion (λ page. IsSome (nodes_in head.dim t old page)) tree → LiesBeside tree f →
      Follows (nodes_in head.dim t old) t placed → IsInPlace head.dim placed.staged new → KeepsBytes t placed.staged old new → AreSpare (nodes_in head.dim placed.next new) placed.next (after_commit used placed.left generation f)
  next_spare old new used generation tree side three left_within used_is stands have beside turn in_place others = elim turn [
    | inl takes ↦ record {
      tree = without placed.left tree ++ pages_of placed.staged;
      stands = go_on (nodes_in head.dim t old) (nodes_in head.dim placed.next new) t tree placed stands ((follows side).0.low_pages) takes fresh written;
      have = all_append (λ page. IsSome (nodes_in head.dim placed.next new page)) (without placed.left tree) (pages_of placed.staged)
          (all_each (λ page. IsSome (nodes_in head.dim placed.next new page)) (without placed.left tree) (λ page i. still page (in-filter (λ (p : ℕ). times p placed.left == 0) tree page i).0))
          (staged_have (nodes_in head.dim placed.next new) placed.staged written.stand);
      beside = lies (without placed.left tree ++ pages_of placed.staged)
          (λ page i. elim (in-append (without placed.left tree) (pages_of placed.staged) page i) [
            | inl o ↦ inl (in-filter (λ (p : ℕ). times p placed.left == 0) tree page o).0
            | inr n ↦ inr n
          ])
          (λ page l i. elim (in-append (without placed.left tree) (pages_of placed.staged) page i) [
            | inl o ↦ (
                let z = (in-filter (λ (p : ℕ). times p placed.left == 0) tree page o).1 in
                let s = times_from_in page placed.left l in
                let e : times page placed.left ≡ 0 = grind (arith, nat_tests) in
                absurd (omega arith)
                )
            | inr n ↦ fresh.outside page n (stand_on_pages.reached (nodes_in head.dim t old) t tree page stands (all_in _ placed.left page takes.left l))
          ]);
    }
    | inr alone ↦ record {
      tree = pages_of placed.staged;
      stands = new_stands (nodes_in head.dim t old) (nodes_in head.dim placed.next new) tree placed alone.0 fresh written;
      have = staged_have (nodes_in head.dim placed.next new) placed.staged written.stand;
      beside = lies (pages_of placed.staged) (λ page i. inr i)
          (λ page l i. fresh.outside page i (subst (λ (p : ℕ). IsIn p tree) (sym (root_of page (subst (λ (ps : List ℕ). IsIn page ps) alone.1 l))) stands.root));
    }
  ]
    where
      fresh : AreNew placed.next tree (pages_of placed.staged)
      fresh = news tree stands.within beside

      written : IsWritten (nodes_in head.dim t old) tree placed.staged (nodes_in head.dim placed.next new)
      written = in_place_is_written head.dim t placed.next tree placed.staged old new ((follows side).0.low_pages) stands.within ((follows side).1) in_place others

      -- a page of the old tree holds the node that it held
      still : (page : ℕ) → IsIn page tree → IsSome (nodes_in head.dim placed.next new page)
      still page i =
          subst (λ (n : Option Node). IsSome n) (sym (written.stay page i (none_for page placed.staged (λ n. fresh.outside page n i))))
          (all_in (λ page. IsSome (nodes_in head.dim t old page)) tree page have i)

      root_of : (page : ℕ) → IsIn page (t.root ∷ []) → page ≡ t.root
      root_of page i = elim i [ inl s ↦ s | inr n ↦ absurd n ]

      lies : (next_tree : List ℕ) → ((page : ℕ) → IsIn page next_tree → IsIn page tree ⊎ IsIn page (pages_of placed.staged)) → ShareNone placed.left next_tree →
          LiesBeside next_tree (after_commit used placed.left generation f)
      lies next_tree from apart =
          keep_beside t.pages placed.next.pages used generation f (pages_of placed.staged) placed.left tree next_tree kept
          (subst (λ (n : ℕ). IsExchange t.pages placed.next.pages n f (pages_of placed.staged) placed.left) (sym used_is) (exchange three left_within)) within beside from apart

  pub next_within : (used generation : ℕ) → 3 ≤ t.pages → AllByRecursion (IsWithin t.pages) placed.left → used ≡ min (length placed.staged) (length (take asked f.free)) →
      AreWithin placed.next.pages (after_commit used placed.left generation f)
  next_within used generation three left_within used_is =
      keep_within t.pages placed.next.pages used generation f (pages_of placed.staged) placed.left
      (subst (λ (n : ℕ). IsExchange t.pages placed.next.pages n f (pages_of placed.staged) placed.left) (sym used_is) (exchange three left_within)) within

  -- a page of the old file that is not staged holds what it held
  pub page_same : (old new : List ℕ) (page : ℕ) → t.side ≤ 1 → IsWithin t.pages page → (IsIn page (pages_of placed.staged) → ⊥) → IsInPlace head.dim placed.staged new → KeepsBytes t placed.staged old new →
      nodes_in head.dim placed.next new page ≡ nodes_in head.dim t old page
  page_same old new page side inside unstaged in_place others =
      (in_place_is_written head.dim t placed.next (page ∷ []) placed.staged old new ((follows side).0.low_pages) (inside, tt) ((follows side).1) in_place others).stay page (inl refl) (none_for page placed.staged unstaged)

-- what a page that holds a node gives
pub read_same : (old new : Result Node PageFault) (node : Node) → old ≡ Ok node → node_or_none new ≡ node_or_none old → new ≡ old
read_same old (Ok m) node is same = (let e : node_or_none old ≡ Some node = ap node_or_none is in cc)
read_same old (Err fault) node is same = (let e : node_or_none old ≡ Some node = ap node_or_none is in absurd (cc))
