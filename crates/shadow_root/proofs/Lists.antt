-- What the files at the moments of a commit hold.
use Rattle.std.proofs.Common.{◌≡◌, ℕ, ◌≤◌, List, map, inl, inr, refl, sym, ap, ◌∙◌, subst, arith, None}
use Rattle.std.specs.List.{AllByRecursion}
use Rattle.metric_laws.specs.Space.{Space}
use Rattle.metric_laws.proofs.Published.{all_in}
use Rattle.tree_shape.specs.declared.entry.LeafEntry.{LeafEntry}
use Rattle.tree_shape.specs.declared.live.Live.{Live}
use Rattle.tree_shape.specs.Fill.{root_least}
use Rattle.tree_shape.specs.Tree.{Nodes, IsNodePage, IsSoundTree, objects, points_by_id, points_from, tags_by_id, tags_from, times}
use Rattle.tree_shape.proofs.Published.{Agree, objects_stay, same_pages, still_sound}
use Rattle.node_page.specs.declared.head.Head.{Head}
use Rattle.node_page.specs.Heads.{SpellsHead}
use Rattle.node_page.specs.Opening.{OpensTo, page_of}
use Rattle.node_page.proofs.Published.{head_is}
use Rattle.page_store.specs.Files.{nodes_in}
use Rattle.page_store.specs.Placing.{live_pages}
use Rattle.page_store.proofs.Published.{sound_is_whole}
use Rattle.page_store.specs.declared.staging.StagedNode.{StagedNode}
use Rattle.shadow_root.specs.Commit.{IsStagedFor}
use Rattle.shadow_root.specs.Live.{HasLive}
use Rattle.shadow_root.specs.Placements.{CommitsKeepHead, CommitsKeepLists, IsTreeOf, KeepsBytes}
use Rattle.shadow_root.proofs.Beside.{in_place_is_written, same_bytes}

-- a tree whose pages hold what they held is as sound as it was, and has the same objects
same_tree : (s : Space) (old new : Nodes) (t : Live) → Agree old new (live_pages old t) → IsSoundTree s old t → IsTreeOf s new t (points_by_id old t) (tags_by_id old t)
same_tree s old new t agree sound = record {
  sound = record {
    parts = still_sound old new s t.height t.root agree (root_least t.height) None sound.parts;
    within = subst (AllByRecursion (IsNodePage t)) (sym pages) sound.within;
    once = λ page. subst (λ (ps : List ℕ). times page ps ≤ 1) (sym pages) (sound.once page);
    ids = λ id. ap (λ (es : List LeafEntry). times id (map (λ e. e.id) es)) same ∙ sound.ids id;
  };
  points_are = ap (λ (es : List LeafEntry). points_from es 0 t.count) same;
  tags_are = ap (λ (es : List LeafEntry). tags_from es 0 t.count) same;
}
  where
    same : objects new t ≡ objects old t
    same = objects_stay old new t.height t.root agree

    pages : live_pages new t ≡ live_pages old t
    pages = same_pages old new t.height t.root agree

-- a file with the old page 0 has the old head
with_head : (head : Head) (t next : Live) (old file : List ℕ) → OpensTo old head t → page_of file 0 ≡ page_of old 0 → HasLive next file → OpensTo file head next
with_head head t next old file was first has =
    let same : has.head ≡ head = sym (head_is (page_of file 0) has.head has.opens.spells_head) ∙ head_is (page_of file 0) head (subst (λ (page : List ℕ). SpellsHead page head) (sym first) was.spells_head) in
    subst (λ (h : Head). OpensTo file h next) same has.opens

-- no node is staged for page 0
first_page : (dim : ℕ) (t next : Live) (staged : List StagedNode) (old file : List ℕ) → IsStagedFor dim t next staged → KeepsBytes t staged old file → page_of file 0 ≡ page_of old 0
first_page dim t next staged old file for others = others 0 (inl refl) (λ k node is zero. let low = (for.within k node is).0 in absurd (omega (arith, low, zero)))

pub commits_keep_head : CommitsKeepHead
commits_keep_head dim head t next staged old file was for others has = with_head head t next old file was (first_page dim t next staged old file for others) has

pub commits_keep_lists : CommitsKeepLists
commits_keep_lists s head t next staged points tags old file sound follows for each moment others = elim moment [
  | inl keeps ↦ inl (record {
    opens = with_head head t t old file sound.opens first keeps.opens;
    version = sound.version;
    dimension = sound.dimension;
    tree = same_tree s (nodes_in head.dim t old) (nodes_in head.dim t file) t
        (λ page k.
        let within = all_in (IsNodePage t) (live_pages (nodes_in head.dim t old) t) page sound.tree.within k in
        let reached = ((sound_is_whole s (nodes_in head.dim t old) t sound.tree).reached page).0 k in
        same_bytes head.dim t t old file page within (omega arith) (keeps.tree page (within, reached)))
        sound.tree;
  })
  | inr after ↦ inr (record {
    opens = with_head head t next old file sound.opens first after.opens;
    version = sound.version;
    dimension = sound.dimension;
    tree = each (nodes_in head.dim next file) (in_place_is_written head.dim t next (live_pages (nodes_in head.dim t old) t) staged old file follows.low_pages sound.tree.within for after.in_place others);
  })
]
  where
    first : page_of file 0 ≡ page_of old 0
    first = first_page head.dim t next staged old file for others
