-- A new file is ready for a commit beside its empty leaf.
use Rattle.std.proofs.Common.{◌≡◌, ◌≢◌, ℕ, zero, suc, ◌+◌, ◌≤◌, false, List, [], ◌∷◌, Option, refl, sym, ap, subst, arith}
use Rattle.metric_laws.specs.Space.{Space}
use Rattle.metric_laws.specs.Lists.{IsIn}
use Rattle.disk_model.specs.Disk.{DiskState, LeavesOnly}
use Rattle.tree_shape.specs.declared.live.Live.{Live}
use Rattle.tree_shape.specs.declared.entry.InnerEntry.{InnerEntry}
use Rattle.tree_shape.specs.declared.entry.Node.{Node}
use Rattle.tree_shape.specs.Tree.{Nodes, inner_entries}
use Rattle.node_page.specs.declared.head.Head.{Head}
use Rattle.node_page.specs.Opening.{page_of, OpensTo}
use Rattle.page_store.specs.declared.staging.StagedNode.{StagedNode}
use Rattle.page_store.specs.Files.{nodes_in}
use Rattle.page_store.specs.Reached.{IsReached}
use Rattle.page_store.specs.Reached.IsReached.{at_root, by_child}
use Rattle.shadow_root.specs.Commit.{IsStagedAs, IsReady, IsStagedFor}
use Rattle.node_page.specs.Nodes.{IsValidNode}
use Rattle.page_store.specs.Reading.{IsWithin}
use Rattle.shadow_root.specs.Making.{first_live, IsMade}

-- some space of this dimension
space_of : ℕ → Space
space_of dim = record { dimension = dim; is_point = λ p. false; dist = λ p q. 0 }

words_of : (dim : ℕ) → (space_of dim).dimension ≡ dim
unfolding space_of
words_of dim = refl

-- the tree of a leaf is its page
leaf_alone : (nodes : Nodes) (root : ℕ) → ((e : InnerEntry) → IsIn e (inner_entries (nodes root)) → ⊥) → (p : ℕ) → IsReached nodes root p → p ≡ root
leaf_alone nodes root none _ at_root = refl
leaf_alone nodes root none _ (by_child q e above stands) =
    let at : q ≡ root = leaf_alone nodes root none q above in
    absurd (none e (subst (λ (n : ℕ). IsIn e (inner_entries (nodes n))) at stands))

pub ready_of_new : (head : Head) (next : Live) (staged : List StagedNode) (disk : DiskState) → IsMade head disk.bytes → head.version ≡ 2 → LeavesOnly disk disk.bytes → next.count ≤ head.limit
    → ((k : ℕ) (s : StagedNode) → IsStagedAs staged k s → s.page ≢ 3) → IsReady head.dim first_live next staged disk
ready_of_new head next staged disk made version only count apart =
    let sound = made (space_of head.dim) (words_of head.dim) in
    let leaf = sound.tree.parts in
    record {
      head = head;
      opens = sound.opens;
      version = version;
      dim_is = refl;
      count = count;
      images = λ image left. record {
        opens = record { head = head; opens = subst (λ (b : List ℕ). OpensTo b head first_live) (sym (only image left)) sound.opens };
        tree = λ p inside. ap (λ (b : List ℕ). page_of b p) (only image left);
      };
      beside = λ k s stands inside. apart k s stands (leaf_alone (nodes_in head.dim first_live disk.bytes) first_live.root
          (λ e is. subst (λ (n : Option Node). IsIn e (inner_entries n)) leaf.1 is) s.page inside.1);
    }

-- one node that is staged
pub one_staged : (s t : StagedNode) (k : ℕ) → IsStagedAs (s ∷ []) k t → t ≡ s
one_staged s t zero is = cc
one_staged s t (suc k) is = absurd cc

-- one new node is all that a commit of one more page needs
pub staged_one : (dim : ℕ) (live next : Live) (s : StagedNode) → IsWithin next.pages s.page → IsValidNode dim s.node → live.pages ≡ s.page → next.pages ≡ s.page + 1 → IsStagedFor dim live next (s ∷ [])
staged_one dim live next s within valid first last = record {
  within = λ k t stands. subst (λ (u : StagedNode). IsWithin next.pages u.page) (sym (one_staged s t k stands)) within;
  valid = λ k t stands. subst (λ (u : StagedNode). IsValidNode dim u.node) (sym (one_staged s t k stands)) valid;
  every = λ p from to. (0, s, refl, omega arith);
}
