-- A file of a head, two slots and an empty leaf is a sound empty index.
use Rattle.std.proofs.Common.{◌≡◌, ◌≢◌, inl, inr, ℕ, zero, suc, ◌+◌, ◌*◌, ◌≤◌, ◌==◌, nat_lt, Bool, true, false, List, [], ◌∷◌, length, slice_index, Option, Some, Ok, if◌then◌else◌, refl, sym, ◌∙◌, ap, subst, arith}
use Rattle.std.proofs.lemmas.Bool.Decides.{nat_tests}
use Rattle.disk_model.specs.Disk.{Written}
use Rattle.metric_laws.specs.Space.{Space}
use Rattle.tree_shape.specs.declared.entry.Node.{Node}
use Rattle.tree_shape.specs.declared.entry.Node.TheVariants.{Leaf}
use Rattle.tree_shape.specs.Tree.{IsSoundTree}
use Rattle.node_page.specs.declared.head.Head.{Head}
use Rattle.node_page.specs.declared.node.Version.TheVariants.{Second}
use Rattle.node_page.specs.Bytes.{number_at}
use Rattle.node_page.specs.Heads.{SpellsHead}
use Rattle.node_page.specs.Slots.{SpellsSlot}
use Rattle.node_page.specs.declared.node.NodeFault.{NodeFault}
use Rattle.node_page.specs.Nodes.{SpellsNode, node_in, count_of, firsts}
use Rattle.node_page.specs.Opening.{page_of, OpensTo}
use Rattle.node_page.proofs.Published.{number_kept, none_by_spells, node_is}
use Rattle.page_store.proofs.Published.{place-page_of, reads_page}
use Rattle.page_store.specs.Reading.{is_within, judged, reading, nodes_of}
use Rattle.page_store.specs.Files.{nodes_in}
use Rattle.shadow_root.specs.Commit.{HasFields}
use Rattle.shadow_root.specs.Making.{first_live, IsBare, IsMade}
use Rattle.shadow_root.proofs.Torn.{written_page}
use Rattle.shadow_root.proofs.Phases.{fields_by, slot_by_fields, byte_open, open_byte}

-- ---- a page of zeros

nothing : number_at 2 2 [] ≡ 0
unfolding number_at
nothing = refl

count_zero : (page : List ℕ) → ((k : ℕ) → slice_index page k ≡ 0) → count_of page ≡ 0
unfolding count_of
count_zero page zeros = number_kept 2 2 page [] (λ k from to. zeros k) ∙ nothing

no_firsts : {E : Type 0} (f : ℕ → E) → [] ≡ firsts f 0
unfolding firsts
no_firsts f = refl

pub zeros_are_leaf : (dim : ℕ) (page : List ℕ) → ((k : ℕ) → slice_index page k ≡ 0) → SpellsNode dim page (Leaf [])
zeros_are_leaf dim page zeros = (
  zeros 0,
  record {
    told = count_zero page zeros;
    at_most = omega arith;
    first = λ k from to. zeros k;
    between = λ k from to. zeros k;
    behind = λ k from to. zeros k;
  },
  no_firsts _,
  tt,
)

within_three : is_within 4 3 ≡ true
unfolding is_within
within_three = refl

pub leaf_read : (dim : ℕ) (file : List ℕ) → SpellsNode dim (page_of file 3) (Leaf []) → nodes_of (reading dim 4 file) 3 ≡ Some (Leaf [])
leaf_read dim file spells =
    let read : reading dim 4 file 3 ≡ Ok (Leaf []) =
    reads_page Second dim 4 file 3 within_three ∙ ap (λ (o : Option NodeFault). judged 3 o (node_in Second dim (page_of file 3))) (none_by_spells Second dim (page_of file 3) (Leaf []) spells)
    ∙ ap (λ (n : Node). Ok n) (node_is Second dim (page_of file 3) (Leaf []) spells) in
    rw read refl

no_times : (id : ℕ) → ◌≡◌ {A = ℕ} 0 (if nat_lt id 0 then 1 else 0)
no_times id = grind (arith, nat_tests)

-- an empty leaf as root
pub empty_is_sound : (s : Space) (nodes : ℕ → Option Node) → nodes 3 ≡ Some (Leaf []) → IsSoundTree s nodes first_live
empty_is_sound s nodes is = record {
  parts = ([], is, record { enough = omega arith; at_most = omega arith }, tt);
  within = ((omega arith, omega arith), tt);
  once = λ page. once page (3 == page);
  ids = λ id. rw is (no_times id);
}
  where
    once : (page : ℕ) (b : Bool) → (if b then 1 else 0) + 0 ≤ 1
    once page true = omega arith
    once page false = omega arith

module _ (head : Head) (head_page slot zeros old new : List ℕ) (spells : SpellsHead head_page head) (version : head.version ≡ 2)
    (closed : SpellsSlot slot (record { gate = false; generation = 1; root = 3; height = 0; count = 0; pages = 4 })) (are_zeros : (k : ℕ) → slice_index zeros k ≡ 0)
    (page0 : page_of old 0 ≡ head_page) (page1 : page_of old 1 ≡ slot) (page2 : page_of old 2 ≡ zeros) (page3 : page_of old 3 ≡ zeros) (long : 16384 ≤ length old)
    (written : Written 4096 (165 ∷ []) old new) where
  apart : (p : ℕ) → p ≢ 1 → page_of new p ≡ page_of old p
  apart zero differ = written_page 4096 (165 ∷ []) old new 0 written (inl (omega arith))
  apart (suc zero) differ = absurd (differ refl)
  apart (suc (suc p)) differ = written_page 4096 (165 ∷ []) old new (suc (suc p)) written (inr (omega arith))

  fields : HasFields (page_of new 1) first_live
  fields = fields_by slot (page_of new 1) first_live (record {
    generation = closed.generation;
    root = closed.root;
    height = closed.height;
    count = closed.count;
    pages = closed.pages;
    rest = closed.rest;
  }) (λ k from to. place-page_of new 1 k to ∙ written.above (4096 * 1 + k) (omega arith) ∙ sym (place-page_of old 1 k to) ∙ ap (λ (p : List ℕ). slice_index p k) page1)

  gate : slice_index new (4096 * (1 + 0)) ≡ 165
  gate = written.inside 0 (omega arith)

  other_shut : slice_index new (4096 * (1 + 1)) ≡ 0
  other_shut =
      sym (place-page_of new 2 0 (omega arith)) ∙ ap (λ (p : List ℕ). slice_index p 0) (apart 2 (omega arith) ∙ page2) ∙ are_zeros 0

  opens : OpensTo new head first_live
  opens = record {
    long = omega (arith, long, written.size);
    spells_head = subst (λ (p : List ℕ). SpellsHead p head) (sym (apart 0 (omega arith) ∙ page0)) spells;
    side = omega arith;
    newest = λ opened. let byte = open_byte new 1 opened in absurd (omega (arith, byte, other_shut));
    spells_slot = slot_by_fields (page_of new 1) first_live fields (byte_open new 0 gate);
    valid = record {
      low_generation = omega arith;
      high_generation = omega arith;
      low_root = omega arith;
      high_root = omega arith;
      height = omega arith;
      count = omega arith;
      low_pages = omega arith;
      high_pages = omega arith;
      room = omega (arith, long, written.size);
    };
  }

  pub is_bare : length old ≡ 16384 → IsBare new
  is_bare exact = record {
    size = omega (arith, exact, written.size);
    second_slot = λ k from to. ap (λ (p : List ℕ). slice_index p k) (apart 2 (omega arith) ∙ page2) ∙ are_zeros k;
  }

  pub is_made : IsMade head new
  is_made s dimension = record {
    opens = opens;
    version = version;
    dimension = dimension;
    tree = empty_is_sound s (nodes_in head.dim first_live new) (leaf_read head.dim new
        (subst (λ (p : List ℕ). SpellsNode head.dim p (Leaf [])) (sym (apart 3 (omega arith) ∙ page3)) (zeros_are_leaf head.dim zeros are_zeros)));
  }
