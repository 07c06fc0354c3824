-- What is kept agrees with the pages behind.
use Rattle.std.proofs.Common.{◌≡◌, ◌⊎◌, ℕ, true, false, nat_eq, List, Some, None, IsTrue, All, Contains, refl, sym, ◌∙◌, ap, subst, inl, inr, arith}
use Rattle.std.proofs.lemmas.Bool.{eqb-true}
use Rattle.std.proofs.lemmas.Bool.Decides.{nat_tests}
use Rattle.std.proofs.lemmas.List.Elements.{All-weaker, All-contains, All-contains_itself}
use Rattle.lru.specs.LruCache.{put_entries}
use Rattle.lru.proofs.CallerLemmas.{Contains-lookup, Contains-put_entries, IsPut}
use Rattle.tree_shape.specs.declared.entry.Node.{Node}
use Rattle.node_page.specs.Nodes.{IsValidNode}
use Rattle.page_store.specs.declared.pages.PageFault.{PageFault}
use Rattle.page_store.specs.declared.pages.PageFault.TheVariants.{Disk, Bad, Outside, Memory, Repeats, Level}
use Rattle.page_store.specs.Reading.{IsWithin, is_within}
use Rattle.page_store.specs.Shelf.{Shelf, HoldsSame, IsNodeOf, HasPageCause}
use Rattle.page_cache.specs.Keeping.{Pairs, kept_node, used, Agrees}
use Rattle.page_cache.specs.Cache.{asked_for}
use Rattle.page_cache.specs.Laws.{GrowsTo}

-- what is found of a page is its node
pub found_is_node : (kept : Pairs) (shelf : Shelf) (page : ℕ) (node : Node) → Agrees kept shelf → kept_node kept page ≡ Some node → IsNodeOf shelf page node
found_is_node kept shelf page node agrees found =
    let pair = Contains-lookup (nat_eq page) kept.entries node found in
    subst (λ (k : ℕ). IsNodeOf shelf k node) (sym (eqb-true page pair.0 pair.2)) (All-contains (λ p. IsNodeOf shelf p.0 p.1) kept.entries (pair.0, node) agrees pair.1)

put_is_node : (kept : Pairs) (shelf : Shelf) (page : ℕ) (node : Node) → IsNodeOf shelf page node → (pair : ℕ × Node) → IsPut nat_eq kept page node pair → IsNodeOf shelf pair.0 pair.1
put_is_node kept shelf page node is pair put =
    let of_page : pair.0 ≡ page = elim put.1 [
      | inl same ↦ same
      | inr old ↦ sym (eqb-true page pair.0 old.2)
    ] in
    subst (λ (k : ℕ). IsNodeOf shelf k pair.1) (sym of_page) (subst (λ (n : Node). IsNodeOf shelf page n) (sym put.0) is)

-- what is kept after a use agrees
pub used_agrees : (kept : Pairs) (shelf : Shelf) (page : ℕ) (node : Node) → Agrees kept shelf → IsNodeOf shelf page node → Agrees (used kept page node) shelf
used_agrees kept shelf page node agrees is =
    let P : ℕ × Node → Type 0 = λ pair. IsNodeOf shelf pair.0 pair.1 in
    let entries : List (ℕ × Node) = put_entries nat_eq kept page node in
    All-weaker (Contains entries) P
    (λ pair within. elim (Contains-put_entries nat_eq kept page node pair within) [
      | inl was ↦ All-contains P kept.entries pair agrees was
      | inr put ↦ put_is_node kept shelf page node is pair put
    ]) entries (All-contains_itself entries)

-- the same where the node may not have been kept
pub kept_agrees : (old new : Pairs) (shelf : Shelf) (page : ℕ) (node : Node) → Agrees old shelf → IsNodeOf shelf page node → (new ≡ used old page node) ⊎ (new ≡ old) → Agrees new shelf
kept_agrees old new shelf page node agrees is (inl put) = subst (λ (k : Pairs). Agrees k shelf) (sym put) (used_agrees old shelf page node agrees is)
kept_agrees old new shelf page node agrees is (inr left) = subst (λ (k : Pairs). Agrees k shelf) (sym left) agrees

-- a page that has a node is one of the pages
within-test : (pages page : ℕ) → IsWithin pages page → is_within pages page ≡ true
unfolding is_within
within-test pages page (from, below) = grind (arith, nat_tests)

-- so no page outside is kept
pub none_outside : (shelf : Shelf) (page : ℕ) (node : Node) → IsNodeOf shelf page node → is_within shelf.pages page ≡ false → ⊥
none_outside shelf page node is out = let within = within-test shelf.pages page is.within in cc

pub unkept_outside : (kept : Pairs) (shelf : Shelf) (page : ℕ) → Agrees kept shelf → is_within shelf.pages page ≡ false → kept_node kept page ≡ None
unkept_outside kept shelf page agrees out = (elim (kept_node kept page) as (λ o. kept_node kept page ≡ o → kept_node kept page ≡ None) [
  | None ↦ λ none. none
  | Some node ↦ λ some. absurd (none_outside shelf page node (found_is_node kept shelf page node agrees some) out)
]) refl

-- a page's node stays its node where the pages grow and the page reads as before
still_node : (old new : Shelf) (page : ℕ) (node : Node) → GrowsTo old new → (IsTrue new.is_known → new.read page ≡ old.read page) → IsNodeOf old page node → IsNodeOf new page node
still_node old new page node grows reads is = record {
  within = (is.within.0, let below = is.within.1 in let more = grows.pages in omega arith);
  valid = subst (λ (d : ℕ). IsValidNode d node) (sym grows.dim) is.valid;
  told = λ is_known. reads is_known ∙ is.told (grows.is_known is_known);
}

-- what is kept agrees as long as each kept page reads as before
pub agreement_lasts : (kept : Pairs) (old new : Shelf) → GrowsTo old new → Agrees kept old → (IsTrue new.is_known → All (λ pair. new.read pair.0 ≡ old.read pair.0) kept.entries) → Agrees kept new
agreement_lasts kept old new grows agrees reads =
    All-weaker (Contains kept.entries) (λ pair. IsNodeOf new pair.0 pair.1)
    (λ pair within. still_node old new pair.0 pair.1 grows (λ is_known. All-contains (λ p. new.read p.0 ≡ old.read p.0) kept.entries pair (reads is_known) within)
    (All-contains (λ p. IsNodeOf old p.0 p.1) kept.entries pair agrees within)) kept.entries (All-contains_itself kept.entries)

-- pages that hold the same agree with what is kept as before
pub agrees-same : (kept : Pairs) (old new : Shelf) → HoldsSame old new → Agrees kept old → Agrees kept new
agrees-same kept old new same agrees =
    agreement_lasts kept old new (record { dim = same.dim; pages = let e = same.pages in omega arith; is_known = λ is_known. subst IsTrue same.is_known is_known }) agrees
    (λ is_known. All-weaker (Contains kept.entries) (λ pair. new.read pair.0 ≡ old.read pair.0) (λ pair within. ap (λ read. read pair.0) same.read) kept.entries (All-contains_itself kept.entries))

-- the node of a page for pages that hold the same
pub is_node-same : (old new : Shelf) (page : ℕ) (node : Node) → HoldsSame old new → IsNodeOf old page node → IsNodeOf new page node
is_node-same old new page node same is =
    still_node old new page node (record { dim = same.dim; pages = let e = same.pages in omega arith; is_known = λ is_known. subst IsTrue same.is_known is_known }) (λ is_known. ap (λ read. read page) same.read) is

-- how often pages were asked for is none of what they hold
pub is_node-asked : (shelf : Shelf) (asked page : ℕ) (node : Node) → IsNodeOf shelf page node → IsNodeOf (asked_for shelf asked) page node
is_node-asked shelf asked page node is = record { within = is.within; valid = is.valid; told = is.told }

pub holds_same-asked : (old new : Shelf) (before after : ℕ) → HoldsSame old new → HoldsSame (asked_for old before) (asked_for new after)
holds_same-asked old new before after same = record { dim = same.dim; pages = same.pages; is_known = same.is_known; read = same.read; faults = same.faults }

pub cause-asked : (old new : Shelf) (before after page : ℕ) (fault : PageFault) → HasPageCause old new page fault → HasPageCause (asked_for old before) (asked_for new after) page fault
cause-asked old new before after page Disk cause = cause
cause-asked old new before after page (Bad p fault) cause = cause
cause-asked old new before after page (Outside p) cause = cause
cause-asked old new before after page Memory cause = cause
cause-asked old new before after page (Repeats p) cause = cause
cause-asked old new before after page (Level p) cause = cause
