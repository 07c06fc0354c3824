-- What is placed beside a live tree can be committed.
use Rattle.std.proofs.Common.{◌≡◌, true, Bool, ◌≢◌, ℕ, zero, suc, ◌≤◌, List, [], ◌∷◌, slice_get, Option, Some, None, refl, sym, ◌∙◌, ap, subst, arith, inl, inr}
use Rattle.std.specs.Prelude.{Ok, false, if◌then◌else◌, ◌==◌}
use Rattle.std.proofs.lemmas.Bool.Decides.{nat_tests}
use Rattle.std.specs.List.{AllByRecursion}
use Rattle.metric_laws.specs.Lists.{IsIn}
use Rattle.metric_laws.proofs.Published.{all_in}
use Rattle.tree_shape.specs.declared.live.Live.{Live}
use Rattle.tree_shape.specs.declared.entry.Node.{Node}
use Rattle.tree_shape.specs.Tree.{IsNodePage}
use Rattle.node_page.specs.Nodes.{IsValidNode, SpellsNode, fault_in, node_in}
use Rattle.node_page.specs.Opening.{page_of}
use Rattle.node_page.specs.declared.node.NodeFault.{NodeFault}
use Rattle.node_page.specs.declared.node.Version.TheVariants.{Second}
use Rattle.node_page.proofs.Published.{none_by_spells, node_is}
use Rattle.page_store.proofs.Published.{reads_page, stand_on_pages}
use Rattle.page_store.specs.Files.{nodes_in}
use Rattle.page_store.specs.declared.staging.StagedNode.{StagedNode}
use Rattle.page_store.specs.Reading.{IsWithin, is_within, judged, node_or_none}
use Rattle.page_store.specs.Staging.{pages_of, staged_for}
use Rattle.shadow_root.specs.Commit.{IsNotStaged, IsStagedAs}
use Rattle.shadow_root.specs.Placements.{PlacementsCanFollow, NewIsBeside, InPlaceIsWritten}

-- what holds of all staged nodes holds of each
at_place : {X : Type 0} (P : X → Type 0) (xs : List X) → AllByRecursion P xs → (k : ℕ) (x : X) → slice_get xs k ≡ Some x → P x
at_place P [] all k x is = absurd cc
at_place P (y ∷ xs) all zero x is = subst P (let e : y ≡ x = cc in e) all.0
at_place P (y ∷ xs) all (suc k) x is = at_place P xs all.1 k x is

-- a page that is staged is the page of a staged node
place_of : (staged : List StagedNode) (page : ℕ) → IsIn page (pages_of staged) → (k : ℕ) × (s : StagedNode) × IsStagedAs staged k s × (s.page ≡ page)
place_of [] page stands = absurd stands
place_of (s ∷ staged) page stands = elim stands [
  | inl e ↦ (0, s, refl, sym e)
  | inr later ↦ (let rest = place_of staged page later in (suc rest.0, rest.1, rest.2, rest.3))
]

pub placements_can_follow : PlacementsCanFollow
placements_can_follow head t numbers added placed side is =
    let valid = is.valid in (
      record {
        sides = (let e = is.side in omega (arith, e, side));
        generation = is.generation;
        not_worn = valid.high_generation;
        low_root = valid.low_root;
        high_root = valid.high_root;
        height = valid.height;
        low_pages = (let e = is.pages in omega (arith, e));
        high_pages = valid.high_pages;
      },
      record {
        within = λ k s stands. (at_place (λ s. IsWithin placed.next.pages s.page × IsValidNode head.dim s.node) placed.staged is.nodes k s stands).0;
        valid = λ k s stands. (at_place (λ s. IsWithin placed.next.pages s.page × IsValidNode head.dim s.node) placed.staged is.nodes k s stands).1;
        every = λ p low high. place_of placed.staged p (is.new_pages p low high);
      },
    )

-- a page at which a node is staged is one of the staged pages
staged_in : (staged : List StagedNode) (k : ℕ) (s : StagedNode) → IsStagedAs staged k s → IsIn s.page (pages_of staged)
staged_in [] k s is = absurd cc
staged_in (x ∷ staged) zero s is = inl (ap (λ (y : StagedNode). y.page) (let e : s ≡ x = cc in e))
staged_in (x ∷ staged) (suc k) s is = inr (staged_in staged k s is)

pub new_is_beside : NewIsBeside
new_is_beside nodes t next tree staged stands new k node is live =
    new.outside node.page (staged_in staged k node is) (stand_on_pages.reached nodes t tree node.page stands live.1)

-- what holds at each place holds of all
all_places : {X : Type 0} (P : X → Type 0) (xs : List X) → ((k : ℕ) (x : X) → slice_get xs k ≡ Some x → P x) → AllByRecursion P xs
all_places P [] each = tt
all_places P (x ∷ xs) each = (each 0 x refl, all_places P xs (λ k y is. each (suc k) y is))

none_staged : (staged : List StagedNode) (page : ℕ) → staged_for staged page ≡ None → IsNotStaged staged page
none_staged [] page none k s is = absurd cc
none_staged (x ∷ staged) page none k s is = cases (x.page == page) refl none k is (none_staged staged page)
  where
    cases : (b : Bool) → (x.page == page) ≡ b → (if b then Some x.node else staged_for staged page) ≡ None → (k : ℕ) → slice_get (x ∷ staged) k ≡ Some s → (staged_for staged page ≡ None → IsNotStaged staged page) → s.page ≢ page
    cases true e none k is later same = absurd cc
    cases false e none zero is later same =
        let f : x ≡ s = cc in
        let g : x.page ≡ page = ap (λ (y : StagedNode). y.page) f ∙ same in
        let h : (x.page == page) ≡ true = grind (arith, nat_tests) in
        absurd (let i : false ≡ true = sym e ∙ h in cc)
    cases false e none (suc k) is later same = later none k s is same

within_told : (pages page : ℕ) → IsWithin pages page → is_within pages page ≡ true
unfolding is_within
within_told pages page within = let a = within.0 in let b = within.1 in grind (arith, nat_tests)

-- a page that spells a node holds it
spelled_stands : (dim : ℕ) (next : Live) (file : List ℕ) (page : ℕ) (node : Node) → IsWithin next.pages page → SpellsNode dim (page_of file page) node → nodes_in dim next file page ≡ Some node
spelled_stands dim next file page node within spells =
    ap node_or_none (reads_page Second dim next.pages file page (within_told next.pages page within)
    ∙ ap (λ (o : Option NodeFault). judged page o (node_in Second dim (page_of file page))) (none_by_spells Second dim (page_of file page) node spells)
    ∙ ap (λ (n : Node). Ok n) (node_is Second dim (page_of file page) node spells))

-- the same bytes hold the same node
pub same_bytes : (dim : ℕ) (t next : Live) (old new : List ℕ) (page : ℕ) → IsWithin t.pages page → t.pages ≤ next.pages → page_of new page ≡ page_of old page → nodes_in dim next new page ≡ nodes_in dim t old page
same_bytes dim t next old new page within wide same =
    ap node_or_none (reads_page Second dim next.pages new page (within_told next.pages page (within.0, (let b = within.1 in omega (arith, b, wide))))
    ∙ ap (λ (bytes : List ℕ). judged page (fault_in Second dim bytes) (node_in Second dim bytes)) same
    ∙ sym (reads_page Second dim t.pages old page (within_told t.pages page within)))

pub in_place_is_written : InPlaceIsWritten
in_place_is_written dim t next tree staged old new wide within for in_place others = record {
  stand = all_places (λ s. nodes_in dim next new s.page ≡ Some s.node) staged (λ k s is. spelled_stands dim next new s.page s.node (for.within k s is) (in_place k s is));
  stay = λ page k none.
      let here = all_in (IsNodePage t) tree page within k in
      same_bytes dim t next old new page here wide (others page (inr here) (none_staged staged page none));
}
