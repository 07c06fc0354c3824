-- What torn and rewritten pages leave of a file.
use Rattle.std.specs.Prelude.{◌≡◌, ◌≢◌, ◌⊎◌, ℕ, ◌+◌, ◌*◌, ◌<◌, ◌≤◌, List, length, slice_index, slice_get, Some}
use Rattle.std.proofs.Common.{inl, inr, refl, sym, ap, ◌∙◌, ⊎_elim, subst, arith}
use Rattle.std.proofs.lemmas.Bool.{cases_lt}
use Rattle.disk_model.specs.Disk.{DiskState, MayLeave, Written, Torn, EachImage, IsOneCall, Follows}
use Rattle.disk_model.specs.Moments.{started, goes_on}
use Rattle.node_page.specs.Nodes.{SpellsNode}
use Rattle.node_page.specs.Opening.{page_of}
use Rattle.page_store.proofs.Published.{same_page, page_is}
use Rattle.page_store.specs.declared.staging.StagedNode.{StagedNode}
use Rattle.shadow_root.specs.Commit.{IsStagedAs, IsNotStaged, IsRewritten, IsFromRewritten}

-- a page that the write does not touch
pub torn_page : (at count : ℕ) (old new : List ℕ) (p : ℕ) → Torn at count old new → (4096 * p + 4096 ≤ at) ⊎ (at + count ≤ 4096 * p) → 4096 * p + 4096 ≤ length old → page_of new p ≡ page_of old p
torn_page at count old new p torn apart within = same_page new old p (λ k below. ⊎_elim
    (λ before. torn.below (4096 * p + k) (omega arith) (omega arith))
    (λ behind. torn.above (4096 * p + k) (omega arith) (omega arith))
    apart)

pub written_page : (at : ℕ) (bytes old new : List ℕ) (p : ℕ) → Written at bytes old new → (4096 * p + 4096 ≤ at) ⊎ (at + length bytes ≤ 4096 * p) → page_of new p ≡ page_of old p
written_page at bytes old new p written apart = same_page new old p (λ k below. ⊎_elim
    (λ before. written.below (4096 * p + k) (omega arith))
    (λ behind. written.above (4096 * p + k) (omega arith))
    apart)

pub rewritten_page : (staged : List StagedNode) (old new : List ℕ) (p : ℕ) → IsRewritten staged old new → IsNotStaged staged p → 4096 * p + 4096 ≤ length old → page_of new p ≡ page_of old p
rewritten_page staged old new p rewritten none within = same_page new old p (λ k below. rewritten.others (4096 * p + k) (omega arith) (λ i s stands. apart k s.page below (none i s stands)))
  where
    apart : (k q : ℕ) → k < 4096 → q ≢ p → (4096 * p + k < 4096 * q) ⊎ (4096 * q + 4096 ≤ 4096 * p + k)
    apart k q below differ = elim (cases_lt p q) [
      | inl lt ↦ inl (omega arith)
      | inr le ↦ inr (let lt : q < p = omega arith in omega arith)
    ]

-- ---- rewriting

pub rewritten_none : (staged : List StagedNode) (old : List ℕ) → IsRewritten staged old old
rewritten_none staged old = record { no_shorter = omega arith; no_longer = λ most long room. long; others = λ i within elsewhere. refl }

pub rewritten_then : (staged : List StagedNode) (old mid new : List ℕ) → IsRewritten staged old mid → IsRewritten staged mid new → IsRewritten staged old new
rewritten_then staged old mid new first second = record {
  no_shorter = omega (arith, first.no_shorter, second.no_shorter);
  no_longer = λ most long room. second.no_longer most (first.no_longer most long room) room;
  others = λ i within elsewhere. second.others i (omega (arith, first.no_shorter)) elsewhere ∙ first.others i within elsewhere;
}

pub rewritten_torn : (staged : List StagedNode) (old new : List ℕ) (k : ℕ) (s : StagedNode) (at count : ℕ) → IsStagedAs staged k s → at ≡ 4096 * s.page → count ≡ 4096 → Torn at count old new → IsRewritten staged old new
rewritten_torn staged old new k s at count stands place size torn = record {
  no_shorter = torn.no_shorter;
  no_longer = λ most long room. let here = room k s stands in let most_is = torn.no_longer in omega (arith, here, most_is, long, place, size);
  others = λ i within elsewhere. ⊎_elim (λ before. torn.below i within (omega arith)) (λ behind. torn.above i within (omega arith)) (elsewhere k s stands);
}

-- no page yet
pub none_rewritten : (staged : List StagedNode) (disk : DiskState) → EachImage disk disk (IsFromRewritten staged disk)
none_rewritten staged disk = started disk (IsFromRewritten staged disk) (λ image left. (image, left, rewritten_none staged image))

-- one page more
pub one_rewritten : (staged : List StagedNode) (start mid new : DiskState) (k : ℕ) (s : StagedNode) (at count : ℕ) → IsStagedAs staged k s → at ≡ 4096 * s.page → count ≡ 4096 → EachImage start mid (IsFromRewritten staged start)
    → IsOneCall mid new → Follows (Torn at count) mid new → EachImage start new (IsFromRewritten staged start)
one_rewritten staged start mid new k s at count stands place size so_far call follows =
    goes_on start mid new (IsFromRewritten staged start) so_far call now (λ image left.
    let from = follows image left in
    let was = now from.0 from.1 in
    (was.0, was.1, rewritten_then staged was.0 from.0 image was.2 (rewritten_torn staged from.0 image k s at count stands place size from.2)))
  where
    now : (image : List ℕ) → MayLeave mid image → IsFromRewritten staged start image
    now image left = so_far.each mid.clock image so_far.later (omega arith) left

-- ---- nodes in place

pub in_page : (old new wrote : List ℕ) (p at : ℕ) → at ≡ 4096 * p → length wrote ≡ 4096 → Written at wrote old new → page_of new p ≡ wrote
in_page old new wrote p at place size written = page_is new p wrote size (λ k below. (ap (λ (n : ℕ). slice_index new (n + k)) (sym place) ∙ written.inside k (omega (arith, size))))

-- no two of the staged nodes are for one page
abbrev pub AreApartAt : List StagedNode → Type 0
AreApartAt staged = (j k : ℕ) (s t : StagedNode) → IsStagedAs staged j s → IsStagedAs staged k t → s.page ≡ t.page → j ≡ k

pub in_place_more : (dim : ℕ) (staged : List StagedNode) (i : ℕ) (here : StagedNode) (at : ℕ) (wrote old new : List ℕ) → at ≡ 4096 * here.page → length wrote ≡ 4096 → SpellsNode dim wrote here.node → IsStagedAs staged i here
    → AreApartAt staged → Written at wrote old new
    → ((k : ℕ) (s : StagedNode) → k < i → IsStagedAs staged k s → SpellsNode dim (page_of old s.page) s.node)
    → (k : ℕ) (s : StagedNode) → k < i + 1 → IsStagedAs staged k s → SpellsNode dim (page_of new s.page) s.node
in_place_more dim staged i here at wrote old new place size spells stands apart written so_far k s below is = elim (cases_lt k i) [
  | inl earlier ↦
      subst (λ (page : List ℕ). SpellsNode dim page s.node) (sym (written_page at wrote old new s.page written (elsewhere s (λ same. let again = apart k i s here is stands same in absurd (omega (arith, again))))))
      (so_far k s earlier is)
  | inr le ↦
      let same : k ≡ i = omega arith in
      let is_here : slice_get staged i ≡ Some s = rw same at is in
      let node_is : here ≡ s = cc in
      subst (λ (t : StagedNode). SpellsNode dim (page_of new t.page) t.node) node_is
      (subst (λ (page : List ℕ). SpellsNode dim page here.node) (sym (in_page old new wrote here.page at place size written)) spells)
]
  where
    elsewhere : (s : StagedNode) → s.page ≢ here.page → (4096 * s.page + 4096 ≤ at) ⊎ (at + length wrote ≤ 4096 * s.page)
    elsewhere s differ = elim (cases_lt s.page here.page) [
      | inl lt ↦ inl (omega (arith, place))
      | inr le ↦ inr (let lt : here.page < s.page = omega arith in omega (arith, place, size))
    ]

pub long_more : (staged : List StagedNode) (i : ℕ) (here : StagedNode) (at : ℕ) (wrote old new : List ℕ) → IsStagedAs staged i here → at ≡ 4096 * here.page → length wrote ≡ 4096 → Written at wrote old new
    → ((k : ℕ) (s : StagedNode) → k < i → IsStagedAs staged k s → 4096 * s.page + 4096 ≤ length old) → (k : ℕ) (s : StagedNode) → k < i + 1 → IsStagedAs staged k s → 4096 * s.page + 4096 ≤ length new
long_more staged i here at wrote old new stands place size written so_far k s below is = elim (cases_lt k i) [
  | inl earlier ↦ omega (arith, so_far k s earlier is, written.size)
  | inr le ↦
      let same : k ≡ i = omega arith in
      let is_here : slice_get staged i ≡ Some s = rw same at is in
      let node_is : here ≡ s = cc in
      let page_same : s.page ≡ here.page = ap (λ (t : StagedNode). t.page) (sym node_is) in
      omega (arith, written.size, place, size, page_same)
]
