-- What each phase of a commit may leave.
use Rattle.std.proofs.Common.{◌≡◌, ◌≢◌, inl, inr, ⊎_elim, ℕ, ◌+◌, ◌-◌, ◌*◌, ◌<◌, ◌≤◌, ◌==◌, true, List, length, slice_index, set, IsTrue, sym, ◌∙◌, ap, subst, arith}
use Rattle.std.proofs.lemmas.Bool.{cases_lt, cases_eq}
use Rattle.std.proofs.lemmas.Bool.Decides.{nat_tests}
use Rattle.std.proofs.lemmas.List.{length-set, get_or-set_same, get_or-set_other}
use Rattle.disk_model.specs.Disk.{DiskState, MayLeave, Torn}
use Rattle.tree_shape.specs.declared.live.Live.{Live}
use Rattle.node_page.specs.declared.head.Head.{Head}
use Rattle.node_page.specs.Bytes.{number_at}
use Rattle.node_page.specs.Heads.{SpellsHead}
use Rattle.node_page.specs.Slots.{SpellsSlot}
use Rattle.node_page.specs.Nodes.{SpellsNode}
use Rattle.node_page.specs.Opening.{page_of, is_open, generation_of, slot_of_live, OpensTo}
use Rattle.node_page.proofs.Published.{number_kept}
use Rattle.page_store.proofs.Published.{place-page_of}
use Rattle.page_store.specs.Files.{nodes_in}
use Rattle.page_store.specs.declared.staging.StagedNode.{StagedNode}
use Rattle.shadow_root.specs.Live.{IsLivePage, IsSuccessor}
use Rattle.shadow_root.specs.Commit.{IsStagedAs, KeepsTree, HasNext, IsOldPage, KeepsOthers, IsNoLonger, StaysWithin, IsBeforeOrAfter, IsRewritten, IsFromClosed, IsStagedFor, HasFields, IsKept, IsPrepared}
use Rattle.shadow_root.proofs.Torn.{torn_page, rewritten_page}

-- ---- gates

-- the place of a side's gate
abbrev pub gate_at : ℕ → ℕ
gate_at side = 4096 * (1 + side)

gate_place : (file : List ℕ) (p : ℕ) → slice_index (page_of file p) 0 ≡ slice_index file (4096 * p)
gate_place file p = place-page_of file p 0 (omega arith) ∙ ap (λ (i : ℕ). slice_index file i) (let e : 4096 * p + 0 ≡ 4096 * p = omega arith in e)

pub open_byte : (file : List ℕ) (side : ℕ) → IsTrue (is_open file side) → slice_index file (gate_at side) ≡ 165
unfolding is_open
open_byte file side is = sym (gate_place file (1 + side)) ∙ same_number (slice_index (page_of file (1 + side)) 0) 165 is
  where
    same_number : (m n : ℕ) → IsTrue (m == n) → m ≡ n
    same_number m n is = grind (arith, nat_tests)

pub byte_open : (file : List ℕ) (side : ℕ) → slice_index file (gate_at side) ≡ 165 → (slice_index (page_of file (1 + side)) 0 == 165) ≡ true
byte_open file side is = is_same (slice_index (page_of file (1 + side)) 0) 165 (gate_place file (1 + side) ∙ is)
  where
    is_same : (m n : ℕ) → m ≡ n → (m == n) ≡ true
    is_same m n same = grind (arith, nat_tests)

pub byte_is_open : (file : List ℕ) (side : ℕ) → slice_index file (gate_at side) ≡ 165 → IsTrue (is_open file side)
unfolding is_open
byte_is_open file side is = byte_open file side is

-- ---- opening

-- the same head and slot, and another slot that does not win
pub opens_by : (old new : List ℕ) (head : Head) (live : Live) → OpensTo old head live → length old ≤ length new → page_of new 0 ≡ page_of old 0 → page_of new (1 + live.side) ≡ page_of old (1 + live.side)
    → (IsTrue (is_open new (1 - live.side)) → generation_of new (1 - live.side) < live.generation) → OpensTo new head live
opens_by old new head live opens longer first slot newest = record {
  long = omega (arith, opens.long);
  spells_head = subst (λ (page : List ℕ). SpellsHead page head) (sym first) opens.spells_head;
  side = opens.side;
  newest = newest;
  spells_slot = subst (λ (page : List ℕ). SpellsSlot page (slot_of_live live)) (sym slot) opens.spells_slot;
  valid =
      let law = opens.valid in
      record {
        low_generation = law.low_generation;
        high_generation = law.high_generation;
        low_root = law.low_root;
        high_root = law.high_root;
        height = law.height;
        count = law.count;
        low_pages = law.low_pages;
        high_pages = law.high_pages;
        room = omega (arith, law.room);
      };
}

same_open : (old new : List ℕ) (side : ℕ) → page_of new (1 + side) ≡ page_of old (1 + side) → IsTrue (is_open new side) → IsTrue (is_open old side)
unfolding is_open
same_open old new side same is = subst (λ (page : List ℕ). IsTrue (slice_index page 0 == 165)) same is

page_generation : (old new : List ℕ) (side : ℕ) → page_of new (1 + side) ≡ page_of old (1 + side) → generation_of new side ≡ generation_of old side
unfolding generation_of
page_generation old new side same = ap (λ (page : List ℕ). number_at 8 8 page) same

slot_generation : (file : List ℕ) (s g : ℕ) → number_at 8 8 (page_of file (1 + s)) ≡ g → generation_of file s ≡ g
unfolding generation_of
slot_generation file s g is = is

-- the bytes of a page except its gate
same_generation : (old new : List ℕ) (side : ℕ) → ((k : ℕ) → 1 ≤ k → k < 4096 → slice_index new (gate_at side + k) ≡ slice_index old (gate_at side + k)) → generation_of new side ≡ generation_of old side
unfolding generation_of
same_generation old new side same = number_kept 8 8 (page_of new (1 + side)) (page_of old (1 + side))
    (λ k from to. place-page_of new (1 + side) k (omega arith) ∙ same k (omega arith) (omega arith) ∙ sym (place-page_of old (1 + side) k (omega arith)))

module _ (dim : ℕ) (live : Live) (staged : List StagedNode) (start : DiskState) where
  -- the new nodes lie beside the tree
  pub kept_from_rewritten : (image file : List ℕ) → MayLeave start image → KeepsTree dim live start.bytes image → IsRewritten staged image file
      → ((k : ℕ) (s : StagedNode) → IsStagedAs staged k s → 3 ≤ s.page) → ((k : ℕ) (s : StagedNode) → IsStagedAs staged k s → IsLivePage (nodes_in dim live start.bytes) live s.page → ⊥) → IsKept dim live staged start file
  kept_from_rewritten image file left keeps rewritten above outside = record {
    tree = record {
      opens = record {
        head = keeps.opens.head;
        opens = opens_by image file keeps.opens.head live opens rewritten.no_shorter (slot 0 (omega arith)) (slot (1 + live.side) (omega (arith, opens.side)))
            (λ is. rw (page_generation image file (1 - live.side) (slot (1 + (1 - live.side)) (omega arith))) (opens.newest (same_open image file (1 - live.side) (slot (1 + (1 - live.side)) (omega arith)) is)));
      };
      tree = λ p inside. rewritten_page staged image file p rewritten (λ k s stands is. outside k s stands (subst (IsLivePage (nodes_in dim live start.bytes) live) (sym is) inside))
          (omega (arith, inside.0.1, opens.valid.room)) ∙ keeps.tree p inside;
    };
    others = λ p bytes which none same. rewritten_page staged image file p rewritten none (within p which) ∙ same image left;
    size = λ most low room images. rewritten.no_longer most (images image left) room;
  }
    where
      opens : OpensTo image keeps.opens.head live
      opens = keeps.opens.opens

      slot : (p : ℕ) → p < 3 → page_of file p ≡ page_of image p
      slot p lt = rewritten_page staged image file p rewritten (λ k s stands is. let far = above k s stands in absurd (omega (arith, far, is, lt))) (omega (arith, opens.long))

      within : (p : ℕ) → IsOldPage live p → 4096 * p + 4096 ≤ length image
      within p (inl zero_is) = omega (arith, opens.long)
      within p (inr between) = omega (arith, opens.valid.room, between.1)

  -- a write within the other slot, after which that slot does not win
  pub kept_torn : (at count : ℕ) (old new : List ℕ) → IsKept dim live staged start old → Torn at count old new → gate_at (1 - live.side) ≤ at → at + count ≤ gate_at (1 - live.side) + 4096
      → (IsTrue (is_open new (1 - live.side)) → generation_of new (1 - live.side) < live.generation) → IsKept dim live staged start new
  kept_torn at count old new kept torn from to newest = record {
    tree = record {
      opens = record {
        head = kept.tree.opens.head;
        opens = opens_by old new kept.tree.opens.head live opens torn.no_shorter (elsewhere 0 (omega (arith, opens.side)) (omega (arith, opens.long)))
            (elsewhere (1 + live.side) (omega (arith, opens.side)) (omega (arith, opens.long, opens.side))) newest;
      };
      tree = λ p inside. elsewhere p (let far = inside.0.0 in omega (arith, far))
          (omega (arith, inside.0.1, opens.valid.room)) ∙ kept.tree.tree p inside;
    };
    others = λ p bytes which none same. elsewhere p (apart p which) (within p which) ∙ kept.others p bytes which none same;
    size = λ most low room images. let was = kept.size most low room images in let long = torn.no_longer in omega (arith, was, long, low, to);
  }
    where
      opens : OpensTo old kept.tree.opens.head live
      opens = kept.tree.opens.opens

      elsewhere : (p : ℕ) → p ≢ 1 + (1 - live.side) → 4096 * p + 4096 ≤ length old → page_of new p ≡ page_of old p
      elsewhere p differ long = torn_page at count old new p torn
          (elim (cases_lt p (1 + (1 - live.side))) [ inl lt ↦ inl (omega arith) | inr le ↦ (let lt : 1 + (1 - live.side) < p = omega arith in inr (omega arith)) ]) long

      apart : (p : ℕ) → IsOldPage live p → p ≢ 1 + (1 - live.side)
      apart p (inl is) = omega (arith, opens.side)
      apart p (inr between) = omega (arith, between.0)

      within : (p : ℕ) → IsOldPage live p → 4096 * p + 4096 ≤ length old
      within p (inl is) = omega (arith, opens.long)
      within p (inr between) = omega (arith, opens.valid.room, between.1)

-- ---- one byte

set_torn : (file : List ℕ) (i x : ℕ) → Torn i 1 file (set file i x)
set_torn file i x = record {
  no_shorter = omega (arith, length-set file i x);
  no_longer = omega (arith, length-set file i x);
  below = λ j within lt. get_or-set_other file i j x 0 (omega arith);
  above = λ j within le. get_or-set_other file i j x 0 (omega arith);
}

module _ (dim : ℕ) (live : Live) (staged : List StagedNode) (start : DiskState) where
  abbrev Kept : List ℕ → Type 0
  Kept = IsKept dim live staged start

  abbrev gate : ℕ
  gate = gate_at (1 - live.side)

  -- a torn gate leaves the generation behind it
  gate_generation : (old new : List ℕ) → Torn gate 1 old new → gate + 4096 ≤ length old → generation_of new (1 - live.side) ≡ generation_of old (1 - live.side)
  gate_generation old new torn long = same_generation old new (1 - live.side) (λ k from to. torn.above (gate + k) (omega arith) (omega arith))

  -- Where the other gate reads open, no image has a winning generation behind that gate: images mix.
  pub loses : (mid : DiskState) → ((image : List ℕ) → MayLeave mid image → Kept image) → MayLeave mid mid.bytes
      → ((one two : List ℕ) (i : ℕ) → MayLeave mid one → MayLeave mid two → i < length one → i < length two → MayLeave mid (set one i (slice_index two i)))
      → slice_index mid.bytes gate ≡ 165 → (image : List ℕ) → MayLeave mid image → generation_of image (1 - live.side) < live.generation
  loses mid keeps reads mix is image left =
      let opens = (keeps image left).tree.opens.opens in
      let long : gate + 4096 ≤ length image = omega (arith, opens.long) in
      let read_long : gate < length mid.bytes = omega (arith, (keeps mid.bytes reads).tree.opens.opens.long) in
      let mixed = set image gate (slice_index mid.bytes gate) in
      let torn : Torn gate 1 image mixed = set_torn image gate (slice_index mid.bytes gate) in
      let stands = (keeps mixed (mix image mid.bytes gate left reads (omega arith) read_long)).tree.opens.opens in
      let opened : slice_index mixed gate ≡ 165 = get_or-set_same image gate (slice_index mid.bytes gate) 0 (omega arith) ∙ is in
      rw (← gate_generation image mixed torn long) (stands.newest (byte_is_open mixed (1 - live.side) opened))

  pub kept_closed : (mid : DiskState) → IsTrue mid.is_known → ((image : List ℕ) → MayLeave mid image → Kept image) → MayLeave mid mid.bytes
      → ((one two : List ℕ) (i : ℕ) → MayLeave mid one → MayLeave mid two → i < length one → i < length two → MayLeave mid (set one i (slice_index two i)))
      → (file : List ℕ) → IsFromClosed gate mid file → Kept file
  kept_closed mid is_known keeps reads mix file from = ⊎_elim
      (λ same. subst Kept (sym same) (keeps from.0 from.1))
      (λ written.
      let opens = (keeps from.0 from.1).tree.opens.opens in
      kept_torn dim live staged start gate 1 from.0 file (keeps from.0 from.1) written.1 (omega arith) (omega arith)
      (λ is. rw (gate_generation from.0 file written.1 (omega (arith, opens.long))) (loses mid keeps reads mix (written.0 is_known) from.0 from.1)))
      from.2

  -- behind a closed gate anything may stand
  pub kept_shut : (old new : List ℕ) → Kept old → slice_index old gate ≢ 165 → Torn (gate + 1) 4095 old new → Kept new
  kept_shut old new kept shut torn = kept_torn dim live staged start (gate + 1) 4095 old new kept torn (omega arith) (omega arith)
      (λ is. absurd (shut (sym (torn.below gate (omega (arith, kept.tree.opens.opens.long)) (omega arith)) ∙ open_byte new (1 - live.side) is)))

  -- a gate that a crash left closed
  pub kept_unopened : (old new : List ℕ) → Kept old → Torn gate 1 old new → slice_index new gate ≢ 165 → Kept new
  kept_unopened old new kept torn shut = kept_torn dim live staged start gate 1 old new kept torn (omega arith) (omega arith)
      (λ is. absurd (shut (open_byte new (1 - live.side) is)))

-- ---- the next slot

pub fields_by : (one two : List ℕ) (slot : Live) → HasFields one slot → ((k : ℕ) → 1 ≤ k → k < 4096 → slice_index two k ≡ slice_index one k) → HasFields two slot
fields_by one two slot has same = record {
  generation = number 8 8 (omega arith) (omega arith) ∙ has.generation;
  root = number 16 4 (omega arith) (omega arith) ∙ has.root;
  height = number 20 4 (omega arith) (omega arith) ∙ has.height;
  count = number 24 4 (omega arith) (omega arith) ∙ has.count;
  pages = number 28 4 (omega arith) (omega arith) ∙ has.pages;
  rest = record {
    between = λ k from to. same k from (omega arith) ∙ has.rest.between k from to;
    behind = λ k from to. same k (omega arith) to ∙ has.rest.behind k from to;
  };
}
  where
    number : (i n : ℕ) → 1 ≤ i → i + n ≤ 4096 → number_at i n two ≡ number_at i n one
    number i n from to = number_kept i n two one (λ k low high. same k (omega arith) (omega arith))

pub fields_of_slot : (page : List ℕ) (live : Live) → SpellsSlot page (slot_of_live live) → HasFields page live
fields_of_slot page live spells = record {
  generation = spells.generation;
  root = spells.root;
  height = spells.height;
  count = spells.count;
  pages = spells.pages;
  rest = spells.rest;
}

pub slot_by_fields : (page : List ℕ) (live : Live) → HasFields page live → (slice_index page 0 == 165) ≡ true → SpellsSlot page (slot_of_live live)
slot_by_fields page live has is = record {
  gate = is;
  generation = has.generation;
  root = has.root;
  height = has.height;
  count = has.count;
  pages = has.pages;
  rest = has.rest;
}

module _ (dim : ℕ) (live next : Live) (staged : List StagedNode) (start : DiskState) (follows : IsSuccessor live next) (ready : IsStagedFor dim live next staged) where
  abbrev before_or_after : List ℕ → Type 0
  before_or_after = IsBeforeOrAfter dim live next staged start

  -- what lies within the slots, the staged pages and the files at the start lies within the next tree's pages and those
  no_longer : (file : List ℕ) → StaysWithin staged start file → IsNoLonger next start file
  no_longer file stays most low images = stays most (omega (arith, low, follows.low_root, follows.high_root)) (λ k s stands. let high = (ready.within k s stands).1 in omega (arith, low, high)) images

  pub still_before : (file : List ℕ) → IsKept dim live staged start file → before_or_after file
  still_before file kept = record { either = inl kept.tree; others = kept.others; size = no_longer file kept.size }

  -- once the gate reads open
  pub opened : (old new : List ℕ) → IsPrepared dim live next staged start old → Torn (gate_at (1 - live.side)) 1 old new → slice_index new (gate_at (1 - live.side)) ≡ 165
      → HasNext dim next staged new × before_or_after new
  opened old new written torn is = (has, record { either = inr has; others = others; size = no_longer new size })
    where
      opens : OpensTo old written.before.head live
      opens = written.before.opens

      elsewhere : (p : ℕ) → p ≢ 1 + (1 - live.side) → 4096 * p + 4096 ≤ length old → page_of new p ≡ page_of old p
      elsewhere p differ long = torn_page (gate_at (1 - live.side)) 1 old new p torn
          (elim (cases_lt p (1 + (1 - live.side))) [ inl lt ↦ inl (omega arith) | inr le ↦ (let lt : 1 + (1 - live.side) < p = omega arith in inr (omega arith)) ]) long

      side : next.side ≡ 1 - live.side
      side = omega (arith, follows.sides)

      back : 1 - next.side ≡ live.side
      back = omega (arith, follows.sides)

      first : page_of new 0 ≡ page_of old 0
      first = elsewhere 0 (omega (arith, follows.sides)) (omega (arith, opens.long))

      slot : page_of new (1 + live.side) ≡ page_of old (1 + live.side)
      slot = elsewhere (1 + live.side) (omega (arith, follows.sides)) (omega (arith, opens.long, follows.sides))

      fields : HasFields (page_of new (1 + (1 - live.side))) next
      fields = fields_by (page_of old (1 + (1 - live.side))) (page_of new (1 + (1 - live.side))) next written.fields
          (λ k from to. place-page_of new (1 + (1 - live.side)) k to ∙ torn.above (4096 * (1 + (1 - live.side)) + k) (omega (arith, opens.long)) (omega arith)
          ∙ sym (place-page_of old (1 + (1 - live.side)) k to))

      older : generation_of new live.side ≡ live.generation
      older = page_generation old new live.side slot ∙ slot_generation old live.side live.generation opens.spells_slot.generation

      has : HasNext dim next staged new
      has = record {
        opens = record {
          head = written.before.head;
          opens = record {
            long = omega (arith, opens.long, torn.no_shorter);
            spells_head = subst (λ (page : List ℕ). SpellsHead page written.before.head) (sym first) opens.spells_head;
            side = omega (arith, follows.sides);
            newest = λ _.
                let wins : generation_of new live.side < next.generation = omega (arith, older, follows.generation) in
                subst (λ (s : ℕ). generation_of new s < next.generation) (sym back) wins;
            spells_slot = subst (λ (s : ℕ). SpellsSlot (page_of new (1 + s)) (slot_of_live next)) (sym side)
                (slot_by_fields (page_of new (1 + (1 - live.side))) next fields (byte_open new (1 - live.side) is));
            valid = record {
              low_generation = omega (arith, follows.generation);
              high_generation = follows.not_worn;
              low_root = follows.low_root;
              high_root = follows.high_root;
              height = follows.height;
              count = written.before.count;
              low_pages = omega (arith, follows.low_pages, opens.valid.low_pages);
              high_pages = follows.high_pages;
              room = omega (arith, written.before.room, torn.no_shorter);
            };
          };
        };
        in_place = λ k s stands.
            subst (λ (page : List ℕ). SpellsNode dim page s.node)
            (sym (elsewhere s.page (let far = (ready.within k s stands).0 in omega (arith, far)) (omega (arith, (ready.within k s stands).1, written.before.room))))
            (written.before.in_place k s stands);
      }

      apart : (p : ℕ) → IsOldPage live p → p ≢ 1 + (1 - live.side)
      apart p (inl is) = omega (arith, opens.side)
      apart p (inr between) = omega (arith, between.0)

      within : (p : ℕ) → IsOldPage live p → 4096 * p + 4096 ≤ length old
      within p (inl is) = omega (arith, opens.long)
      within p (inr between) = omega (arith, opens.valid.room, between.1)

      size : StaysWithin staged start new
      size most low room images = let was = written.before.kept.size most low room images in let long = torn.no_longer in omega (arith, was, long, low)

      others : KeepsOthers live staged start new
      others p bytes which none same = elsewhere p (apart p which) (within p which) ∙ written.before.kept.others p bytes which none same

  -- a crash while the gate is written
  pub opening : (old new : List ℕ) → IsPrepared dim live next staged start old → Torn (gate_at (1 - live.side)) 1 old new → before_or_after new
  opening old new written torn = elim (cases_eq (slice_index new (gate_at (1 - live.side))) 165) [
    | inl is ↦ (opened old new written torn is).1
    | inr shut ↦ still_before new (kept_unopened dim live staged start old new written.before.kept torn shut)
  ]
