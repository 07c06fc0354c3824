-- The head and the live slot of a file of `pages` pages.
use Rattle.std.proofs.Common.{◌≡◌, ◌≢◌, ℕ, zero, suc, ◌+◌, ◌-◌, ◌*◌, ◌<◌, ◌≤◌, ◌==◌, ◌&&◌, ◌||◌, ◌%◌, not, nat_lt, nat_le, Bool, true, false, cond, List, length, slice_index, Option, Some, None, refl, sym, ap, subst, ◌∙◌, arith, inl, inr}
use Rattle.std.specs.Prelude.{IsTrue}
use Rattle.std.proofs.lemmas.Bool.{le-ltb, leb-true, eqb-true, eq-eqb}
use Rattle.tree_shape.specs.declared.live.Live.{Live}
use Rattle.node_page.specs.declared.head.Head.{Head}
use Rattle.node_page.specs.declared.head.HeadFault.{HeadFault}
use Rattle.node_page.specs.declared.head.HeadFault.TheVariants as heads
use Rattle.node_page.specs.Slots.{SpellsSlot}
use Rattle.node_page.specs.Heads.{SpellsHead, IsValidHead, is_space, head_of, head_fault}
use Rattle.node_page.specs.Opening.{page_of, is_open, generation_of, slot_of_live, IsValidLive, OpensTo, Unopened, after_head, slot_fault, live_of, open_fault}
use Rattle.node_page.proofs.Published.{head_is, no_head_fault, opens_by_none, none_by_opens, live_is}
use Rattle.seal_log.specs.declared.faults.ProofFault.{ProofFault}
use Rattle.seal_log.specs.declared.faults.ProofFault.TheVariants as faults
use Rattle.seal_log.specs.Judged.{first_fault, opening_fault, live_fault, slots_fault, after_slots}
use Rattle.seal_log.specs.Judged as judged
use Rattle.seal_log.specs.Opened.{IsLiveOf}

-- in a longer file there is room too
roomy : (limit size more : ℕ) (live : Live) → size ≤ more → IsValidLive limit size live → IsValidLive limit more live
roomy limit size more live le valid = record {
  low_generation = valid.low_generation;
  high_generation = valid.high_generation;
  low_root = valid.low_root;
  high_root = valid.high_root;
  height = valid.height;
  count = valid.count;
  low_pages = valid.low_pages;
  high_pages = valid.high_pages;
  room = omega (arith, valid.room, le);
}

-- the head and the live slot that the slots' pages spell are what the file opens to
pub live_opens : (file : List ℕ) (pages : ℕ) (head : Head) (live : Live) → 4096 * pages ≤ length file → 3 ≤ pages → SpellsHead (page_of file 0) head
    → IsLiveOf (page_of file 1) (page_of file 2) head.limit pages live → OpensTo file head live × (live.pages ≡ pages)
unfolding is_open generation_of
live_opens file pages head live size some spells (inl first, all) = (
  record {
    long = omega (arith, size);
    spells_head = spells;
    side = omega (arith, first.side_is);
    newest = subst (λ (s : ℕ). IsTrue (slice_index (page_of file (1 + (1 - s))) 0 == 165) → generation_of file (1 - s) < live.generation) (sym first.side_is) first.newest;
    spells_slot = subst (λ (s : ℕ). SpellsSlot (page_of file (1 + s)) (slot_of_live live)) (sym first.side_is) first.spells;
    valid = roomy head.limit (4096 * pages) (length file) live size first.valid;
  },
  all,
)
live_opens file pages head live size some spells (inr second, all) = (
  record {
    long = omega (arith, size);
    spells_head = spells;
    side = omega (arith, second.side_is);
    newest = subst (λ (s : ℕ). IsTrue (slice_index (page_of file (1 + (1 - s))) 0 == 165) → generation_of file (1 - s) < live.generation) (sym second.side_is) second.newest;
    spells_slot = subst (λ (s : ℕ). SpellsSlot (page_of file (1 + s)) (slot_of_live live)) (sym second.side_is) second.spells;
    valid = roomy head.limit (4096 * pages) (length file) live size second.valid;
  },
  all,
)

-- a valid slot that counts `pages` pages is valid in a file of `pages` pages
enough : (limit size pages : ℕ) (live : Live) → live.pages ≡ pages → IsValidLive limit size live → IsValidLive limit (4096 * pages) live
enough limit size pages live all valid = record {
  low_generation = valid.low_generation;
  high_generation = valid.high_generation;
  low_root = valid.low_root;
  high_root = valid.high_root;
  height = valid.height;
  count = valid.count;
  low_pages = valid.low_pages;
  high_pages = valid.high_pages;
  room = omega (arith, all);
}

pub opens_live : (file : List ℕ) (pages : ℕ) (head : Head) (live : Live) → OpensTo file head live → live.pages ≡ pages → IsLiveOf (page_of file 1) (page_of file 2) head.limit pages live
unfolding is_open generation_of
opens_live file pages head live opens all = by_side live.side refl opens.side
  where
    by_side : (s : ℕ) → live.side ≡ s → live.side ≤ 1 → IsLiveOf (page_of file 1) (page_of file 2) head.limit pages live
    by_side zero is few = (
      inl (record {
        side_is = is;
        newest = subst (λ (s : ℕ). IsTrue (slice_index (page_of file (1 + (1 - s))) 0 == 165) → generation_of file (1 - s) < live.generation) is opens.newest;
        spells = subst (λ (s : ℕ). SpellsSlot (page_of file (1 + s)) (slot_of_live live)) is opens.spells_slot;
        valid = enough head.limit (length file) pages live all opens.valid;
      }),
      all,
    )
    by_side (suc zero) is few = (
      inr (record {
        side_is = is;
        newest = subst (λ (s : ℕ). IsTrue (slice_index (page_of file (1 + (1 - s))) 0 == 165) → generation_of file (1 - s) < live.generation) is opens.newest;
        spells = subst (λ (s : ℕ). SpellsSlot (page_of file (1 + s)) (slot_of_live live)) is opens.spells_slot;
        valid = enough head.limit (length file) pages live all opens.valid;
      }),
      all,
    )
    by_side (suc (suc s)) is few = absurd (omega arith)

-- ---- faults

parts-none : (head : Option HeadFault) (next : Option Unopened) → after_head head next ≡ None → (head ≡ None) × (next ≡ None)
parts-none None next e = (refl, e)
parts-none (Some fault) next e = absurd cc

-- in a file that opens, neither the head nor the slots have a fault
slots-none : (file : List ℕ) (head : Head) (live : Live) → OpensTo file head live → (head_fault (page_of file 0) ≡ None) × (slot_fault file ≡ None)
unfolding open_fault
slots-none file head live opens =
    let short : nat_lt (length file) 12288 ≡ false = le-ltb (length file) 12288 opens.long in
    parts-none (head_fault (page_of file 0)) (slot_fault file) (sym (rw short refl) ∙ none_by_opens file head live opens)

pub opens_faultless : (file : List ℕ) (pages : ℕ) (head : Head) (live : Live) → OpensTo file head live → head.version ≡ 2 → live.pages ≡ pages → slots_fault pages file ≡ None
unfolding opening_fault live_fault
opens_faultless file pages head live opens second all =
    let none = slots-none file head live opens in
    let version : ((head_of (page_of file 0)).version == 2) ≡ true = eq-eqb (head_of (page_of file 0)).version 2 (ap (λ (h : Head). h.version) (head_is (page_of file 0) head opens.spells_head) ∙ second) in
    let count : ((live_of file).pages == pages) ≡ true = eq-eqb (live_of file).pages pages (ap (λ (l : Live). l.pages) (live_is file head live opens) ∙ all) in
    rw (none.0, version, none.1, count) refl

pub faultless_opens : (file : List ℕ) (pages : ℕ) → 12288 ≤ length file → slots_fault pages file ≡ None → OpensTo file (head_of (page_of file 0)) (live_of file) × ((head_of (page_of file 0)).version ≡ 2) × ((live_of file).pages ≡ pages)
unfolding opening_fault live_fault open_fault
faultless_opens file pages long none =
    let both = first-none (opening_fault file) (live_fault pages file) none in
    let first = opening-none (head_fault (page_of file 0)) (head_of (page_of file 0)) both.0 in
    let second = live-none pages (slot_fault file) (live_of file) both.1 in
    let short : nat_lt (length file) 12288 ≡ false = le-ltb (length file) 12288 long in
    (opens_by_none file (rw (short, first.0) second.0), first.1, second.1)
  where
    first-none : (a b : Option ProofFault) → first_fault a b ≡ None → (a ≡ None) × (b ≡ None)
    first-none None b e = (refl, e)
    first-none (Some f) b e = absurd cc

    version-none : (b : Bool) (version : ℕ) → (b ≡ true → version ≡ 2) → cond b None (Some (faults.Head heads.Version)) ≡ None → version ≡ 2
    version-none true version h e = h refl
    version-none false version h e = absurd cc

    opening-none : (fault : Option HeadFault) (head : Head) → judged.after_head fault head ≡ None → (fault ≡ None) × (head.version ≡ 2)
    opening-none None head e = (refl, version-none (head.version == 2) head.version (eqb-true head.version 2) e)
    opening-none (Some f) head e = absurd cc

    pages-none : (b : Bool) (live : Live) (pages : ℕ) → (b ≡ true → live.pages ≡ pages) → cond b None (Some faults.Slot) ≡ None → live.pages ≡ pages
    pages-none true live pages h e = h refl
    pages-none false live pages h e = absurd cc

    live-none : (pages : ℕ) (fault : Option Unopened) (live : Live) → after_slots pages fault live ≡ None → (fault ≡ None) × (live.pages ≡ pages)
    live-none pages None live e = (refl, pages-none (live.pages == pages) live pages (eqb-true live.pages pages) e)
    live-none pages (Some f) live e = absurd cc

-- where neither slot is live, the file's fault is that it has no live slot
pub no_live_slot : (file : List ℕ) (pages : ℕ) (head : Head) → length file ≡ 4096 * pages → 3 ≤ pages → SpellsHead (page_of file 0) head → head.version ≡ 2
    → ((live : Live) → IsLiveOf (page_of file 1) (page_of file 2) head.limit pages live → ⊥) → slots_fault pages file ≡ Some faults.Slot
unfolding opening_fault live_fault open_fault
no_live_slot file pages head size some spells second none =
    let spelled = no_head_fault (page_of file 0) head spells in
    let version : ((head_of (page_of file 0)).version == 2) ≡ true = eq-eqb (head_of (page_of file 0)).version 2 (ap (λ (h : Head). h.version) (head_is (page_of file 0) head spells) ∙ second) in
    let short : nat_lt (length file) 12288 ≡ false = le-ltb (length file) 12288 (omega (arith, size)) in
    rw (spelled, version)
    (by_slots (slot_fault file) (live_of file) (λ clear count.
    let opens = opens_by_none file (rw (short, spelled) clear) in
    none (live_of file) (subst (λ (h : Head). IsLiveOf (page_of file 1) (page_of file 2) h.limit pages (live_of file)) (head_is (page_of file 0) head spells) (opens_live file pages (head_of (page_of file 0)) (live_of file) opens count))))
  where
    by_count : (b : Bool) (live : Live) → (b ≡ true → live.pages ≡ pages) → (live.pages ≡ pages → ⊥) → cond b None (Some faults.Slot) ≡ Some faults.Slot
    by_count true live told never = absurd (never (told refl))
    by_count false live told never = refl

    by_slots : (fault : Option Unopened) (live : Live) → (fault ≡ None → live.pages ≡ pages → ⊥) → after_slots pages fault live ≡ Some faults.Slot
    by_slots None live never = by_count (live.pages == pages) live (eqb-true live.pages pages) (never refl)
    by_slots (Some f) live never = refl

-- a head of another version
pub other_version : (page : List ℕ) (head : Head) → SpellsHead page head → head.version ≢ 2 → judged.after_head (head_fault page) (head_of page) ≡ Some (faults.Head heads.Version)
other_version page head spells other = rw (no_head_fault page head spells, head_is page head spells) (by_test (head.version == 2) (eqb-true head.version 2))
  where
    by_test : (b : Bool) → (b ≡ true → head.version ≡ 2) → cond b None (Some (faults.Head heads.Version)) ≡ Some (faults.Head heads.Version)
    by_test true told = absurd (other (told refl))
    by_test false told = refl

pub first-next : (a b : Option ProofFault) → a ≡ None → first_fault a b ≡ b
first-next a b is = rw is refl

pub head-first : (file : List ℕ) (pages : ℕ) (fault : ProofFault) → judged.after_head (head_fault (page_of file 0)) (head_of (page_of file 0)) ≡ Some fault → slots_fault pages file ≡ Some fault
unfolding opening_fault
head-first file pages fault is = rw is refl

-- the same for bytes that are the file's pages
pub opened : (file : List ℕ) (pages : ℕ) (head : Head) (live : Live) (zeroth first second : List ℕ) → length file ≡ 4096 * pages → 3 ≤ pages
    → zeroth ≡ page_of file 0 → first ≡ page_of file 1 → second ≡ page_of file 2 → SpellsHead zeroth head → IsLiveOf first second head.limit pages live → OpensTo file head live
opened file pages head live zeroth first second size some is0 is1 is2 spells slots =
    (live_opens file pages head live (omega (arith, size)) some (subst (λ (p : List ℕ). SpellsHead p head) is0 spells)
    (subst (λ (b : List ℕ). IsLiveOf (page_of file 1) b head.limit pages live) is2 (subst (λ (a : List ℕ). IsLiveOf a second head.limit pages live) is1 slots))).0

pub unopened : (file : List ℕ) (pages : ℕ) (head : Head) (zeroth first second : List ℕ) → length file ≡ 4096 * pages → 3 ≤ pages
    → zeroth ≡ page_of file 0 → first ≡ page_of file 1 → second ≡ page_of file 2 → SpellsHead zeroth head → head.version ≡ 2 → ((live : Live) → IsLiveOf first second head.limit pages live → ⊥) → slots_fault pages file ≡ Some faults.Slot
unopened file pages head zeroth first second size some is0 is1 is2 spells version none =
    no_live_slot file pages head size some (subst (λ (p : List ℕ). SpellsHead p head) is0 spells) version
    (λ live slots. none live (subst (λ (b : List ℕ). IsLiveOf first b head.limit pages live) (sym is2) (subst (λ (a : List ℕ). IsLiveOf a (page_of file 2) head.limit pages live) (sym is1) slots)))

pub live-all : {limit pages : ℕ} {first second : List ℕ} {live : Live} → IsLiveOf first second limit pages live → live.pages ≡ pages
live-all is = is.1

five : (a b c d e : Bool) → (a && b && c && d && e) ≡ true → (c ≡ true) × (d ≡ true)
five true true true true e is = (refl, refl)
five true true true false e is = absurd cc
five true true false d e is = absurd cc
five true false c d e is = absurd cc
five false b c d e is = absurd cc

-- a valid head has 1 to 64 coordinates
pub valid-dim : (head : Head) → IsValidHead head → (1 ≤ head.dim) × (head.dim ≤ 64)
unfolding is_space
valid-dim head valid =
    let both = five (nat_le 1 head.kind) (nat_le head.kind 8) (nat_le 1 head.dim) (nat_le head.dim 64) (not ((head.kind == 6) || (head.kind == 7)) || (head.dim % 2 == 0)) valid.space in
    (leb-true 1 head.dim both.0, leb-true head.dim 64 both.1)
