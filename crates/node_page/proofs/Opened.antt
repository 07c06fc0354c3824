-- Bytes have no fault exactly where they open, and then to one live slot.
use Rattle.std.proofs.Common.{◌≡◌, ◌⊎◌, inl, inr, ℕ, ◌-◌, ◌*◌, ◌^◌, ◌<◌, ◌≤◌, ◌==◌, ◌&&◌, ◌||◌, not, nat_lt, nat_le, Bool, true, false, List, length, Option, Some, None, if◌then◌else◌, refl, sym, ◌∙◌, ap, subst, arith}
use Rattle.std.proofs.lemmas.Bool.{cases_lt, leb-true, ltb-true, lt-ltb}
use Rattle.std.proofs.lemmas.Bool.Decides.{nat_tests}
use Rattle.tree_shape.specs.declared.live.Live.{Live}
use Rattle.node_page.specs.Heads.{head_of, head_fault}
use Rattle.node_page.specs.Slots.{HasSlotRest, slot_of}
use Rattle.node_page.specs.Opening.{page_of, slot_page, is_open, generation_of, slot_of_live, IsValidLive, OpensTo, live_side, live_at, live_of, is_clear, is_valid_live, Unopened, slot_fault, after_head, open_fault}
use Rattle.node_page.specs.Opening.Unopened.{Short, Unfinished, TwoRoots, BadSlot}
use Rattle.node_page.specs.declared.head.Head.{Head}
use Rattle.node_page.specs.declared.head.HeadFault.{HeadFault}
use Rattle.node_page.proofs.HeadLaws.{head_is, spells_by_none, no_head_fault}
use Rattle.node_page.proofs.SlotLaws.{both, slot_is, rest_by_test, test_by_rest}

nine : (a b c d e f g h i : Bool) → (a && b && c && d && e && f && g && h && i) ≡ true
    → (a ≡ true) × (b ≡ true) × (c ≡ true) × (d ≡ true) × (e ≡ true) × (f ≡ true) × (g ≡ true) × (h ≡ true) × (i ≡ true)
nine true true true true true true true true true is = (refl, refl, refl, refl, refl, refl, refl, refl, refl)
nine true true true true true true true true false is = absurd cc
nine true true true true true true true false i is = absurd cc
nine true true true true true true false h i is = absurd cc
nine true true true true true false g h i is = absurd cc
nine true true true true false f g h i is = absurd cc
nine true true true false e f g h i is = absurd cc
nine true true false d e f g h i is = absurd cc
nine true false c d e f g h i is = absurd cc
nine false b c d e f g h i is = absurd cc

nine_back : (a b c d e f g h i : Bool) → a ≡ true → b ≡ true → c ≡ true → d ≡ true → e ≡ true → f ≡ true → g ≡ true → h ≡ true → i ≡ true
    → (a && b && c && d && e && f && g && h && i) ≡ true
nine_back a b c d e f g h i ea eb ec ed ee ef eg eh ei = rw (ea, eb, ec, ed, ee, ef, eg, eh, ei) refl

le_test : (m n : ℕ) → m ≤ n → nat_le m n ≡ true
le_test m n le = grind (arith, nat_tests)

pub valid_by_test : (limit size : ℕ) (live : Live) → is_valid_live limit size live ≡ true → IsValidLive limit size live
unfolding is_valid_live
valid_by_test limit size live is =
    let each = nine (nat_le 1 live.generation) (nat_le live.generation (2 ^ 48 - 1)) (nat_le 3 live.root) (nat_lt live.root live.pages) (nat_le live.height 14)
    (nat_le live.count limit) (nat_le 4 live.pages) (nat_le live.pages (2 ^ 24)) (nat_le (live.pages * 4096) size) is in
    record {
      low_generation = leb-true 1 live.generation each.0;
      high_generation = leb-true live.generation (2 ^ 48 - 1) each.1;
      low_root = leb-true 3 live.root each.2;
      high_root = ltb-true live.root live.pages each.3;
      height = leb-true live.height 14 each.4;
      count = leb-true live.count limit each.5;
      low_pages = leb-true 4 live.pages each.6;
      high_pages = leb-true live.pages (2 ^ 24) each.7;
      room = leb-true (live.pages * 4096) size each.8;
    }

pub test_by_valid : (limit size : ℕ) (live : Live) → IsValidLive limit size live → is_valid_live limit size live ≡ true
unfolding is_valid_live
test_by_valid limit size live valid =
    nine_back (nat_le 1 live.generation) (nat_le live.generation (2 ^ 48 - 1)) (nat_le 3 live.root) (nat_lt live.root live.pages) (nat_le live.height 14)
    (nat_le live.count limit) (nat_le 4 live.pages) (nat_le live.pages (2 ^ 24)) (nat_le (live.pages * 4096) size)
    (le_test 1 live.generation valid.low_generation) (le_test live.generation (2 ^ 48 - 1) valid.high_generation) (le_test 3 live.root valid.low_root)
    (lt-ltb live.root live.pages valid.high_root) (le_test live.height 14 valid.height) (le_test live.count limit valid.count)
    (le_test 4 live.pages valid.low_pages) (le_test live.pages (2 ^ 24) valid.high_pages) (le_test (live.pages * 4096) size valid.room)

pub rest_by_clear : (page : List ℕ) → is_clear page ≡ true → HasSlotRest page
unfolding is_clear
rest_by_clear page is = rest_by_test page is

pub clear_by_rest : (page : List ℕ) → HasSlotRest page → is_clear page ≡ true
unfolding is_clear
clear_by_rest page rest = test_by_rest page rest

-- ---- which gate wins

-- the first slot wins
abbrev first_wins : Bool → Bool → ℕ → ℕ → Bool
first_wins o0 o1 g0 g1 = o0 && (not o1 || nat_lt g1 g0)

which : (o0 o1 : Bool) (g0 g1 : ℕ) → (not o0 && not o1) ≡ false → (o0 && o1 && (g0 == g1)) ≡ false →
    ((first_wins o0 o1 g0 g1 ≡ true) × (o0 ≡ true) × (o1 ≡ true → g1 < g0)) ⊎ ((first_wins o0 o1 g0 g1 ≡ false) × (o1 ≡ true) × (o0 ≡ true → g0 < g1))
which false false g0 g1 some two = absurd cc
which true false g0 g1 some two = inl (refl, refl, λ e. absurd cc)
which false true g0 g1 some two = inr (refl, refl, λ e. absurd cc)
which true true g0 g1 some two = elim (cases_lt g1 g0) [
  | inl lt ↦ inl (lt-ltb g1 g0 lt, refl, λ e. lt)
  | inr le ↦ (let lt : g0 < g1 = grind (arith, nat_tests) in inr (grind (arith, nat_tests), refl, λ e. lt))
]

first_back : (o0 o1 : Bool) (g0 g1 : ℕ) → o0 ≡ true → (o1 ≡ true → g1 < g0) → ((not o0 && not o1) ≡ false) × ((o0 && o1 && (g0 == g1)) ≡ false) × (first_wins o0 o1 g0 g1 ≡ true)
first_back false o1 g0 g1 gate newest = absurd cc
first_back true false g0 g1 gate newest = (refl, refl, refl)
first_back true true g0 g1 gate newest = (let lt : g1 < g0 = newest refl in (refl, grind (arith, nat_tests), lt-ltb g1 g0 lt))

second_back : (o0 o1 : Bool) (g0 g1 : ℕ) → o1 ≡ true → (o0 ≡ true → g0 < g1) → ((not o0 && not o1) ≡ false) × ((o0 && o1 && (g0 == g1)) ≡ false) × (first_wins o0 o1 g0 g1 ≡ false)
second_back o0 false g0 g1 gate newest = absurd cc
second_back false true g0 g1 gate newest = (refl, refl, refl)
second_back true true g0 g1 gate newest = (let lt : g0 < g1 = newest refl in (refl, grind (arith, nat_tests), grind (arith, nat_tests)))

-- ---- no fault

short_or : (b : Bool) (rest : Option Unopened) → (if b then Some Short else rest) ≡ None → (b ≡ false) × (rest ≡ None)
short_or true rest is = absurd cc
short_or false rest is = (refl, is)

head_or : (fault : Option HeadFault) (rest : Option Unopened) → after_head fault rest ≡ None → (fault ≡ None) × (rest ≡ None)
head_or (Some fault) rest is = absurd cc
head_or None rest is = (refl, is)

-- the first of three tests of the slots
abbrev slots_or : Bool → Bool → Bool → Option Unopened
slots_or a b c = if a then Some Unfinished else if b then Some TwoRoots else if not c then Some BadSlot else None

three : (a b c : Bool) → slots_or a b c ≡ None → (a ≡ false) × (b ≡ false) × (c ≡ true)
three true b c is = absurd cc
three false true c is = absurd cc
three false false false is = absurd cc
three false false true is = (refl, refl, refl)

three_back : (a b c : Bool) → a ≡ false → b ≡ false → c ≡ true → slots_or a b c ≡ None
three_back a b c ea eb ec = rw (ea, eb, ec) refl

-- ---- opening by a side

opens_at : (file : List ℕ) (side : ℕ) → 12288 ≤ length file → head_fault (page_of file 0) ≡ None → side ≤ 1 → is_open file side ≡ true
    → (is_open file (1 - side) ≡ true → generation_of file (1 - side) < generation_of file side) → is_clear (slot_page file side) ≡ true
    → is_valid_live (head_of (page_of file 0)).limit (length file) (live_at side (slot_of (slot_page file side))) ≡ true
    → OpensTo file (head_of (page_of file 0)) (live_at side (slot_of (slot_page file side)))
unfolding slot_of is_open generation_of
opens_at file side long none low gate newest clear valid = record {
  long = long;
  spells_head = spells_by_none (page_of file 0) none;
  side = low;
  newest = newest;
  spells_slot = record { gate = gate; generation = refl; root = refl; height = refl; count = refl; pages = refl; rest = rest_by_clear (slot_page file side) clear };
  valid = valid_by_test (head_of (page_of file 0)).limit (length file) (live_at side (slot_of (slot_page file side))) valid;
}

-- the live slot that a side gives
abbrev live_from : List ℕ → ℕ → Live
live_from file side = live_at side (slot_of (slot_page file side))

opens_side : (file : List ℕ) (side : ℕ) → live_side file ≡ side → 12288 ≤ length file → head_fault (page_of file 0) ≡ None → side ≤ 1 → is_open file side ≡ true
    → (is_open file (1 - side) ≡ true → generation_of file (1 - side) < generation_of file side)
    → (is_clear (slot_page file (live_side file)) && is_valid_live (head_of (page_of file 0)).limit (length file) (live_from file (live_side file))) ≡ true
    → OpensTo file (head_of (page_of file 0)) (live_from file (live_side file))
opens_side file side is long none low gate newest sound =
    let each = both (is_clear (slot_page file (live_side file))) (is_valid_live (head_of (page_of file 0)).limit (length file) (live_from file (live_side file))) sound in
    subst (λ (s : ℕ). OpensTo file (head_of (page_of file 0)) (live_from file s)) (sym is)
    (opens_at file side long none low gate newest
    (subst (λ (s : ℕ). is_clear (slot_page file s) ≡ true) is each.0)
    (subst (λ (s : ℕ). is_valid_live (head_of (page_of file 0)).limit (length file) (live_from file s) ≡ true) is each.1))

side_by : (file : List ℕ) (b : Bool) → first_wins (is_open file 0) (is_open file 1) (generation_of file 0) (generation_of file 1) ≡ b → live_side file ≡ (if b then 0 else 1)
unfolding live_side
side_by file b is = ap (λ (t : Bool). if t then 0 else 1) is

opens_by_slots : (file : List ℕ) → 12288 ≤ length file → head_fault (page_of file 0) ≡ None → slot_fault file ≡ None → OpensTo file (head_of (page_of file 0)) (live_of file)
unfolding slot_fault live_of
opens_by_slots file long none is =
    let tests = three (not (is_open file 0) && not (is_open file 1)) (is_open file 0 && is_open file 1 && (generation_of file 0 == generation_of file 1))
    (is_clear (slot_page file (live_side file)) && is_valid_live (head_of (page_of file 0)).limit (length file) (live_from file (live_side file))) is in
    elim (which (is_open file 0) (is_open file 1) (generation_of file 0) (generation_of file 1) tests.0 tests.1) [
      | inl first ↦ opens_side file 0 (side_by file true first.0) long none (omega arith) first.1 first.2 tests.2
      | inr second ↦ opens_side file 1 (side_by file false second.0) long none (omega arith) second.1 second.2 tests.2
    ]

-- bytes with no fault open
pub opens_by_none : (file : List ℕ) → open_fault file ≡ None → OpensTo file (head_of (page_of file 0)) (live_of file)
unfolding open_fault
opens_by_none file is =
    let long = short_or (nat_lt (length file) 12288) (after_head (head_fault (page_of file 0)) (slot_fault file)) is in
    let head = head_or (head_fault (page_of file 0)) (slot_fault file) long.1 in
    let size : 12288 ≤ length file = grind (arith, nat_tests, long.0) in
    opens_by_slots file size head.0 head.1

-- ---- what opens has no fault

-- what the gates say where a side's slot is live
sides : (file : List ℕ) (side : ℕ) → side ≤ 1 → is_open file side ≡ true → (is_open file (1 - side) ≡ true → generation_of file (1 - side) < generation_of file side)
    → ((not (is_open file 0) && not (is_open file 1)) ≡ false) × ((is_open file 0 && is_open file 1 && (generation_of file 0 == generation_of file 1)) ≡ false) × (live_side file ≡ side)
sides file side low gate newest = elim (cases_lt side 1) [
  | inl lt ↦ first (let e : side ≡ 0 = omega arith in e)
  | inr ge ↦ second (let e : side ≡ 1 = omega arith in e)
]
  where
    first : side ≡ 0 → ((not (is_open file 0) && not (is_open file 1)) ≡ false) × ((is_open file 0 && is_open file 1 && (generation_of file 0 == generation_of file 1)) ≡ false) × (live_side file ≡ side)
    first e =
        let all = first_back (is_open file 0) (is_open file 1) (generation_of file 0) (generation_of file 1)
        (subst (λ (s : ℕ). is_open file s ≡ true) e gate)
        (subst (λ (s : ℕ). is_open file (1 - s) ≡ true → generation_of file (1 - s) < generation_of file s) e newest) in
        (all.0, all.1, side_by file true all.2 ∙ sym e)

    second : side ≡ 1 → ((not (is_open file 0) && not (is_open file 1)) ≡ false) × ((is_open file 0 && is_open file 1 && (generation_of file 0 == generation_of file 1)) ≡ false) × (live_side file ≡ side)
    second e =
        let all = second_back (is_open file 0) (is_open file 1) (generation_of file 0) (generation_of file 1)
        (subst (λ (s : ℕ). is_open file s ≡ true) e gate)
        (subst (λ (s : ℕ). is_open file (1 - s) ≡ true → generation_of file (1 - s) < generation_of file s) e newest) in
        (all.0, all.1, side_by file false all.2 ∙ sym e)

gate_of : (file : List ℕ) (head : Head) (live : Live) → OpensTo file head live → is_open file live.side ≡ true
unfolding is_open
gate_of file head live opens = opens.spells_slot.gate

generation_is : (file : List ℕ) (head : Head) (live : Live) → OpensTo file head live → generation_of file live.side ≡ live.generation
unfolding generation_of
generation_is file head live opens = opens.spells_slot.generation

of_sides : (file : List ℕ) (head : Head) (live : Live) → OpensTo file head live
    → ((not (is_open file 0) && not (is_open file 1)) ≡ false) × ((is_open file 0 && is_open file 1 && (generation_of file 0 == generation_of file 1)) ≡ false) × (live_side file ≡ live.side)
of_sides file head live opens =
    sides file live.side opens.side (gate_of file head live opens)
    (λ gate. subst (λ (g : ℕ). generation_of file (1 - live.side) < g) (sym (generation_is file head live opens)) (opens.newest gate))

live_from_is : (file : List ℕ) (head : Head) (live : Live) → OpensTo file head live → live_from file (live_side file) ≡ live
live_from_is file head live opens =
    ap (live_from file) (of_sides file head live opens).2 ∙ ap (live_at live.side) (slot_is (slot_page file live.side) (slot_of_live live) opens.spells_slot)

-- the live slot is the one that is told
pub live_is : (file : List ℕ) (head : Head) (live : Live) → OpensTo file head live → live_of file ≡ live
unfolding live_of
live_is file head live opens = live_from_is file head live opens

slots_none : (file : List ℕ) (head : Head) (live : Live) → OpensTo file head live → slot_fault file ≡ None
unfolding slot_fault live_of
slots_none file head live opens =
    let gates = of_sides file head live opens in
    let clear : is_clear (slot_page file (live_side file)) ≡ true = subst (λ (s : ℕ). is_clear (slot_page file s) ≡ true) (sym gates.2) (clear_by_rest (slot_page file live.side) opens.spells_slot.rest) in
    let told = test_by_valid head.limit (length file) live opens.valid in
    let limit : head.limit ≡ (head_of (page_of file 0)).limit = ap (λ (h : Head). h.limit) (sym (head_is (page_of file 0) head opens.spells_head)) in
    let valid : is_valid_live (head_of (page_of file 0)).limit (length file) (live_from file (live_side file)) ≡ true =
    subst (λ (t : Live). is_valid_live (head_of (page_of file 0)).limit (length file) t ≡ true) (sym (live_from_is file head live opens))
    (subst (λ (n : ℕ). is_valid_live n (length file) live ≡ true) limit told) in
    three_back (not (is_open file 0) && not (is_open file 1)) (is_open file 0 && is_open file 1 && (generation_of file 0 == generation_of file 1))
    (is_clear (slot_page file (live_side file)) && is_valid_live (head_of (page_of file 0)).limit (length file) (live_from file (live_side file)))
    gates.0 gates.1 (rw (clear, valid) refl)

no_fault : (short : Bool) (fault : Option HeadFault) (rest : Option Unopened) → short ≡ false → fault ≡ None → rest ≡ None → (if short then Some Short else after_head fault rest) ≡ None
no_fault short fault rest es ef er = rw (es, ef, er) refl

-- what opens has no fault
pub none_by_opens : (file : List ℕ) (head : Head) (live : Live) → OpensTo file head live → open_fault file ≡ None
unfolding open_fault
none_by_opens file head live opens =
    let long : 12288 ≤ length file = opens.long in
    no_fault (nat_lt (length file) 12288) (head_fault (page_of file 0)) (slot_fault file) (grind (arith, nat_tests))
    (no_head_fault (page_of file 0) head opens.spells_head) (slots_none file head live opens)
