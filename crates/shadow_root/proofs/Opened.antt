-- Two slots lead to the live one, or to the first fault of a file that has them.
use Rattle.std.proofs.Common.{◌≡◌, ℕ, ◌<◌, ◌==◌, ◌&&◌, ◌||◌, not, nat_lt, Bool, true, false, List, slice_index, Option, Some, Result, Ok, Err, IfOk, IfErr, if◌then◌else◌, refl, sym, ◌∙◌, ap, subst, arith, inl, inr}
use Rattle.std.proofs.lemmas.Bool.{lt-ltb, ltb-true}
use Rattle.std.proofs.lemmas.Bool.Decides.{nat_tests}
use Rattle.tree_shape.specs.declared.live.Live.{Live}
use Rattle.node_page.specs.Bytes.{number_at}
use Rattle.node_page.specs.Slots.{SpellsSlot, HasSlotRest, slot_of}
use Rattle.node_page.proofs.Published.{slot_is, rest_by_clear}
use Rattle.node_page.specs.Opening.{slot_page, is_open, generation_of, slot_of_live, IsValidLive, live_side, live_at, live_of, is_clear, is_valid_live, Unopened, slot_fault}
use Rattle.node_page.specs.Opening.Unopened.{Unfinished as NoGate, TwoRoots as TwoGates, BadSlot}
use Rattle.node_page.specs.declared.slot.Slot.{Slot}
use Rattle.shadow_root.specs.Opening.{told_as, side_of, number_of, HasSlots, IsLiveSlot, LeadsTo}
use Rattle.shadow_root.specs.declared.opening.Side.{Side}
use Rattle.shadow_root.specs.declared.opening.Side.TheVariants.{First, Second}
use Rattle.shadow_root.specs.declared.faults.OpenFault.{OpenFault}
use Rattle.shadow_root.specs.declared.faults.OpenFault.TheVariants.{Unfinished, TwoRoots, Slot as SlotFault}

-- ---- which side

abbrev OkIs : Result Side OpenFault → Side → Type 0
OkIs r side = r ≡ Ok side

abbrev ErrIs : Result Side OpenFault → OpenFault → Type 0
ErrIs r fault = r ≡ Err fault

-- the open gate that wins
abbrev Wins : Bool → Bool → ℕ → ℕ → Side → Type 0
Wins o0 o1 g0 g1 First = (o0 ≡ true) × (o1 ≡ true → g1 < g0)
Wins o0 o1 g0 g1 Second = (o1 ≡ true) × (o0 ≡ true → g0 < g1)

abbrev pub is_first : Bool → Bool → ℕ → ℕ → Bool
is_first o0 o1 g0 g1 = o0 && (not o1 || nat_lt g1 g0)

pub side_facts : (o0 o1 : Bool) (g0 g1 : ℕ) (side : Side) → side_of o0 o1 g0 g1 ≡ Ok side → Wins o0 o1 g0 g1 side
side_facts false false g0 g1 side is = absurd cc
side_facts true false g0 g1 First is = (refl, λ opened. absurd cc)
side_facts true false g0 g1 Second is = absurd cc
side_facts false true g0 g1 First is = absurd cc
side_facts false true g0 g1 Second is = (refl, λ opened. absurd cc)
side_facts true true g0 g1 side is = both (g0 == g1) (nat_lt g1 g0) side refl refl is
  where
    both : (same less : Bool) (side : Side) → (g0 == g1) ≡ same → nat_lt g1 g0 ≡ less → OkIs (if same then Err TwoRoots else Ok (if less then First else Second)) side → Wins true true g0 g1 side
    both true less side same_is less_is is = absurd cc
    both false true First same_is less_is is = (refl, λ opened. ltb-true g1 g0 less_is)
    both false true Second same_is less_is is = absurd cc
    both false false First same_is less_is is = absurd cc
    both false false Second same_is less_is is = (refl, λ opened. grind (arith, nat_tests, same_is, less_is))

-- the side is the live one
pub side_is : (o0 o1 : Bool) (g0 g1 : ℕ) (side : Side) → side_of o0 o1 g0 g1 ≡ Ok side → (if is_first o0 o1 g0 g1 then 0 else 1) ≡ number_of side
side_is false false g0 g1 side is = absurd cc
side_is true false g0 g1 First is = refl
side_is true false g0 g1 Second is = absurd cc
side_is false true g0 g1 First is = absurd cc
side_is false true g0 g1 Second is = refl
side_is true true g0 g1 side is = both (g0 == g1) (nat_lt g1 g0) side is
  where
    both : (same less : Bool) (side : Side) → OkIs (if same then Err TwoRoots else Ok (if less then First else Second)) side → (if less then 0 else 1) ≡ number_of side
    both true less side is = absurd cc
    both false true First is = refl
    both false true Second is = absurd cc
    both false false First is = absurd cc
    both false false Second is = refl

-- the first two tests pass
third_of : (o0 o1 : Bool) (g0 g1 : ℕ) (side : Side) (third : Option Unopened) → side_of o0 o1 g0 g1 ≡ Ok side
    → (if not o0 && not o1 then Some NoGate else (if o0 && o1 && (g0 == g1) then Some TwoGates else third)) ≡ third
third_of false false g0 g1 side third is = absurd cc
third_of true false g0 g1 side third is = refl
third_of false true g0 g1 side third is = refl
third_of true true g0 g1 side third is = both (g0 == g1) (if nat_lt g1 g0 then First else Second) is
  where
    both : (same : Bool) (n : Side) → OkIs (if same then Err TwoRoots else Ok n) side → (if same then Some TwoGates else third) ≡ third
    both true n is = absurd cc
    both false n is = refl

first_of : (o0 o1 : Bool) (g0 g1 : ℕ) (third : Option Unopened) (fault : OpenFault) → side_of o0 o1 g0 g1 ≡ Err fault
    → (if not o0 && not o1 then Some NoGate else (if o0 && o1 && (g0 == g1) then Some TwoGates else third)) ≡ told_as fault
first_of false false g0 g1 third fault is = let same : Unfinished ≡ fault = cc in ap told_as same
first_of true false g0 g1 third fault is = absurd cc
first_of false true g0 g1 third fault is = absurd cc
first_of true true g0 g1 third fault is = both (g0 == g1) (if nat_lt g1 g0 then First else Second) is
  where
    both : (same : Bool) (n : Side) → ErrIs (if same then Err TwoRoots else Ok n) fault → (if same then Some TwoGates else third) ≡ told_as fault
    both true n is = let same : TwoRoots ≡ fault = cc in ap told_as same
    both false n is = absurd cc

-- ---- a file

-- whether a slot's page reads open, and its generation
abbrev pub open_on : List ℕ → Bool
open_on page = slice_index page 0 == 165

abbrev pub generation_on : List ℕ → ℕ
generation_on page = number_at 8 8 page

slot_same : (side : ℕ) (slot : Slot) → slot.gate ≡ true → slot_of_live (live_at side slot) ≡ slot
slot_same side slot gate = ap (λ (g : Bool). record { gate = g; generation = slot.generation; root = slot.root; height = slot.height; count = slot.count; pages = slot.pages }) (sym gate)

module _ (first second : List ℕ) (limit size : ℕ) (file : List ℕ) (has : HasSlots first second limit size file) where
  open_first : is_open file 0 ≡ open_on first
  unfolding is_open
  open_first = ap open_on has.first_is

  open_second : is_open file 1 ≡ open_on second
  unfolding is_open
  open_second = ap open_on has.second_is

  generation_first : generation_of file 0 ≡ generation_on first
  unfolding generation_of
  generation_first = ap generation_on has.first_is

  generation_second : generation_of file 1 ≡ generation_on second
  unfolding generation_of
  generation_second = ap generation_on has.second_is

  pub slots_refused : (fault : OpenFault) → side_of (open_on first) (open_on second) (generation_on first) (generation_on second) ≡ Err fault → slot_fault file ≡ told_as fault
  unfolding slot_fault
  slots_refused fault is = rw (open_first, open_second, generation_first, generation_second) (first_of (open_on first) (open_on second) (generation_on first) (generation_on second) _ fault is)

  abbrev WinsOf : Side → Type 0
  WinsOf side = side_of (open_on first) (open_on second) (generation_on first) (generation_on second) ≡ Ok side

  side_live : (side : Side) → WinsOf side → live_side file ≡ number_of side
  unfolding live_side
  side_live side is = rw (open_first, open_second, generation_first, generation_second) (side_is (open_on first) (open_on second) (generation_on first) (generation_on second) side is)

  -- the page of the live slot
  abbrev pub page_by : Side → List ℕ
  page_by First = first
  page_by Second = second

  page_is : (side : Side) → slot_page file (number_of side) ≡ page_by side
  page_is First = has.first_is
  page_is Second = has.second_is

  pub slot_refused : (side : Side) → WinsOf side → (is_clear (page_by side) && is_valid_live limit size (live_at (number_of side) (slot_of (page_by side)))) ≡ false → slot_fault file ≡ Some BadSlot
  unfolding slot_fault live_of
  slot_refused side is refused =
      rw (open_first, open_second, generation_first, generation_second)
      (third_of (open_on first) (open_on second) (generation_on first) (generation_on second) side _ is
      ∙ rw (side_live side is, page_is side, has.limit_is, has.size_is, refused) refl)

  spelled : (side : Side) (slot : Slot) → SpellsSlot (page_by side) slot → slot.gate ≡ true → SpellsSlot (slot_page file (number_of side)) (slot_of_live (live_at (number_of side) slot))
  spelled side slot spells gate =
      subst (λ (s : Slot). SpellsSlot (slot_page file (number_of side)) s) (sym (slot_same (number_of side) slot gate)) (subst (λ (p : List ℕ). SpellsSlot p slot) (sym (page_is side)) spells)

  -- the open slot of the side that wins
  pub leads : (side : Side) (slot : Slot) → WinsOf side → SpellsSlot (page_by side) slot → IsValidLive limit size (live_at (number_of side) slot) → LeadsTo limit size (live_at (number_of side) slot) file
  leads First slot is spells valid =
      let wins = side_facts (open_on first) (open_on second) (generation_on first) (generation_on second) First is in
      record {
        side = omega arith;
        newest = λ opened.
            let less : generation_on second < generation_on first = wins.1 (sym open_second ∙ opened) in
            omega (arith, less, spells.generation, generation_second);
        spells_slot = spelled First slot spells (sym spells.gate ∙ wins.0);
        valid = valid;
      }
  leads Second slot is spells valid =
      let wins = side_facts (open_on first) (open_on second) (generation_on first) (generation_on second) Second is in
      record {
        side = omega arith;
        newest = λ opened.
            let less : generation_on first < generation_on second = wins.1 (sym open_first ∙ opened) in
            omega (arith, less, spells.generation, generation_first);
        spells_slot = spelled Second slot spells (sym spells.gate ∙ wins.0);
        valid = valid;
      }

-- ---- the live slot, by its two pages

first_wins : (o0 o1 : Bool) (g0 g1 : ℕ) → o0 ≡ true → (o1 ≡ true → g1 < g0) → side_of o0 o1 g0 g1 ≡ Ok First
first_wins false o1 g0 g1 opened newest = absurd cc
first_wins true false g0 g1 opened newest = refl
first_wins true true g0 g1 opened newest =
    let less = newest refl in
    let apart : (g0 == g1) ≡ false = grind (arith, nat_tests, less) in
    let less_is : nat_lt g1 g0 ≡ true = lt-ltb g1 g0 less in
    rw (apart, less_is) refl

second_wins : (o0 o1 : Bool) (g0 g1 : ℕ) → o1 ≡ true → (o0 ≡ true → g0 < g1) → side_of o0 o1 g0 g1 ≡ Ok Second
second_wins o0 false g0 g1 opened newest = absurd cc
second_wins false true g0 g1 opened newest = refl
second_wins true true g0 g1 opened newest =
    let less = newest refl in
    let apart : (g0 == g1) ≡ false = grind (arith, nat_tests, less) in
    let not_less : nat_lt g1 g0 ≡ false = grind (arith, nat_tests, less) in
    rw (apart, not_less) refl

-- the page of a side's slot
abbrev pub page_on : List ℕ → List ℕ → Side → List ℕ
page_on first second First = first
page_on first second Second = second

-- the side that wins
abbrev WinsOn : List ℕ → List ℕ → Side → Type 0
WinsOn first second side = side_of (open_on first) (open_on second) (generation_on first) (generation_on second) ≡ Ok side

-- the page of a live slot wins, and spells it
pub record IsFoundOn (first second : List ℕ) (limit size : ℕ) (live : Live) (side : Side) : Type 0 where
  pub wins : WinsOn first second side
  pub spells : SpellsSlot (page_on first second side) (slot_of_live live)
  pub valid : IsValidLive limit size (live_at (number_of side) (slot_of_live live))
  pub is : live_at (number_of side) (slot_of_live live) ≡ live

at_side : (side : ℕ) (live : Live) → live.side ≡ side → live_at side (slot_of_live live) ≡ live
at_side side live is = ap (λ (n : ℕ). live_at n (slot_of_live live)) (sym is)

pub found_on : (first second : List ℕ) (limit size : ℕ) (live : Live) → IsLiveSlot first second limit size live → (side : Side) × IsFoundOn first second limit size live side
found_on first second limit size live (inl one) =
    let same = at_side 0 live one.side_is in (
      First,
      record {
        wins = first_wins (open_on first) (open_on second) (generation_on first) (generation_on second) one.spells.gate
            (λ opened. let less = one.newest opened in omega (arith, less, one.spells.generation));
        spells = one.spells;
        valid = subst (IsValidLive limit size) (sym same) one.valid;
        is = same;
      },
    )
found_on first second limit size live (inr two) =
    let same = at_side 1 live two.side_is in (
      Second,
      record {
        wins = second_wins (open_on first) (open_on second) (generation_on first) (generation_on second) two.spells.gate
            (λ opened. let less = two.newest opened in omega (arith, less, two.spells.generation));
        spells = two.spells;
        valid = subst (IsValidLive limit size) (sym same) two.valid;
        is = same;
      },
    )

-- no live slot is found where no gate wins, and on no other side than the one that wins
pub none_wins : (first second : List ℕ) (limit size : ℕ) (live : Live) (fault : OpenFault)
    → side_of (open_on first) (open_on second) (generation_on first) (generation_on second) ≡ Err fault → IsLiveSlot first second limit size live → ⊥
none_wins first second limit size live fault refused is =
    let found = found_on first second limit size live is in
    let e : Err fault ≡ Ok found.0 = sym refused ∙ found.1.wins in absurd cc

-- a live slot on the side that wins is what its page gives
pub only_on : (first second : List ℕ) (limit size : ℕ) (side : Side) → WinsOn first second side → (r : Result Live OpenFault)
    → ((slot : Slot) → SpellsSlot (page_on first second side) slot → IsValidLive limit size (live_at (number_of side) slot) → r ≡ Ok (live_at (number_of side) slot))
    → (live : Live) → IsLiveSlot first second limit size live → r ≡ Ok live
only_on first second limit size side wins r only live is =
    let found = found_on first second limit size live is in
    let ok : Ok side ≡ Ok found.0 = sym wins ∙ found.1.wins in
    let same : side ≡ found.0 = cc in
    by_side found.0 same found.1
  where
    by_side : (side2 : Side) → side ≡ side2 → IsFoundOn first second limit size live side2 → r ≡ Ok live
    by_side side2 same found =
        let here = subst (λ (s : Side). (slot : Slot) → SpellsSlot (page_on first second s) slot → IsValidLive limit size (live_at (number_of s) slot) → r ≡ Ok (live_at (number_of s) slot)) same only in
        here (slot_of_live live) found.spells found.valid ∙ ap (λ (l : Live). Ok l) found.is

-- the slot of the side that wins is live
live_on : (first second : List ℕ) (limit size : ℕ) (side : Side) → WinsOn first second side → (slot : Slot) → SpellsSlot (page_on first second side) slot → IsValidLive limit size (live_at (number_of side) slot)
    → IsLiveSlot first second limit size (live_at (number_of side) slot)
live_on first second limit size First wins slot spells valid =
    let facts = side_facts (open_on first) (open_on second) (generation_on first) (generation_on second) First wins in
    inl (record {
      side_is = refl;
      newest = λ opened. let less = facts.1 opened in omega (arith, less, spells.generation);
      spells = subst (SpellsSlot first) (sym (slot_same 0 slot (sym spells.gate ∙ facts.0))) spells;
      valid = valid;
    })
live_on first second limit size Second wins slot spells valid =
    let facts = side_facts (open_on first) (open_on second) (generation_on first) (generation_on second) Second wins in
    inr (record {
      side_is = refl;
      newest = λ opened. let less = facts.1 opened in omega (arith, less, spells.generation);
      spells = subst (SpellsSlot second) (sym (slot_same 1 slot (sym spells.gate ∙ facts.0))) spells;
      valid = valid;
    })

pub live_at_ok : (first second : List ℕ) (limit size : ℕ) (side : Side) → WinsOn first second side → (r : Result Live OpenFault)
    → IfOk r (λ live. (slot : Slot) × SpellsSlot (page_on first second side) slot × (live ≡ live_at (number_of side) slot)) → IfOk r (IsValidLive limit size) → IfOk r (IsLiveSlot first second limit size)
live_at_ok first second limit size side wins (Ok live) spells valid =
    subst (IsLiveSlot first second limit size) (sym spells.2) (live_on first second limit size side wins spells.0 spells.1 (subst (IsValidLive limit size) spells.2 valid))
live_at_ok first second limit size side wins (Err fault) spells valid = tt

-- what the page of the live slot gave
module _ (first second : List ℕ) (limit size : ℕ) (side : Side) (wins : side_of (open_on first) (open_on second) (generation_on first) (generation_on second) ≡ Ok side) where
  abbrev page_at : Side → List ℕ
  page_at First = first
  page_at Second = second

  pub leads_at_ok : (side2 : Side) → side ≡ side2 → (r : Result Live OpenFault) → IfOk r (λ live. (slot : Slot) × SpellsSlot (page_at side2) slot × (live ≡ live_at (number_of side2) slot)) → IfOk r (IsValidLive limit size)
      → IfOk r (λ live. (file : List ℕ) → HasSlots first second limit size file → LeadsTo limit size live file)
  leads_at_ok First same (Ok live) spells valid = λ file has.
      subst (λ (l : Live). LeadsTo limit size l file) (sym spells.2)
      (leads first second limit size file has First spells.0 (wins ∙ ap (λ (s : Side). Ok s) same) spells.1 (subst (IsValidLive limit size) spells.2 valid))
  leads_at_ok Second same (Ok live) spells valid = λ file has.
      subst (λ (l : Live). LeadsTo limit size l file) (sym spells.2)
      (leads first second limit size file has Second spells.0 (wins ∙ ap (λ (s : Side). Ok s) same) spells.1 (subst (IsValidLive limit size) spells.2 valid))
  leads_at_ok side2 same (Err fault) spells valid = tt

  pub refused_at_err : (side2 : Side) → side ≡ side2 → (r : Result Live OpenFault)
      → IfErr r (λ fault. (fault ≡ SlotFault) × ((is_clear (page_at side2) && is_valid_live limit size (live_at (number_of side2) (slot_of (page_at side2)))) ≡ false))
      → IfErr r (λ fault. (file : List ℕ) → HasSlots first second limit size file → slot_fault file ≡ told_as fault)
  refused_at_err side2 same (Ok live) refused = tt
  refused_at_err First same (Err fault) refused = λ file has.
      slot_refused first second limit size file has First (wins ∙ ap (λ (s : Side). Ok s) same) refused.1 ∙ ap told_as (sym refused.0)
  refused_at_err Second same (Err fault) refused = λ file has.
      slot_refused first second limit size file has Second (wins ∙ ap (λ (s : Side). Ok s) same) refused.1 ∙ ap told_as (sym refused.0)

-- ---- one slot

pub not_clear : (page : List ℕ) (other : Bool) → (HasSlotRest page → ⊥) → (is_clear page && other) ≡ false
not_clear page other none = test (is_clear page) refl
  where
    test : (b : Bool) → is_clear page ≡ b → (b && other) ≡ false
    test true is = absurd (none (rest_by_clear page is))
    test false is = refl

pub not_valid : (page : List ℕ) (slot : Slot) (limit size side : ℕ) → SpellsSlot page slot → is_valid_live limit size (live_at side slot) ≡ false
    → (is_clear page && is_valid_live limit size (live_at side (slot_of page))) ≡ false
not_valid page slot limit size side spells is = rw (slot_is page slot spells, is) (last (is_clear page))
  where
    last : (b : Bool) → (b && false) ≡ false
    last true = refl
    last false = refl
