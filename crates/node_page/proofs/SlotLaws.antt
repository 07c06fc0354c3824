-- Which pages spell a slot.
use Rattle.std.proofs.Common.{◌≡◌, ℕ, ◌==◌, ◌&&◌, Bool, true, false, List, if◌then◌else◌, refl, ap}
use Rattle.node_page.specs.declared.slot.Slot.{Slot}
use Rattle.node_page.specs.Bytes.{are_zero}
use Rattle.node_page.specs.Slots.{SpellsSlot, HasSlotRest, slot_of}
use Rattle.node_page.proofs.Rest.{zero_by_test, test_by_zero}

-- a gate that was written reads as it was
pub gate_reads : (byte : ℕ) (gate : Bool) → byte ≡ (if gate then 165 else 0) → (byte == 165) ≡ gate
gate_reads byte true is = ap (λ (b : ℕ). b == 165) is
gate_reads byte false is = ap (λ (b : ℕ). b == 165) is

pub gate_closed : (byte : ℕ) (gate : Bool) → byte ≡ (if gate then 165 else 0) → gate ≡ false → byte ≡ 0
gate_closed byte true is shut = absurd cc
gate_closed byte false is shut = is

-- two tests that both hold
pub both : (a b : Bool) → (a && b) ≡ true → (a ≡ true) × (b ≡ true)
both true true is = (refl, refl)
both true false is = absurd cc
both false b is = absurd cc

-- the test says that the rest is 0
pub rest_by_test : (page : List ℕ) → (are_zero 1 7 page && are_zero 32 4064 page) ≡ true → HasSlotRest page
rest_by_test page is =
    let each = both (are_zero 1 7 page) (are_zero 32 4064 page) is in
    record { between = zero_by_test 1 7 page each.0; behind = zero_by_test 32 4064 page each.1 }

-- the test finds that the rest is 0
pub test_by_rest : (page : List ℕ) → HasSlotRest page → (are_zero 1 7 page && are_zero 32 4064 page) ≡ true
test_by_rest page rest = rw (test_by_zero 1 7 page rest.between, test_by_zero 32 4064 page rest.behind) refl

-- the fields of a page are those of the slot that it spells
pub slot_is : (page : List ℕ) (slot : Slot) → SpellsSlot page slot → slot_of page ≡ slot
unfolding slot_of
slot_is page slot spells = λ i. record {
  gate = spells.gate i;
  generation = spells.generation i;
  root = spells.root i;
  height = spells.height i;
  count = spells.count i;
  pages = spells.pages i;
}

-- a page spells its fields where its rest is 0
pub spells_by_rest : (page : List ℕ) → HasSlotRest page → SpellsSlot page (slot_of page)
unfolding slot_of
spells_by_rest page rest = record {
  gate = refl;
  generation = refl;
  root = refl;
  height = refl;
  count = refl;
  pages = refl;
  rest = rest;
}
