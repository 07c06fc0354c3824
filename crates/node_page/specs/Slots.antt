-- The slots of an index file: which page spells which slot.
use Rattle.std.specs.Prelude.{◌≡◌, ℕ, ◌==◌, List, slice_index}
use Rattle.node_page.specs.Bytes.{number_at, AreZero}
use Rattle.node_page.specs.declared.slot.Slot.{Slot}

-- each byte that no field takes is 0
pub record HasSlotRest (page : List ℕ) : Type 0 where
  pub between : AreZero 1 8 page
  pub behind : AreZero 32 4096 page

-- the page has this slot's fields in their places, and 0 elsewhere; the gate is open exactly where its byte is 0xA5
pub record SpellsSlot (page : List ℕ) (slot : Slot) : Type 0 where
  pub gate : (slice_index page 0 == 165) ≡ slot.gate
  pub generation : number_at 8 8 page ≡ slot.generation
  pub root : number_at 16 4 page ≡ slot.root
  pub height : number_at 20 4 page ≡ slot.height
  pub count : number_at 24 4 page ≡ slot.count
  pub pages : number_at 28 4 page ≡ slot.pages
  pub rest : HasSlotRest page

-- the fields of a page
unfoldable pub slot_of : List ℕ → Slot
slot_of page = record {
  gate = slice_index page 0 == 165;
  generation = number_at 8 8 page;
  root = number_at 16 4 page;
  height = number_at 20 4 page;
  count = number_at 24 4 page;
  pages = number_at 28 4 page;
}
