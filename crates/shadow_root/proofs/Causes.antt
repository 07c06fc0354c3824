-- The causes of a refusal to open, and what opens.
use Rattle.std.proofs.Common.{◌≡◌, ℕ, ◌<◌, ◌≤◌, nat_lt, Bool, true, false, List, length, Some, None, IsTrue, refl, sym, ap, subst, arith}
use Rattle.std.proofs.lemmas.Bool.{lt-ltb}
use Rattle.std.proofs.lemmas.Bool.Decides.{nat_tests}
use Rattle.outside_io.specs.Causes.{Rose}
use Rattle.disk_model.specs.Disk.{DiskState, IsUnchanged}
use Rattle.tree_shape.specs.declared.live.Live.{Live}
use Rattle.node_page.specs.Heads.{SpellsHead, head_fault}
use Rattle.node_page.specs.Opening.{page_of, IsValidLive, OpensTo, Unopened, slot_fault, open_fault}
use Rattle.node_page.specs.Opening.Unopened.{Short as TooShort, NoHead}
use Rattle.node_page.specs.declared.head.Head.{Head}
use Rattle.node_page.specs.declared.head.HeadFault.{HeadFault}
use Rattle.node_page.proofs.Published.{head_is, no_head_fault}
use Rattle.shadow_root.specs.Opening.{HasOpenCause, HasHeadCause, HasSlotCause, IsOf, LeadsTo}
use Rattle.shadow_root.specs.declared.faults.OpenFault.{OpenFault}
use Rattle.shadow_root.specs.declared.faults.OpenFault.TheVariants.{Disk, Short, Head as HeadWas, Unfinished, TwoRoots, Slot}

rose_later : (old mid new : ℕ) → Rose old mid → mid ≤ new → Rose old new
rose_later old mid new rose later = omega arith

rose_earlier : (old mid new : ℕ) → old ≤ mid → Rose mid new → Rose old new
rose_earlier old mid new earlier rose = omega arith

test_true : (m n : ℕ) → m < n → nat_lt m n ≡ true
test_true m n lt = lt-ltb m n lt

test_false : (m n : ℕ) → n ≤ m → nat_lt m n ≡ false
test_false m n le = grind (arith, nat_tests)

pub short_fault : (file : List ℕ) (size : ℕ) → size ≡ length file → size < 12288 → open_fault file ≡ Some TooShort
unfolding open_fault
short_fault file size same lt = rw (test_true (length file) 12288 (omega arith)) refl

with_head : (file : List ℕ) (fault : HeadFault) → 12288 ≤ length file → head_fault (page_of file 0) ≡ Some fault → open_fault file ≡ Some (NoHead fault)
unfolding open_fault
with_head file fault long is = rw (test_false (length file) 12288 long, is) refl

with_slots : (file : List ℕ) (why : Unopened) → 12288 ≤ length file → head_fault (page_of file 0) ≡ None → slot_fault file ≡ Some why → open_fault file ≡ Some why
unfolding open_fault
with_slots file why long none is = rw (test_false (length file) 12288 long, none, is) refl

-- a refusal of the head, after calls that left the disk as it was
pub head_cause : (old mid new : DiskState) (fault : OpenFault) → IsUnchanged old mid → old.faults ≤ mid.faults → (IsTrue old.is_known → 12288 ≤ length old.bytes) → HasHeadCause mid new fault → HasOpenCause old new fault
head_cause old mid new Disk same later long cause = rose_earlier old.faults mid.faults new.faults later cause
head_cause old mid new (HeadWas fault) same later long cause = λ is_known.
    with_head old.bytes fault (long is_known) (subst (λ (b : List ℕ). head_fault (page_of b 0) ≡ Some fault) same.same_bytes (cause (subst (λ (b : Bool). IsTrue b) (sym same.same_known) is_known)))
head_cause old mid new Short same later long cause = absurd cause
head_cause old mid new Unfinished same later long cause = absurd cause
head_cause old mid new TwoRoots same later long cause = absurd cause
head_cause old mid new Slot same later long cause = absurd cause

-- the file is one with this head and this size
is_of : (head : Head) (size : ℕ) (file : List ℕ) → SpellsHead (page_of file 0) head → size ≡ length file → IsOf head.limit size file
is_of head size file spells same = record { limit_is = ap (λ (h : Head). h.limit) (head_is (page_of file 0) head spells); size_is = sym same }

-- a refusal of the slots
module _ (old mid new : DiskState) (head : Head) (size : ℕ) (same : IsUnchanged old mid) (later : old.faults ≤ mid.faults) (long : 12288 ≤ size)
    (size_is : IsTrue old.is_known → size ≡ length old.bytes) (spells : IsTrue old.is_known → SpellsHead (page_of old.bytes 0) head) where
  of_slots : (why : Unopened) → (IsTrue mid.is_known → IsOf head.limit size mid.bytes → slot_fault mid.bytes ≡ Some why) → IsTrue old.is_known → open_fault old.bytes ≡ Some why
  of_slots why cause is_known =
      let told : IsTrue mid.is_known = subst (λ (b : Bool). IsTrue b) (sym same.same_known) is_known in
      let stands : slot_fault mid.bytes ≡ Some why = cause told (subst (λ (b : List ℕ). IsOf head.limit size b) (sym same.same_bytes) (is_of head size old.bytes (spells is_known) (size_is is_known))) in
      with_slots old.bytes why (omega (arith, long, size_is is_known)) (no_head_fault (page_of old.bytes 0) head (spells is_known)) (subst (λ (b : List ℕ). slot_fault b ≡ Some why) same.same_bytes stands)

  pub slot_cause : (fault : OpenFault) → HasSlotCause head.limit size mid new fault → HasOpenCause old new fault
  slot_cause Disk cause = rose_earlier old.faults mid.faults new.faults later cause
  slot_cause Short cause = absurd cause
  slot_cause (HeadWas fault) cause = absurd cause
  slot_cause Unfinished cause = of_slots _ cause
  slot_cause TwoRoots cause = of_slots _ cause
  slot_cause Slot cause = of_slots _ cause

  pub opens_told : (live : Live) → (IsTrue mid.is_known → IsOf head.limit size mid.bytes → LeadsTo head.limit size live mid.bytes) → IsTrue old.is_known → OpensTo old.bytes head live
  opens_told live leads is_known =
      let told : IsTrue mid.is_known = subst (λ (b : Bool). IsTrue b) (sym same.same_known) is_known in
      let to = subst (λ (b : List ℕ). LeadsTo head.limit size live b) same.same_bytes (leads told (subst (λ (b : List ℕ). IsOf head.limit size b) (sym same.same_bytes) (is_of head size old.bytes (spells is_known) (size_is is_known)))) in
      record {
        long = omega (arith, long, size_is is_known);
        spells_head = spells is_known;
        side = to.side;
        newest = to.newest;
        spells_slot = to.spells_slot;
        valid = subst (λ (n : ℕ). IsValidLive head.limit n live) (size_is is_known) to.valid;
      }
