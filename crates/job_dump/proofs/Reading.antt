-- Objects that are read again at their places.
use Rattle.std.proofs.Common.{◌≡◌, ℕ, ◌/◌, ◌%◌, ◌<◌, List, Option, Some, sym, ap, ◌∙◌, subst, arith}
use Rattle.std.specs.Prelude.{IsTrue, slice_get, slice_index}
use Rattle.outside_io.specs.Sinks.{SinkState}
use Rattle.outside_io.proofs.Published.{rose_before}
use Rattle.tree_shape.specs.declared.entry.LeafEntry.{LeafEntry}
use Rattle.tree_shape.specs.declared.entry.Node.{Node}
use Rattle.tree_shape.specs.declared.live.Live.{Live}
use Rattle.tree_shape.specs.Tree.{Nodes, leaf_entries, point_of, tag_of}
use Rattle.tree_shape.proofs.Published.{point_of-in}
use Rattle.page_store.specs.declared.pages.PageFault.TheVariants as page
use Rattle.page_store.specs.Reading.{Read, nodes_of, node_or_none}
use Rattle.page_store.specs.Shelf.{Shelf, HoldsSame, IsNodeOf}
use Rattle.page_store.proofs.Published.{tag_of-in}
use Rattle.job_dump.specs.declared.fault.DumpFault.{DumpFault}
use Rattle.job_dump.specs.declared.fault.DumpFault.TheVariants as dump
use Rattle.job_dump.specs.Causes.{HasCause, IsPassing}
use Rattle.job_dump.specs.Places.{ArePlaces, entry_at}
use Rattle.job_dump.specs.Rows.{objects_on, row_of}
use Rattle.job_dump.specs.Writing.{HasReadCause, IsRowOf}
use Rattle.job_dump.proofs.Noting.{due_once}

some_same : (x y : LeafEntry) → Some x ≡ Some y → x ≡ y
some_same x y e = cc e

-- the row of the entry that stands at an id's place
row_is : (nodes : Nodes) (live : Live) (numbers : List ℕ) (id : ℕ) (e : LeafEntry) (are : ArePlaces nodes live numbers) → id < live.count → entry_at nodes (slice_index numbers id) ≡ Some e →
    (e.tag, e.point) ≡ row_of (objects_on nodes are.pages) id
row_is nodes live numbers id e are low stands =
    let there = are.stand id low in
    let same : there.entry ≡ e = some_same there.entry e (sym there.stands ∙ stands) in
    let os : List LeafEntry = objects_on nodes are.pages in
    let once = are.once there.entry.id in
    let few = due_once live.count there.entry.id in
    let tag : e.tag ≡ tag_of id os =
    ap (λ (x : LeafEntry). x.tag) (sym same) ∙ sym (tag_of-in os there.entry there.among (omega arith)) ∙ ap (λ (k : ℕ). tag_of k os) there.id_is in
    let point : e.point ≡ point_of id os =
    ap (λ (x : LeafEntry). x.point) (sym same) ∙ sym (point_of-in os there.entry there.among (omega arith)) ∙ ap (λ (k : ℕ). point_of k os) there.id_is in
    λ i. (tag i, point i)

module _ (shelf : Shelf) (numbers : List ℕ) (id leaf number : ℕ) (page_is : leaf ≡ slice_index numbers id / 32) (number_is : number ≡ slice_index numbers id % 32) where
  -- the entry of a page's node
  entry_is : (node : Node) → IsNodeOf shelf leaf node → IsTrue shelf.is_known → entry_at (nodes_of shelf.read) (slice_index numbers id) ≡ slice_get (leaf_entries (Some node)) number
  entry_is node is is_known =
      ap (λ (p : ℕ). slice_get (leaf_entries (nodes_of shelf.read p)) (slice_index numbers id % 32)) (sym page_is)
      ∙ ap (λ (o : Option Node). slice_get (leaf_entries o) (slice_index numbers id % 32)) (ap node_or_none (is.told is_known))
      ∙ ap (slice_get (leaf_entries (Some node))) (sym number_is)

  -- the row of an entry that was read
  pub row_read : (node : Node) (e : LeafEntry) → IsNodeOf shelf leaf node → slice_get (leaf_entries (Some node)) number ≡ Some e → (live : Live) → id < live.count → IsRowOf shelf live numbers id (e.tag, e.point)
  row_read node e is there live low is_known are = row_is (nodes_of shelf.read) live numbers id e are low (entry_is node is is_known ∙ there)

-- ---- over pages that hold what they held

module _ (old now : Shelf) (same : HoldsSame old now) (live : Live) (numbers : List ℕ) where
  pub row_before : (id : ℕ) (row : ℕ × List ℕ) → IsRowOf now live numbers id row → IsRowOf old live numbers id row
  row_before id row is is_known =
      subst (λ (read : Read). (are : ArePlaces (nodes_of read) live numbers) → row ≡ row_of (objects_on (nodes_of read) are.pages) id) same.read (is (rw same.is_known is_known))

  -- why an object was not read again
  module _ (new : Shelf) (out0 out1 : SinkState) (are : IsTrue old.is_known → ArePlaces (nodes_of old.read) live numbers) where
    never : {P : Type 0} → (IsTrue now.is_known → ¬ ArePlaces (nodes_of now.read) live numbers) → IsTrue old.is_known → P
    never lost is_known = absurd (lost (rw same.is_known is_known) (subst (λ (read : Read). ArePlaces (nodes_of read) live numbers) (sym same.read) (are is_known)))

    pub later_cause : (fault : DumpFault) → HasReadCause live numbers now new fault → HasCause live old new fault × (IsTrue old.is_known → (IsPassing fault → ⊥) → out1 ≡ out0)
    later_cause (dump.Page page.Disk) cause = (rose_before old.faults now.faults new.faults same.faults cause, λ is_known stays. absurd (stays tt))
    later_cause (dump.Page page.Memory) cause = (tt, λ is_known stays. absurd (stays tt))
    later_cause (dump.Page (page.Bad p f)) cause = (never cause, λ is_known stays. never cause is_known)
    later_cause (dump.Page (page.Outside p)) cause = (never cause, λ is_known stays. never cause is_known)
    later_cause (dump.Page (page.Repeats p)) cause = (never cause, λ is_known stays. never cause is_known)
    later_cause (dump.Page (page.Level p)) cause = (never cause, λ is_known stays. never cause is_known)
    later_cause (dump.Id id) cause = (never cause, λ is_known stays. never cause is_known)
