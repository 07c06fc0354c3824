-- The walk that notes the places of a tree's objects.
use Rattle.std.proofs.Common.{◌≡◌, ℕ, ◌<◌, List, [], ◌∷◌, ◌++◌, Some, length, refl, sym, ap, ◌∙◌, subst, inl, inr}
use Rattle.std.specs.Prelude.{IsTrue, slice_index}
use Rattle.tree_shape.specs.declared.entry.LeafEntry.{LeafEntry}
use Rattle.tree_shape.specs.declared.entry.Node.{Node}
use Rattle.tree_shape.specs.declared.live.Live.{Live}
use Rattle.tree_shape.specs.Tree.{Nodes, leaf_entries}
use Rattle.page_store.specs.declared.pages.PageFault.{PageFault}
use Rattle.page_store.specs.declared.pages.PageFault.TheVariants as page
use Rattle.page_store.specs.Laws.{SoundTreesAreToured}
use Rattle.page_store.specs.Reading.{nodes_of}
use Rattle.page_store.specs.Shelf.{Shelf}
use Rattle.page_store.specs.Tours.{Tours, HasTourCause}
use Rattle.page_store.proofs.Published.{tour_passes}
use Rattle.job_dump.specs.declared.fault.DumpFault.TheVariants as dump
use Rattle.job_dump.specs.Causes.{HasCause}
use Rattle.job_dump.specs.Places.{IsNoted, Notes}
use Rattle.job_dump.specs.Rows.{IsOutOfPlace, due, objects_on, times_among}
use Rattle.job_dump.proofs.Noting.{one_missing}
use Rattle.job_dump.proofs.Whole.{in_place, objects_more}

-- the objects of one more node are noted
pub notes_more : (nodes : Nodes) (numbers opened : List ℕ) (page : ℕ) (node : Node) → nodes page ≡ Some node → Notes nodes numbers (objects_on nodes opened ++ leaf_entries (Some node)) →
    Notes nodes numbers (objects_on nodes (opened ++ page ∷ []))
notes_more nodes numbers opened page node is notes =
    subst (Notes nodes numbers) (ap (λ o. objects_on nodes opened ++ leaf_entries o) (sym is) ∙ sym (objects_more nodes opened page)) notes

-- the walk stops at a page
pub page_cause : (live : Live) (old new : Shelf) (fault : PageFault) → HasTourCause live old new fault → HasCause live old new (dump.Page fault)
page_cause live old new page.Disk cause = cause
page_cause live old new page.Memory cause = tt
page_cause live old new (page.Bad p f) cause = λ is_known. record { is = cause.1 is_known; unsound = λ s sound. tour_passes s live old new (page.Bad p f) cause is_known sound }
page_cause live old new (page.Outside p) cause = λ is_known. record { is = cause.1 is_known; unsound = λ s sound. tour_passes s live old new (page.Outside p) cause is_known sound }
page_cause live old new (page.Repeats p) cause = λ is_known. record { is = cause.1 is_known; unsound = λ s sound. tour_passes s live old new (page.Repeats p) cause is_known sound }
page_cause live old new (page.Level p) cause = absurd cause

module _ (toured : SoundTreesAreToured) (live : Live) (old new : Shelf) (numbers : List ℕ) (long : length numbers ≡ live.count) where
  -- an object of the page that was opened last is one too many
  pub many_cause : (opened left : List ℕ) (page : ℕ) (node : Node) (id : ℕ) → (IsTrue old.is_known → nodes_of old.read page ≡ Some node) →
      (IsTrue old.is_known → Tours (nodes_of old.read) (live.root ∷ []) (opened ++ page ∷ []) left) →
      (IsTrue old.is_known → due (length numbers) id < times_among (objects_on (nodes_of old.read) opened ++ leaf_entries (Some node)) id) → HasCause live old new (dump.Id id)
  many_cause opened left page node id is walk many = λ is_known.
      let met : objects_on (nodes_of old.read) opened ++ leaf_entries (Some node) ≡ objects_on (nodes_of old.read) (opened ++ page ∷ []) =
      ap (λ o. objects_on (nodes_of old.read) opened ++ leaf_entries o) (sym (is is_known)) ∙ sym (objects_more (nodes_of old.read) opened page) in
      let wrong = subst (λ (n : ℕ). due n id < times_among (objects_on (nodes_of old.read) (opened ++ page ∷ [])) id) long
      (subst (λ (os : List LeafEntry). due (length numbers) id < times_among os id) met (many is_known)) in
      let out : IsOutOfPlace (nodes_of old.read) live id = record { pages = opened ++ page ∷ []; left = left; walk = walk is_known; wrong = inl wrong } in
      record { is = out; unsound = λ s sound. in_place (nodes_of old.read) s toured live id sound out }

  -- an object was not met
  pub missing_cause : (id : ℕ) → (IsTrue old.is_known → IsNoted (nodes_of old.read) live numbers) → id < length numbers → slice_index numbers id ≡ 0 → HasCause live old new (dump.Id id)
  missing_cause id noted low none = λ is_known.
      let n = noted is_known in
      let less = one_missing (nodes_of old.read) numbers (objects_on (nodes_of old.read) n.pages) id n.notes low none in
      let wrong = subst (λ (k : ℕ). times_among (objects_on (nodes_of old.read) n.pages) id < due k id) long less in
      let out : IsOutOfPlace (nodes_of old.read) live id = record { pages = n.pages; left = []; walk = n.walk; wrong = inr (refl, wrong) } in
      record { is = out; unsound = λ s sound. in_place (nodes_of old.read) s toured live id sound out }
