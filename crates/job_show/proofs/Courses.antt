-- A walk by child numbers that stops at damage is not whole.
use Rattle.std.proofs.Common.{◌≡◌, ℕ, Some, None, Err, ap, arith}
use Rattle.std.specs.Prelude.{IsTrue}
use Rattle.tree_shape.specs.declared.live.Live.{Live}
use Rattle.page_store.specs.declared.pages.PageFault.{PageFault}
use Rattle.page_store.specs.declared.pages.PageFault.TheVariants.{Disk, Bad, Outside, Memory, Repeats, Level}
use Rattle.page_store.specs.Laws.{TourHasOneCourse}
use Rattle.page_store.specs.Reading.{nodes_of, node_or_none}
use Rattle.page_store.specs.Shelf.{Shelf, IsPassing}
use Rattle.page_store.specs.Tours.{HasTourCause, IsToured, NamesInside}

module _ (one_course : TourHasOneCourse) (live : Live) (old new : Shelf) (is_known : IsTrue old.is_known) (toured : IsToured (nodes_of old.read) live) where
  no_node : (page : ℕ) (fault : PageFault) → (old.read page ≡ Err fault) × NamesInside (nodes_of old.read) live page → ⊥
  no_node page fault why =
      let there = ((one_course (nodes_of old.read) live.root why.1.0 page why.1.2).1 live.pages toured).1 in
      let some : nodes_of old.read page ≡ Some there.0 = there.1 in
      let none : nodes_of old.read page ≡ None = ap node_or_none why.0 in
      cc

  pub untoured : (fault : PageFault) → HasTourCause live old new fault → (IsPassing fault → ⊥) → ⊥
  untoured Disk cause not_passing = not_passing tt
  untoured Memory cause not_passing = not_passing tt
  untoured (Bad page fault) cause not_passing = no_node page (Bad page fault) (cause.1 is_known)
  untoured (Outside page) cause not_passing = no_node page (Outside page) (cause.1 is_known)
  untoured (Repeats page) cause not_passing =
      let low = ((one_course (nodes_of old.read) live.root live.pages page (cause.1 is_known)).1 live.pages toured).0 in
      omega (arith, low)
  untoured (Level page) cause not_passing = cause
