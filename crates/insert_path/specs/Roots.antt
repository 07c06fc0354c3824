-- Why there is no new root.
use Rattle.std.specs.Prelude.{◌≡◌, true}
use Rattle.tree_shape.specs.declared.live.Live.{Live}
use Rattle.page_store.specs.declared.pages.PageFault.TheVariants.{Level}
use Rattle.insert_path.specs.declared.faults.PlaceFault.{PlaceFault}
use Rattle.insert_path.specs.declared.faults.PlaceFault.TheVariants.{Page, Full, NoRoom, Worn, Memory}
use Rattle.insert_path.specs.declared.grew.Grew.{Grew}
use Rattle.insert_path.specs.Descent.{is_two}

-- a root of height 14 would have to be split, or memory ran out
abbrev pub HasRootCause : Live → Grew → PlaceFault → Type 0
HasRootCause t g (Page fault) = (fault ≡ Level t.root) × (t.height ≡ 14) × (is_two g ≡ true)
HasRootCause t g Full = ⊥
HasRootCause t g (NoRoom pages needed) = ⊥
HasRootCause t g Worn = ⊥
HasRootCause t g Memory = Unit {0}
