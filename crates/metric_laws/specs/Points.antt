-- Where the coordinates of a point stand.
use Rattle.std.specs.Prelude.{ℕ, List, take, drop}
use Rattle.std.specs.Arc.{arc_slice_items}
use Rattle.metric_laws.specs.declared.point.Place.{Place}
use Rattle.metric_laws.specs.declared.point.Place.TheVariants.{Own, Shared}

-- the coordinates of a point: its own, or a part of numbers that it shares
abbrev pub coordinates_in : Place → List ℕ
coordinates_in (Own coordinates) = coordinates.items
coordinates_in (Shared part) = take part.len (drop part.start (arc_slice_items part.numbers))
