-- How a record represents its state.
use Rattle.std.specs.Prelude.{◌≡◌, ◌+◌, ◌-◌, ◌≤◌, length, vec_capacity}
use Rattle.disk_model.specs.declared.record.Record.TheInside.{Inside}
use Rattle.disk_model.specs.Memory.Record.{past_of, total}
use Rattle.disk_model.specs.Memory.Model.{Recorded}

abbrev pub recorded : Inside → Recorded
recorded r = record {
  past = past_of r.entries.items r.bytes.items;
  left = r.units - (length r.entries.items + length r.bytes.items);
}

-- the bytes are those of the entries, and memory for all units is reserved
pub record IsRecord (r : Inside) : Type 0 where
  pub whole : total r.entries.items ≡ length r.bytes.items
  pub entry_room : r.units ≤ vec_capacity r.entries
  pub byte_room : r.units ≤ vec_capacity r.bytes
  pub used : length r.entries.items + length r.bytes.items ≤ r.units
