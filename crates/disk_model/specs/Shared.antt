-- Several readers of one file.
use Rattle.std.specs.Prelude.{◌≡◌, IsTrue}
use Rattle.disk_model.specs.Disk.{DiskState}

-- a second reader of a file: where `disk` tells its bytes, `reader` tells the same bytes
abbrev pub ReadsSame : DiskState → DiskState → Type 0
ReadsSame disk reader = IsTrue disk.is_known → IsTrue reader.is_known × (reader.bytes ≡ disk.bytes)
