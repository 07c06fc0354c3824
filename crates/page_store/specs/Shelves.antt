-- What the two kinds of pages mean.
use Rattle.std.specs.Prelude.{ℕ, true, List}
use Rattle.disk_model.specs.Disk.{DiskState}
use Rattle.node_page.specs.declared.node.Version.{Version}
use Rattle.page_store.specs.Reading.{reading, reading_in}
use Rattle.page_store.specs.Shelf.{Shelf}

-- the pages of bytes in memory, which always tell
abbrev pub image_shelf : ℕ → ℕ → List ℕ → ℕ → Shelf
image_shelf dim pages file asked = record { dim = dim; pages = pages; is_known = true; read = reading dim pages file; asked = asked; reads = 0; faults = 0 }

-- the pages of a file of a version on a disk
abbrev pub disk_shelf : Version → ℕ → ℕ → DiskState → ℕ → Shelf
disk_shelf version dim pages disk asked = record {
  dim = dim;
  pages = pages;
  is_known = disk.is_known;
  read = reading_in version dim pages disk.bytes;
  asked = asked;
  reads = disk.reads;
  faults = disk.faults;
}
