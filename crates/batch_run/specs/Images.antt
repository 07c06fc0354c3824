-- Files in memory.
use Rattle.std.specs.Prelude.{◌≡◌, ℕ, ◌+◌, ◌-◌, ◌*◌, ◌<◌, min, List, length, slice_index, IsTrue}
use Rattle.disk_model.specs.Disk.{DiskState}
use Rattle.outside_io.specs.Causes.{Rose}
use Rattle.page_store.specs.Reading.{reading}
use Rattle.batch_run.specs.declared.images.ImageFault.{ImageFault}
use Rattle.batch_run.specs.declared.images.ImageFault.TheVariants as fault

-- the first `pages` pages of a file; past its end the bytes are 0
pub record IsImageOf (pages : ℕ) (file image : List ℕ) : Type 0 where
  pub size : length image ≡ pages * 4096
  pub bytes : (i : ℕ) → i < pages * 4096 → slice_index image i ≡ slice_index file i

-- `bytes` are bytes of a file, from the start of page `page` on
abbrev pub HasBytes : List ℕ → ℕ → List ℕ → Type 0
HasBytes file page bytes = (i : ℕ) → i < length bytes → slice_index bytes i ≡ slice_index file (4096 * page + i)

-- The part of a file from page `from` on was read: it has `part_pages` pages, or as many as are left.
pub record IsPartRead (disk : DiskState) (part_pages pages from : ℕ) (bytes : List ℕ) : Type 0 where
  pub size : length bytes ≡ 4096 * min part_pages (pages - from)
  pub told : IsTrue disk.is_known → HasBytes disk.bytes from bytes

-- why a file was not read into memory: there are more than 2^18 pages; the disk failed; or memory ran out
abbrev pub HasImageCause : ℕ → ℕ → ℕ → ImageFault → Type 0
HasImageCause pages before now fault.TooLong = 262144 < pages
HasImageCause pages before now fault.Disk = Rose before now
HasImageCause pages before now fault.Memory = Unit {0}

-- the image of `pages` pages holds in each of them what the file holds
abbrev pub ImagesHoldTheFile : Type 0
ImagesHoldTheFile = (dim pages : ℕ) (file image : List ℕ) → IsImageOf pages file image → reading dim pages image ≡ reading dim pages file
