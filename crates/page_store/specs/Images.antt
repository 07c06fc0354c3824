-- Files in memory: all bytes together, or in parts.
use Rattle.std.specs.Prelude.{ℕ, List}
use Rattle.page_store.specs.declared.image.Image.{Image}
use Rattle.page_store.specs.declared.image.Image.TheVariants.{Whole, InParts}

-- the bytes of a file
abbrev pub bytes_in : Image → List ℕ
bytes_in (Whole bytes) = bytes.now
bytes_in (InParts parts) = parts.now
