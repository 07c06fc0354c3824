-- What every command of a script has, whatever its text.
use Rattle.std.specs.Prelude.{◌≡◌, ℕ, ◌≤◌, ◌<◌, length}
use Rattle.rows_text.specs.declared.command.Command.{Command}
use Rattle.rows_text.specs.declared.command.Command.TheVariants.{Insert, Load, Range, Nearest, Count, Bad, TagInsert, TagLoad, Cursor, Next, Close}

-- points have `dimension` coordinates, counts are at least 1, a load has a row, and each row of a tload a tag
abbrev pub IsReadable : ℕ → Command → Type 0
IsReadable dimension (Insert p) = length p ≡ dimension
IsReadable dimension (TagInsert tag p) = length p ≡ dimension
IsReadable dimension (Load rows) = (rows.dimension ≡ dimension) × (0 < length rows.points)
IsReadable dimension (TagLoad tags rows) = (rows.dimension ≡ dimension) × (0 < length rows.points) × (length tags ≡ length rows.points)
IsReadable dimension (Range r q) = length q ≡ dimension
IsReadable dimension (Nearest k q) = (length q ≡ dimension) × (1 ≤ k)
IsReadable dimension Count = Unit {0}
IsReadable dimension (Bad why) = Unit {0}
IsReadable dimension (Cursor q) = length q ≡ dimension
IsReadable dimension (Next cursor n) = 1 ≤ n
IsReadable dimension (Close cursor) = Unit {0}
