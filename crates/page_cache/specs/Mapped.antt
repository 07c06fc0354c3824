-- Pages behind a direct-mapped cache.
use Rattle.std.specs.Prelude.{ℕ}
use Rattle.page_cache.specs.Lines.{Lines}

-- the pages behind the cache, its lines, and how often a page was asked for here
pub record Mapped (Inner : Type 0) : Type 0 where
  pub inner : Inner
  pub lines : Lines
  pub asked : ℕ
