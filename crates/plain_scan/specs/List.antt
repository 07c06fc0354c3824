-- A plain list as the meaning of commands sees it.
use Rattle.std.specs.Prelude.{◌≡◌, ℕ, ◌≤◌, length, All, IsTrue}
use Rattle.metric_laws.specs.Space.{Space}
use Rattle.rows_text.specs.Meaning.{State}
use Rattle.plain_scan.specs.OpenCursors.{with_cursors}
use Rattle.plain_scan.specs.declared.list.PlainList.{PlainList}

-- the objects and cursors of a list
abbrev pub state_of : PlainList → State
state_of list = with_cursors (record { points = list.rows.points; tags = list.tags.items }) list.cursors

-- a list of points of a space, no more than the limit, each with a tag
pub record IsListOf (s : Space) (limit : ℕ) (list : PlainList) : Type 0 where
  pub dimension : list.rows.dimension ≡ s.dimension
  pub points : All (λ p. IsTrue (s.is_point p)) list.rows.points
  pub few : length list.rows.points ≤ limit
  pub tagged : length list.tags.items ≡ length list.rows.points
