-- Versions of heads.
use Rattle.std.specs.Prelude.{◌≡◌, ◌≢◌, ℕ, IsTrue}
use Rattle.std.proofs.Common.{arith}
use Rattle.node_page.specs.Heads.{is_version}

-- a valid version that isn't the second is the first
pub is_first : (version : ℕ) → IsTrue (is_version version) → version ≢ 2 → version ≡ 1
unfolding is_version
is_first version is other = grind (arith)
