-- Two different byte strings with one SHA-256 digest.
use Rattle.std.specs.Prelude.{◌≡◌, ◌≢◌, ℕ, List}
use Rattle.sha2.specs.Sha256.{sha256}
use Rattle.metric_laws.specs.Lists.{IsIn}

-- one of each list
pub record Collide (ones others : List (List ℕ)) : Type 0 where
  pub one : List ℕ
  pub other : List ℕ
  pub one_in : IsIn one ones
  pub other_in : IsIn other others
  pub differ : one ≢ other
  pub same : sha256 one ≡ sha256 other
