-- The pairs that entries of opened nodes make.
use Rattle.std.specs.Prelude.{◌≡◌, [], ◌∷◌, ◌++◌}
use Rattle.log_model.specs.declared.pairs.JoinNeed.{JoinNeed}
use Rattle.log_model.specs.declared.matching.Matches.{Matches}
use Rattle.log_model.specs.JoinSteps.{hits_among, needs_among}

-- a pair was added: to the answers, or to the pairs still needed
pub record AddsPair (pair : JoinNeed) (old new : Matches) : Type 0 where
  pub hits : new.hits.items ≡ old.hits.items ++ hits_among (pair ∷ [])
  pub needs : new.needs.items ≡ old.needs.items ++ needs_among (pair ∷ [])
