-- What a put told.
use Rattle.std.proofs.Common.{◌⊎◌, inl, inr, Result, Ok, Err, OnOk, OnErr}

pub told : {T E Whole Front Cause : Type 0} (result : Result T E) → OnOk result Whole → OnErr result Front → OnErr result Cause → Whole ⊎ (Front × Cause)
told (Ok done) whole front cause = inl whole
told (Err why) whole front cause = inr (front, cause)
