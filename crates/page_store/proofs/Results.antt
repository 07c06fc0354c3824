-- What is known after a call that did not fail.
use Rattle.std.specs.Prelude.{◌≡◌, false, Result, Ok, Err, OnOk, is_err}

pub holds_at_ok : {T E P : Type 0} (r : Result T E) → is_err r ≡ false → OnOk r P → P
holds_at_ok (Ok v) is held = held
holds_at_ok (Err e) is held = absurd cc
