-- What a sink means.
use Rattle.std.specs.Prelude.{◌⊎◌, ℕ, List, Option}
use Rattle.std.specs.Io.KnownBytes.{Appends}
use Rattle.outside_io.specs.Bytes.{AppendsPrefix}
use Rattle.outside_io.specs.Causes.{Rose}

-- the bytes that the sink was given, where it tells them, and how often it failed
pub record SinkState : Type 0 where
  pub written : Option (List ℕ)
  pub faults : ℕ

-- a line was put, or a front of it where the sink failed
abbrev pub Tells : SinkState → SinkState → List ℕ → Type 0
Tells old new line = Appends old.written new.written line ⊎ (AppendsPrefix old.written new.written line × Rose old.faults new.faults)
