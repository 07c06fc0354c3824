-- What was put of a reply and of its log where an output failed.
use Rattle.std.specs.Prelude.{◌≡◌, ◌⊎◌, ℕ, List, []}
use Rattle.std.specs.Io.KnownBytes.{Appends}
use Rattle.outside_io.specs.Bytes.{AppendsPrefix}
use Rattle.outside_io.specs.Sinks.{SinkState}
use Rattle.plain_scan.specs.Written.{IsFrontOf}

-- what was put of a reply with a given text and a log with a given frame: a front of the frame, or the frame and a front of the text
abbrev pub IsCut : SinkState → SinkState → SinkState → SinkState → List ℕ → List ℕ → Type 0
IsCut out0 out1 log0 log1 reply frame =
    ((out1 ≡ out0) × AppendsPrefix log0.written log1.written frame) ⊎ (AppendsPrefix out0.written out1.written reply × Appends log0.written log1.written frame)

-- the bytes that were put then on either output
abbrev pub AreCut : List ℕ → List ℕ → List ℕ → List ℕ → Type 0
AreCut reply frame rest log_rest = ((rest ≡ []) × IsFrontOf log_rest frame) ⊎ (IsFrontOf rest reply × (log_rest ≡ frame))
