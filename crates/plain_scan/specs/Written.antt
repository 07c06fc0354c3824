-- What a run of commands writes: the texts of its replies, one after another.
use Rattle.std.specs.Prelude.{◌≡◌, ℕ, Bool, Option, Result, Ok, Err, List, [], ◌∷◌, ◌++◌, map}
use Rattle.std.specs.List.{concat}
use Rattle.std.specs.Io.KnownBytes.{Appends, Keeps}
use Rattle.outside_io.specs.Bytes.{AppendsPrefix}
use Rattle.rows_text.specs.declared.command.Command.{Command}
use Rattle.rows_text.specs.Meaning.{Setting, nothing_yet, replies}
use Rattle.rows_text.specs.Texts.{text}
use Rattle.plain_scan.specs.declared.session.ScanStop.{ScanStop}
use Rattle.plain_scan.specs.declared.session.ScanStop.TheVariants as stop

-- the texts of the replies to commands on an empty list
abbrev pub reply_texts : Setting → Bool → List Command → List (List ℕ)
reply_texts setting show commands = map (text show) (replies setting nothing_yet commands)

-- some bytes stand at the front of a text
abbrev pub IsFrontOf : List ℕ → List ℕ → Type 0
IsFrontOf bytes whole = (others : List ℕ) × (whole ≡ bytes ++ others)

-- the first of some texts, and nothing where there is none
abbrev pub first_text : List (List ℕ) → List ℕ
first_text [] = []
first_text (t ∷ texts) = t

-- what a put of a text did, or that memory ran out
abbrev pub Puts : Option (List ℕ) → Option (List ℕ) → List ℕ → Result (Unit {0}) ScanStop → Type 0
Puts old new text (Ok done) = Appends old new text
Puts old new text (Err stop.Memory) = Keeps old new
Puts old new text (Err stop.Sink) = AppendsPrefix old new text

-- what stands after the acknowledged replies when a run ends, where `more` are the texts of the others
abbrev pub Follows : Result (Unit {0}) ScanStop → List (List ℕ) → List ℕ → Type 0
Follows (Ok done) more rest = (more ≡ []) × (rest ≡ [])
Follows (Err stop.Memory) more rest = rest ≡ []
Follows (Err stop.Sink) more rest = IsFrontOf rest (first_text more)

-- the first of `texts` are written, each whole, and then what follows them
pub record Writes (old new : Option (List ℕ)) (texts : List (List ℕ)) (result : Result (Unit {0}) ScanStop) : Type 0 where
  pub acknowledged : List (List ℕ)
  pub more : List (List ℕ)
  pub rest : List ℕ
  pub whole : texts ≡ acknowledged ++ more
  pub follows : Follows result more rest
  pub written : Appends old new (concat acknowledged ++ rest)

-- the first of `texts` are written, each whole, and `more` are to come
pub record HasWritten (old new : Option (List ℕ)) (texts more : List (List ℕ)) : Type 0 where
  pub acknowledged : List (List ℕ)
  pub whole : texts ≡ acknowledged ++ more
  pub written : Appends old new (concat acknowledged)
