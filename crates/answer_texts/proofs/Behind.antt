-- What stands on the outputs after what was put whole.
use Rattle.std.proofs.Common.{◌≡◌, ◌⊎◌, ℕ, List, [], ◌∷◌, ◌++◌, inl, inr, refl, sym, ap, ◌∙◌, append_assoc, Option}
use Rattle.std.specs.Io.KnownBytes.{Appends}
use Rattle.std.proofs.KnownBytes.{Appends-trans}
use Rattle.std.proofs.lemmas.List.{append-nil}
use Rattle.outside_io.specs.Bytes.{AppendsPrefix}
use Rattle.outside_io.specs.Sinks.{SinkState}
use Rattle.plain_scan.proofs.Published.{front_appended}
use Rattle.log_model.specs.declared.logs.Log.{Log}
use Rattle.prune_log.specs.Spelling.{frame_bytes, log_bytes}
use Rattle.answer_texts.specs.Answered.{framed}
use Rattle.answer_texts.specs.Ending.{IsTold}
use Rattle.answer_texts.specs.Put.{AreCut, IsCut}

-- the frames of logs, one list after the other
pub framed_both : (first second : List Log) → framed (first ++ second) ≡ framed first ++ framed second
framed_both [] second = refl
framed_both (log ∷ first) second = ap (λ (l : List ℕ). frame_bytes (log_bytes log) ++ l) (framed_both first second) ∙ sym (append_assoc (frame_bytes (log_bytes log)) (framed first) (framed second))

-- a line behind what was put
pub told_behind : (w0 w1 w2 : Option (List ℕ)) (Failed : Type 0) (bs line : List ℕ) → Appends w0 w1 bs → Appends w1 w2 line ⊎ (AppendsPrefix w1 w2 line × Failed) →
    (rest : List ℕ) × IsTold Failed rest line × Appends w0 w2 (bs ++ rest)
told_behind w0 w1 w2 Failed bs line is (inl whole) = (line, inl refl, Appends-trans w0 w1 w2 bs line is whole)
told_behind w0 w1 w2 Failed bs line is (inr cut) = let part = front_appended w0 w1 w2 bs line is cut.0 in (part.0, inr (part.1, cut.1), part.2)

-- a reply and its log, cut after the given texts and frames
pub record Behind (texts frames reply frame : List ℕ) (out0 out2 log0 log2 : SinkState) : Type 0 where
  pub rest : List ℕ
  pub log_rest : List ℕ
  pub cut : AreCut reply frame rest log_rest
  pub written : Appends out0.written out2.written (texts ++ rest)
  pub logged : Appends log0.written log2.written (frames ++ log_rest)

pub cut_behind : (texts frames reply frame : List ℕ) (out0 out1 out2 log0 log1 log2 : SinkState) → Appends out0.written out1.written texts → Appends log0.written log1.written frames →
    IsCut out1 out2 log1 log2 reply frame → Behind texts frames reply frame out0 out2 log0 log2
cut_behind texts frames reply frame out0 out1 out2 log0 log1 log2 written logged (inl part) =
    let front = front_appended log0.written log1.written log2.written frames frame logged part.1 in
    record {
      rest = [];
      log_rest = front.0;
      cut = inl (refl, front.1);
      written = rw (part.0, append-nil texts) written;
      logged = front.2;
    }
cut_behind texts frames reply frame out0 out1 out2 log0 log1 log2 written logged (inr part) =
    let front = front_appended out0.written out1.written out2.written texts reply written part.0 in
    record {
      rest = front.0;
      log_rest = frame;
      cut = inr (front.1, refl);
      written = front.2;
      logged = Appends-trans log0.written log1.written log2.written _ _ logged part.1;
    }
