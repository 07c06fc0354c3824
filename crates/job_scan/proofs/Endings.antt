-- What a scan writes, by its status.
use Rattle.std.proofs.Common.{◌≡◌, ◌⊎◌, inl, inr, ⊎_elim, ◌≤◌, ℕ, List, [], ◌++◌, Option, Some, None, Err, refl, sym, ◌∙◌, ap, subst, arith}
use Rattle.std.specs.Prelude.{codes}
use Rattle.std.specs.List.{concat}
use Rattle.std.specs.Io.KnownBytes.{Appends}
use Rattle.std.proofs.KnownBytes.{Appends-nil}
use Rattle.std.proofs.lemmas.List.{append-nil}
use Rattle.outside_io.specs.Bytes.{AppendsPrefix}
use Rattle.outside_io.specs.Causes.{Rose}
use Rattle.outside_io.specs.Sinks.{SinkState, Tells}
use Rattle.job_words.specs.Names.{kind_of}
use Rattle.metric_mix.specs.MixSpaces.{mix_space}
use Rattle.plain_scan.specs.declared.session.ScanStop.TheVariants as stop
use Rattle.plain_scan.specs.Written.{Writes, reply_texts}
use Rattle.rows_text.specs.Script.{script}
use Rattle.answer_texts.specs.Ending.{IsTold}
use Rattle.answer_texts.proofs.Published.{told_behind}
use Rattle.job_scan.specs.Jobs.{Asked, WritesScan, Ends, scan_texts}
use Rattle.outside_io.proofs.Published.{rose_before}

-- faults

pub fault_writes : (w0 w1 : SinkState) (texts : List (List ℕ)) (status : ℕ) (line : List ℕ) → Tells w0 w1 line →
    ((rest : List ℕ) → IsTold (Rose w0.faults w1.faults) rest line → Ends (Rose w0.faults w1.faults) status [] texts rest) → WritesScan w0 w1 texts status
fault_writes w0 w1 texts status line told ends =
    let part = told_behind w0.written w0.written w1.written (Rose w0.faults w1.faults) [] line (Appends-nil w0.written) told in
    record { acknowledged = []; more = texts; rest = part.0; whole = refl; ends = ends part.0 part.1; written = part.2 }

module _ (Failed : Type 0) where
  pub input_ends : (status : ℕ) (texts : List (List ℕ)) (rest : List ℕ) → status ≡ 3 → IsTold Failed rest (codes "fault input\n") → Ends Failed status [] texts rest
  input_ends status texts rest is line = record {
    done = λ other. absurd (omega arith);
    input = λ _. (refl, line);
    output = λ other. absurd (omega arith);
    long = λ other. absurd (omega arith);
    memory = λ other. absurd (omega arith);
  }

  pub long_ends : (status : ℕ) (texts : List (List ℕ)) (rest : List ℕ) → status ≡ 7 → IsTold Failed rest (codes "fault long\n") → Ends Failed status [] texts rest
  long_ends status texts rest is line = record {
    done = λ other. absurd (omega arith);
    input = λ other. absurd (omega arith);
    output = λ other. absurd (omega arith);
    long = λ _. (refl, line);
    memory = λ other. absurd (omega arith);
  }

  pub memory_ends : (status : ℕ) (acknowledged texts : List (List ℕ)) (rest : List ℕ) → status ≡ 8 → IsTold Failed rest (codes "fault memory\n") →
      Ends Failed status acknowledged texts rest
  memory_ends status acknowledged texts rest is line = record {
    done = λ other. absurd (omega arith);
    input = λ other. absurd (omega arith);
    output = λ other. absurd (omega arith);
    long = λ other. absurd (omega arith);
    memory = λ _. line;
  }

-- the script was not read, for one of the three reasons
pub unread_writes : {A B C : Type 0} → (w0 w1 : SinkState) (texts : List (List ℕ)) (status : ℕ) → (status ≡ 3 → A × Tells w0 w1 (codes "fault input\n")) → (status ≡ 7 → B × Tells w0 w1 (codes "fault long\n"))
    → (status ≡ 8 → C × Tells w0 w1 (codes "fault memory\n")) → (status ≡ 3) ⊎ ((status ≡ 7) ⊎ (status ≡ 8))
    → WritesScan w0 w1 texts status
unread_writes w0 w1 texts status input long memory statuses =
    ⊎_elim (λ is. fault_writes w0 w1 texts status _ (input is).1 (λ rest line. input_ends _ status texts rest is line))
    (λ others. ⊎_elim (λ is. fault_writes w0 w1 texts status _ (long is).1 (λ rest line. long_ends _ status texts rest is line))
    (λ is. fault_writes w0 w1 texts status _ (memory is).1 (λ rest line. memory_ends _ status [] texts rest is line)) others) statuses

-- the line of a memory fault after some replies
pub stopped : (w0 w1 w2 : SinkState) (texts : List (List ℕ)) (status : ℕ) → status ≡ 8 → w0.faults ≤ w1.faults →
    Writes w0.written w1.written texts (Err stop.Memory) → Tells w1 w2 (codes "fault memory\n") → WritesScan w0 w2 texts status
stopped w0 w1 w2 texts status is later wrote line =
    let Failed : Type 0 = Rose w0.faults w2.faults in
    let told : Appends w1.written w2.written (codes "fault memory\n") ⊎ (AppendsPrefix w1.written w2.written (codes "fault memory\n") × Failed) =
    ⊎_elim (λ whole. inl whole) (λ cut. inr (cut.0, rose_before w0.faults w1.faults w2.faults later cut.1)) line in
    let nothing : concat wrote.acknowledged ++ wrote.rest ≡ concat wrote.acknowledged = ap (λ (l : List ℕ). concat wrote.acknowledged ++ l) wrote.follows ∙ append-nil (concat wrote.acknowledged) in
    let part = told_behind w0.written w1.written w2.written Failed (concat wrote.acknowledged) (codes "fault memory\n") (rw nothing at wrote.written) told in
    record { acknowledged = wrote.acknowledged; more = wrote.more; rest = part.0; whole = wrote.whole; ends = memory_ends Failed status wrote.acknowledged wrote.more part.0 is part.1; written = part.2 }

-- the scan that the words ask for
pub same_scan : (w0 w1 : SinkState) (a b : Asked) (kind dim : ℕ) (xs ys : List ℕ) (status : ℕ) → a ≡ b → kind ≡ kind_of a.space.metric → dim ≡ a.space.dim → xs ≡ ys →
    WritesScan w0 w1 (reply_texts (record { space = mix_space kind dim; limit = a.limit }) a.show (script a.space.dim xs)) status → WritesScan w0 w1 (scan_texts b ys) status
same_scan w0 w1 a b kind dim xs ys status same kinds dims bytes wrote =
    let P : List (List ℕ) → Type 0 = λ texts. WritesScan w0 w1 texts status in
    let named : reply_texts (record { space = mix_space kind dim; limit = a.limit }) a.show (script a.space.dim xs) ≡ scan_texts a ys =
    λ i. reply_texts (record { space = mix_space (kinds i) (dims i); limit = a.limit }) a.show (script a.space.dim (bytes i)) in
    subst P (named ∙ ap (λ (x : Asked). scan_texts x ys) same) wrote
