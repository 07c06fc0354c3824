-- What is put of what was prepared, one after another.
use Rattle.std.proofs.Common.{◌≡◌, ◌⊎◌, ℕ, suc, ◌<◌, ◌≤◌, List, [], ◌∷◌, ◌++◌, length, take, drop, get_or, inl, inr, refl, sym, ap, ◌∙◌, append_assoc, Ok, Err}
use Rattle.std.specs.List.{AllByRecursion}
use Rattle.std.specs.Io.KnownBytes.{Appends}
use Rattle.std.proofs.KnownBytes.{Appends-nil, Appends-trans}
use Rattle.std.proofs.lemmas.List.{append-nil, take-append-drop}
use Rattle.std.proofs.Math.Seq.{drop-cons}
use Rattle.outside_io.specs.Causes.{Rose}
use Rattle.outside_io.specs.Sinks.{SinkState}
use Rattle.metric_laws.proofs.Published.{all_append}
use Rattle.answer_texts.specs.Put.{IsCut}
use Rattle.answer_texts.proofs.Published.{cut_behind}
use Rattle.batch_run.specs.declared.jobs.piles.Prepared.{Prepared}
use Rattle.batch_run.specs.declared.jobs.stop.BatchStop.{BatchStop}
use Rattle.batch_run.specs.declared.jobs.stop.BatchStop.TheVariants as stop
use Rattle.batch_run.specs.Jobs.Putting.{ArePut, Follows, IsDone, IsPut, all_logged, all_said, logged, said}
use Rattle.outside_io.proofs.Published.{rose_before}

said_push : (ps : List Prepared) (o : Prepared) → all_said (ps ++ o ∷ []) ≡ all_said ps ++ said o
said_push [] o = append-nil (said o)
said_push (p ∷ ps) o = ap (λ (l : List ℕ). said p ++ l) (said_push ps o) ∙ sym (append_assoc (said p) (all_said ps) (said o))

logged_push : (ps : List Prepared) (o : Prepared) → all_logged (ps ++ o ∷ []) ≡ all_logged ps ++ logged o
logged_push [] o = append-nil (logged o)
logged_push (p ∷ ps) o = ap (λ (l : List ℕ). logged p ++ l) (logged_push ps o) ∙ sym (append_assoc (logged p) (all_logged ps) (logged o))

-- all of `ps` were put whole
pub record SoFar (ps : List Prepared) (out0 out1 log0 log1 : SinkState) : Type 0 where
  pub done : AllByRecursion IsDone ps
  pub written : Appends out0.written out1.written (all_said ps)
  pub framed : Appends log0.written log1.written (all_logged ps)

pub begun : (out log : SinkState) → SoFar [] out out log log
begun out log = record { done = tt; written = Appends-nil out.written; framed = Appends-nil log.written }

-- what was put, and what is left
pub left_from : (ps : List Prepared) (i : ℕ) (o : Prepared) → i < length ps → ps ≡ take i ps ++ get_or ps i o ∷ drop (suc i) ps
left_from ps i o low = sym (take-append-drop i ps) ∙ ap (λ (rest : List Prepared). take i ps ++ rest) (drop-cons ps i o low)

pub either_more : (out0 out1 out2 log0 log1 log2 : SinkState) → out0.faults ≤ out1.faults → log0.faults ≤ log1.faults → Rose out1.faults out2.faults ⊎ Rose log1.faults log2.faults →
    Rose out0.faults out2.faults ⊎ Rose log0.faults log2.faults
either_more out0 out1 out2 log0 log1 log2 out_later log_later (inl rose) = inl (rose_before _ _ _ out_later rose)
either_more out0 out1 out2 log0 log1 log2 out_later log_later (inr rose) = inr (rose_before _ _ _ log_later rose)

module _ (ps : List Prepared) (o : Prepared) (out0 out1 out2 log0 log1 log2 : SinkState) (so_far : SoFar ps out0 out1 log0 log1) where
  pub one_more : IsPut o out1 out2 log1 log2 (Ok tt) → SoFar (ps ++ o ∷ []) out0 out2 log0 log2
  one_more put = record {
    done = all_append IsDone ps (o ∷ []) so_far.done (put.0, tt);
    written = rw (said_push ps o) (Appends-trans out0.written out1.written out2.written _ _ so_far.written put.1);
    framed = rw (logged_push ps o) (Appends-trans log0.written log1.written log2.written _ _ so_far.framed put.2);
  }

  module _ (all others : List Prepared) (whole : all ≡ ps ++ o ∷ others) where
    -- nothing was put of it
    silent : (why : BatchStop) → Follows (o ∷ others) [] [] (Err why) → out2 ≡ out1 → log2 ≡ log1 → ArePut all out0 out2 log0 log2 (Err why)
    silent why follows out_same log_same = record {
      put = ps;
      left = o ∷ others;
      rest = [];
      log_rest = [];
      whole = whole;
      done = so_far.done;
      follows = follows;
      written = rw (out_same, append-nil (all_said ps)) so_far.written;
      framed = rw (log_same, append-nil (all_logged ps)) so_far.framed;
    }

    cut : IsDone o → IsCut out1 out2 log1 log2 (said o) (logged o) → ArePut all out0 out2 log0 log2 (Err stop.Sink)
    cut is part =
        let behind = cut_behind (all_said ps) (all_logged ps) (said o) (logged o) out0 out1 out2 log0 log1 log2 so_far.written so_far.framed part in
        record {
          put = ps;
          left = o ∷ others;
          rest = behind.rest;
          log_rest = behind.log_rest;
          whole = whole;
          done = so_far.done;
          follows = (o, others, refl, is, behind.cut);
          written = behind.written;
          framed = behind.logged;
        }

    pub stopped : (why : BatchStop) → IsPut o out1 out2 log1 log2 (Err why) → ArePut all out0 out2 log0 log2 (Err why)
    stopped (stop.Damaged fault) put = silent (stop.Damaged fault) ((others, ap (λ (p : Prepared). p ∷ others) put.0), refl, refl) put.1 put.2
    stopped stop.Sink put = cut put.0 put.1

pub finished : (all : List Prepared) (out0 out1 log0 log1 : SinkState) → SoFar all out0 out1 log0 log1 → ArePut all out0 out1 log0 log1 (Ok tt)
finished all out0 out1 log0 log1 so_far = record {
  put = all;
  left = [];
  rest = [];
  log_rest = [];
  whole = sym (append-nil all);
  done = so_far.done;
  follows = (refl, refl, refl);
  written = rw (append-nil (all_said all)) so_far.written;
  framed = rw (append-nil (all_logged all)) so_far.framed;
}
