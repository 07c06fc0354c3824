-- How a job ends, by what was put before.
use Rattle.std.proofs.Common.{◌≡◌, ◌≢◌, ◌⊎◌, inl, inr, ⊎_elim, ℕ, List, Option, Some, None, refl, sym, subst, ◌∙◌, arith}
use Rattle.std.specs.Prelude.{codes, ◌≤◌}
use Rattle.outside_io.specs.Bytes.{AppendsPrefix}
use Rattle.outside_io.specs.Sinks.{SinkState, Tells}
use Rattle.std.specs.Io.KnownBytes.{Appends}
use Rattle.job_files.specs.Lines.{not_index_text}
use Rattle.job_files.specs.declared.logs.stop.LogStop.{LogStop}
use Rattle.job_files.specs.declared.logs.stop.LogStop.TheVariants as stop
use Rattle.job_files.specs.Logs.JobReports.{JobReport}
use Rattle.job_files.specs.Logs.Jobs.{Puts, Writes, Stops, IsCut, JudgesBytes, IsJudgeStatus, TakesLogs, EndsUnread, ReadsLogs}
use Rattle.outside_io.proofs.Published.{rose_before}

-- two numbers that differ
pub clash : {P : Type 0} (n a b : ℕ) → n ≡ a → n ≡ b → a ≢ b → P
clash n a b one other differ = absurd (differ (sym one ∙ other))

-- one of two or three, and none of them
pub of_two : {P : Type 0} (n a b x : ℕ) → (n ≡ a) ⊎ (n ≡ b) → n ≡ x → a ≢ x → b ≢ x → P
of_two n a b x either is p q = ⊎_elim (λ e. clash n a x e is p) (λ e. clash n b x e is q) either

pub of_three : {P : Type 0} (n a b c x : ℕ) → (n ≡ a) ⊎ ((n ≡ b) ⊎ (n ≡ c)) → n ≡ x → a ≢ x → b ≢ x → c ≢ x → P
of_three n a b c x either is p q r = ⊎_elim (λ e. clash n a x e is p) (λ rest. of_two n b c x rest is q r) either

-- ---- what was said

-- all
pub said_all : (said : JobReport) (w0 w1 : SinkState) (status : ℕ) → (status ≡ 0) ⊎ (status ≡ 1) → status ≡ said.status → Puts said.texts w0.written w1.written None → Writes status said w0 w1
said_all said w0 w1 status either is puts = record {
  put = puts.put;
  more = puts.more;
  middle = puts.middle;
  whole = puts.whole;
  written = puts.written;
  ends = record {
    done = λ _. (is, puts.follows.0, puts.follows.1);
    output = λ other. of_two status 0 1 4 either other (omega arith) (omega arith);
    disk = λ other. of_two status 0 1 5 either other (omega arith) (omega arith);
    memory = λ other. of_two status 0 1 8 either other (omega arith) (omega arith);
  };
}

-- a status that is not 0 or 1
pub neither : {P : Type 0} (status n : ℕ) → status ≡ n → n ≢ 0 → n ≢ 1 → (status ≡ 0) ⊎ (status ≡ 1) → P
neither status n is a b either = absurd (⊎_elim (λ e. a (sym is ∙ e)) (λ e. b (sym is ∙ e)) either)

-- a line behind what was put
known_from : (w0 w1 w2 : SinkState) (middle : Option (List ℕ)) (line : List ℕ) → w1.written ≡ middle → w0.faults ≤ w1.faults → Tells w1 w2 line → Tells (record w0 { written = middle }) w2 line
known_from w0 w1 w2 middle line is later told =
    ⊎_elim (λ whole. inl (subst (λ (w : Option (List ℕ)). Appends w w2.written line) is whole))
    (λ cut. inr (subst (λ (w : Option (List ℕ)). AppendsPrefix w w2.written line) is cut.0, rose_before w0.faults w1.faults w2.faults later cut.1)) told

-- it stopped before
pub said_some : (said : JobReport) (w0 w1 w2 : SinkState) (status : ℕ) (why : LogStop) → w0.faults ≤ w1.faults → Puts said.texts w0.written w1.written (Some why) → Stops why w1 w2 status → Writes status said w0 w2
said_some said w0 w1 w2 status stop.Sink later puts ends = record {
  put = puts.put;
  more = puts.more;
  middle = puts.middle;
  whole = puts.whole;
  written = puts.written;
  ends = record {
    done = λ either. neither status 4 ends.0 (omega arith) (omega arith) either;
    output = λ _. subst (λ (w : SinkState). IsCut puts.more puts.middle w.written) (sym ends.1) puts.follows;
    disk = λ other. clash status 4 5 ends.0 other (omega arith);
    memory = λ other. clash status 4 8 ends.0 other (omega arith);
  };
}
said_some said w0 w1 w2 status stop.Disk later puts ends = record {
  put = puts.put;
  more = puts.more;
  middle = puts.middle;
  whole = puts.whole;
  written = puts.written;
  ends = record {
    done = λ either. neither status 5 ends.0 (omega arith) (omega arith) either;
    output = λ other. clash status 5 4 ends.0 other (omega arith);
    disk = λ _. known_from w0 w1 w2 puts.middle (codes "fault disk\n") puts.follows later ends.1;
    memory = λ other. clash status 5 8 ends.0 other (omega arith);
  };
}
said_some said w0 w1 w2 status stop.Memory later puts ends = record {
  put = puts.put;
  more = puts.more;
  middle = puts.middle;
  whole = puts.whole;
  written = puts.written;
  ends = record {
    done = λ either. neither status 8 ends.0 (omega arith) (omega arith) either;
    output = λ other. clash status 8 4 ends.0 other (omega arith);
    disk = λ other. clash status 8 5 ends.0 other (omega arith);
    memory = λ _. known_from w0 w1 w2 puts.middle (codes "fault memory\n") puts.follows later ends.1;
  };
}

-- ---- what a job did with files and bytes of logs

module _ (Unchanged Says Failed : Type 0) (IsNoIndex : List ℕ → Type 0) (unchanged : Unchanged) where
  -- it said all
  pub judged_all : (w0 w1 : SinkState) (status : ℕ) → (status ≡ 0) ⊎ (status ≡ 1) → Says → JudgesBytes Unchanged Says Failed IsNoIndex w0 w1 status
  judged_all w0 w1 status either says = record {
    unchanged = unchanged;
    done = λ _. says;
    output = λ _. says;
    disk = λ other. of_two status 0 1 5 either other (omega arith) (omega arith);
    not_index = λ other. of_two status 0 1 6 either other (omega arith) (omega arith);
    memory = λ _. inr says;
  }

  -- it stopped before
  pub judged_some : (why : LogStop) (w0 w1 w2 : SinkState) (status : ℕ) → Stops why w1 w2 status → Says → (why ≡ stop.Disk → Failed) → JudgesBytes Unchanged Says Failed IsNoIndex w0 w2 status
  judged_some stop.Sink w0 w1 w2 status ends says failed = record {
    unchanged = unchanged;
    done = λ _. says;
    output = λ _. says;
    disk = λ other. clash status 4 5 ends.0 other (omega arith);
    not_index = λ other. clash status 4 6 ends.0 other (omega arith);
    memory = λ _. inr says;
  }
  judged_some stop.Disk w0 w1 w2 status ends says failed = record {
    unchanged = unchanged;
    done = λ _. says;
    output = λ _. says;
    disk = λ _. (failed refl, inr says);
    not_index = λ other. clash status 5 6 ends.0 other (omega arith);
    memory = λ _. inr says;
  }
  judged_some stop.Memory w0 w1 w2 status ends says failed = record {
    unchanged = unchanged;
    done = λ _. says;
    output = λ _. says;
    disk = λ other. clash status 8 5 ends.0 other (omega arith);
    not_index = λ other. clash status 8 6 ends.0 other (omega arith);
    memory = λ _. inr says;
  }

  -- a file was not opened
  pub judged_none : (w0 w1 : SinkState) (status : ℕ) → (status ≡ 5) ⊎ (status ≡ 6) → (status ≡ 5 → Failed × Tells w0 w1 (codes "fault disk\n"))
      → (status ≡ 6 → (name : List ℕ) × Tells w0 w1 (not_index_text name) × IsNoIndex name) → JudgesBytes Unchanged Says Failed IsNoIndex w0 w1 status
  judged_none w0 w1 status either disk not_index = record {
    unchanged = unchanged;
    done = λ done. ⊎_elim (λ zero. of_two status 5 6 0 either zero (omega arith) (omega arith)) (λ one. of_two status 5 6 1 either one (omega arith) (omega arith)) done;
    output = λ other. of_two status 5 6 4 either other (omega arith) (omega arith);
    disk = λ is. let told = disk is in (told.0, inl told.1);
    not_index = not_index;
    memory = λ other. of_two status 5 6 8 either other (omega arith) (omega arith);
  }

  -- memory ran out for the logs
  pub judged_late : (w0 w1 : SinkState) (status : ℕ) → status ≡ 8 → Tells w0 w1 (codes "fault memory\n") → JudgesBytes Unchanged Says Failed IsNoIndex w0 w1 status
  judged_late w0 w1 status is line = record {
    unchanged = unchanged;
    done = λ either. neither status 8 is (omega arith) (omega arith) either;
    output = λ other. clash status 8 4 is other (omega arith);
    disk = λ other. clash status 8 5 is other (omega arith);
    not_index = λ other. clash status 8 6 is other (omega arith);
    memory = λ _. inl line;
  }

-- ---- the reading of logs

-- a job that has read its logs
past_reading : (n : ℕ) → IsJudgeStatus n → (n ≢ 3) × (n ≢ 7)
past_reading n (inl is) = (λ other. clash n 0 3 is other (omega arith), λ other. clash n 0 7 is other (omega arith))
past_reading n (inr (inl is)) = (λ other. clash n 1 3 is other (omega arith), λ other. clash n 1 7 is other (omega arith))
past_reading n (inr (inr (inl is))) = (λ other. clash n 4 3 is other (omega arith), λ other. clash n 4 7 is other (omega arith))
past_reading n (inr (inr (inr (inl is)))) = (λ other. clash n 5 3 is other (omega arith), λ other. clash n 5 7 is other (omega arith))
past_reading n (inr (inr (inr (inr (inl is))))) = (λ other. clash n 6 3 is other (omega arith), λ other. clash n 6 7 is other (omega arith))
past_reading n (inr (inr (inr (inr (inr is))))) = (λ other. clash n 8 3 is other (omega arith), λ other. clash n 8 7 is other (omega arith))

module _ (Unchanged : Type 0) (Judges : List ℕ → Type 0) (left0 left1 : Option (List ℕ)) (unchanged : Unchanged) where
  -- all logs were read
  pub read_all : (bytes : List ℕ) (w0 w1 : SinkState) (status : ℕ) → TakesLogs left0 left1 bytes → IsJudgeStatus status → Judges bytes → ReadsLogs Unchanged Judges left0 left1 w0 w1 status
  read_all bytes w0 w1 status takes statuses judges = record {
    bytes = bytes;
    taken = takes.taken;
    few = omega (arith, takes.few);
    long = (λ is. absurd ((past_reading status statuses).1 is), λ more. absurd (let no : ⊥ = omega (arith, more, takes.few) in no));
    all = λ _ _ _. takes.all;
    judges = λ _ _. judges;
    unchanged = unchanged;
    input_line = λ is. absurd ((past_reading status statuses).0 is);
    long_line = λ is. absurd ((past_reading status statuses).1 is);
  }

  -- they were not
  pub read_none : (w0 w1 : SinkState) (status : ℕ) → EndsUnread left0 left1 w0 w1 status
      → ((bytes : List ℕ) → status ≡ 8 → Tells w0 w1 (codes "fault memory\n") → Judges bytes) → ReadsLogs Unchanged Judges left0 left1 w0 w1 status
  read_none w0 w1 status unread late = record {
    bytes = unread.bytes;
    taken = unread.taken;
    few = unread.few;
    long = unread.long;
    all = λ a b c. absurd (⊎_elim a (λ rest. ⊎_elim b c rest) unread.statuses);
    judges = λ a b. ⊎_elim (λ is. absurd (a is)) (λ rest. ⊎_elim (λ is. absurd (b is)) (λ is. late unread.bytes is (unread.memory_line is)) rest) unread.statuses;
    unchanged = unchanged;
    input_line = unread.input_line;
    long_line = unread.long_line;
  }
