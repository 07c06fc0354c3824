-- The frames and lines of logs, put one after another.
use Rattle.std.proofs.Common.{◌≡◌, ◌≢◌, ◌⊎◌, inl, inr, ⊎_elim, ℕ, ◌+◌, ◌≤◌, ◌&&◌, Bool, true, List, [], ◌∷◌, ◌++◌, length, map, Option, Ok, refl, sym, subst, ◌∙◌, ap, append_assoc, arith}
use Rattle.std.specs.List.{flat_map, list_all}
use Rattle.std.specs.Io.KnownBytes.{Appends}
use Rattle.std.proofs.lemmas.List.{append-nil, length-append, map-append}
use Rattle.std.proofs.lemmas.List.Folds.{list_all-append}
use Rattle.std.proofs.lemmas.Grind.{flat_map-append}
use Rattle.std.proofs.Math.Bool.{and-true}
use Rattle.std.proofs.Math.Nat.{add-zero, zero-add}
use Rattle.std.proofs.KnownBytes.{Appends-nil, Appends-trans}
use Rattle.std.specs.Prelude.{IsTrue, codes}
use Rattle.outside_io.specs.Bytes.{AppendsPrefix}
use Rattle.outside_io.specs.Causes.{Rose}
use Rattle.outside_io.specs.Sinks.{SinkState, Tells}
use Rattle.disk_model.specs.Disk.{DiskState, IsUnchanged, MayLeave}
use Rattle.disk_model.specs.Moments.{started}
use Rattle.tree_shape.specs.declared.live.Live.{Live}
use Rattle.node_page.specs.declared.head.Head.{Head}
use Rattle.log_model.specs.declared.logs.Log.{Log}
use Rattle.node_page.specs.Opening.{OpensTo}
use Rattle.prune_log.specs.Reading.{frames_at, log_at}
use Rattle.job_files.specs.declared.logs.stop.LogStop.{LogStop}
use Rattle.job_files.specs.declared.logs.stop.LogStop.TheVariants as stop
use Rattle.job_files.specs.Logs.Jobs.{Stops as EndsStopped}
use Rattle.job_seal.specs.Carries.{Told, IsTold, AreTold, PutsLog, HasCarried, carried_end, StopsLog, StopsCarrying, Stops, HasHalted, IsCarryStatus, IsDone}

pub begun : (file : List ℕ) (head : Head) (live : Live) (logs : List Log) (l o : Option (List ℕ)) → HasCarried file head live logs logs 0 true l l o o
begun file head live logs l o = record { told = []; logs_are = refl; are_told = tt; count = refl; all = refl; put = Appends-nil l; lines = Appends-nil o }

are_told_more : (file : List ℕ) (head : Head) (live : Live) (i : ℕ) (ts : List Told) (t : Told) → AreTold file head live i ts → IsTold file head live (i + length ts) t → AreTold file head live i (ts ++ (t ∷ []))
are_told_more file head live i [] t all is = (subst (λ (n : ℕ). IsTold file head live n t) (add-zero i) is, tt)
are_told_more file head live i (u ∷ ts) t all is = (all.0, are_told_more file head live (i + 1) ts t all.1 (subst (λ (n : ℕ). IsTold file head live n t) (omega arith) is))

joined : (f : Told → List ℕ) (ts : List Told) (t : Told) → flat_map f ts ++ f t ≡ flat_map f (ts ++ (t ∷ []))
joined f ts t = ap (λ (bs : List ℕ). flat_map f ts ++ bs) (sym (append-nil (f t))) ∙ sym (flat_map-append f ts (t ∷ []))

-- one more was put
pub one_more : (file : List ℕ) (head : Head) (live : Live) (logs : List Log) (log : Log) (rest : List Log) (i : ℕ) (accepted b : Bool) (l0 l1 l2 o0 o1 o2 : Option (List ℕ))
    → HasCarried file head live logs (log ∷ rest) i accepted l0 l1 o0 o1 → PutsLog file head live i log b l1 l2 o1 o2 → HasCarried file head live logs rest (i + 1) (accepted && b) l0 l2 o0 o2
one_more file head live logs log rest i accepted b l0 l1 l2 o0 o1 o2 old puts =
    let t : Told = record { log = log; put = puts.0; line = puts.1; accepted = b } in
    record {
      told = old.told ++ (t ∷ []);
      logs_are =
          old.logs_are
          ∙ sym (append_assoc (map (λ (t : Told). t.log) old.told) (log ∷ []) rest)
          ∙ ap (λ (ls : List Log). ls ++ rest) (sym (map-append (λ (t : Told). t.log) old.told (t ∷ [])));
      are_told = are_told_more file head live 0 old.told t old.are_told (subst (λ (n : ℕ). IsTold file head live n t) (old.count ∙ sym (zero-add (length old.told))) puts.2);
      count = ap (λ (n : ℕ). n + 1) old.count ∙ sym (length-append old.told (t ∷ []));
      all =
          ap (λ (a : Bool). a && b) old.all
          ∙ ap (λ (x : Bool). list_all (λ (t : Told). t.accepted) old.told && x) (sym (and-true b))
          ∙ sym (list_all-append (λ (t : Told). t.accepted) old.told (t ∷ []));
      put = subst (λ (bs : List ℕ). Appends l0 l2 bs) (joined (λ (t : Told). t.put) old.told t) (Appends-trans l0 l1 l2 (flat_map (λ (t : Told). t.put) old.told) puts.0 old.put puts.3);
      lines = subst (λ (bs : List ℕ). Appends o0 o2 bs) (joined (λ (t : Told). t.line) old.told t) (Appends-trans o0 o1 o2 (flat_map (λ (t : Told). t.line) old.told) puts.1 old.lines puts.4);
    }

-- no call was made
pub unchanged : (disk : DiskState) → IsUnchanged disk disk
unchanged disk = record {
  same_known = refl;
  same_bytes = refl;
  same_images = λ image. (λ left. left, λ left. left);
  time = started disk (MayLeave disk) (λ image left. left);
}

-- by a disk that holds what it held
pub one_more_by : (d0 d1 : DiskState) (head : Head) (live : Live) (logs : List Log) (log : Log) (rest : List Log) (i : ℕ) (accepted b : Bool) (l0 l1 l2 o0 o1 o2 : Option (List ℕ)) → IsUnchanged d0 d1
    → (IsTrue d0.is_known → HasCarried d0.bytes head live logs (log ∷ rest) i accepted l0 l1 o0 o1) → (IsTrue d1.is_known → PutsLog d1.bytes head live i log b l1 l2 o1 o2)
    → IsTrue d0.is_known → HasCarried d0.bytes head live logs rest (i + 1) (accepted && b) l0 l2 o0 o2
one_more_by d0 d1 head live logs log rest i accepted b l0 l1 l2 o0 o1 o2 same old puts is_known =
    one_more d0.bytes head live logs log rest i accepted b l0 l1 l2 o0 o1 o2 (old is_known)
    (subst (λ (file : List ℕ). PutsLog file head live i log b l1 l2 o1 o2) same.same_bytes (puts (subst IsTrue (sym same.same_known) is_known)))

-- ---- when the job stops

-- nothing of a log was put
pub nothing_of : (file : List ℕ) (head : Head) (live : Live) (i : ℕ) (log : Log) (why : LogStop) (l o : Option (List ℕ)) → why ≢ stop.Sink → StopsLog file head live i log why l l o o
nothing_of file head live i log stop.Sink l o not_sink = absurd (not_sink refl)
nothing_of file head live i log stop.Disk l o not_sink = (refl, refl)
nothing_of file head live i log stop.Memory l o not_sink = (refl, refl)

-- it stopped within a log, behind those in front
pub log_stops : (d0 d1 : DiskState) (head : Head) (live : Live) (logs : List Log) (log : Log) (rest : List Log) (i : ℕ) (accepted : Bool) (why : LogStop) (l0 l1 l2 o0 o1 o2 : Option (List ℕ)) → IsUnchanged d0 d1
    → (IsTrue d0.is_known → HasCarried d0.bytes head live logs (log ∷ rest) i accepted l0 l1 o0 o1) → (IsTrue d1.is_known → StopsLog d1.bytes head live i log why l1 l2 o1 o2)
    → IsTrue d0.is_known → StopsCarrying d0.bytes head live logs why l0 l2 o0 o2
log_stops d0 d1 head live logs log rest i accepted why l0 l1 l2 o0 o1 o2 same old stops is_known = record {
  rest = log ∷ rest;
  i = i;
  accepted = accepted;
  frames = l1;
  lines = o1;
  carried = old is_known;
  after = inl (log, rest, refl, subst (λ (file : List ℕ). StopsLog file head live i log why l1 l2 o1 o2) same.same_bytes (stops (subst IsTrue (sym same.same_known) is_known)));
}

-- the last line was cut
pub end_stops : (file : List ℕ) (head : Head) (live : Live) (bytes : List ℕ) (logs : List Log) (i : ℕ) (accepted : Bool) (why : LogStop) (l0 l1 o0 o1 o2 : Option (List ℕ)) → frames_at log_at bytes ≡ Ok logs → HasCarried file head live logs [] i accepted l0 l1 o0 o1
    → why ≡ stop.Sink → AppendsPrefix o1 o2 (carried_end accepted) → Stops file head live bytes why l0 l1 o0 o2
end_stops file head live bytes logs i accepted why l0 l1 o0 o1 o2 decoded carried is cut = inr (inr (
  logs,
  decoded,
  record {
    rest = [];
    i = i;
    accepted = accepted;
    frames = l1;
    lines = o1;
    carried = carried;
    after = inr (refl, (is, refl, cut));
  },
))

known_behind : (s0 s1 s2 : SinkState) (line : List ℕ) → s0.faults ≤ s1.faults → Tells s1 s2 line → Tells (record s0 { written = s1.written }) s2 line
known_behind s0 s1 s2 line later told = ⊎_elim (λ whole. inl whole) (λ cut. inr (cut.0, (let rose = cut.1 in omega arith))) told

-- by status
pub halted : (file bytes : List ℕ) (head : Head) (live : Live) (why : LogStop) (l0 l1 : Option (List ℕ)) (s0 s1 s2 : SinkState) (status : ℕ) → OpensTo file head live → Stops file head live bytes why l0 l1 s0.written s1.written → s0.faults ≤ s1.faults
    → EndsStopped why s1 s2 status → HasHalted file bytes l0 l1 s0 s2 status
halted file bytes head live stop.Sink l0 l1 s0 s1 s2 status opens stops later ends =
    let four = ends.0 in
    record {
      output = λ is. inr (head, live, opens, subst (λ (s : SinkState). Stops file head live bytes stop.Sink l0 l1 s0.written s.written) (sym ends.1) stops);
      disk = λ is. absurd (omega (arith, four, is));
      memory = λ is. absurd (omega (arith, four, is));
    }
halted file bytes head live stop.Disk l0 l1 s0 s1 s2 status opens stops later ends =
    let five = ends.0 in
    record {
      output = λ is. absurd (omega (arith, five, is));
      disk = λ is. (s1.written, inr (head, live, opens, stops), known_behind s0 s1 s2 (codes "fault disk\n") later ends.1);
      memory = λ is. absurd (omega (arith, five, is));
    }
halted file bytes head live stop.Memory l0 l1 s0 s1 s2 status opens stops later ends =
    let eight = ends.0 in
    record {
      output = λ is. absurd (omega (arith, eight, is));
      disk = λ is. absurd (omega (arith, eight, is));
      memory = λ is. (s1.written, inr (head, live, opens, stops), known_behind s0 s1 s2 (codes "fault memory\n") later ends.1);
    }

-- how a job that stopped ends
pub record EndsAt (why : LogStop) (status : ℕ) : Type 0 where
  pub disk : status ≡ 5 → why ≡ stop.Disk
  pub output : status ≡ 4 → why ≡ stop.Sink
  pub statuses : IsCarryStatus status
  pub not_done : IsDone status → ⊥
  pub not_six : status ≡ 6 → ⊥
  pub not_seven : status ≡ 7 → ⊥

pub stopped_at : (why : LogStop) (s1 s2 : SinkState) (status : ℕ) → EndsStopped why s1 s2 status → EndsAt why status
stopped_at stop.Sink s1 s2 status ends =
    let four = ends.0 in
    record {
      disk = λ is. absurd (omega (arith, four, is));
      output = λ is. refl;
      statuses = inr (inr (inl four));
      not_done = λ done. ⊎_elim (λ is. (let no : ⊥ = omega (arith, four, is) in no)) (λ is. (let no : ⊥ = omega (arith, four, is) in no)) done;
      not_six = λ is. omega (arith, four, is);
      not_seven = λ is. omega (arith, four, is);
    }
stopped_at stop.Disk s1 s2 status ends =
    let five = ends.0 in
    record {
      disk = λ is. refl;
      output = λ is. absurd (omega (arith, five, is));
      statuses = inr (inr (inr (inl five)));
      not_done = λ done. ⊎_elim (λ is. (let no : ⊥ = omega (arith, five, is) in no)) (λ is. (let no : ⊥ = omega (arith, five, is) in no)) done;
      not_six = λ is. omega (arith, five, is);
      not_seven = λ is. omega (arith, five, is);
    }
stopped_at stop.Memory s1 s2 status ends =
    let eight = ends.0 in
    record {
      disk = λ is. absurd (omega (arith, eight, is));
      output = λ is. absurd (omega (arith, eight, is));
      statuses = inr (inr (inr (inr (inr (inr eight)))));
      not_done = λ done. ⊎_elim (λ is. (let no : ⊥ = omega (arith, eight, is) in no)) (λ is. (let no : ⊥ = omega (arith, eight, is) in no)) done;
      not_six = λ is. omega (arith, eight, is);
      not_seven = λ is. omega (arith, eight, is);
    }

rose_after : (a b c : ℕ) → Rose a b → b ≤ c → Rose a c
rose_after a b c rose le = omega arith

-- an output that failed still counts as failed later
pub output_later : (o0 o1 o2 l0 l1 : ℕ) → Rose o0 o1 ⊎ Rose l0 l1 → o1 ≤ o2 → Rose o0 o2 ⊎ Rose l0 l1
output_later o0 o1 o2 l0 l1 (inl rose) le = inl (rose_after o0 o1 o2 rose le)
output_later o0 o1 o2 l0 l1 (inr rose) le = inr rose

-- nothing was put but the line of the status
pub halted_before : (file bytes : List ℕ) (l : Option (List ℕ)) (s0 s2 : SinkState) (status : ℕ) → status ≢ 4 → (status ≡ 5 → Tells s0 s2 (codes "fault disk\n")) → (status ≡ 8 → Tells s0 s2 (codes "fault memory\n")) → HasHalted file bytes l l s0 s2 status
halted_before file bytes l s0 s2 status not_four disk_line memory_line = record {
  output = λ is. absurd (not_four is);
  disk = λ is. (s0.written, inl ((λ e. cc e), refl, refl), disk_line is);
  memory = λ is. (s0.written, inl ((λ e. cc e), refl, refl), memory_line is);
}

-- the job did not stop
pub not_halted : (file bytes : List ℕ) (l0 l1 : Option (List ℕ)) (s0 s1 : SinkState) (status : ℕ) → (status ≡ 0) ⊎ (status ≡ 1) → HasHalted file bytes l0 l1 s0 s1 status
not_halted file bytes l0 l1 s0 s1 status either =
    let no : (n : ℕ) → 2 ≤ n → status ≡ n → ⊥ = λ n high is. ⊎_elim (λ e. (let no : ⊥ = omega (arith, e, is, high) in no)) (λ e. (let no : ⊥ = omega (arith, e, is, high) in no)) either in
    record { output = λ is. absurd (no 4 (omega arith) is); disk = λ is. absurd (no 5 (omega arith) is); memory = λ is. absurd (no 8 (omega arith) is) }

-- ---- statuses that are not

pub done_is_no_refusal : (n : ℕ) → IsDone n → (n ≡ 6) ⊎ (n ≡ 7) → ⊥
done_is_no_refusal n (inl zero) (inl six) = omega (arith, zero, six)
done_is_no_refusal n (inl zero) (inr seven) = omega (arith, zero, seven)
done_is_no_refusal n (inr one) (inl six) = omega (arith, one, six)
done_is_no_refusal n (inr one) (inr seven) = omega (arith, one, seven)

pub carried_is_read : (n : ℕ) → IsCarryStatus n → n ≡ 3 → ⊥
carried_is_read n (inl is) three = omega (arith, is, three)
carried_is_read n (inr (inl is)) three = omega (arith, is, three)
carried_is_read n (inr (inr (inl is))) three = omega (arith, is, three)
carried_is_read n (inr (inr (inr (inl is)))) three = omega (arith, is, three)
carried_is_read n (inr (inr (inr (inr (inl is))))) three = omega (arith, is, three)
carried_is_read n (inr (inr (inr (inr (inr (inl is)))))) three = omega (arith, is, three)
carried_is_read n (inr (inr (inr (inr (inr (inr is)))))) three = omega (arith, is, three)
