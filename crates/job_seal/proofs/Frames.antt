-- The texts on frames, put one after another.
use Rattle.std.proofs.Common.{◌≡◌, ◌⊎◌, ◌↔◌, inl, inr, ⊎_elim, ℕ, ◌+◌, ◌-◌, ◌^◌, ◌<◌, ◌≤◌, ◌&&◌, Bool, true, List, [], ◌∷◌, ◌++◌, length, Option, refl, sym, subst, ◌∙◌, ap, arith}
use Rattle.std.specs.Prelude.{codes}
use Rattle.std.specs.List.{flat_map}
use Rattle.std.specs.Io.KnownBytes.{Appends, Consumes, IsAtEnd}
use Rattle.std.proofs.lemmas.List.{append-nil, length-append}
use Rattle.std.proofs.lemmas.List.Folds.{list_all-append}
use Rattle.std.proofs.lemmas.Grind.{flat_map-append}
use Rattle.std.proofs.Math.Bool.{and-true}
use Rattle.std.proofs.Math.Nat.{add-zero, zero-add}
use Rattle.std.proofs.KnownBytes.{Appends-nil, Appends-trans, Consumes-nil, Consumes-trans}
use Rattle.outside_io.specs.Bytes.{AppendsPrefix}
use Rattle.outside_io.specs.Sinks.{SinkState, Tells}
use Rattle.prune_log.specs.Spelling.{frame_bytes}
use Rattle.job_seal.specs.declared.stop.ProofStop.{ProofStop}
use Rattle.job_seal.specs.declared.stop.ProofStop.TheVariants as stop
use Rattle.job_seal.specs.Proofs.{Shown, IsShown, AreShown, all_accepted, IsEnd, HasShown, PutsFrame, StopsFrame, StopsReading, HasEnded, StopsAfter, HasStopped, room_behind, ProvesLogs}

-- the frames that were taken were shown
pub record Progress (root : List ℕ) (left0 left : Option (List ℕ)) (room frame : ℕ) (accepted : Bool) (old new : Option (List ℕ)) : Type 0 where
  pub shown : List Shown
  pub taken : Consumes left0 left (flat_map (λ (f : Shown). frame_bytes f.body) shown)
  pub size : length (flat_map (λ (f : Shown). frame_bytes f.body) shown) + room ≡ 2 ^ 30
  pub told : AreShown root 0 shown
  pub written : Appends old new (flat_map (λ (f : Shown). f.text) shown)
  pub frame_is : frame ≡ length shown
  pub accepted_is : accepted ≡ all_accepted shown

pub begun : (root : List ℕ) (left w : Option (List ℕ)) → Progress root left left (2 ^ 30) 0 true w w
begun root left w = record {
  shown = [];
  taken = Consumes-nil left;
  size = refl;
  told = tt;
  written = Appends-nil w;
  frame_is = refl;
  accepted_is = refl;
}

are_shown_more : (root : List ℕ) (i : ℕ) (fs : List Shown) (f : Shown) → AreShown root i fs → IsShown root (i + length fs) f → AreShown root i (fs ++ (f ∷ []))
are_shown_more root i [] f all is = (subst (λ (n : ℕ). IsShown root n f) (add-zero i) is, tt)
are_shown_more root i (g ∷ fs) f all is = (all.0, are_shown_more root (i + 1) fs f all.1 (subst (λ (n : ℕ). IsShown root n f) (omega arith) is))

joined : (g : Shown → List ℕ) (fs : List Shown) (f : Shown) → flat_map g fs ++ g f ≡ flat_map g (fs ++ (f ∷ []))
joined g fs f = ap (λ (bs : List ℕ). flat_map g fs ++ bs) (sym (append-nil (g f))) ∙ sym (flat_map-append g fs (f ∷ []))

-- one more was shown
pub one_more : (root body : List ℕ) (left0 left1 left2 : Option (List ℕ)) (room frame : ℕ) (accepted b : Bool) (w0 w1 w2 : Option (List ℕ)) → Progress root left0 left1 room frame accepted w0 w1 → Consumes left1 left2 (frame_bytes body)
    → length (frame_bytes body) ≤ room → PutsFrame root frame body b w1 w2 → Progress root left0 left2 (room - length (frame_bytes body)) (frame + 1) (accepted && b) w0 w2
one_more root body left0 left1 left2 room frame accepted b w0 w1 w2 p took is_point puts =
    let f : Shown = record { body = body; text = puts.0; accepted = b } in
    let all = p.shown ++ (f ∷ []) in
    let size : length (flat_map (λ (s : Shown). frame_bytes s.body) all) ≡ length (flat_map (λ (s : Shown). frame_bytes s.body) p.shown) + length (frame_bytes body) =
    ap length (sym (joined (λ (s : Shown). frame_bytes s.body) p.shown f)) ∙ length-append (flat_map (λ (s : Shown). frame_bytes s.body) p.shown) (frame_bytes body) in
    record {
      shown = all;
      taken = subst (λ (bs : List ℕ). Consumes left0 left2 bs) (joined (λ (s : Shown). frame_bytes s.body) p.shown f) (Consumes-trans left0 left1 left2 (flat_map (λ (s : Shown). frame_bytes s.body) p.shown) (frame_bytes body) p.taken took);
      size = (let before = p.size in omega (arith, size, before, is_point));
      told = are_shown_more root 0 p.shown f p.told (subst (λ (n : ℕ). IsShown root n f) (p.frame_is ∙ sym (zero-add (length p.shown))) puts.1);
      written = subst (λ (bs : List ℕ). Appends w0 w2 bs) (joined (λ (s : Shown). s.text) p.shown f) (Appends-trans w0 w1 w2 (flat_map (λ (s : Shown). s.text) p.shown) puts.0 p.written puts.2);
      frame_is = ap (λ (n : ℕ). n + 1) p.frame_is ∙ sym (length-append p.shown (f ∷ []));
      accepted_is =
          ap (λ (a : Bool). a && b) p.accepted_is
          ∙ ap (λ (x : Bool). all_accepted p.shown && x) (sym (and-true b))
          ∙ sym (list_all-append (λ (s : Shown). s.accepted) p.shown (f ∷ []));
    }

-- what was shown, where these bytes were taken behind it
abbrev shown_before : (root rest : List ℕ) (left0 left : Option (List ℕ)) (room frame : ℕ) (accepted : Bool) (w0 w1 : Option (List ℕ)) (p : Progress root left0 left room frame accepted w0 w1) → HasShown root (flat_map (λ (f : Shown). frame_bytes f.body) p.shown ++ rest) w0 w1
shown_before root rest left0 left room frame accepted w0 w1 p = record { shown = p.shown; rest = rest; framed = refl; told = p.told; written = p.written }

-- the last line was put
pub ended : (root rest line : List ℕ) (left0 left1 left2 : Option (List ℕ)) (room frame : ℕ) (accepted : Bool) (status : ℕ) (w0 w1 w2 : Option (List ℕ)) → Progress root left0 left1 room frame accepted w0 w1 → Consumes left1 left2 rest
    → length rest ≤ room → IsAtEnd left2 → IsEnd rest accepted line status → Appends w1 w2 line → HasEnded root left0 left2 w0 w2 status
ended root rest line left0 left1 left2 room frame accepted status w0 w1 w2 p took is_point at_end is put = record {
  bytes = flat_map (λ (f : Shown). frame_bytes f.body) p.shown ++ rest;
  taken = Consumes-trans left0 left1 left2 (flat_map (λ (f : Shown). frame_bytes f.body) p.shown) rest p.taken took;
  few = (let size = p.size in omega (arith, length-append (flat_map (λ (f : Shown). frame_bytes f.body) p.shown) rest, size, is_point));
  all = at_end;
  middle = w1;
  before = shown_before root rest left0 left1 room frame accepted w0 w1 p;
  line = line;
  is_end = subst (λ (x : Bool). IsEnd rest x line status) p.accepted_is is;
  written = put;
}

-- the job stopped behind the frames that were shown
stopped_behind : (root rest : List ℕ) (left0 left1 left2 : Option (List ℕ)) (room frame : ℕ) (accepted : Bool) (why : ProofStop) (w0 w1 w2 : Option (List ℕ)) → Progress root left0 left1 room frame accepted w0 w1 → Consumes left1 left2 rest
    → length rest ≤ room + 4096 → (why ≡ stop.Long) ↔ (room < length rest) → StopsAfter root frame rest accepted left2 room why w1 w2 → HasStopped root left0 left2 w0 w2 why
stopped_behind root rest left0 left1 left2 room frame accepted why w0 w1 w2 p took few long is =
    let bytes = flat_map (λ (f : Shown). frame_bytes f.body) p.shown ++ rest in
    let size = p.size in
    let whole : length bytes ≡ length (flat_map (λ (f : Shown). frame_bytes f.body) p.shown) + length rest = length-append (flat_map (λ (f : Shown). frame_bytes f.body) p.shown) rest in
    let same : room ≡ room_behind bytes rest = omega (arith, whole, size) in
    record {
      bytes = bytes;
      taken = Consumes-trans left0 left1 left2 (flat_map (λ (f : Shown). frame_bytes f.body) p.shown) rest p.taken took;
      few = omega (arith, whole, size, few);
      long = (λ e. (let more = long.0 e in omega (arith, whole, size, more)), λ more. long.1 (omega (arith, whole, size, more)));
      middle = w1;
      before = shown_before root rest left0 left1 room frame accepted w0 w1 p;
      after =
          subst (λ (n : ℕ). StopsAfter root n rest (all_accepted p.shown) left2 (room_behind bytes rest) why w1 w2) p.frame_is
          (subst (λ (x : Bool). StopsAfter root frame rest x left2 (room_behind bytes rest) why w1 w2) p.accepted_is
          (subst (λ (n : ℕ). StopsAfter root frame rest accepted left2 n why w1 w2) same is));
    }

-- the last line was not put whole
pub end_stops : (root rest line : List ℕ) (left0 left1 left2 : Option (List ℕ)) (room frame : ℕ) (accepted : Bool) (status : ℕ) (w0 w1 w2 : Option (List ℕ)) → Progress root left0 left1 room frame accepted w0 w1 → Consumes left1 left2 rest
    → length rest ≤ room → IsAtEnd left2 → IsEnd rest accepted line status → AppendsPrefix w1 w2 line → HasStopped root left0 left2 w0 w2 stop.Sink
end_stops root rest line left0 left1 left2 room frame accepted status w0 w1 w2 p took is_point at_end is put =
    stopped_behind root rest left0 left1 left2 room frame accepted stop.Sink w0 w1 w2 p took (omega (arith, is_point)) ((λ e. cc e), λ more. absurd (omega (arith, more, is_point))) (line, inr (at_end, (status, is)), put)

-- the next one could not be read
pub reading_stops : (root : List ℕ) (left0 left1 left2 : Option (List ℕ)) (room frame : ℕ) (accepted : Bool) (why : ProofStop) (w0 w1 : Option (List ℕ)) → Progress root left0 left1 room frame accepted w0 w1 → StopsReading room left1 left2 why → HasStopped root left0 left2 w0 w1 why
reading_stops root left0 left1 left2 room frame accepted stop.Sink w0 w1 p is = absurd is
reading_stops root left0 left1 left2 room frame accepted stop.Input w0 w1 p is =
    let few = is.2 in
    stopped_behind root is.0 left0 left1 left2 room frame accepted stop.Input w0 w1 w1 p is.1 (omega (arith, few)) ((λ e. cc e), λ more. absurd (omega (arith, more, few))) (is.3, refl)
reading_stops root left0 left1 left2 room frame accepted stop.Long w0 w1 p is =
    let more = is.2 in
    stopped_behind root is.0 left0 left1 left2 room frame accepted stop.Long w0 w1 w1 p is.1 is.3 ((λ e. more), λ m. refl) (is.4, refl)
reading_stops root left0 left1 left2 room frame accepted stop.Memory w0 w1 p is =
    let few = is.2 in
    stopped_behind root is.0 left0 left1 left2 room frame accepted stop.Memory w0 w1 w1 p is.1 (omega (arith, few)) ((λ e. cc e), λ more. absurd (omega (arith, more, few))) refl

-- the next one was read and not shown
pub frame_stops : (root body : List ℕ) (left0 left1 left2 : Option (List ℕ)) (room frame : ℕ) (accepted : Bool) (why : ProofStop) (w0 w1 w2 : Option (List ℕ)) → Progress root left0 left1 room frame accepted w0 w1 → Consumes left1 left2 (frame_bytes body)
    → length (frame_bytes body) ≤ room → StopsFrame root frame body why w1 w2 → HasStopped root left0 left2 w0 w2 why
frame_stops root body left0 left1 left2 room frame accepted stop.Sink w0 w1 w2 p took is_point is =
    stopped_behind root (frame_bytes body) left0 left1 left2 room frame accepted stop.Sink w0 w1 w2 p took (omega (arith, is_point)) ((λ e. cc e), λ more. absurd (omega (arith, more, is_point)))
    (is.0, inl (body, is.1, refl, is.2), is.3)
frame_stops root body left0 left1 left2 room frame accepted stop.Memory w0 w1 w2 p took is_point is =
    stopped_behind root (frame_bytes body) left0 left1 left2 room frame accepted stop.Memory w0 w1 w2 p took (omega (arith, is_point)) ((λ e. cc e), λ more. absurd (omega (arith, more, is_point))) is
frame_stops root body left0 left1 left2 room frame accepted stop.Input w0 w1 w2 p took is_point is = absurd is
frame_stops root body left0 left1 left2 room frame accepted stop.Long w0 w1 w2 p took is_point is = absurd is

-- ---- by status

-- a status is another number
other : {P : Type 0} (status n m : ℕ) → status ≡ n → status ≡ m → (n ≡ m → ⊥) → P
other status n m is also apart = absurd (apart (sym is ∙ also))

neither : {P : Type 0} (status n : ℕ) → status ≡ n → 2 ≤ n → (status ≡ 0) ⊎ (status ≡ 1) → P
neither status n is high either = absurd (⊎_elim (λ e. (let no : ⊥ = omega (arith, e, is, high) in no)) (λ e. (let no : ⊥ = omega (arith, e, is, high) in no)) either)

one_of_two : {P : Type 0} (status n : ℕ) → (status ≡ 0) ⊎ (status ≡ 1) → status ≡ n → 2 ≤ n → P
one_of_two status n either is high = neither status n is high either

pub all_told : (root : List ℕ) (left0 left1 : Option (List ℕ)) (s0 s1 : SinkState) (status : ℕ) → (status ≡ 0) ⊎ (status ≡ 1) → HasEnded root left0 left1 s0.written s1.written status → ProvesLogs root left0 left1 s0 s1 status
all_told root left0 left1 s0 s1 status either is = record {
  bytes = is.bytes;
  taken = is.taken;
  few = (let few = is.few in omega (arith, few));
  long = (λ e. one_of_two status 7 either e (omega arith), λ more. (let few = is.few in absurd (omega (arith, few, more))));
  middle = is.middle;
  before = is.before;
  done = λ _. (is.all, (is.line, is.is_end, is.written));
  output = λ e. one_of_two status 4 either e (omega arith);
  input_line = λ e. one_of_two status 3 either e (omega arith);
  long_line = λ e. one_of_two status 7 either e (omega arith);
  memory_line = λ e. one_of_two status 8 either e (omega arith);
}

pub output_stopped : (root : List ℕ) (left0 left1 : Option (List ℕ)) (s0 s1 : SinkState) → HasStopped root left0 left1 s0.written s1.written stop.Sink → ProvesLogs root left0 left1 s0 s1 4
output_stopped root left0 left1 s0 s1 is = record {
  bytes = is.bytes;
  taken = is.taken;
  few = is.few;
  long = (λ e. absurd (omega (arith, e)), λ more. cc (is.long.1 more));
  middle = is.middle;
  before = is.before;
  done = λ either. neither 4 4 refl (omega arith) either;
  output = λ _. is.after;
  input_line = λ e. absurd (omega (arith, e));
  long_line = λ e. absurd (omega (arith, e));
  memory_line = λ e. absurd (omega (arith, e));
}

known_from : (s0 s1 s2 : SinkState) (middle : Option (List ℕ)) (line : List ℕ) → s1.written ≡ middle → s0.faults ≤ s1.faults → Tells s1 s2 line → Tells (record s0 { written = middle }) s2 line
known_from s0 s1 s2 middle line is later told =
    ⊎_elim (λ whole. inl (subst (λ (w : Option (List ℕ)). Appends w s2.written line) is whole))
    (λ cut. inr (subst (λ (w : Option (List ℕ)). AppendsPrefix w s2.written line) is cut.0, (let rose = cut.1 in omega arith))) told

pub input_stopped : (root : List ℕ) (left0 left1 : Option (List ℕ)) (s0 s1 s2 : SinkState) (status : ℕ) → HasStopped root left0 left1 s0.written s1.written stop.Input → s0.faults ≤ s1.faults → status ≡ 3 → Tells s1 s2 (codes "fault input\n")
    → ProvesLogs root left0 left1 s0 s2 status
input_stopped root left0 left1 s0 s1 s2 status is later same told = record {
  bytes = is.bytes;
  taken = is.taken;
  few = is.few;
  long = (λ e. other status 3 7 same e (λ n. omega (arith, n)), λ more. cc (is.long.1 more));
  middle = is.middle;
  before = is.before;
  done = λ either. neither status 3 same (omega arith) either;
  output = λ e. other status 3 4 same e (λ n. omega (arith, n));
  input_line = λ _. (is.after.0, known_from s0 s1 s2 is.middle (codes "fault input\n") is.after.1 later told);
  long_line = λ e. other status 3 7 same e (λ n. omega (arith, n));
  memory_line = λ e. other status 3 8 same e (λ n. omega (arith, n));
}

pub long_stopped : (root : List ℕ) (left0 left1 : Option (List ℕ)) (s0 s1 s2 : SinkState) (status : ℕ) → HasStopped root left0 left1 s0.written s1.written stop.Long → s0.faults ≤ s1.faults → status ≡ 7 → Tells s1 s2 (codes "fault long\n")
    → ProvesLogs root left0 left1 s0 s2 status
long_stopped root left0 left1 s0 s1 s2 status is later same told = record {
  bytes = is.bytes;
  taken = is.taken;
  few = is.few;
  long = (λ e. is.long.0 refl, λ more. same);
  middle = is.middle;
  before = is.before;
  done = λ either. neither status 7 same (omega arith) either;
  output = λ e. other status 7 4 same e (λ n. omega (arith, n));
  input_line = λ e. other status 7 3 same e (λ n. omega (arith, n));
  long_line = λ _. (is.after.0, known_from s0 s1 s2 is.middle (codes "fault long\n") is.after.1 later told);
  memory_line = λ e. other status 7 8 same e (λ n. omega (arith, n));
}

pub memory_stopped : (root : List ℕ) (left0 left1 : Option (List ℕ)) (s0 s1 s2 : SinkState) (status : ℕ) → HasStopped root left0 left1 s0.written s1.written stop.Memory → s0.faults ≤ s1.faults → status ≡ 8 → Tells s1 s2 (codes "fault memory\n")
    → ProvesLogs root left0 left1 s0 s2 status
memory_stopped root left0 left1 s0 s1 s2 status is later same told = record {
  bytes = is.bytes;
  taken = is.taken;
  few = is.few;
  long = (λ e. other status 8 7 same e (λ n. omega (arith, n)), λ more. cc (is.long.1 more));
  middle = is.middle;
  before = is.before;
  done = λ either. neither status 8 same (omega arith) either;
  output = λ e. other status 8 4 same e (λ n. omega (arith, n));
  input_line = λ e. other status 8 3 same e (λ n. omega (arith, n));
  long_line = λ e. other status 8 7 same e (λ n. omega (arith, n));
  memory_line = λ _. known_from s0 s1 s2 is.middle (codes "fault memory\n") is.after later told;
}
