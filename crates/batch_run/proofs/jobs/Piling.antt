-- Piles of what is prepared.
use Rattle.std.proofs.Common.{◌≡◌, ℕ, zero, suc, ◌+◌, ◌-◌, ◌*◌, ◌/◌, ◌%◌, ◌<◌, ◌≤◌, Bool, true, false, List, [], ◌∷◌, ◌++◌, length, length-append, map, drop, get_or, refl, sym, ap, ◌∙◌, subst, arith, Option, Some, Result, Ok, slice_get, IfOk}
use Rattle.std.specs.List.{AllZip}
use Rattle.std.specs.declared.alloc.AllocError.{AllocError}
use Rattle.std.proofs.lemmas.List.{append-nil, drop-append-le, length-drop, take-append-le, take_all}
use Rattle.std.specs.Prelude.{nat_lt}
use Rattle.std.proofs.lemmas.Bool.Decides.{nat_tests}
use Rattle.std.proofs.lemmas.Nat.{div-add-mod', mod-mul-add, div-mul-add}
use Rattle.std.proofs.Math.Nat.{mod-lt}
use Rattle.std.proofs.lemmas.Option.{get_or_from_slice_get}
use Rattle.std.proofs.Math.Seq.{drop-append_seam}
use Rattle.metric_laws.specs.Space.{Space}
use Rattle.rows_text.specs.declared.command.Command.{Command}
use Rattle.rows_text.specs.Texts.{text}
use Rattle.rows_text.specs.declared.reply.Reply.{Reply}
use Rattle.log_model.specs.declared.logs.Log.{Log}
use Rattle.page_store.specs.declared.pages.PageFault.{PageFault}
use Rattle.tree_shape.specs.declared.live.Live.{Live}
use Rattle.answer_texts.specs.Answered.{framed, if_any}
use Rattle.image_answers.specs.declared.outcome.Outcome.{Outcome}
use Rattle.image_answers.specs.declared.outcome.Outcome.TheVariants as outcome
use Rattle.image_answers.specs.Outcomes.{IsOutcomeOf}
use Rattle.batch_run.specs.declared.jobs.piles.Mark.{Mark}
use Rattle.batch_run.specs.declared.jobs.piles.Mark.TheVariants as mark
use Rattle.batch_run.specs.declared.jobs.piles.Pile.{Pile}
use Rattle.batch_run.specs.declared.jobs.piles.Prepared.{Prepared}
use Rattle.batch_run.specs.declared.jobs.piles.Prepared.TheVariants as prepared
use Rattle.batch_run.specs.declared.jobs.piles.Span.{Span}
use Rattle.batch_run.specs.Dealing.{Rounds, place_of, shift_of, wound}
use Rattle.batch_run.specs.Jobs.Preparing.{ArePiles, AreShown, AreStacked, HasMore, HasMoreFor, IsMarked, IsPileIn, IsPrepared, IsPreparedFor, IsShown, IsWithin, LiesIn, Stands, spanned}
use Rattle.batch_run.proofs.Seats.{all_zipped, get_push, round_below}
use Rattle.batch_run.proofs.Gathered.{as_many, done_at}

-- ---- spans

-- the span of what was added at the end
end_span : (bytes more all : List ℕ) (span : Span) → all ≡ bytes ++ more → span.from ≡ length bytes → span.to ≡ length all → IsWithin (length all) span × (more ≡ spanned all span)
end_span bytes more all span is from to =
    let long : length all ≡ length bytes + length more = ap length is ∙ length-append bytes more in
    let left : drop span.from all ≡ more = rw (from, is) (drop-append_seam bytes more) in
    ((omega (arith, from, to, long), omega (arith, to)), sym (rw left (take_all (span.to - span.from) more (omega (arith, from, to, long)))))

-- a span has the same bytes where more stand behind
same_span : (bytes more all : List ℕ) (span : Span) → all ≡ bytes ++ more → IsWithin (length bytes) span → IsWithin (length all) span × (spanned bytes span ≡ spanned all span)
same_span bytes more all span is within =
    let long : length all ≡ length bytes + length more = ap length is ∙ length-append bytes more in
    let shorter : length (drop span.from bytes) ≡ length bytes - span.from = length-drop span.from bytes in
    ((within.0, omega (arith, within.1, long)), sym (rw (is, drop-append-le span.from bytes more (omega (arith, within.0, within.1))) (take-append-le (span.to - span.from) (drop span.from bytes) more (omega (arith, within.1, shorter)))))

-- ---- what is added to a pile

pub said_more : (show : Bool) (r : Reply) (log : Option Log) (pile0 pile1 : Pile) (reply frame : Span) →
    pile1.replies.items ≡ pile0.replies.items ++ text show r → pile1.frames.items ≡ pile0.frames.items ++ framed (if_any log) →
    pile1.marks.items ≡ pile0.marks.items ++ mark.Said reply frame ∷ [] → reply.from ≡ length pile0.replies.items → reply.to ≡ length pile1.replies.items →
    frame.from ≡ length pile0.frames.items → frame.to ≡ length pile1.frames.items → HasMore show (outcome.Done r log) pile0 pile1
said_more show r log pile0 pile1 reply frame replies frames marks reply_from reply_to frame_from frame_to = record {
  mark = mark.Said reply frame;
  added = marks;
  marked = (
    end_span pile0.replies.items (text show r) pile1.replies.items reply replies reply_from reply_to,
    end_span pile0.frames.items (framed (if_any log)) pile1.frames.items frame frames frame_from frame_to,
  );
  replies = (text show r, replies);
  frames = (framed (if_any log), frames);
}

pub damaged_more : (show : Bool) (fault : PageFault) (pile0 pile1 : Pile) → pile1.replies.items ≡ pile0.replies.items → pile1.frames.items ≡ pile0.frames.items →
    pile1.marks.items ≡ pile0.marks.items ++ mark.Damaged fault ∷ [] → HasMore show (outcome.Damaged fault) pile0 pile1
damaged_more show fault pile0 pile1 replies frames marks = record {
  mark = mark.Damaged fault;
  added = marks;
  marked = refl;
  replies = ([], replies ∙ sym (append-nil pile0.replies.items));
  frames = ([], frames ∙ sym (append-nil pile0.frames.items));
}

still_marked : (show : Bool) (o o' : Outcome) (pile0 pile1 : Pile) (m : Mark) → HasMore show o' pile0 pile1 → IsMarked show o pile0 m → IsMarked show o pile1 m
still_marked show (outcome.Done r log) o' pile0 pile1 (mark.Said reply frame) more is =
    let texts = same_span pile0.replies.items more.replies.0 pile1.replies.items reply more.replies.1 is.0.0 in
    let logs = same_span pile0.frames.items more.frames.0 pile1.frames.items frame more.frames.1 is.1.0 in
    ((texts.0, is.0.1 ∙ texts.1), (logs.0, is.1.1 ∙ logs.1))
still_marked show (outcome.Done r log) o' pile0 pile1 (mark.Damaged fault) more is = absurd is
still_marked show (outcome.Damaged fault) o' pile0 pile1 (mark.Said reply frame) more is = absurd is
still_marked show (outcome.Damaged fault) o' pile0 pile1 (mark.Damaged named) more is = is

-- ---- a worker's pile

wound_below : (n a b : ℕ) → a < n → b < n → wound n (a + b) < n
wound_below n a b low less = cases (nat_lt (a + b) n) refl
  where
    cases : (t : Bool) → nat_lt (a + b) n ≡ t → wound n (a + b) < n
    cases true is = rw is (grind (arith, nat_tests))
    cases false is = rw is (omega arith)

-- in each round a worker gets a place of that round
place_between : (d : Rounds) (worker round : ℕ) → worker < d.workers → round < d.rounds →
    (round * d.workers ≤ place_of d (worker * d.rounds + round)) × (place_of d (worker * d.rounds + round) < round * d.workers + d.workers)
place_between d worker round low less =
    let some : 0 < d.workers = omega arith in
    let below : wound d.workers (worker + shift_of d round) < d.workers = wound_below d.workers worker (shift_of d round) low (mod-lt (round + round / d.workers) some) in
    let is : place_of d (worker * d.rounds + round) ≡ round * d.workers + wound d.workers (worker + shift_of d round) =
    rw (mod-mul-add worker d.rounds round less, div-mul-add worker d.rounds round less) refl in
    (omega (arith, is), omega (arith, is, below))

rounds_apart : (r q n : ℕ) → r < q → r * n + n ≤ q * n
rounds_apart r q n less = grind arith

module _ (s : Space) (live : Live) (image : List ℕ) (show : Bool) (commands : List Command) (d : Rounds) where
  -- a worker with a place in this round had one in each before
  marked_all : (round worker : ℕ) (pile : Pile) → worker < d.workers → round < d.rounds → place_of d (worker * d.rounds + round) < length commands →
      IsPileIn s live image show commands d round worker pile → length pile.marks.items ≡ round
  marked_all round worker pile low less place is = cases (nat_lt (length pile.marks.items) round) refl
    where
      cases : (t : Bool) → nat_lt (length pile.marks.items) round ≡ t → length pile.marks.items ≡ round
      cases true t =
          let under : length pile.marks.items < round = grind (arith, nat_tests) in
          let before = place_between d worker (length pile.marks.items) low (omega arith) in
          let at = place_between d worker round low less in
          let apart = rounds_apart (length pile.marks.items) round d.workers under in
          absurd (omega (arith, is.whole (length pile.marks.items) under (omega (arith, before.1, at.0, apart, place))))
      cases false t = let over : round ≤ length pile.marks.items = grind (arith, nat_tests) in omega (arith, over, is.few)

  pub next_round : (round worker : ℕ) (c : Command) (pile0 pile1 : Pile) → worker < d.workers → round < d.rounds → place_of d (worker * d.rounds + round) < length commands →
      slice_get commands (place_of d (worker * d.rounds + round)) ≡ Some c → IsPileIn s live image show commands d round worker pile0 → HasMoreFor s live image show c pile0 pile1 →
      IsPileIn s live image show commands d (round + 1) worker pile1
  next_round round worker c pile0 pile1 low less place found is more = record {
    marked = λ r m at. get_push Marked pile0.marks.items added.mark before last r m (subst (λ (ms : List Mark). slice_get ms r ≡ Some m) added.added at);
    few = omega (arith, longer, full);
    whole = λ r under there. cases r under there (nat_lt r round) refl;
  }
    where
      added : HasMore show more.0 pile0 pile1
      added = more.2

      Marked : ℕ → Mark → Type 0
      Marked r m = (e : Command) × (slice_get commands (place_of d (worker * d.rounds + r)) ≡ Some e) × ((o : Outcome) × IsOutcomeOf s live image e o × IsMarked show o pile1 m)

      full : length pile0.marks.items ≡ round
      full = marked_all round worker pile0 low less place is

      longer : length pile1.marks.items ≡ length pile0.marks.items + 1
      longer = ap length added.added ∙ length-append pile0.marks.items (added.mark ∷ [])

      before : (r : ℕ) (m : Mark) → slice_get pile0.marks.items r ≡ Some m → Marked r m
      before r m at = let held = is.marked r m at in (held.0, held.1, (held.2.0, held.2.1, still_marked show held.2.0 more.0 pile0 pile1 m added held.2.2))

      last : Marked (length pile0.marks.items) added.mark
      last = rw full (c, found, (more.0, more.1, added.marked))

      cases : (r : ℕ) → r < round + 1 → place_of d (worker * d.rounds + r) < length commands → (t : Bool) → nat_lt r round ≡ t → r < length pile1.marks.items
      cases r under there true t = let earlier : r < round = grind (arith, nat_tests) in omega (arith, is.whole r earlier there, longer)
      cases r under there false t = omega (arith, longer, full)

  pub skipped_round : (round worker : ℕ) (pile : Pile) → length commands ≤ place_of d (worker * d.rounds + round) → IsPileIn s live image show commands d round worker pile →
      IsPileIn s live image show commands d (round + 1) worker pile
  skipped_round round worker pile past is = record {
    marked = is.marked;
    few = omega (arith, is.few);
    whole = λ r under there. cases r under there (nat_lt r round) refl;
  }
    where
      cases : (r : ℕ) → r < round + 1 → place_of d (worker * d.rounds + r) < length commands → (t : Bool) → nat_lt r round ≡ t → r < length pile.marks.items
      cases r under there true t = let earlier : r < round = grind (arith, nat_tests) in is.whole r earlier there
      cases r under there false t =
          let same : r ≡ round = grind (arith, nat_tests) in
          absurd (let low : place_of d (worker * d.rounds + round) < length commands = subst (λ (q : ℕ). place_of d (worker * d.rounds + q) < length commands) same there in omega arith)

  -- ---- the piles of all workers

  pub are_piles : (tried : List (Result Pile AllocError)) (piles : List Pile) → length tried ≡ d.workers →
      ((i : ℕ) (x : Result Pile AllocError) → slice_get tried i ≡ Some x → IfOk x (λ pile. IsPileIn s live image show commands d d.rounds i pile)) →
      tried ≡ map (λ pile. Ok pile) piles → ArePiles s live image show commands d piles
  are_piles tried piles long each all = (as_many tried piles all ∙ long, λ worker pile at. each worker (Ok pile) (done_at tried piles all worker pile at))

  has_element : {X : Type 0} (xs : List X) (i : ℕ) → i < length xs → (x : X) × (slice_get xs i ≡ Some x)
  has_element [] i low = absurd (omega arith)
  has_element (x ∷ xs) zero low = (x, refl)
  has_element (x ∷ xs) (suc i) low = has_element xs i (omega arith)

  lies : (o : Outcome) (pile : Pile) (m : Mark) → IsMarked show o pile m → LiesIn pile m
  lies (outcome.Done r log) pile (mark.Said reply frame) is = (is.0.0, is.1.0)
  lies (outcome.Done r log) pile (mark.Damaged fault) is = tt
  lies (outcome.Damaged fault) pile (mark.Said reply frame) is = absurd is
  lies (outcome.Damaged fault) pile (mark.Damaged named) is = tt

  module _ (piles : List Pile) (is : ArePiles s live image show commands d piles) where
    pub stacked : 1 ≤ d.rounds → AreStacked d (length commands) piles
    stacked some seat within low =
        let worker : seat / d.rounds < length piles = (let below = round_below seat d.rounds d.workers some (grind arith) in omega (arith, is.0)) in
        let pile = has_element piles (seat / d.rounds) worker in
        let held = is.1 (seat / d.rounds) pile.0 pile.1 in
        let same : seat / d.rounds * d.rounds + seat % d.rounds ≡ seat = div-add-mod' seat d.rounds in
        let m = has_element pile.0.marks.items (seat % d.rounds) (held.whole (seat % d.rounds) (mod-lt seat (omega arith)) (rw same low)) in
        (record { pile = pile.0; mark = m.0; piled = pile.1; marked = m.1 }, lies (held.marked (seat % d.rounds) m.0 m.1).2.0 pile.0 m.0 (held.marked (seat % d.rounds) m.0 m.1).2.2)

    prepares : (o : Outcome) (pile : Pile) (m : Mark) (p : Prepared) → IsMarked show o pile m → IsShown pile m p → IsPrepared show o p
    prepares (outcome.Done r log) pile (mark.Said reply frame) (prepared.Said text frame') marked shown = (shown.0 ∙ sym marked.0.1, shown.1 ∙ sym marked.1.1)
    prepares (outcome.Done r log) pile (mark.Said reply frame) (prepared.Damaged fault) marked shown = absurd shown
    prepares (outcome.Done r log) pile (mark.Damaged fault) p marked shown = absurd marked
    prepares (outcome.Damaged fault) pile (mark.Said reply frame) p marked shown = absurd marked
    prepares (outcome.Damaged fault) pile (mark.Damaged named) (prepared.Said text frame) marked shown = absurd shown
    prepares (outcome.Damaged fault) pile (mark.Damaged named) (prepared.Damaged told) marked shown = shown ∙ marked

    pub zipped : (all : List Prepared) → AreShown d (length commands) piles all → AllZip (IsPreparedFor s live image show) commands all
    zipped all shown = all_zipped (IsPreparedFor s live image show) commands all shown.0 each
      where
        each : (i : ℕ) (p : Prepared) (c : Command) → slice_get all i ≡ Some p → IsPreparedFor s live image show (get_or commands i c) p
        each i p c at =
            let there = shown.1 i p at in
            let m = there.2.0 in
            let held = (is.1 (there.0 / d.rounds) m.pile m.piled).marked (there.0 % d.rounds) m.mark m.marked in
            let same : place_of d (there.0 / d.rounds * d.rounds + there.0 % d.rounds) ≡ i = ap (place_of d) (div-add-mod' there.0 d.rounds) ∙ there.1 in
            let found : get_or commands i c ≡ held.0 = get_or_from_slice_get commands i held.0 c (subst (λ (q : ℕ). slice_get commands q ≡ Some held.0) same held.1) in
            rw found (held.2.0, held.2.1, prepares held.2.0 m.pile m.mark p held.2.2 there.2.1)

-- what is prepared for the `count` commands of a script
pub zipped_in : (s s' : Space) (live : Live) (image : List ℕ) (show : Bool) (commands : List Command) (d : Rounds) (count : ℕ) (piles : List Pile) (all : List Prepared) → s ≡ s' → count ≡ length commands →
    ArePiles s live image show commands d piles → AreShown d count piles all → AllZip (IsPreparedFor s' live image show) commands all
zipped_in s s' live image show commands d count piles all same count_is are shown =
    subst (λ (x : Space). AllZip (IsPreparedFor x live image show) commands all) same (zipped s live image show commands d piles are all (subst (λ (n : ℕ). AreShown d n piles all) count_is shown))

-- ---- in the order of the places

pub one_shown : (d : Rounds) (piles : List Pile) (place seat : ℕ) (all : List Prepared) (pile pile' : Pile) (m m' : Mark) (p : Prepared) (stands : Stands d piles seat) → AreShown d place piles all → place_of d seat ≡ place →
    get_or piles (seat / d.rounds) pile' ≡ pile → get_or pile.marks.items (seat % d.rounds) m' ≡ m → IsShown pile m p → AreShown d (place + 1) piles (all ++ p ∷ [])
one_shown d piles place seat all pile pile' m m' p stands shown is pile_is m_is one = (
  (let long = length-append all (p ∷ []) in let old = shown.0 in omega arith),
  get_push (λ k x. (q : ℕ) × (place_of d q ≡ k) × ((n : Stands d piles q) × IsShown n.pile n.mark x)) all p shown.1 (seat, is ∙ sym shown.0, (stands, there)),
)
  where
    same_pile : pile ≡ stands.pile
    same_pile = sym pile_is ∙ get_or_from_slice_get piles (seat / d.rounds) stands.pile pile' stands.piled

    same_mark : m ≡ stands.mark
    same_mark = sym m_is ∙ ap (λ (q : Pile). get_or q.marks.items (seat % d.rounds) m') same_pile ∙ get_or_from_slice_get stands.pile.marks.items (seat % d.rounds) stands.mark m' stands.marked

    there : IsShown stands.pile stands.mark p
    there = rw (sym same_pile, sym same_mark) one
