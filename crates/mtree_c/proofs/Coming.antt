-- The outcome of a query, and what of it is handed over.
use Rattle.std.proofs.Common.{◌≡◌, ◌⊎◌, inl, inr, ⊎_elim, ◌∙◌, ℕ, ◌<◌, List, length, Bool, true, false, Option, Some, None, Result, Ok, Err, refl, sym, subst, ap, arith}
use Rattle.std.specs.Prelude.{IfOk, IfErr, if◌then◌else◌}
use Rattle.std.specs.declared.alloc.AllocError.{AllocError}
use Rattle.metric_laws.specs.Space.{Space}
use Rattle.metric_mix.specs.MixSpaces.{mix_space}
use Rattle.scan_model.specs.declared.hit.Hit.{Hit}
use Rattle.scan_model.specs.declared.query.Query.{Query}
use Rattle.tree_shape.specs.declared.live.Live.{Live}
use Rattle.node_page.specs.declared.head.Head.{Head}
use Rattle.node_page.specs.Opening.{OpensTo}
use Rattle.log_model.specs.declared.logs.Log.{Log}
use Rattle.rows_text.specs.declared.command.Command.{Command}
use Rattle.rows_text.specs.declared.reply.Reply.{Reply}
use Rattle.rows_text.specs.declared.reply.Reply.TheVariants as reply
use Rattle.rows_text.specs.Meaning.{has_points_of}
use Rattle.image_answers.specs.declared.outcome.Outcome.{Outcome}
use Rattle.image_answers.specs.declared.outcome.Outcome.TheVariants as outcome
use Rattle.answer_texts.specs.Asked.{query_of}
use Rattle.image_answers.specs.Outcomes.{IsOutcomeOf, IsTold}
use Rattle.mtree_c.specs.declared.answering.TaggedHit.{TaggedHit}
use Rattle.mtree_c.specs.declared.answering.Sizes.{Sizes}
use Rattle.caller_ends.specs.Rooms.{StandAtFront}
use Rattle.job_files.specs.Spaces.{space_of}
use Rattle.mtree_c.specs.Answers.{Answer, ComesTo, HandsAnswer, HasNoAnswer, IsAnswer, IsUnanswered, frame_for, sizes_of, status_of, tagged}
use Rattle.mtree_c.proofs.Putting.{length-tagged}

-- ---- what is handed over

abbrev sized : ℕ → ℕ → Sizes
sized count size = record { hits = count; log = size }

module _ (file : List ℕ) (c : Command) (hits : List Hit) (tags : List ℕ) (log : Log) (frame : List ℕ) (h0 h1 : List TaggedHit) (l0 l1 : List ℕ) (count size : ℕ)
    (comes : ComesTo file c (outcome.Done (reply.Hits hits tags) (Some log))) (each : length tags ≡ length hits) (is : frame ≡ frame_for l0 log) (count_is : count ≡ length hits)
    (size_is : size ≡ length frame) where
  abbrev whole : Answer
  whole = record { hits = tagged hits tags; frame = frame }

  answers : IsAnswer file c l0 whole
  answers = (hits, tags, log, comes, ap (λ (f : List ℕ). record { hits = tagged hits tags; frame = f }) is)

  counted : count ≡ length (tagged hits tags)
  counted = count_is ∙ sym (length-tagged hits tags each)

  sizes : record { hits = count; log = size } ≡ sizes_of whole
  sizes = ap (λ (n : ℕ). sized n size) counted ∙ ap (λ (n : ℕ). sized (length (tagged hits tags)) n) size_is

  pub handed : StandAtFront (tagged hits tags) h0 h1 → StandAtFront frame l0 l1 → HandsAnswer file c h0 h1 l0 l1 (record { hits = count; log = size }) 0
  handed front behind = record {
    done = λ e. (whole, answers, sizes, front, behind);
    short = λ e. absurd (omega (arith, e));
    unanswered = λ other. absurd (other refl);
    same = λ other. absurd (other refl);
  }

  pub too_short : (length h0 < count) ⊎ (length l0 < size) → HandsAnswer file c h0 h0 l0 l0 (record { hits = count; log = size }) 4
  too_short lack = record {
    done = λ e. absurd (omega (arith, e));
    short = λ e. (whole, answers, sizes, ⊎_elim (λ less. inl (subst (λ (n : ℕ). length h0 < n) counted less)) (λ less. inr (subst (λ (n : ℕ). length l0 < n) size_is less)) lack);
    unanswered = λ a other. absurd (other refl);
    same = λ other. (refl, refl);
  }

-- ---- why there is no answer

no_points : (s : Space) (live : Live) (file : List ℕ) (c : Command) (asked : Query) (r : Reply) (log : Option Log) (b : Bool) → IsTold s live file c (if b then Some asked else None) (outcome.Done r log)
    → IsUnanswered (Ok (outcome.Done r log)) → b ≡ false
no_points s live file c asked r log false told un = refl
no_points s live file c asked (reply.Hits hits tags) None true told un = absurd told
no_points s live file c asked (reply.Hits hits tags) (Some log) true told un = absurd un
no_points s live file c asked (reply.Id n) log true told un = absurd told
no_points s live file c asked (reply.Loaded n) log true told un = absurd told
no_points s live file c asked (reply.Pairs pairs) log true told un = absurd told
no_points s live file c asked (reply.Count n) log true told un = absurd told
no_points s live file c asked (reply.Refused why) log true told un = absurd told
no_points s live file c asked (reply.Cursor n) log true told un = absurd told
no_points s live file c asked (reply.Next hits tags) log true told un = absurd told
no_points s live file c asked (reply.Closed n) log true told un = absurd told

by_status : (file : List ℕ) (head : Head) (live : Live) (c : Command) (asked : Query) → OpensTo file head live → head.version ≡ 2 → query_of c ≡ Some asked → (came : Result Outcome AllocError)
    → IfOk came (IsOutcomeOf (space_of head) live file c) → IsUnanswered came → HasNoAnswer file c (status_of came)
by_status file head live c asked opens version query (Err memory) came un = record {
  no_query = λ e. absurd (omega (arith, e));
  no_index = λ e. absurd (omega (arith, e));
  damaged = λ e. absurd (omega (arith, e));
  statuses = inr (inr (inl refl));
}
by_status file head live c asked opens version query (Ok (outcome.Damaged fault)) came un = record {
  no_query = λ e. absurd (omega (arith, e));
  no_index = λ e. absurd (omega (arith, e));
  damaged = λ e. (fault, record { head = head; live = live; opens = opens; version = version; outcome = came });
  statuses = inr (inr (inr refl));
}
by_status file head live c asked opens version query (Ok (outcome.Done r log)) came un = record {
  no_query = λ e. inr (
    head,
    live,
    opens,
    version,
    no_points (space_of head) live file c asked r log (has_points_of (space_of head) c)
        (subst (λ (q : Option Query). IsTold (space_of head) live file c (if has_points_of (space_of head) c then q else None) (outcome.Done r log)) query came.told) un,
  );
  no_index = λ e. absurd (omega (arith, e));
  damaged = λ e. absurd (omega (arith, e));
  statuses = inl refl;
}

pub unanswered : (file : List ℕ) (head : Head) (live : Live) (c : Command) (asked : Query) (kind dim status : ℕ) → OpensTo file head live → head.version ≡ 2 → kind ≡ head.kind → dim ≡ head.dim
    → query_of c ≡ Some asked → (came : Result Outcome AllocError) → IfOk came (IsOutcomeOf (mix_space kind dim) live file c) → (status ≡ status_of came) → IsUnanswered came → HasNoAnswer file c status
unanswered file head live c asked kind dim status opens version kind_is dim_is query came comes is un =
    subst (HasNoAnswer file c) (sym is)
    (by_status file head live c asked opens version query came
    (subst (λ (d : ℕ). IfOk came (IsOutcomeOf (mix_space head.kind d) live file c)) dim_is (subst (λ (k : ℕ). IfOk came (IsOutcomeOf (mix_space k dim) live file c)) kind_is comes)) un)

pub err_by : {A : Type 0} (r : Result A ℕ) (P Q : ℕ → Type 0) → ((n : ℕ) → P n → Q n) → IfErr r P → IfErr r Q
err_by (Ok a) P Q why is = is
err_by (Err n) P Q why is = why n is
