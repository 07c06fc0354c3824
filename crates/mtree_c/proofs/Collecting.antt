-- The answers to one point more, and why points have no answers.
use Rattle.std.proofs.Common.{◌≡◌, ◌≢◌, inl, inr, ℕ, ◌+◌, ◌*◌, ◌^◌, ◌<◌, ◌≤◌, List, [], ◌∷◌, ◌++◌, length, take, drop, Result, Ok, Err, Some, IfOk, refl, sym, subst, ap, ◌∙◌, arith}
use Rattle.std.specs.List.{AllZip}
use Rattle.std.proofs.lemmas.List.{flat_map_more, length-map, map-append, take_all}
use Rattle.std.proofs.lemmas.Slice.Zip.{AllZip-long}
use Rattle.std.specs.declared.alloc.AllocError.{AllocError}
use Rattle.metric_laws.specs.Space.{Space}
use Rattle.metric_laws.specs.Rows.{rows_of}
use Rattle.metric_mix.specs.MixSpaces.{mix_space}
use Rattle.scan_model.specs.declared.hit.Hit.{Hit}
use Rattle.tree_shape.specs.declared.live.Live.{Live}
use Rattle.node_page.specs.declared.head.Head.{Head}
use Rattle.node_page.specs.Heads.{IsValidHead}
use Rattle.node_page.specs.Opening.{OpensTo}
use Rattle.page_store.specs.declared.image_pages.ImagePages.{ImagePages}
use Rattle.page_store.specs.Images.{bytes_in}
use Rattle.page_cache.specs.Mapped.{Mapped}
use Rattle.log_model.specs.declared.logs.Log.{Log}
use Rattle.rows_text.specs.declared.command.Command.{Command}
use Rattle.rows_text.specs.declared.reply.Reply.TheVariants as reply
use Rattle.scan_model.specs.declared.query.Query.TheVariants as query
use Rattle.job_files.specs.Jobs.{IsNoIndex}
use Rattle.job_files.specs.Spaces.{space_of}
use Rattle.image_answers.specs.declared.outcome.Outcome.{Outcome}
use Rattle.image_answers.specs.declared.outcome.Outcome.TheVariants as outcome
use Rattle.image_answers.specs.Outcomes.{ArePagesOf, IsOutcomeOf}
use Rattle.mtree_c.specs.declared.answering.Answer.{Answer}
use Rattle.mtree_c.specs.declared.answering.TaggedHit.{TaggedHit}
use Rattle.mtree_c.specs.declared.each.Ask.{Ask}
use Rattle.mtree_c.specs.declared.each.Ask.TheVariants as asked
use Rattle.mtree_c.specs.Answers.{ComesTo, HasNoAnswer, IsUnanswered, status_of, tagged}
use Rattle.mtree_c.specs.Each.{AnswersRows, AnswersTo, AreHitsOf, HasNoAnswers, IsOpened, IsRow, command_of}
use Rattle.mtree_c.proofs.Coming.{unanswered}
use Rattle.mtree_c.proofs.Putting.{length-tagged}
use Rattle.mtree_c.proofs.Standing.{length-rows_of, one_row_more, row_stands}

-- ---- one point more

zip_push : {A B : Type 0} (R : A → B → Type 0) (xs : List A) (ys : List B) (x : A) (y : B) → AllZip R xs ys → R x y → AllZip R (xs ++ x ∷ []) (ys ++ y ∷ [])
zip_push R [] [] x y zip is = (is, tt)
zip_push R [] (b ∷ ys) x y zip is = absurd zip
zip_push R (a ∷ xs) [] x y zip is = absurd zip
zip_push R (a ∷ xs) (b ∷ ys) x y zip is = (zip.0, zip_push R xs ys x y zip.1 is)

module _ (file : List ℕ) (ask : Ask) where
  pub none_yet : AnswersTo file ask [] [] []
  none_yet = record { answers = []; each = tt; hits_are = refl; counts_are = refl }

  one_more : (ps : List (List ℕ)) (p : List ℕ) (h found : List TaggedHit) (c : List ℕ) → AnswersTo file ask ps h c → AreHitsOf file ask p found
      → AnswersTo file ask (ps ++ p ∷ []) (h ++ found) (c ++ length found ∷ [])
  one_more ps p h found c are is = record {
    answers = are.answers ++ found ∷ [];
    each = zip_push (AreHitsOf file ask) ps are.answers p found are.each is;
    hits_are = ap (λ (x : List TaggedHit). x ++ found) are.hits_are ∙ flat_map_more (λ (x : List TaggedHit). x) [] are.answers found;
    counts_are = ap (λ (x : List ℕ). x ++ length found ∷ []) are.counts_are ∙ sym (map-append (λ (x : List TaggedHit). length x) are.answers (found ∷ []));
  }

  -- the answer to row i
  pub next_row : (w n i : ℕ) (points : List ℕ) (h h' : List TaggedHit) (c c' : List ℕ) (hits : List Hit) (tags : List ℕ) (log : Log) → i < n → length tags ≡ length hits
      → AnswersTo file ask (take i (rows_of w n points)) h c → ComesTo file (command_of ask (take w (drop (i * w) points))) (outcome.Done (reply.Hits hits tags) (Some log))
      → h' ≡ h ++ tagged hits tags → c' ≡ c ++ length hits ∷ [] → AnswersTo file ask (take (i + 1) (rows_of w n points)) h' c'
  next_row w n i points h h' c c' hits tags log lt each are comes hits_are counts_are =
      let rows = take (i + 1) (rows_of w n points) in
      let found = tagged hits tags in
      let more = one_more (take i (rows_of w n points)) (take w (drop (i * w) points)) h found c are (hits, tags, log, comes, refl) in
      let counted : c ++ length found ∷ [] ≡ c' = ap (λ (k : ℕ). c ++ k ∷ []) (length-tagged hits tags each) ∙ sym counts_are in
      subst (λ (x : List ℕ). AnswersTo file ask rows h' x) counted
      (subst (λ (x : List TaggedHit). AnswersTo file ask rows x (c ++ length found ∷ [])) (sym hits_are)
      (subst (λ (ps : List (List ℕ)). AnswersTo file ask ps (h ++ found) (c ++ length found ∷ [])) (sym (one_row_more w n i points lt)) more))

  -- all rows are answered
  pub all_rows : (head : Head) (live : Live) (n i : ℕ) (points : List ℕ) (h : List TaggedHit) (c : List ℕ) → OpensTo file head live → head.version ≡ 2 → length points ≡ n * head.dim → n ≤ i
      → AnswersTo file ask (take i (rows_of head.dim n points)) h c → AnswersRows file ask points n h c
  all_rows head live n i points h c opens version long le are =
      let rows = rows_of head.dim n points in
      let all : take i rows ≡ rows = take_all i rows (omega (arith, length-rows_of head.dim n points)) in
      record { head = head; live = live; opens = opens; version = version; long = long; answered = subst (λ (ps : List (List ℕ)). AnswersTo file ask ps h c) all are }

  pub counts_long : (points : List ℕ) (n : ℕ) (h : List TaggedHit) (c : List ℕ) → AnswersRows file ask points n h c → length c ≡ n
  counts_long points n h c are =
      let a = are.answered in
      ap length a.counts_are ∙ length-map a.answers (λ (x : List TaggedHit). length x) ∙ AllZip-long (AreHitsOf file ask) (rows_of are.head.dim n points) a.answers a.each
      ∙ length-rows_of are.head.dim n points

  -- ---- why there are no answers

  pub row_without : (head : Head) (live : Live) (points : List ℕ) (n i status : ℕ) → OpensTo file head live → head.version ≡ 2 → i < n
      → HasNoAnswer file (command_of ask (take head.dim (drop (i * head.dim) points))) status → HasNoAnswers file ask points n status
  row_without head live points n i status opens version lt none =
      let p = take head.dim (drop (i * head.dim) points) in
      let row : IsRow file points n p = record { head = head; live = live; opens = opens; version = version; stands = row_stands head.dim n i points lt } in
      record {
        no_query = λ e. inr (inr (p, row, none.no_query e));
        no_index = none.no_index;
        damaged = λ e. (p, row, none.damaged e);
        statuses = none.statuses;
      }

  pub no_memory : (points : List ℕ) (n : ℕ) → HasNoAnswers file ask points n 8
  no_memory points n = record {
    no_query = λ e. absurd (omega (arith, e));
    no_index = λ e. absurd (omega (arith, e));
    damaged = λ e. absurd (omega (arith, e));
    statuses = inr (inr (inl refl));
  }

  pub none_asked : (points : List ℕ) (n : ℕ) → ask ≡ asked.Nearest 0 → HasNoAnswers file ask points n 2
  none_asked points n is = record {
    no_query = λ e. inl is;
    no_index = λ e. absurd (omega (arith, e));
    damaged = λ e. absurd (omega (arith, e));
    statuses = inl refl;
  }

  pub mislong : (head : Head) (live : Live) (points : List ℕ) (n : ℕ) → OpensTo file head live → head.version ≡ 2 → length points ≢ n * head.dim → HasNoAnswers file ask points n 2
  mislong head live points n opens version other = record {
    no_query = λ e. inr (inl (record { head = head; live = live; opens = opens; version = version; other = other }));
    no_index = λ e. absurd (omega (arith, e));
    damaged = λ e. absurd (omega (arith, e));
    statuses = inl refl;
  }

  pub unopened : (points : List ℕ) (n status : ℕ) → (status ≡ 6) × ((name : List ℕ) × IsNoIndex file name) → HasNoAnswers file ask points n status
  unopened points n status why = record {
    no_query = λ e. absurd (omega (arith, e, why.0));
    no_index = λ e. why.1;
    damaged = λ e. absurd (omega (arith, e, why.0));
    statuses = inr (inl why.0);
  }

-- ---- pages of an opened file

module _ (kind dim : ℕ) (head : Head) (live : Live) (kind_is : kind ≡ head.kind) (dim_is : dim ≡ head.dim) where
  same_space : mix_space kind dim ≡ space_of head
  same_space = ap (λ (k : ℕ). mix_space k dim) kind_is ∙ ap (λ (d : ℕ). mix_space head.kind d) dim_is

  pub pages_by : (file : List ℕ) (pages : Mapped ImagePages) → ArePagesOf (space_of head) live file pages → ArePagesOf (mix_space kind dim) live file pages
  pages_by file pages are = subst (λ (s : Space). ArePagesOf s live file pages) (sym same_space) are

  pub pages_of : (file : List ℕ) (pages : Mapped ImagePages) → ArePagesOf (mix_space kind dim) live file pages → ArePagesOf (space_of head) live file pages
  pages_of file pages are = subst (λ (s : Space). ArePagesOf s live file pages) same_space are

  -- pages that were just put behind a cache
  pub opened_by : (file : List ℕ) (pages : Mapped ImagePages) → OpensTo file head live → head.version ≡ 2 → IsValidHead head → live.pages ≤ 2 ^ 24 → ArePagesOf (mix_space kind dim) live file pages
      → IsOpened (bytes_in pages.inner.image) head live pages
  opened_by file pages opens version valid few are =
      subst (λ (x : List ℕ). IsOpened x head live pages) (sym are.bytes)
      (record { opens = opens; version = version; valid = valid; few = few; behind = pages_of file pages are })

  pub comes_to : (file : List ℕ) (c : Command) → OpensTo file head live → head.version ≡ 2 → (came : Result Outcome AllocError) → IfOk came (IsOutcomeOf (mix_space kind dim) live file c)
      → (r : Result Answer ℕ) → IfOk r (λ a. came ≡ Ok (outcome.Done (reply.Hits a.hits a.tags) (Some a.log)))
      → IfOk r (λ a. ComesTo file c (outcome.Done (reply.Hits a.hits a.tags) (Some a.log)))
  comes_to file c opens version came comes (Err n) is = is
  comes_to file c opens version came comes (Ok a) is = record {
    head = head;
    live = live;
    opens = opens;
    version = version;
    outcome = subst (λ (s : Space). IsOutcomeOf s live file c (outcome.Done (reply.Hits a.hits a.tags) (Some a.log))) same_space
        (subst (λ (r : Result Outcome AllocError). IfOk r (IsOutcomeOf (mix_space kind dim) live file c)) is comes);
  }

  -- why a query has no answer
  pub without : (file : List ℕ) (ask : Ask) (p : List ℕ) (status : ℕ) → OpensTo file head live → head.version ≡ 2 → (came : Result Outcome AllocError)
      → IfOk came (IsOutcomeOf (mix_space kind dim) live file (command_of ask p)) → status ≡ status_of came → IsUnanswered came → HasNoAnswer file (command_of ask p) status
  without file (asked.Range radius) p status opens version came comes is un =
      unanswered file head live (command_of (asked.Range radius) p) (query.Range p radius) kind dim status opens version kind_is dim_is refl came comes is un
  without file (asked.Nearest count) p status opens version came comes is un =
      unanswered file head live (command_of (asked.Nearest count) p) (query.Nearest p count) kind dim status opens version kind_is dim_is refl came comes is un

-- the same pages, by the bytes that they hold
pub opened_at : (file : List ℕ) (head : Head) (live : Live) (pages : Mapped ImagePages) → IsOpened file head live pages → IsOpened (bytes_in pages.inner.image) head live pages
opened_at file head live pages is = subst (λ (x : List ℕ). IsOpened x head live pages) (sym is.behind.bytes) is
