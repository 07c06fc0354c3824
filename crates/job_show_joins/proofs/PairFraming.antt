-- One frame more.
use Rattle.std.proofs.Common.{◌≡◌, ℕ, ◌+◌, ◌&&◌, Bool, true, false, List, [], ◌∷◌, Option, Some, None, refl, sym, subst, ◌∙◌, ap}
use Rattle.std.specs.Option.{is_none}
use Rattle.page_store.specs.Reading.{Read}
use Rattle.page_store.specs.Shelf.{Shelf}
use Rattle.log_model.specs.declared.logs.JoinLog.{JoinLog}
use Rattle.job_files.specs.declared.logs.stop.LogStop.{LogStop}
use Rattle.job_files.specs.Logs.JobReports.{are_sound}
use Rattle.job_files.specs.Logs.Jobs.{Puts}
use Rattle.job_show.proofs.Published.{HasPut, one_more, then_put, stopped_put}
use Rattle.job_show_joins.specs.declared.view.JoinView.{JoinView}
use Rattle.job_join.specs.Both.{HoldBoth}
use Rattle.job_show_joins.specs.Steps.{fault_by, text_by, texts_by}

and_assoc : (x y z : Bool) → (x && (y && z)) ≡ ((x && y) && z)
and_assoc true y z = refl
and_assoc false y z = refl

module _ (view : JoinView) (l lm r rm : Shelf) (same : HoldBoth l lm r rm) (i : ℕ) (log : JoinLog) (logs : List JoinLog) where
  -- what holds for what the pages hold now holds for what they held
  earlier : (Holds : Read → Read → Type 0) → Holds lm.read rm.read → Holds l.read r.read
  earlier Holds now = subst (λ (read : Read). Holds l.read read) same.right.read (subst (λ (read : Read). Holds read rm.read) same.left.read now)

  -- the text of the log of frame i was put, by pages that hold what they held at first
  pub frame_put : (texts : List (List ℕ)) (w0 w1 w2 : Option (List ℕ)) → HasPut texts (texts_by view l.read r.read i (log ∷ logs)) w0 w1 → Puts (text_by view lm.read rm.read i log ∷ []) w1 w2 None
      → HasPut texts (texts_by view l.read r.read (i + 1) logs) w0 w2
  frame_put texts w0 w1 w2 before next =
      one_more texts (text_by view l.read r.read i log) (texts_by view l.read r.read (i + 1) logs) w0 w1 w2 before (earlier (λ a b. Puts (text_by view a b i log ∷ []) w1 w2 None) next)

  -- its text was not put whole
  pub frame_stopped : (texts : List (List ℕ)) (w0 w1 w2 : Option (List ℕ)) (why : LogStop) → HasPut texts (texts_by view l.read r.read i (log ∷ logs)) w0 w1 → Puts (text_by view lm.read rm.read i log ∷ []) w1 w2 (Some why)
      → Puts texts w0 w2 (Some why)
  frame_stopped texts w0 w1 w2 why before next =
      then_put texts (texts_by view l.read r.read i (log ∷ logs)) w0 w1 w2 (Some why) before
      (stopped_put (text_by view l.read r.read i log ∷ []) (texts_by view l.read r.read (i + 1) logs) w1 w2 why (earlier (λ a b. Puts (text_by view a b i log ∷ []) w1 w2 (Some why)) next))

  -- whether none of the logs so far has a fault
  pub frame_sound : (total sound found : Bool) → total ≡ (sound && are_sound (fault_by view l.read r.read) (log ∷ logs)) → found ≡ is_none (fault_by view lm.read rm.read log)
      → total ≡ ((sound && found) && are_sound (fault_by view l.read r.read) logs)
  frame_sound total sound found before next =
      let here : found ≡ is_none (fault_by view l.read r.read log) = earlier (λ a b. found ≡ is_none (fault_by view a b log)) next in
      before ∙ and_assoc sound (is_none (fault_by view l.read r.read log)) (are_sound (fault_by view l.read r.read) logs)
      ∙ ap (λ (x : Bool). (sound && x) && are_sound (fault_by view l.read r.read) logs) (sym here)
