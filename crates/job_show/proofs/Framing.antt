-- One frame more.
use Rattle.std.proofs.Common.{◌≡◌, ℕ, ◌+◌, ◌&&◌, Bool, true, false, List, [], ◌∷◌, Option, Some, None, refl, sym, subst, ◌∙◌, ap}
use Rattle.std.specs.Option.{is_none}
use Rattle.page_store.specs.Reading.{Read}
use Rattle.page_store.specs.Shelf.{Shelf, HoldsSame}
use Rattle.log_model.specs.declared.logs.Log.{Log}
use Rattle.job_files.specs.declared.logs.stop.LogStop.{LogStop}
use Rattle.job_files.specs.Logs.JobReports.{are_sound}
use Rattle.job_files.specs.Logs.Jobs.{Puts}
use Rattle.job_show.specs.declared.view.View.{View}
use Rattle.job_show.specs.Steps.{fault_by, text_by, texts_by}
use Rattle.job_show.proofs.PutTexts.{HasPut, one_more, then_put, stopped_put}

and_assoc : (x y z : Bool) → (x && (y && z)) ≡ ((x && y) && z)
and_assoc true y z = refl
and_assoc false y z = refl

module _ (view : View) (old mid : Shelf) (same : HoldsSame old mid) (i : ℕ) (log : Log) (logs : List Log) where
  -- the text of the log of frame i was put, by pages that hold what they held at first
  pub frame_put : (texts : List (List ℕ)) (w0 w1 w2 : Option (List ℕ)) → HasPut texts (texts_by view old.read i (log ∷ logs)) w0 w1 → Puts (text_by view mid.read i log ∷ []) w1 w2 None
      → HasPut texts (texts_by view old.read (i + 1) logs) w0 w2
  frame_put texts w0 w1 w2 before next =
      one_more texts (text_by view old.read i log) (texts_by view old.read (i + 1) logs) w0 w1 w2 before (subst (λ (read : Read). Puts (text_by view read i log ∷ []) w1 w2 None) same.read next)

  -- its text was not put whole
  pub frame_stopped : (texts : List (List ℕ)) (w0 w1 w2 : Option (List ℕ)) (why : LogStop) → HasPut texts (texts_by view old.read i (log ∷ logs)) w0 w1 → Puts (text_by view mid.read i log ∷ []) w1 w2 (Some why)
      → Puts texts w0 w2 (Some why)
  frame_stopped texts w0 w1 w2 why before next =
      then_put texts (texts_by view old.read i (log ∷ logs)) w0 w1 w2 (Some why) before
      (stopped_put (text_by view old.read i log ∷ []) (texts_by view old.read (i + 1) logs) w1 w2 why (subst (λ (read : Read). Puts (text_by view read i log ∷ []) w1 w2 (Some why)) same.read next))

  -- whether none of the logs so far has a fault
  pub frame_sound : (total sound found : Bool) → total ≡ (sound && are_sound (fault_by view old.read) (log ∷ logs)) → found ≡ is_none (fault_by view mid.read log)
      → total ≡ ((sound && found) && are_sound (fault_by view old.read) logs)
  frame_sound total sound found before next =
      let here : found ≡ is_none (fault_by view old.read log) = subst (λ (read : Read). found ≡ is_none (fault_by view read log)) same.read next in
      before ∙ and_assoc sound (is_none (fault_by view old.read log)) (are_sound (fault_by view old.read) logs) ∙ ap (λ (x : Bool). (sound && x) && are_sound (fault_by view old.read) logs) (sym here)
