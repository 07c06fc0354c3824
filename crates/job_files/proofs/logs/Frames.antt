-- One frame more.
use Rattle.std.proofs.Common.{◌≡◌, ℕ, ◌+◌, ◌&&◌, Bool, true, false, List, [], ◌∷◌, Option, Some, None, refl, sym, subst, ◌∙◌, ap}
use Rattle.std.specs.Option.{is_none}
use Rattle.job_files.specs.declared.logs.report.Report.{Report}
use Rattle.job_files.specs.declared.logs.stop.LogStop.{LogStop}
use Rattle.job_files.specs.Logs.JobReports.{Words, frame_text, frame_texts, are_sound}
use Rattle.job_files.specs.Logs.Jobs.{Puts}
use Rattle.job_files.proofs.logs.Puts.{HasPut, one_more, then_put, stopped_put}

-- the text of the log of frame i was put, by a court that judges as it did at first
pub frame_put : {L V : Type 0} (words : Words L V) (what : Report) (first now : L → Option V) (i : ℕ) (log : L) (logs : List L) (texts : List (List ℕ)) (w0 w1 w2 : Option (List ℕ)) → now ≡ first
    → HasPut texts (frame_texts words what first i (log ∷ logs)) w0 w1 → Puts (frame_text words what i log (now log) ∷ []) w1 w2 None
    → HasPut texts (frame_texts words what first (i + 1) logs) w0 w2
frame_put {L} {V} words what first now i log logs texts w0 w1 w2 same before next =
    one_more texts (frame_text words what i log (first log)) (frame_texts words what first (i + 1) logs) w0 w1 w2 before
    (subst (λ (judge : L → Option V). Puts (frame_text words what i log (judge log) ∷ []) w1 w2 None) same next)

-- its text was not put whole
pub frame_stopped : {L V : Type 0} (words : Words L V) (what : Report) (first now : L → Option V) (i : ℕ) (log : L) (logs : List L) (texts : List (List ℕ)) (w0 w1 w2 : Option (List ℕ)) (why : LogStop) → now ≡ first
    → HasPut texts (frame_texts words what first i (log ∷ logs)) w0 w1 → Puts (frame_text words what i log (now log) ∷ []) w1 w2 (Some why)
    → Puts texts w0 w2 (Some why)
frame_stopped {L} {V} words what first now i log logs texts w0 w1 w2 why same before next =
    then_put texts (frame_texts words what first i (log ∷ logs)) w0 w1 w2 (Some why) before
    (stopped_put (frame_text words what i log (first log) ∷ []) (frame_texts words what first (i + 1) logs) w1 w2 why
    (subst (λ (judge : L → Option V). Puts (frame_text words what i log (judge log) ∷ []) w1 w2 (Some why)) same next))

and_assoc : (x y z : Bool) → (x && (y && z)) ≡ ((x && y) && z)
and_assoc true y z = refl
and_assoc false y z = refl

-- whether none of the logs so far has a fault
pub frame_sound : {L V : Type 0} (first now : L → Option V) (log : L) (logs : List L) (total sound found : Bool) → now ≡ first
    → total ≡ (sound && are_sound first (log ∷ logs)) → found ≡ is_none (now log) → total ≡ ((sound && found) && are_sound first logs)
frame_sound {L} {V} first now log logs total sound found same before next =
    let here : found ≡ is_none (first log) = subst (λ (judge : L → Option V). found ≡ is_none (judge log)) same next in
    before ∙ and_assoc sound (is_none (first log)) (are_sound first logs) ∙ ap (λ (x : Bool). (sound && x) && are_sound first logs) (sym here)
