-- What is shown of a sound join log.
use Rattle.std.specs.Prelude.{◌≡◌, ℕ, Bool, true, false, IsTrue, length, Option, Some, None}
use Rattle.metric_laws.specs.Space.{Space}
use Rattle.metric_laws.specs.Pruning.{gap}
use Rattle.tree_shape.specs.declared.live.Live.{Live}
use Rattle.page_store.specs.Reading.{Read, nodes_of}
use Rattle.log_model.specs.declared.logs.JoinLog.{JoinLog}
use Rattle.log_model.specs.declared.marks.Mark.{Mark}
use Rattle.log_model.specs.declared.marks.Mark.TheVariants.{Skip, Far, Near}
use Rattle.log_model.specs.declared.pairs.JoinNeed.{JoinNeed}
use Rattle.log_model.specs.JoinWalk.{Entry, JoinSearch, allows_entry, is_hit, with_entry}
use Rattle.log_model.specs.SoundJoin.{IsSoundJoinLog}
use Rattle.job_show_joins.specs.declared.reasons.PairReach.{PairReach}
use Rattle.job_show_joins.specs.Frames.{shown_of}
use Rattle.job_show_joins.specs.Reasons.{exceeds, pair_reach}

-- a distance is known, and is greater or not
abbrev pub ComesOut : Option ℕ → PairReach → Bool → Type 0
ComesOut None reach out = ⊥
ComesOut (Some dist) reach out = exceeds dist reach ≡ out

-- how far a distance and a stored one are apart, where there is one
abbrev pub gap_to : Option ℕ → ℕ → Option ℕ
gap_to None stored = None
gap_to (Some above) stored = Some (gap above stored)

-- the test that a reason shows comes out as its mark says: a skip is known from the distance of the two items
abbrev pub PairHolds : Mark → Option ℕ → ℕ → Option ℕ → PairReach → Type 0
PairHolds Skip above stored apart reach = ComesOut (gap_to above stored) reach true
PairHolds Far above stored apart reach = ComesOut apart reach true
PairHolds Near above stored apart reach = ComesOut apart reach false

-- where an entry's mark is allowed, its test holds; a pair that is not two objects may be opened without need
abbrev pub AllowedPairMarksHold : Type 0
AllowedPairMarksHold =
    (j : JoinSearch) (n : JoinNeed) (e : Entry) (m : Mark) → (m ≡ Near → is_hit (with_entry j.space n e) ≡ true) → IsTrue (allows_entry j n e m) →
    PairHolds m n.apart e.stored (with_entry j.space n e).apart (pair_reach j n e)

-- all of a sound log is shown: each record as an opened node
abbrev pub SoundJoinLogsAreShownWhole : Type 0
SoundJoinLogsAreShownWhole =
    (s : Space) (left right : Read) (l r : Live) (log : JoinLog) → IsSoundJoinLog s (nodes_of left) (nodes_of right) l r log →
    (shown_of s left right l r log).counts.opened ≡ length log.records
