-- What is shown of a sound log.
use Rattle.std.specs.Prelude.{◌≡◌, ℕ, true, false, IsTrue, length, Option, Some, None}
use Rattle.metric_laws.specs.Space.{Space}
use Rattle.metric_laws.specs.Pruning.{gap}
use Rattle.tree_shape.specs.declared.live.Live.{Live}
use Rattle.tree_shape.specs.declared.entry.LeafEntry.{LeafEntry}
use Rattle.tree_shape.specs.declared.entry.InnerEntry.{InnerEntry}
use Rattle.page_store.specs.Reading.{Read, nodes_of}
use Rattle.log_model.specs.declared.logs.Log.{Log}
use Rattle.log_model.specs.declared.marks.Mark.{Mark}
use Rattle.log_model.specs.declared.marks.Mark.TheVariants.{Skip, Far, Near}
use Rattle.log_model.specs.Counts.{measured}
use Rattle.log_model.specs.Sound.{IsSoundLog}
use Rattle.log_model.specs.Walk.{Search, allows_object, allows_subtree, away}
use Rattle.job_show.specs.Frames.{distances, shown_of}
use Rattle.job_show.specs.declared.reasons.Reach.{Reach}
use Rattle.job_show.specs.Reasons.{exceeds, object_reach, subtree_reach}

-- the test that a reason shows comes out as its mark says: a skip is known from a distance above
abbrev pub Holds : Option ℕ → ℕ → ℕ → Reach → Mark → Type 0
Holds None stored dist reach Skip = ⊥
Holds (Some above) stored dist reach Skip = exceeds (gap above stored) reach ≡ true
Holds above stored dist reach Far = exceeds dist reach ≡ true
Holds above stored dist reach Near = exceeds dist reach ≡ false

-- where an object's mark is allowed, its test holds; a subtree may be opened without need
abbrev pub AllowedMarksHold : Type 0
AllowedMarksHold =
    (f : Search) (above : Option ℕ) → ((e : LeafEntry) (m : Mark) → IsTrue (allows_object f above e m) →
    Holds above e.parent (away f e.point) (object_reach f) m)
    × ((e : InnerEntry) (m : Mark) → ¬ (m ≡ Near) → IsTrue (allows_subtree f above e m) →
    Holds above e.parent (away f e.point) (subtree_reach f e) m)

-- all of a sound log is shown: each record as an opened node, and as many distances as its marks cost
abbrev pub SoundLogsAreShownWhole : Type 0
SoundLogsAreShownWhole =
    (s : Space) (read : Read) (live : Live) (log : Log) → IsSoundLog s (nodes_of read) live log →
    ((shown_of s read live log).counts.opened ≡ length log.records) × (distances (shown_of s read live log).counts ≡ measured log.records)
