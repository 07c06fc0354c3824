-- The words for what a head's numbers stand for. `create` takes the same words.
use Rattle.std.specs.Prelude.{◌≡◌, ℕ, List, codes, Some, ◌==◌, if◌then◌else◌}
use Rattle.job_words.specs.Names.{kind_of, metric_named, promote_named, promote_number, split_named, split_number}
use Rattle.job_words.specs.declared.names.MetricName.{MetricName}
use Rattle.job_words.specs.declared.names.Promote.{Promote}
use Rattle.job_words.specs.declared.names.Split.{Split}

abbrev pub metric_word : ℕ → List ℕ
metric_word kind =
    if kind == 1 then codes "hamming"
    else if kind == 2 then codes "l1"
    else if kind == 3 then codes "max"
    else if kind == 4 then codes "kendall"
    else if kind == 5 then codes "hausdorff"
    else if kind == 6 then codes "mixsum"
    else if kind == 7 then codes "mixmax"
    else codes "l1cap"

abbrev pub promote_word : ℕ → List ℕ
promote_word number = if number == 1 then codes "mrad" else codes "mmrad"

abbrev pub split_word : ℕ → List ℕ
split_word number = if number == 1 then codes "hyperplane" else codes "balanced"

-- each word is read as what it stands for
abbrev pub WordsAreRead : Type 0
WordsAreRead =
    ((metric : MetricName) → metric_named (metric_word (kind_of metric)) ≡ Some metric)
    × ((promote : Promote) → promote_named (promote_word (promote_number promote)) ≡ Some promote)
    × ((split : Split) → split_named (split_word (split_number split)) ≡ Some split)
