-- The names of metrics and policies, and the numbers that stand for them in files.
use Rattle.std.specs.Prelude.{ℕ, Bool, true, false, codes, Option, Some, None, if◌then◌else◌}
use Rattle.std.specs.Str.{bytes_eq}
use Rattle.clap.specs.Words.{Text}
use Rattle.job_words.specs.declared.names.MetricName.{MetricName}
use Rattle.job_words.specs.declared.names.MetricName.TheVariants.{Hamming, L1, Max, Kendall, Hausdorff, MixSum, MixMax, L1Cap}
use Rattle.job_words.specs.declared.names.Promote.{Promote}
use Rattle.job_words.specs.declared.names.Promote.TheVariants.{Mrad, Mmrad}
use Rattle.job_words.specs.declared.names.Split.{Split}
use Rattle.job_words.specs.declared.names.Split.TheVariants.{Hyperplane, Balanced}

-- the kind of a metric
abbrev pub kind_of : MetricName → ℕ
kind_of Hamming = 1
kind_of L1 = 2
kind_of Max = 3
kind_of Kendall = 4
kind_of Hausdorff = 5
kind_of MixSum = 6
kind_of MixMax = 7
kind_of L1Cap = 8

-- the number of a promotion policy
abbrev pub promote_number : Promote → ℕ
promote_number Mrad = 1
promote_number Mmrad = 2

-- the number of a partition policy
abbrev pub split_number : Split → ℕ
split_number Hyperplane = 1
split_number Balanced = 2

-- the metric of a name
abbrev pub metric_named : Text → Option MetricName
metric_named text =
    if bytes_eq text (codes "hamming") then Some Hamming
    else if bytes_eq text (codes "l1") then Some L1
    else if bytes_eq text (codes "max") then Some Max
    else if bytes_eq text (codes "kendall") then Some Kendall
    else if bytes_eq text (codes "hausdorff") then Some Hausdorff
    else if bytes_eq text (codes "mixsum") then Some MixSum
    else if bytes_eq text (codes "mixmax") then Some MixMax
    else if bytes_eq text (codes "l1cap") then Some L1Cap
    else None

-- the promotion policy of a name
abbrev pub promote_named : Text → Option Promote
promote_named text =
    if bytes_eq text (codes "mrad") then Some Mrad
    else if bytes_eq text (codes "mmrad") then Some Mmrad
    else None

-- the partition policy of a name
abbrev pub split_named : Text → Option Split
split_named text =
    if bytes_eq text (codes "hyperplane") then Some Hyperplane
    else if bytes_eq text (codes "balanced") then Some Balanced
    else None

-- the metrics that cut a point into two halves, whose dimension is even
abbrev pub is_halved : MetricName → Bool
is_halved MixSum = true
is_halved MixMax = true
is_halved _ = false

-- the metrics whose points the generator makes: all but kendall and hausdorff
abbrev pub is_generated : MetricName → Bool
is_generated Kendall = false
is_generated Hausdorff = false
is_generated _ = true
