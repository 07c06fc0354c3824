use Rattle.std.proofs.Common.{◌≡◌, Some, refl}
use Rattle.job_words.specs.Names.{kind_of, metric_named, promote_named, promote_number, split_named, split_number}
use Rattle.job_words.specs.declared.names.MetricName.{MetricName}
use Rattle.job_words.specs.declared.names.MetricName.TheVariants.{Hamming, L1, Max, Kendall, Hausdorff, MixSum, MixMax, L1Cap}
use Rattle.job_words.specs.declared.names.Promote.{Promote}
use Rattle.job_words.specs.declared.names.Promote.TheVariants.{Mrad, Mmrad}
use Rattle.job_words.specs.declared.names.Split.{Split}
use Rattle.job_words.specs.declared.names.Split.TheVariants.{Hyperplane, Balanced}
use Rattle.job_stats.specs.Names.{metric_word, promote_word, split_word}
use Rattle.job_stats.proofs.names.words_are_read.Goals as goal

metric_read : (metric : MetricName) → metric_named (metric_word (kind_of metric)) ≡ Some metric
metric_read Hamming = refl
metric_read L1 = refl
metric_read Max = refl
metric_read Kendall = refl
metric_read Hausdorff = refl
metric_read MixSum = refl
metric_read MixMax = refl
metric_read L1Cap = refl

promote_read : (promote : Promote) → promote_named (promote_word (promote_number promote)) ≡ Some promote
promote_read Mrad = refl
promote_read Mmrad = refl

split_read : (split : Split) → split_named (split_word (split_number split)) ≡ Some split
split_read Hyperplane = refl
split_read Balanced = refl

pub returns : goal.returns
returns c = (metric_read, promote_read, split_read)
