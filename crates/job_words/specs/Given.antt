-- The values of the words, by their names.
use Rattle.std.specs.Prelude.{ℕ, Bool, true, false, not, ◌==◌, ◌&&◌, ◌%◌, ◌^◌, length, nat_le, List, ◌∷◌, codes, Option, Some, None, if◌then◌else◌}
use Rattle.std.specs.List.{list_any, list_all}
use Rattle.std.specs.Option.{option_and_then, is_some}
use Rattle.std.specs.Str.{bytes_eq}
use Rattle.std.specs.Result.{result_ok}
use Rattle.clap.specs.Words.{Text}
use Rattle.hex.specs.Hex.{decode_sized}
use Rattle.job_words.specs.Names.{is_generated, is_halved, metric_named, promote_named, split_named}
use Rattle.rows_text.specs.Numbers.{number_below}
use Rattle.job_words.specs.Words.{options}
use Rattle.job_words.specs.declared.names.MetricName.{MetricName}
use Rattle.job_words.specs.declared.names.Promote.{Promote}
use Rattle.job_words.specs.declared.names.Promote.TheVariants.{Mmrad}
use Rattle.job_words.specs.declared.names.Split.{Split}
use Rattle.job_words.specs.declared.names.Split.TheVariants.{Hyperplane}
use Rattle.job_words.specs.declared.names.SpaceName.{SpaceName}
use Rattle.job_words.specs.declared.names.PolicyNames.{PolicyNames}

-- the given value of each name, if it has one
abbrev pub Given : Type 0
Given = Text → Option Text

-- whether `name` is given, and is not one of `names`
abbrev pub is_other : List Text → Given → Text → Bool
is_other names given name = is_some (given name) && not (list_any (bytes_eq name) names)

-- whether something besides `names` is given; COMMAND always is
abbrev pub has_other : List Text → Given → Bool
has_other names given = list_any (is_other names given) (codes "INDEX" ∷ options)

-- `n` where it is from `least` to `most`
abbrev pub between : ℕ → ℕ → ℕ → Option ℕ
between least most n = if nat_le least n && nat_le n most then Some n else None

-- the number below 2 ^ 64 that 1 to 20 decimal digits spell
abbrev pub number_in : Text → Option ℕ
number_in text = if nat_le (length text) 20 then number_below (2 ^ 64) text else None

-- the number that a text spells, from `least` to `most`; `other` where there is no text
abbrev pub number_or : ℕ → ℕ → Option ℕ → Option Text → Option ℕ
number_or least most other None = other
number_or least most other (Some text) = option_and_then (between least most) (number_in text)

abbrev pub number_given : Text → ℕ → ℕ → Option ℕ → Given → Option ℕ
number_given name least most other given = number_or least most other (given name)

-- `--max`: 1 to 16777216
abbrev pub limit_given : Given → Option ℕ
limit_given = number_given (codes "max") 1 16777216 (Some 16777216)

-- `--workers`: 1 to 64
abbrev pub workers_given : Given → Option ℕ
workers_given = number_given (codes "workers") 1 64 (Some 1)

-- `--count`: 1 to 1048576
abbrev pub count_given : Given → Option ℕ
count_given = number_given (codes "count") 1 1048576 None

-- `--seed`: 0 to 4294967295
abbrev pub seed_given : Given → Option ℕ
seed_given = number_given (codes "seed") 0 4294967295 (Some 0)

-- `--radius`: 0 to 18446744073709551615
abbrev pub radius_given : Given → Option ℕ
radius_given = number_given (codes "radius") 0 18446744073709551615 None

-- `--tags`: whether it is `show`
abbrev pub show_or : Option Text → Option Bool
show_or None = Some false
show_or (Some text) =
    if bytes_eq text (codes "hide") then Some false
    else if bytes_eq text (codes "show") then Some true
    else None

abbrev pub show_given : Given → Option Bool
show_given given = show_or (given (codes "tags"))

-- `--marks`: whether it is `count`
abbrev pub counts_or : Option Text → Option Bool
counts_or None = Some false
counts_or (Some text) =
    if bytes_eq text (codes "each") then Some false
    else if bytes_eq text (codes "count") then Some true
    else None

abbrev pub counts_only_given : Given → Option Bool
counts_only_given given = counts_or (given (codes "marks"))

-- `--dim`: 1 to 64
abbrev pub dim_given : Given → Option ℕ
dim_given = number_given (codes "dim") 1 64 None

-- a space, where the metric may have the dimension
abbrev pub space_of : Option MetricName → Option ℕ → Option SpaceName
space_of (Some metric) (Some dim) = if is_halved metric && dim % 2 == 1 then None else Some (record { metric = metric; dim = dim })
space_of _ _ = None

-- `--metric` and `--dim`
abbrev pub space_given : Given → Option SpaceName
space_given given = space_of (option_and_then metric_named (given (codes "metric"))) (dim_given given)

-- a space whose points the generator makes
abbrev pub generated_space : SpaceName → Option SpaceName
generated_space space = if is_generated space.metric then Some space else None

abbrev pub generated_space_given : Given → Option SpaceName
generated_space_given given = option_and_then generated_space (space_given given)

-- `--promote`: mmrad where it is not given
abbrev pub promote_or : Option Text → Option Promote
promote_or None = Some Mmrad
promote_or (Some text) = promote_named text

-- `--split`: hyperplane where it is not given
abbrev pub split_or : Option Text → Option Split
split_or None = Some Hyperplane
split_or (Some text) = split_named text

abbrev pub policies_of : Option Promote → Option Split → Option PolicyNames
policies_of (Some promote) (Some split) = Some (record { promote = promote; split = split })
policies_of _ _ = None

-- `--promote` and `--split`
abbrev pub policies_given : Given → Option PolicyNames
policies_given given = policies_of (promote_or (given (codes "promote"))) (split_or (given (codes "split")))

-- a hexadecimal digit in lower case
abbrev pub is_lower_digit : ℕ → Bool
is_lower_digit c = list_any (λ digit. digit == c) (codes "0123456789abcdef")

-- the 32 bytes of 64 hexadecimal digits in lower case
abbrev pub digest_of : Text → Option (List ℕ)
digest_of text = if list_all is_lower_digit text then result_ok (decode_sized text 32) else None

-- `--root`
abbrev pub root_given : Given → Option (List ℕ)
root_given given = option_and_then digest_of (given (codes "root"))
