-- What clap's matches give.
use Rattle.clap.specs.Words.{first_of, found_of, rows_of}
use Rattle.clap.specs.declared.parser.matches.ArgMatches.{ArgMatches}
use Rattle.job_words.specs.Given.{Given}

-- the value that matches hold of each name
abbrev pub given_in : ArgMatches → Given
given_in matches name = first_of name (rows_of (found_of matches))
