-- Commands that were answered, and what is written on them: the texts of their replies, and the frames of their logs.
use Rattle.std.specs.Prelude.{ℕ, Bool, List, [], ◌∷◌, ◌++◌, map, Option, Some, None}
use Rattle.rows_text.specs.declared.command.Command.{Command}
use Rattle.rows_text.specs.declared.reply.Reply.{Reply}
use Rattle.rows_text.specs.Texts.{text}
use Rattle.log_model.specs.declared.logs.Log.{Log}
use Rattle.prune_log.specs.Spelling.{frames_bytes, log_bytes}

-- a command and its answer: its reply, and the log of its query
pub record Answered : Type 0 where
  pub command : Command
  pub reply : Reply
  pub log : Option Log

-- the commands, the replies and the texts of a list
abbrev pub commands_of : List Answered → List Command
commands_of answered = map (λ a. a.command) answered

abbrev pub replies_of : List Answered → List Reply
replies_of answered = map (λ a. a.reply) answered

abbrev pub texts_of : Bool → List Answered → List (List ℕ)
texts_of show answered = map (λ a. text show a.reply) answered

-- the logs of those that have one
abbrev pub if_any : Option Log → List Log
if_any None = []
if_any (Some log) = log ∷ []

abbrev pub logs_of : List Answered → List Log
logs_of [] = []
logs_of (a ∷ answered) = if_any a.log ++ logs_of answered

-- the frames of a list of logs
abbrev pub framed : List Log → List ℕ
framed logs = frames_bytes log_bytes logs
