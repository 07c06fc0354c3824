use Rattle.std.proofs.Common.{◌≡◌, ◌≤◌, ◌<◌, ◌+◌, ◌^◌, length}
use Rattle.std.specs.Prelude.{All, map}
use Rattle.metric_laws.specs.Counts.{count_up}
use Rattle.rows_text.specs.Meaning.{replies}
use Rattle.rows_text.specs.Readable.{IsReadable}
use Rattle.rows_text.specs.Texts.{text}
use Rattle.plain_scan.specs.List.{IsListOf, state_of}
use Rattle.plain_scan.specs.Written.{HasWritten, reply_texts}
use Rattle.plain_scan.proofs.session.run_script.Given as goal

-- the replies so far are written, and the others are those of the other commands on the list as it is
abbrev pub invariant-loop-command : goal.invariant-loop-command
invariant-loop-command g l = record {
  wrote : HasWritten (g.K.Sink.state l.fn.out).written (g.K.Sink.state l.out).written
      (reply_texts (record { space = g.M.Metric.space l.scan.metric; limit = l.scan.limit }) l.scan.show_tags l.fn.commands.items)
      (map (text l.scan.show_tags) (replies (record { space = g.M.Metric.space l.scan.metric; limit = l.scan.limit }) (state_of l.list) l.command-iterator.rest.items));
  list : IsListOf (g.M.Metric.space l.scan.metric) l.scan.limit l.list;
  readable : All (IsReadable (g.M.Metric.space l.scan.metric).dimension) l.command-iterator.rest.items;
  numbers : l.list.cursors.next + length l.command-iterator.rest.items < 2 ^ 32;
  puts : count_up (g.K.Sink.puts l.out) (length l.command-iterator.rest.items) ≡ count_up (g.K.Sink.puts l.fn.out) (length l.fn.commands.items);
  later : (g.K.Sink.state l.fn.out).faults ≤ (g.K.Sink.state l.out).faults;
}
