-- What is known of real files: two names that the program accepts as two files are not equal, and nothing else.
use Rattle.std.specs.Prelude.{◌≢◌, ℕ, List}
use Rattle.std.specs.declared.fs.File.{File}
use Rattle.outside_io.specs.declared.std_sink.StdSink.{StdSink}
use Rattle.outside_io.specs.declared.std_source.StdSource.{StdSource}
use Rattle.disk_model.specs.declared.file_disk.FileDisk.{FileDisk}
use Rattle.named_files.specs.Folders.{Meaning}

abbrev pub host_meaning : Meaning FileDisk (StdSource File) (StdSink File)
host_meaning = record {
  is_index = λ name writes index. Unit {0};
  is_made = λ name index. Unit {0};
  is_held = λ name writes index. Unit {0};
  is_log_in = λ name log. Unit {0};
  is_log_out = λ name log. Unit {0};
  is_closed = λ name. Unit {0};
  is_in_use = λ name. Unit {0};
  begins_index = λ name. Unit {0};
  are_one = λ one other. Unit {0};
  are_apart = λ one other. one ≢ other;
}
