-- The lemmas that proofs of crates above cite; all else in proofs/ is this crate's own.

-- What stands on the outputs behind what was put whole.
pub use Rattle.answer_texts.proofs.Behind.{framed_both, told_behind, cut_behind}
-- What an end with a line says, by the status.
pub use Rattle.answer_texts.proofs.Endings.{input_ends, long_ends, disk_ends, memory_ends, line_alone, input_told, disk_told, long_told, memory_told, none_told}
