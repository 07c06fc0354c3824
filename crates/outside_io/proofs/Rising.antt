-- A count that rose in the later part of a stretch rose in the whole stretch.
use Rattle.std.proofs.Common.{ℕ, ◌≤◌, arith}
use Rattle.outside_io.specs.Causes.{Rose}

pub rose_before : (a b c : ℕ) → a ≤ b → Rose b c → Rose a c
rose_before a b c le rose = omega arith
