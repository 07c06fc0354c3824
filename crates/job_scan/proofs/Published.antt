-- The lemmas that proofs of crates above cite; all else in proofs/ is this crate's own.

-- What a scan has put where a fault ended it.
pub use Rattle.job_scan.proofs.Endings.{fault_writes, memory_ends}
