-- A file that a word may name, and what it means without such a word.
use Rattle.std.specs.Prelude.{◌<◌, ℕ, List, [], Option, Some, None, length, set, slice_index, IsTrue}
use Rattle.outside_io.specs.Memory.{most_counted}
use Rattle.outside_io.specs.Sinks.{SinkState}
use Rattle.disk_model.specs.Disk.{DiskState, MayLeave}
use Rattle.disk_model.specs.FileCounts.{state_of, told_nothing}

-- without a name, a disk tells nothing, and no call of it fails
abbrev pub nothing : DiskState
nothing = state_of (record { faults = 0; reads = 0 })

abbrev pub named_disk : {D : Type 0} → (D → DiskState) → Option D → DiskState
named_disk state None = nothing
named_disk state (Some disk) = state disk

-- without a name, a source has nothing left
abbrev pub named_left : {S : Type 0} → (S → Option (List ℕ)) → Option S → Option (List ℕ)
named_left left None = Some []
named_left left (Some source) = left source

abbrev pub named_faults : {S : Type 0} → (S → ℕ) → Option S → ℕ
named_faults faults None = 0
named_faults faults (Some source) = faults source

-- without a name, a sink discards what it takes
abbrev pub named_sink : {K : Type 0} → (K → SinkState) → Option K → SinkState
named_sink state None = record { written = None; faults = 0 }
named_sink state (Some sink) = state sink

-- without a name, the count of puts stands at its end
abbrev pub named_puts : {K : Type 0} → (K → ℕ) → Option K → ℕ
named_puts puts None = most_counted
named_puts puts (Some sink) = puts sink

-- ---- the laws of disks

module _ {D : Type 0} (state : D → DiskState) where
  pub named_read : ((disk : D) → IsTrue (state disk).is_known → MayLeave (state disk) (state disk).bytes)
      → (file : Option D) → IsTrue (named_disk state file).is_known → MayLeave (named_disk state file) (named_disk state file).bytes
  named_read law None told = told_nothing told
  named_read law (Some disk) told = law disk told

  pub named_mix : ((disk : D) (one other : List ℕ) (i : ℕ) → MayLeave (state disk) one → MayLeave (state disk) other → i < length one → i < length other
      → MayLeave (state disk) (set one i (slice_index other i)))
      → (file : Option D) (one other : List ℕ) (i : ℕ) → MayLeave (named_disk state file) one →
      MayLeave (named_disk state file) other → i < length one → i < length other
      → MayLeave (named_disk state file) (set one i (slice_index other i))
  named_mix law None one other i left right low high = left
  named_mix law (Some disk) one other i left right low high = law disk one other i left right low high
