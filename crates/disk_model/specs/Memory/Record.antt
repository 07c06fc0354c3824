-- How the record of a disk in memory keeps its calls: one entry for each, and their bytes one after another.
use Rattle.std.specs.Prelude.{IsTrue, Bool, true, false, ℕ, ◌+◌, List, [], ◌∷◌, take, drop}
use Rattle.disk_model.specs.declared.entry.Entry.{Entry}
use Rattle.disk_model.specs.declared.entry.Kind.{Kind}
use Rattle.disk_model.specs.declared.entry.Kind.TheVariants.{Look, Sync, Write}
use Rattle.disk_model.specs.Memory.Model.{Call, look, sync, write, Noted}

-- how many of the bytes belong to a call
abbrev pub count_of : Kind → ℕ
count_of Look = 0
count_of Sync = 0
count_of (Write at count done) = count

abbrev pub is_write_kind : Kind → Bool
is_write_kind Look = false
is_write_kind Sync = false
is_write_kind (Write at count done) = true

-- the call is a write that was done
abbrev pub IsDone : Kind → Type 0
IsDone Look = ⊥
IsDone Sync = ⊥
IsDone (Write at count done) = IsTrue done

-- the place where the bytes of the call end
abbrev pub end_of : Kind → ℕ
end_of Look = 0
end_of Sync = 0
end_of (Write at count done) = at + count

-- the call; its bytes are the first ones
abbrev pub call_of : Kind → List ℕ → Call
call_of Look bytes = look
call_of Sync bytes = sync
call_of (Write at count done) bytes = write at (take count bytes) done

abbrev pub noted_of : Entry → List ℕ → Noted
noted_of entry bytes = record { number = entry.number; call = call_of entry.kind bytes }

-- the calls of the entries
unfoldable pub past_of : List Entry → List ℕ → List Noted
past_of [] bytes = []
past_of (entry ∷ entries) bytes = noted_of entry bytes ∷ past_of entries (drop (count_of entry.kind) bytes)

-- how many bytes belong to all the entries
unfoldable pub total : List Entry → ℕ
total [] = 0
total (entry ∷ entries) = count_of entry.kind + total entries
