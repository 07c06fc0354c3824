-- The calls that the entries of a record stand for.
use Rattle.std.specs.Prelude.{◌≡◌, ℕ, ◌+◌, ◌≤◌, Bool, true, List, [], ◌∷◌, ◌++◌, length, take, drop, nat_lt, nat_eq, ◌&&◌, ◌||◌}
use Rattle.std.proofs.Common.{arith, refl, sym, ap, ◌∙◌, length-drop}
use Rattle.std.proofs.lemmas.List.{take_all, take-append-le, drop-append-le, nil_from_length}
use Rattle.disk_model.specs.declared.entry.Entry.{Entry}
use Rattle.disk_model.specs.declared.entry.Kind.{Kind}
use Rattle.disk_model.specs.declared.entry.Kind.TheVariants.{Look, Sync, Write}
use Rattle.disk_model.specs.Memory.Model.{Call, write, Noted}
use Rattle.disk_model.specs.Memory.Images.{Kept, after, has_begun, is_write}
use Rattle.disk_model.specs.Disk.{Written}
use Rattle.disk_model.specs.Memory.Files.{overwritten, written_is}
use Rattle.disk_model.specs.Memory.Record.{count_of, is_write_kind, call_of, noted_of, past_of, total}

pub total_none : (entries : List Entry) → entries ≡ [] → total entries ≡ 0
unfolding total
total_none entries none = ap total none

pub past_of_none : (entries : List Entry) (bytes : List ℕ) → entries ≡ [] → past_of entries bytes ≡ []
unfolding past_of
past_of_none entries bytes none = ap (λ (es : List Entry). past_of es bytes) none

pub total_push : (entries : List Entry) (entry : Entry) → total (entries ++ entry ∷ []) ≡ total entries + count_of entry.kind
unfolding total
total_push [] entry = omega arith
total_push (e ∷ entries) entry = omega (arith, total_push entries entry)

call_of_more : (kind : Kind) (bytes more : List ℕ) → count_of kind ≤ length bytes → call_of kind (bytes ++ more) ≡ call_of kind bytes
call_of_more Look bytes more le = refl
call_of_more Sync bytes more le = refl
call_of_more (Write at count done) bytes more le = ap (λ (bs : List ℕ). write at bs done) (take-append-le count bytes more le)

pub past_of_push : (entries : List Entry) (bytes : List ℕ) (entry : Entry) (more : List ℕ) → total entries ≡ length bytes
    → past_of (entries ++ entry ∷ []) (bytes ++ more) ≡ past_of entries bytes ++ noted_of entry more ∷ []
unfolding past_of total
past_of_push [] bytes entry more used = ap (λ (bs : List ℕ). noted_of entry (bs ++ more) ∷ []) (nil_from_length bytes (omega arith))
past_of_push (e ∷ entries) bytes entry more used =
    let within : count_of e.kind ≤ length bytes = omega arith in
    let left : total entries ≡ length (drop (count_of e.kind) bytes) = omega (arith, length-drop (count_of e.kind) bytes) in
    ap (λ (call : Call). record { number = e.number; call = call } ∷ past_of (entries ++ entry ∷ []) (drop (count_of e.kind) (bytes ++ more))) (call_of_more e.kind bytes more within)
    ∙ ap (λ (rest : List ℕ). noted_of e bytes ∷ past_of (entries ++ entry ∷ []) rest) (drop-append-le (count_of e.kind) bytes more within)
    ∙ ap (λ (past : List Noted). noted_of e bytes ∷ past) (past_of_push entries (drop (count_of e.kind) bytes) entry more left)

-- ---- whether a call has begun

is_write_of : (kind : Kind) (bytes : List ℕ) → is_write (call_of kind bytes) ≡ is_write_kind kind
is_write_of Look bytes = refl
is_write_of Sync bytes = refl
is_write_of (Write at count done) bytes = refl

pub begun_by : (moment : ℕ) (entry : Entry) (bytes : List ℕ) → has_begun moment (noted_of entry bytes) ≡ (nat_lt entry.number moment || (nat_eq entry.number moment && is_write_kind entry.kind))
unfolding has_begun
begun_by moment entry bytes = ap (λ (b : Bool). nat_lt entry.number moment || (nat_eq entry.number moment && b)) (is_write_of entry.kind bytes)

-- ---- what a call that is done makes of the file

pub carried_out : (kept : Kept) (kind : Kind) (at count : ℕ) (done : Bool) (bytes old new : List ℕ) → kind ≡ Write at count done → done ≡ true → count_of kind ≡ length bytes → Written at bytes old new → kept.read ≡ old
    → (after kept (call_of kind bytes)).read ≡ new
carried_out kept kind at count done bytes old new is is_done size written was =
    let count_is : count ≡ length bytes = sym (ap count_of is) ∙ size in
    ap (λ (k : Kind). (after kept (call_of k bytes)).read) is ∙ ap (λ (d : Bool). (after kept (write at (take count bytes) d)).read) is_done
    ∙ ap (λ (bs : List ℕ). overwritten at bs kept.read) (take_all count bytes (omega arith)) ∙ ap (overwritten at bytes) was ∙ sym (written_is at bytes old new written)
