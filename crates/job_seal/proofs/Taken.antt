-- What stands in the bytes of a frame that were taken.
use Rattle.std.proofs.Common.{◌≡◌, ℕ, ◌+◌, ◌-◌, ◌^◌, ◌<◌, ◌≤◌, List, ◌++◌, length, take, Option, sym, ◌∙◌, ap, append_assoc, arith, length-append, length-take}
use Rattle.std.proofs.Math.Seq.{take-append-add}
use Rattle.std.specs.Io.KnownBytes.{Consumes, IsAtEnd}
use Rattle.std.proofs.KnownBytes.{Consumes-trans}
use Rattle.byteorder.specs.Endian.{big_bytes, big_number}
use Rattle.byteorder.specs.Numbers.{big_number-reads_back, length-bytes_high_first}
use Rattle.prune_log.specs.Spelling.{frame_bytes}
use Rattle.job_seal.specs.Proofs.{BeginsNoFrame, IsCutFrame, StopsReading, StopsTaking}
use Rattle.job_seal.specs.declared.stop.ProofStop.{ProofStop}
use Rattle.job_seal.specs.declared.stop.ProofStop.TheVariants as stop

field_size : (n : ℕ) → length (big_bytes 8 n) ≡ 8
field_size n = length-bytes_high_first 8 n

-- the length field isn't whole
pub too_short : (bytes : List ℕ) → length bytes < 8 → BeginsNoFrame bytes
too_short bytes short body after small is =
    let size : length bytes ≡ length (frame_bytes body) + length after = ap length is ∙ length-append (frame_bytes body) after in
    let front : length (frame_bytes body) ≡ length (big_bytes 8 (length body)) + length body = length-append (big_bytes 8 (length body)) body in
    let eight = field_size (length body) in omega (arith, size, front, eight, short)

-- fewer bytes stand behind the length field than it says
pub unwhole : (bytes part : List ℕ) (n : ℕ) → n < 2 ^ 64 → bytes ≡ big_bytes 8 n ++ part → length part < n → BeginsNoFrame bytes
unwhole bytes part n is_point spelled few body after small is =
    let rest = body ++ after in
    let parts : big_bytes 8 (length body) ++ rest ≡ bytes = sym (is ∙ append_assoc (big_bytes 8 (length body)) body after) in
    let same : length body ≡ n =
    sym (big_number-reads_back 8 (length body) rest small) ∙ ap (λ (bs : List ℕ). big_number 8 bs) (parts ∙ spelled) ∙ big_number-reads_back 8 n part is_point in
    let left : length bytes ≡ length (big_bytes 8 (length body)) + length rest = ap length (sym parts) ∙ length-append (big_bytes 8 (length body)) rest in
    let right : length bytes ≡ length (big_bytes 8 n) + length part = ap length spelled ∙ length-append (big_bytes 8 n) part in
    let long : length rest ≡ length body + length after = length-append body after in
    let one = field_size (length body) in
    let two = field_size n in omega (arith, same, left, right, long, one, two, few)

-- the frame would end behind the room
pub unwhole_within : (field part : List ℕ) (n room : ℕ) → n < 2 ^ 64 → field ≡ big_bytes 8 n → length part ≤ n → 8 ≤ room → room - 8 < length part → BeginsNoFrame (take room (field ++ part))
unwhole_within field part n room is_point spelled few wide more =
    let eight : length field ≡ 8 = ap length spelled ∙ field_size n in
    let same : length field + (room - 8) ≡ room = omega (arith, eight, wide) in
    let shown : take room (field ++ part) ≡ big_bytes 8 n ++ take (room - 8) part =
    ap (λ (k : ℕ). take k (field ++ part)) (sym same) ∙ take-append-add field part (room - 8) ∙ ap (λ (bs : List ℕ). bs ++ take (room - 8) part) spelled in
    unwhole (take room (field ++ part)) (take (room - 8) part) n is_point shown (omega (arith, length-take (room - 8) part, few, more))

-- the bytes ended within a frame
pub cut_within : (room n : ℕ) (field part : List ℕ) (left0 left1 left2 : Option (List ℕ)) → n < 2 ^ 64 → field ≡ big_bytes 8 n → 8 ≤ room → Consumes left0 left1 field → Consumes left1 left2 part → length part < n → length part ≤ room - 8
    → IsAtEnd left2 → (bytes : List ℕ) × Consumes left0 left2 bytes × (length bytes ≤ room) × IsCutFrame bytes × IsAtEnd left2
cut_within room n field part left0 left1 left2 small spelled wide first second few is_point at_end =
    let eight : length field ≡ 8 = ap length spelled ∙ field_size n in
    let size : length (field ++ part) ≡ length field + length part = length-append field part in (
      field ++ part,
      Consumes-trans left0 left1 left2 field part first second,
      omega (arith, size, eight, wide, is_point),
      record { some = λ none. (let nothing = ap length none in omega (arith, nothing, size, eight)); unwhole = unwhole (field ++ part) part n small (ap (λ (bs : List ℕ). bs ++ part) spelled) few },
      at_end,
    )

-- the length field could not be read
pub field_stops : (room : ℕ) (old new : Option (List ℕ)) (why : ProofStop) → StopsTaking 8 room old new why → StopsReading room old new why
field_stops room old new stop.Sink is = is
field_stops room old new stop.Memory is = is
field_stops room old new stop.Input is = (is.0, is.1, is.2, too_short is.0 is.3)
field_stops room old new stop.Long is = (is.0, is.1, is.2, is.3, too_short (take room is.0) (let more = is.2 in let few = is.4 in omega (arith, length-take room is.0, more, few)))

-- the bytes behind it could not
pub body_stops : (room n : ℕ) (field : List ℕ) (left0 left1 left2 : Option (List ℕ)) (why : ProofStop) → n < 2 ^ 64 → field ≡ big_bytes 8 n → 8 ≤ room → Consumes left0 left1 field → StopsTaking n (room - 8) left1 left2 why → StopsReading room left0 left2 why
body_stops room n field left0 left1 left2 stop.Sink is_point spelled wide first is = is
body_stops room n field left0 left1 left2 stop.Memory is_point spelled wide first is =
    let eight : length field ≡ 8 = ap length spelled ∙ field_size n in
    let few = is.2 in
    (field ++ is.0, Consumes-trans left0 left1 left2 field is.0 first is.1, omega (arith, length-append field is.0, eight, few, wide))
body_stops room n field left0 left1 left2 stop.Input is_point spelled wide first is =
    let eight : length field ≡ 8 = ap length spelled ∙ field_size n in
    let few = is.2 in
    (field ++ is.0, Consumes-trans left0 left1 left2 field is.0 first is.1, omega (arith, length-append field is.0, eight, few, wide), unwhole (field ++ is.0) is.0 n is_point (ap (λ (bs : List ℕ). bs ++ is.0) spelled) is.3)
body_stops room n field left0 left1 left2 stop.Long is_point spelled wide first is =
    let eight : length field ≡ 8 = ap length spelled ∙ field_size n in
    let more = is.2 in
    let few = is.3 in (
      field ++ is.0,
      Consumes-trans left0 left1 left2 field is.0 first is.1,
      omega (arith, length-append field is.0, eight, more, wide),
      omega (arith, length-append field is.0, eight, few, wide),
      unwhole_within field is.0 n room is_point spelled is.4 wide more,
    )
