-- What is written so far, and what one more reply makes of it.
use Rattle.std.proofs.Common.{◌≡◌, ℕ, List, [], ◌∷◌, ◌++◌, Option, Some, None, Result, Ok, Err, refl, sym, ◌∙◌, ap, append_assoc, length, arith}
use Rattle.std.specs.List.{concat}
use Rattle.std.specs.Io.KnownBytes.{Appends, Keeps}
use Rattle.std.proofs.lemmas.List.{append-nil}
use Rattle.std.proofs.KnownBytes.{Appends-nil, Appends-trans}
use Rattle.outside_io.specs.Bytes.{AppendsPrefix}
use Rattle.plain_scan.specs.declared.session.ScanStop.{ScanStop}
use Rattle.plain_scan.specs.declared.session.ScanStop.TheVariants as stop
use Rattle.plain_scan.specs.Written.{HasWritten, Writes, Puts, IsFrontOf}

concat_push : (texts : List (List ℕ)) (text : List ℕ) → concat (texts ++ text ∷ []) ≡ concat texts ++ text
concat_push [] text = append-nil text
concat_push (t ∷ texts) text = ap (λ (l : List ℕ). t ++ l) (concat_push texts text) ∙ sym (append_assoc t (concat texts) text)

-- one more reply is written
pub written_more : (w0 w1 w2 : Option (List ℕ)) (texts more : List (List ℕ)) (text : List ℕ) →
    HasWritten w0 w1 texts (text ∷ more) → Appends w1 w2 text → HasWritten w0 w2 texts more
written_more w0 w1 w2 texts more text so_far one = record {
  acknowledged = so_far.acknowledged ++ text ∷ [];
  whole = so_far.whole ∙ sym (append_assoc so_far.acknowledged (text ∷ []) more);
  written = rw (concat_push so_far.acknowledged text) (Appends-trans w0 w1 w2 _ _ so_far.written one);
}

keeps_appended : (w0 w1 w2 : Option (List ℕ)) (bs : List ℕ) → Appends w0 w1 bs → Keeps w1 w2 → Appends w0 w2 (bs ++ [])
keeps_appended None w1 w2 bs is kept = tt
keeps_appended (Some xs) None w2 bs is kept = absurd is
keeps_appended (Some xs) (Some ys) None bs is kept = absurd kept
keeps_appended (Some xs) (Some ys) (Some zs) bs is kept = kept ∙ is ∙ ap (λ (l : List ℕ). xs ++ l) (sym (append-nil bs))

pub front_appended : (w0 w1 w2 : Option (List ℕ)) (bs text : List ℕ) → Appends w0 w1 bs → AppendsPrefix w1 w2 text →
    (front : List ℕ) × IsFrontOf front text × Appends w0 w2 (bs ++ front)
front_appended None w1 w2 bs text is some = ([], (text, refl), tt)
front_appended (Some xs) None w2 bs text is some = absurd is
front_appended (Some xs) (Some ys) None bs text is some = absurd some
front_appended (Some xs) (Some ys) (Some zs) bs text is (front, others, whole, grown) =
    (front, (others, whole), grown ∙ ap (λ (l : List ℕ). l ++ front) is ∙ append_assoc xs bs front)

-- the session ends with one more reply, in whole or in part
pub ended : (w0 w1 w2 : Option (List ℕ)) (texts more : List (List ℕ)) (text : List ℕ) (result : Result (Unit {0}) ScanStop) →
    HasWritten w0 w1 texts (text ∷ more) → Puts w1 w2 text result → (result ≡ Ok tt → more ≡ []) → Writes w0 w2 texts result
ended w0 w1 w2 texts more text (Ok done) so_far puts last =
    let now = written_more w0 w1 w2 texts more text so_far puts in
    record {
      acknowledged = now.acknowledged;
      more = more;
      rest = [];
      whole = now.whole;
      follows = (last refl, refl);
      written = rw (append-nil (concat now.acknowledged)) now.written;
    }
ended w0 w1 w2 texts more text (Err stop.Memory) so_far puts last = record {
  acknowledged = so_far.acknowledged;
  more = text ∷ more;
  rest = [];
  whole = so_far.whole;
  follows = refl;
  written = keeps_appended w0 w1 w2 _ so_far.written puts;
}
ended w0 w1 w2 texts more text (Err stop.Sink) so_far puts last =
    let part = front_appended w0 w1 w2 (concat so_far.acknowledged) text so_far.written puts in
    record {
      acknowledged = so_far.acknowledged;
      more = text ∷ more;
      rest = part.0;
      whole = so_far.whole;
      follows = part.1;
      written = part.2;
    }

-- nothing is written yet
pub begun : (w : Option (List ℕ)) (texts : List (List ℕ)) → HasWritten w w texts texts
begun w texts = record { acknowledged = []; whole = refl; written = Appends-nil w }

-- all replies are written
pub finished : (w0 w1 : Option (List ℕ)) (texts : List (List ℕ)) → HasWritten w0 w1 texts [] → Writes w0 w1 texts (Ok tt)
finished w0 w1 texts so_far = record {
  acknowledged = so_far.acknowledged;
  more = [];
  rest = [];
  whole = so_far.whole;
  follows = (refl, refl);
  written = rw (append-nil (concat so_far.acknowledged)) so_far.written;
}

pub no_items : {X : Type 0} (xs : List X) → length xs ≡ 0 → xs ≡ []
no_items [] none = refl
no_items (x ∷ xs) none = absurd (omega arith)
