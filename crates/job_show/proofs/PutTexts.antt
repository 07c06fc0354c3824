-- What puts one after another come to.
use Rattle.std.proofs.Common.{◌≡◌, ℕ, List, [], ◌∷◌, ◌++◌, Option, Some, None, Err, refl, sym, subst, ◌∙◌, ap, append_assoc}
use Rattle.std.specs.Prelude.{IsErrOf}
use Rattle.std.specs.List.{concat}
use Rattle.std.specs.Io.KnownBytes.{Appends}
use Rattle.std.proofs.lemmas.List.{append-nil}
use Rattle.std.proofs.lemmas.List.Folds.{concat-append}
use Rattle.std.proofs.KnownBytes.{Appends-nil, Appends-trans}
use Rattle.job_files.specs.declared.logs.stop.LogStop.{LogStop}
use Rattle.job_files.specs.declared.logs.stop.LogStop.TheVariants as stop
use Rattle.job_files.specs.Logs.Jobs.{Puts, Follows}

-- nothing is put
pub none_put : {A : Type 0} (w : Option (List ℕ)) (texts : List (List ℕ)) (why : LogStop) → (IsErrOf {T = A} {E = LogStop} (Err why) stop.Sink → ⊥) → Puts texts w w (Some why)
none_put w texts stop.Sink other = absurd (other refl)
none_put w texts stop.Disk other = record { put = []; more = texts; middle = w; whole = refl; written = Appends-nil w; follows = refl }
none_put w texts stop.Memory other = record { put = []; more = texts; middle = w; whole = refl; written = Appends-nil w; follows = refl }

pub memory_put : (w : Option (List ℕ)) (texts : List (List ℕ)) → Puts texts w w (Some stop.Memory)
memory_put w texts = record { put = []; more = texts; middle = w; whole = refl; written = Appends-nil w; follows = refl }

-- the first of these texts are put, and these are still to come
pub record HasPut (texts more : List (List ℕ)) (w0 w1 : Option (List ℕ)) : Type 0 where
  pub put : List (List ℕ)
  pub whole : texts ≡ put ++ more
  pub written : Appends w0 w1 (concat put)

pub begun : (texts : List (List ℕ)) (w : Option (List ℕ)) → HasPut texts texts w w
begun texts w = record { put = []; whole = refl; written = Appends-nil w }

-- the others are put
pub then_put : (texts more : List (List ℕ)) (w0 w1 w2 : Option (List ℕ)) (why : Option LogStop) → HasPut texts more w0 w1 → Puts more w1 w2 why → Puts texts w0 w2 why
then_put texts more w0 w1 w2 why before next = record {
  put = before.put ++ next.put;
  more = next.more;
  middle = next.middle;
  whole = before.whole ∙ ap (λ (ts : List (List ℕ)). before.put ++ ts) next.whole ∙ sym (append_assoc before.put next.put next.more);
  written = subst (λ (bs : List ℕ). Appends w0 next.middle bs) (sym (concat-append before.put next.put)) (Appends-trans w0 w1 next.middle (concat before.put) (concat next.put) before.written next.written);
  follows = next.follows;
}

-- all of these are put, and others are still to come
pub has_put : (texts others : List (List ℕ)) (w0 w1 : Option (List ℕ)) → Puts texts w0 w1 None → HasPut (texts ++ others) others w0 w1
has_put texts others w0 w1 puts = record {
  put = puts.put;
  whole = ap (λ (ts : List (List ℕ)). ts ++ others) (puts.whole ∙ ap (λ (ts : List (List ℕ)). puts.put ++ ts) puts.follows.0 ∙ append-nil puts.put);
  written = subst (λ (w : Option (List ℕ)). Appends w0 w (concat puts.put)) (sym puts.follows.1) puts.written;
}

-- one of those that are to come is put
pub one_more : (texts : List (List ℕ)) (text : List ℕ) (more : List (List ℕ)) (w0 w1 w2 : Option (List ℕ)) → HasPut texts (text ∷ more) w0 w1 → Puts (text ∷ []) w1 w2 None → HasPut texts more w0 w2
one_more texts text more w0 w1 w2 before next =
    let now = has_put (text ∷ []) more w1 w2 next in
    record {
      put = before.put ++ now.put;
      whole = before.whole ∙ ap (λ (ts : List (List ℕ)). before.put ++ ts) now.whole ∙ sym (append_assoc before.put now.put more);
      written = subst (λ (bs : List ℕ). Appends w0 w2 bs) (sym (concat-append before.put now.put)) (Appends-trans w0 w1 w2 (concat before.put) (concat now.put) before.written now.written);
    }

follows_more : (why : LogStop) (more others : List (List ℕ)) (middle new : Option (List ℕ)) → Follows (Some why) more middle new → Follows (Some why) (more ++ others) middle new
follows_more stop.Sink more others middle new cut = (cut.0, cut.1 ++ others, ap (λ (ts : List (List ℕ)). ts ++ others) cut.2, cut.3)
follows_more stop.Disk more others middle new same = same
follows_more stop.Memory more others middle new same = same

-- it stopped among these, before others
pub stopped_put : (texts others : List (List ℕ)) (w0 w1 : Option (List ℕ)) (why : LogStop) → Puts texts w0 w1 (Some why) → Puts (texts ++ others) w0 w1 (Some why)
stopped_put texts others w0 w1 why puts = record {
  put = puts.put;
  more = puts.more ++ others;
  middle = puts.middle;
  whole = ap (λ (ts : List (List ℕ)). ts ++ others) puts.whole ∙ append_assoc puts.put puts.more others;
  written = puts.written;
  follows = follows_more why puts.more others puts.middle w1 puts.follows;
}

-- these are put, and then others
pub both_put : (texts others : List (List ℕ)) (w0 w1 w2 : Option (List ℕ)) (why : Option LogStop) → Puts texts w0 w1 None → Puts others w1 w2 why → Puts (texts ++ others) w0 w2 why
both_put texts others w0 w1 w2 why first next = then_put (texts ++ others) others w0 w1 w2 why (has_put texts others w0 w1 first) next
