-- What is read from a carried log is spelled by its bytes, and what was spelled is read again.
use Rattle.std.proofs.Common.{◌≡◌, ℕ, zero, suc, ◌^◌, ◌<◌, ◌≤◌, ◌==◌, true, false, cond, ltb, nat_le, List, [], ◌∷◌, ◌++◌, length, take, drop, Option, Some, None, Result, Ok, Err, refl, sym, ap, subst, ◌∙◌, append_assoc, arith}
use Rattle.std.specs.List.{flat_map, AllByRecursion}
use Rattle.std.proofs.lemmas.Bool.{ltb-false, le-ltb, leb-true, le-leb, eqb-true}
use Rattle.std.proofs.lemmas.List.{append-nil, nil_from_length, take-append-drop, length-append, length-take, take_at, drop_at}
use Rattle.std.proofs.lemmas.List.Concat.{flat_map-cons}
use Rattle.byteorder.specs.Endian.{big_bytes}
use Rattle.prune_log.specs.declared.fault.LogFault.{LogFault}
use Rattle.prune_log.specs.declared.fault.LogFault.TheVariants as faults
use Rattle.prune_log.specs.Ranges.{IsBytes}
use Rattle.prune_log.specs.Spelling.{listed, frame_bytes}
use Rattle.prune_log.specs.Reading.{◌>>=◌, byte_at, number_at, front_at}
use Rattle.prune_log.proofs.Published.{IsBytes-take, IsBytes-drop, bind_ok, guard_ok, not_cut, ok_is, Takes, Takes-then, IsReader, wide32, wide64, number_reader, byte_takes, IsShort, short_reader}
use Rattle.seal_log.specs.declared.parts.CarriedPage.{CarriedPage}
use Rattle.seal_log.specs.declared.parts.Parts.{Parts}
use Rattle.seal_log.specs.Spelling.{magic, digest_bytes, page_bytes, opening_bytes, parts_bytes, carried_bytes, may_follow, IsDigest, IsCarriedPage, AreInPlace, AreValid}
use Rattle.seal_log.specs.Reading.{opening_at, path_at, place_at, page_at, pages_at, count_at, parts_at, carried_at}

-- ---- fields

-- bytes that are spelled as they are
abbrev pub plain : List ℕ → List ℕ
plain x = x

front_takes : (n : ℕ) (bytes x rest : List ℕ) → IsBytes bytes → front_at n bytes ≡ Ok (x, rest) → Takes bytes (plain x) rest × (length x ≡ n)
front_takes n bytes x rest is_point e =
    let g = not_cut (ltb (length bytes) n) faults.Cut (take n bytes, drop n bytes) (x, rest) e in
    let long : n ≤ length bytes = ltb-false (length bytes) n g.0 in
    let x-is : take n bytes ≡ x = ap (λ (p : List ℕ × List ℕ). p.0) g.1 in
    let rest-is : drop n bytes ≡ rest = ap (λ (p : List ℕ × List ℕ). p.1) g.1 in (
      record {
        parts = sym (take-append-drop n bytes) ∙ ap (λ (t : List ℕ). t ++ drop n bytes) x-is ∙ ap (λ (t : List ℕ). x ++ t) rest-is;
        rest_bytes = subst IsBytes rest-is (IsBytes-drop n bytes is_point);
      },
      ap length (sym x-is) ∙ omega (arith, length-take n bytes),
    )

front_again : (n : ℕ) (x rest : List ℕ) → length x ≡ n → front_at n (plain x ++ rest) ≡ Ok (x, rest)
front_again n x rest size =
    let long : ltb (length (x ++ rest)) n ≡ false = le-ltb _ _ (omega (arith, size, length-append x rest)) in
    rw (long, take_at x rest n size, drop_at x rest n size) refl

pub front_reader : (n : ℕ) → IsReader (λ x. length x ≡ n) plain (front_at n)
front_reader n = record { takes = front_takes n; again = front_again n }

abbrev IsPath : List (List ℕ) → Type 0
IsPath path = IsShort IsDigest (λ n. true) path

path_reader : IsReader IsPath (listed 1 digest_bytes) path_at
unfolding path_at
path_reader = short_reader IsDigest digest_bytes (front_at 32) (front_reader 32) (λ n. true) faults.Cut

place_takes : (pages : ℕ) (last : Option ℕ) (bytes : List ℕ) (page : ℕ) (rest : List ℕ) → IsBytes bytes → place_at pages last bytes ≡ Ok (page, rest)
    → Takes bytes (big_bytes 4 page) rest × (page < 2 ^ 32) × (may_follow pages last page ≡ true)
unfolding place_at
place_takes pages last bytes page rest is_point e =
    let a = bind_ok (number_at 4 bytes) (λ page. cond (may_follow pages last page.0) (Ok page) (Err faults.Order)) (page, rest) e in
    let g = guard_ok (may_follow pages last a.0.0) faults.Order (Ok a.0) (page, rest) a.2 in
    let took = (number_reader 4 (2 ^ 32) wide32).takes bytes a.0.0 a.0.1 is_point a.1 in
    subst (λ (y : ℕ × List ℕ). Takes bytes (big_bytes 4 y.0) y.1 × (y.0 < 2 ^ 32) × (may_follow pages last y.0 ≡ true)) (ok_is a.0 (page, rest) g.1) (took.0, took.1, g.0)

place_again : (pages : ℕ) (last : Option ℕ) (page : ℕ) (rest : List ℕ) → page < 2 ^ 32 → may_follow pages last page ≡ true → place_at pages last (big_bytes 4 page ++ rest) ≡ Ok (page, rest)
unfolding place_at
place_again pages last page rest lt follows = rw ((number_reader 4 (2 ^ 32) wide32).again page rest lt, follows) refl

-- ---- pages

page_takes : (pages : ℕ) (last : Option ℕ) (bytes : List ℕ) (p : CarriedPage) (rest : List ℕ) → IsBytes bytes → page_at pages last bytes ≡ Ok (p, rest)
    → Takes bytes (page_bytes p) rest × IsCarriedPage p × (may_follow pages last p.page ≡ true)
unfolding page_at
page_takes pages last bytes p rest is_point e =
    let page = bind_ok (place_at pages last bytes) (λ page. front_at 4096 page.1 >>= λ body. path_at body.1 >>= λ path. Ok (record { page = page.0; bytes = body.0; path = path.0 }, path.1)) (p, rest) e in
    let took_page = place_takes pages last bytes page.0.0 page.0.1 is_point page.1 in
    let body = bind_ok (front_at 4096 page.0.1) (λ body. path_at body.1 >>= λ path. Ok (record { page = page.0.0; bytes = body.0; path = path.0 }, path.1)) (p, rest) page.2 in
    let took_body = (front_reader 4096).takes page.0.1 body.0.0 body.0.1 took_page.0.rest_bytes body.1 in
    let path = bind_ok (path_at body.0.1) (λ path. Ok (record { page = page.0.0; bytes = body.0.0; path = path.0 }, path.1)) (p, rest) body.2 in
    let took_path = path_reader.takes body.0.1 path.0.0 path.0.1 took_body.0.rest_bytes path.1 in
    let from_body = Takes-then page.0.1 body.0.0 body.0.1 (listed 1 digest_bytes path.0.0) path.0.1 took_body.0 took_path.0 in
    let from_page = Takes-then bytes (big_bytes 4 page.0.0) page.0.1 (body.0.0 ++ listed 1 digest_bytes path.0.0) path.0.1 took_page.0 from_body in
    let made : CarriedPage = record { page = page.0.0; bytes = body.0.0; path = path.0.0 } in
    subst (λ (y : CarriedPage × List ℕ). Takes bytes (page_bytes y.0) y.1 × IsCarriedPage y.0 × (may_follow pages last y.0.page ≡ true)) (ok_is (made, path.0.1) (p, rest) path.2)
    (from_page, record { number = took_page.1; size = took_body.1; few = took_path.1.few; path = took_path.1.each }, took_page.2)

page_again : (pages : ℕ) (last : Option ℕ) (p : CarriedPage) (rest : List ℕ) → IsCarriedPage p → may_follow pages last p.page ≡ true → page_at pages last (page_bytes p ++ rest) ≡ Ok (p, rest)
unfolding page_at
page_again pages last p rest is_point follows =
    let regrouped : page_bytes p ++ rest ≡ big_bytes 4 p.page ++ (p.bytes ++ (listed 1 digest_bytes p.path ++ rest)) =
    append_assoc (big_bytes 4 p.page) (p.bytes ++ listed 1 digest_bytes p.path) rest ∙ ap (λ (t : List ℕ). big_bytes 4 p.page ++ t) (append_assoc p.bytes (listed 1 digest_bytes p.path) rest) in
    ap (page_at pages last) regrouped
    ∙ rw (place_again pages last p.page (p.bytes ++ (listed 1 digest_bytes p.path ++ rest)) is_point.number follows, front_again 4096 p.bytes (listed 1 digest_bytes p.path ++ rest) is_point.size, path_reader.again p.path rest (record { passes = refl; few = is_point.few; each = is_point.path })) refl

pages_take : (pages n : ℕ) (last : Option ℕ) (bytes : List ℕ) (ps : List CarriedPage) (rest : List ℕ) → IsBytes bytes → pages_at pages n last bytes ≡ Ok (ps, rest)
    → Takes bytes (flat_map page_bytes ps) rest × (length ps ≡ n) × AllByRecursion IsCarriedPage ps × AreInPlace pages last ps
unfolding pages_at
pages_take pages zero last bytes ps rest is_point e =
    subst (λ (y : List CarriedPage × List ℕ). Takes bytes (flat_map page_bytes y.0) y.1 × (length y.0 ≡ 0) × AllByRecursion IsCarriedPage y.0 × AreInPlace pages last y.0) (ok_is ([], bytes) (ps, rest) e) (record { parts = refl; rest_bytes = is_point }, refl, tt, tt)
pages_take pages (suc n) last bytes ps rest is_point e =
    let a = bind_ok (page_at pages last bytes) (λ first. pages_at pages n (Some first.0.page) first.1 >>= λ others. Ok (first.0 ∷ others.0, others.1)) (ps, rest) e in
    let here = page_takes pages last bytes a.0.0 a.0.1 is_point a.1 in
    let b = bind_ok (pages_at pages n (Some a.0.0.page) a.0.1) (λ others. Ok (a.0.0 ∷ others.0, others.1)) (ps, rest) a.2 in
    let others = pages_take pages n (Some a.0.0.page) a.0.1 b.0.0 b.0.1 here.0.rest_bytes b.1 in
    let both = Takes-then bytes (page_bytes a.0.0) a.0.1 (flat_map page_bytes b.0.0) b.0.1 here.0 others.0 in
    subst (λ (y : List CarriedPage × List ℕ). Takes bytes (flat_map page_bytes y.0) y.1 × (length y.0 ≡ suc n) × AllByRecursion IsCarriedPage y.0 × AreInPlace pages last y.0)
    (ok_is (a.0.0 ∷ b.0.0, b.0.1) (ps, rest) b.2)
    (rw flat_map-cons both, ap suc others.1, (here.1, others.2), (here.2, others.3))

pages_again : (pages : ℕ) (ps : List CarriedPage) (last : Option ℕ) (rest : List ℕ) → AllByRecursion IsCarriedPage ps → AreInPlace pages last ps → pages_at pages (length ps) last (flat_map page_bytes ps ++ rest) ≡ Ok (ps, rest)
unfolding pages_at
pages_again pages [] last rest each placed = refl
pages_again pages (p ∷ ps) last rest each placed =
    let regrouped : flat_map page_bytes (p ∷ ps) ++ rest ≡ page_bytes p ++ (flat_map page_bytes ps ++ rest) =
    ap (λ (t : List ℕ). t ++ rest) (flat_map-cons page_bytes p ps) ∙ append_assoc (page_bytes p) (flat_map page_bytes ps) rest in
    ap (pages_at pages (suc (length ps)) last) regrouped
    ∙ rw (page_again pages last p (flat_map page_bytes ps ++ rest) each.0 placed.0, pages_again pages ps (Some p.page) rest each.1 placed.1) refl

-- ---- the whole

opening_take : (bytes rest : List ℕ) → IsBytes bytes → opening_at bytes ≡ Ok rest → Takes bytes opening_bytes rest
unfolding opening_at
opening_take bytes rest is_point e =
    let a = bind_ok (number_at 4 bytes) (λ letters. cond (letters.0 == magic) (Ok letters.1) (Err faults.Magic) >>= λ next. byte_at next >>= λ version. cond (version.0 == 1) (Ok version.1) (Err faults.Version)) rest e in
    let took = (number_reader 4 (2 ^ 32) wide32).takes bytes a.0.0 a.0.1 is_point a.1 in
    let b = bind_ok (cond (a.0.0 == magic) (Ok a.0.1) (Err faults.Magic)) (λ next. byte_at next >>= λ version. cond (version.0 == 1) (Ok version.1) (Err faults.Version)) rest a.2 in
    let g = guard_ok (a.0.0 == magic) faults.Magic (Ok a.0.1) b.0 b.1 in
    let letters : a.0.0 ≡ magic = eqb-true a.0.0 magic g.0 in
    let next : a.0.1 ≡ b.0 = ok_is a.0.1 b.0 g.1 in
    let c = bind_ok (byte_at b.0) (λ version. cond (version.0 == 1) (Ok version.1) (Err faults.Version)) rest b.2 in
    let h = guard_ok (c.0.0 == 1) faults.Version (Ok c.0.1) rest c.2 in
    let front = subst (λ (n : ℕ). Takes bytes (big_bytes 4 n) b.0) letters (subst (λ (t : List ℕ). Takes bytes (big_bytes 4 a.0.0) t) next took.0) in
    let version = byte_takes b.0 c.0.0 c.0.1 front.rest_bytes c.1 in
    let one = subst (λ (n : ℕ). Takes b.0 (n ∷ []) c.0.1) (eqb-true c.0.0 1 h.0) version.0 in
    subst (Takes bytes opening_bytes) (ok_is c.0.1 rest h.1) (Takes-then bytes (big_bytes 4 magic) b.0 (1 ∷ []) c.0.1 front one)

opening_again : (rest : List ℕ) → opening_at (opening_bytes ++ rest) ≡ Ok rest
unfolding opening_at
opening_again rest =
    let regrouped : opening_bytes ++ rest ≡ big_bytes 4 magic ++ (1 ∷ rest) = append_assoc (big_bytes 4 magic) (1 ∷ []) rest in
    ap opening_at regrouped ∙ rw ((number_reader 4 (2 ^ 32) wide32).again magic (1 ∷ rest) (omega arith)) refl

count_take : (bytes : List ℕ) (n : ℕ) (rest : List ℕ) → IsBytes bytes → count_at bytes ≡ Ok (n, rest) → Takes bytes (big_bytes 4 n) rest × (3 ≤ n) × (n < 2 ^ 32)
unfolding count_at
count_take bytes n rest is_point e =
    let a = bind_ok (number_at 4 bytes) (λ count. cond (nat_le 3 count.0) (Ok count) (Err faults.Order)) (n, rest) e in
    let g = guard_ok (nat_le 3 a.0.0) faults.Order (Ok a.0) (n, rest) a.2 in
    let took = (number_reader 4 (2 ^ 32) wide32).takes bytes a.0.0 a.0.1 is_point a.1 in
    subst (λ (y : ℕ × List ℕ). Takes bytes (big_bytes 4 y.0) y.1 × (3 ≤ y.0) × (y.0 < 2 ^ 32)) (ok_is a.0 (n, rest) g.1) (took.0, leb-true 3 a.0.0 g.0, took.1)

count_again : (n : ℕ) (rest : List ℕ) → 3 ≤ n → n < 2 ^ 32 → count_at (big_bytes 4 n ++ rest) ≡ Ok (n, rest)
unfolding count_at
count_again n rest some few = let enough : nat_le 3 n ≡ true = le-leb 3 n some in rw ((number_reader 4 (2 ^ 32) wide32).again n rest few, enough) refl

parts_take : (bytes : List ℕ) (parts : Parts) (rest : List ℕ) → IsBytes bytes → parts_at bytes ≡ Ok (parts, rest) → Takes bytes (parts_bytes parts) rest × AreValid parts
unfolding parts_at
parts_take bytes parts rest is_point e =
    let opened = bind_ok (opening_at bytes) (λ opened. number_at 4 opened >>= λ pages. count_at pages.1 >>= λ count. pages_at pages.0 count.0 None count.1 >>= λ carried. Ok (record { pages = pages.0; carried = carried.0 }, carried.1)) (parts, rest) e in
    let took_opening = opening_take bytes opened.0 is_point opened.1 in
    let pages = bind_ok (number_at 4 opened.0) (λ pages. count_at pages.1 >>= λ count. pages_at pages.0 count.0 None count.1 >>= λ carried. Ok (record { pages = pages.0; carried = carried.0 }, carried.1)) (parts, rest) opened.2 in
    let took_pages = (number_reader 4 (2 ^ 32) wide32).takes opened.0 pages.0.0 pages.0.1 took_opening.rest_bytes pages.1 in
    let count = bind_ok (count_at pages.0.1) (λ count. pages_at pages.0.0 count.0 None count.1 >>= λ carried. Ok (record { pages = pages.0.0; carried = carried.0 }, carried.1)) (parts, rest) pages.2 in
    let took_count = count_take pages.0.1 count.0.0 count.0.1 took_pages.0.rest_bytes count.1 in
    let carried = bind_ok (pages_at pages.0.0 count.0.0 None count.0.1) (λ carried. Ok (record { pages = pages.0.0; carried = carried.0 }, carried.1)) (parts, rest) count.2 in
    let took_carried = pages_take pages.0.0 count.0.0 None count.0.1 carried.0.0 carried.0.1 took_count.0.rest_bytes carried.1 in
    let counted = subst (λ (n : ℕ). Takes pages.0.1 (big_bytes 4 n) count.0.1) (sym took_carried.1) took_count.0 in
    let from_count = Takes-then pages.0.1 (big_bytes 4 (length carried.0.0)) count.0.1 (flat_map page_bytes carried.0.0) carried.0.1 counted took_carried.0 in
    let from_pages = Takes-then opened.0 (big_bytes 4 pages.0.0) pages.0.1 (listed 4 page_bytes carried.0.0) carried.0.1 took_pages.0 from_count in
    let whole = Takes-then bytes opening_bytes opened.0 (big_bytes 4 pages.0.0 ++ listed 4 page_bytes carried.0.0) carried.0.1 took_opening from_pages in
    let made : Parts = record { pages = pages.0.0; carried = carried.0.0 } in
    subst (λ (y : Parts × List ℕ). Takes bytes (parts_bytes y.0) y.1 × AreValid y.0) (ok_is (made, carried.0.1) (parts, rest) carried.2)
    (whole, record { pages = took_pages.1; some = omega (arith, took_carried.1, took_count.1); few = omega (arith, took_carried.1, took_count.2); each = took_carried.2; in_place = took_carried.3 })

parts_again : (parts : Parts) (rest : List ℕ) → AreValid parts → parts_at (parts_bytes parts ++ rest) ≡ Ok (parts, rest)
unfolding parts_at
parts_again parts rest valid =
    let regrouped : parts_bytes parts ++ rest ≡ opening_bytes ++ (big_bytes 4 parts.pages ++ (big_bytes 4 (length parts.carried) ++ (flat_map page_bytes parts.carried ++ rest))) =
    append_assoc opening_bytes (big_bytes 4 parts.pages ++ listed 4 page_bytes parts.carried) rest
    ∙ ap (λ (t : List ℕ). opening_bytes ++ t) (append_assoc (big_bytes 4 parts.pages) (listed 4 page_bytes parts.carried) rest
    ∙ ap (λ (t : List ℕ). big_bytes 4 parts.pages ++ t) (append_assoc (big_bytes 4 (length parts.carried)) (flat_map page_bytes parts.carried) rest)) in
    ap parts_at regrouped
    ∙ rw (
      opening_again (big_bytes 4 parts.pages ++ (big_bytes 4 (length parts.carried) ++ (flat_map page_bytes parts.carried ++ rest))),
      (number_reader 4 (2 ^ 32) wide32).again parts.pages (big_bytes 4 (length parts.carried) ++ (flat_map page_bytes parts.carried ++ rest)) valid.pages,
      count_again (length parts.carried) (flat_map page_bytes parts.carried ++ rest) valid.some valid.few,
      pages_again parts.pages parts.carried None rest valid.each valid.in_place,
    ) refl

-- what takes all bytes is spelled by them, and in the grammar
pub carried_take : (bytes : List ℕ) (parts : Parts) (log : List ℕ) → IsBytes bytes → carried_at bytes ≡ Ok (parts, log) → AreValid parts × (length log < 2 ^ 64) × IsBytes log × (carried_bytes parts log ≡ bytes)
unfolding carried_at
carried_take bytes parts log is_point e =
    let a = bind_ok (parts_at bytes) (λ parts. number_at 8 parts.1 >>= λ size. front_at size.0 size.1 >>= λ log. cond (length log.1 == 0) (Ok (parts.0, log.0)) (Err faults.Tail)) (parts, log) e in
    let took_parts = parts_take bytes a.0.0 a.0.1 is_point a.1 in
    let size = bind_ok (number_at 8 a.0.1) (λ size. front_at size.0 size.1 >>= λ log. cond (length log.1 == 0) (Ok (a.0.0, log.0)) (Err faults.Tail)) (parts, log) a.2 in
    let took_size = (number_reader 8 (2 ^ 64) wide64).takes a.0.1 size.0.0 size.0.1 took_parts.0.rest_bytes size.1 in
    let body = bind_ok (front_at size.0.0 size.0.1) (λ log. cond (length log.1 == 0) (Ok (a.0.0, log.0)) (Err faults.Tail)) (parts, log) size.2 in
    let took_body = (front_reader size.0.0).takes size.0.1 body.0.0 body.0.1 took_size.0.rest_bytes body.1 in
    let g = guard_ok (length body.0.1 == 0) faults.Tail (Ok (a.0.0, body.0.0)) (parts, log) body.2 in
    let nothing : body.0.1 ≡ [] = nil_from_length body.0.1 (eqb-true (length body.0.1) 0 g.0) in
    let sized = subst (λ (n : ℕ). Takes a.0.1 (big_bytes 8 n) size.0.1) (sym took_body.1) took_size.0 in
    let framed = Takes-then a.0.1 (big_bytes 8 (length body.0.0)) size.0.1 body.0.0 body.0.1 sized took_body.0 in
    let whole = Takes-then bytes (parts_bytes a.0.0) a.0.1 (frame_bytes body.0.0) body.0.1 took_parts.0 framed in
    let all : carried_bytes a.0.0 body.0.0 ≡ bytes = sym (whole.parts ∙ ap (λ (t : List ℕ). carried_bytes a.0.0 body.0.0 ++ t) nothing ∙ append-nil (carried_bytes a.0.0 body.0.0)) in
    let bytes_of_log : IsBytes body.0.0 = fits_front size.0.1 body.0.0 body.0.1 took_size.0.rest_bytes took_body.0.parts in
    subst (λ (y : Parts × List ℕ). AreValid y.0 × (length y.1 < 2 ^ 64) × IsBytes y.1 × (carried_bytes y.0 y.1 ≡ bytes)) (ok_is (a.0.0, body.0.0) (parts, log) g.1)
    (took_parts.1, omega (arith, took_body.1, took_size.1), bytes_of_log, all)
  where
    fits_front : (bytes x rest : List ℕ) → IsBytes bytes → bytes ≡ x ++ rest → IsBytes x
    fits_front bytes x rest is_point is = subst IsBytes (ap (take (length x)) is ∙ take_at x rest (length x) refl) (IsBytes-take (length x) bytes is_point)

abbrev at_end : Parts → List ℕ × List ℕ → Result (Parts × List ℕ) LogFault
at_end parts body = cond (length body.1 == 0) (Ok (parts, body.0)) (Err faults.Tail)

log_again : (parts : Parts) (log : List ℕ) → (front_at (length log) log >>= at_end parts) ≡ Ok (parts, log)
log_again parts log = ap (λ (t : List ℕ). front_at (length log) t >>= at_end parts) (sym (append-nil log)) ∙ rw (front_again (length log) log [] refl) refl

-- what is in the grammar is read from its spelling
pub carried_again : (parts : Parts) (log : List ℕ) → AreValid parts → length log < 2 ^ 64 → carried_at (carried_bytes parts log) ≡ Ok (parts, log)
unfolding carried_at
carried_again parts log valid few = rw (parts_again parts (frame_bytes log) valid, (number_reader 8 (2 ^ 64) wide64).again (length log) log few) (log_again parts log)
