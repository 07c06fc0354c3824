-- Where the sights of each opening stand.
use Rattle.std.proofs.Common.{◌≡◌, ℕ, ◌+◌, ◌-◌, ◌<◌, List, [], ◌∷◌, ◌++◌, refl, sym, ap, ◌∙◌, arith, get_or, length, length-append, drop, Option, Some, None, inl, inr}
use Rattle.std.specs.Prelude.{slice_range}
use Rattle.std.specs.Option.{option_map}
use Rattle.std.specs.Map.{lookup}
use Rattle.std.proofs.lemmas.Bool.{cases_lt}
use Rattle.std.proofs.lemmas.List.{drop-append-le, length-drop, take-append-le, take_all, append-nil, append_assoc, get_or_append_left}
use Rattle.std.proofs.Math.Seq.{drop-append_seam, get_or-append_seam}
use Rattle.nearest_search.specs.declared.kept.Kept.{Kept}
use Rattle.nearest_search.specs.declared.kept.Span.{Span}
use Rattle.nearest_search.specs.declared.seen.Sight.{Sight}
use Rattle.nearest_search.specs.Seeing.{seen_of}
use Rattle.nearest_search.specs.Keeping.{Grows, LiesWithin, SpansFit, blocks_of, is_turn, kept_seen, kept_span, seen_at, sights_in}

-- where nothing is kept, all spans fit
pub none_fit : (kept : Kept) → kept.spans.entries ≡ [] → SpansFit kept
none_fit kept none page above span is =
    let nothing : kept_span kept page above ≡ None = ap (lookup (is_turn (record { page = page; above = above }))) none in
    absurd (cc)

-- a block that is before the last one, and the last one
full_block : (full : List (List Sight)) (last : List Sight) (block : ℕ) → block < length full → sights_in (full ++ last ∷ []) block ≡ get_or full block []
full_block full last block low = get_or_append_left full (last ∷ []) [] block low

last_block : (full : List (List Sight)) (last : List Sight) → sights_in (full ++ last ∷ []) (length full) ≡ last
last_block full last = get_or-append_seam full last [] []

count_blocks : (full : List (List Sight)) (last : List Sight) → length (full ++ last ∷ []) ≡ length full + 1
count_blocks full last = length-append full (last ∷ [])

pub grows_both : (a b c : List (List Sight)) → Grows a b → Grows b c → Grows a c
grows_both a b c first second = record {
  none_lost = omega (arith, first.none_lost, second.none_lost);
  more = λ block low.
      let one = first.more block low in
      let two = second.more block (omega (arith, low, first.none_lost)) in
      (one.0 ++ two.0, two.1 ∙ ap (λ (xs : List Sight). xs ++ two.0) one.1 ∙ append_assoc (sights_in a block) one.0 two.0);
}

-- sights behind those of the last block
module _ (full : List (List Sight)) (last added next : List Sight) (is : next ≡ last ++ added) where
  pub more_sights : Grows (full ++ last ∷ []) (full ++ next ∷ [])
  more_sights = record {
    none_lost = omega (arith, count_blocks full last, count_blocks full next);
    more = λ block low. elim (cases_lt block (length full)) [
      | inl before ↦ ([], full_block full next block before ∙ sym (full_block full last block before) ∙ sym (append-nil (sights_in (full ++ last ∷ []) block)))
      | inr other ↦ (added, at_last block (omega (arith, low, other, count_blocks full last)))
    ];
  }
    where
      at_last : (block : ℕ) → block ≡ length full → sights_in (full ++ next ∷ []) block ≡ sights_in (full ++ last ∷ []) block ++ added
      at_last block e = rw e (last_block full next ∙ is ∙ ap (λ (xs : List Sight). xs ++ added) (sym (last_block full last)))

  -- stand where their span says
  pub new_span : (span : Span) → span.block ≡ length full → span.from ≡ length last → span.to ≡ length next →
      LiesWithin (full ++ next ∷ []) span × (slice_range (sights_in (full ++ next ∷ []) span.block) span.from span.to ≡ added)
  new_span span block from to =
      let here : sights_in (full ++ next ∷ []) span.block ≡ next = rw block (last_block full next) in
      let long : length next ≡ length last + length added = ap length is ∙ length-append last added in
      let left : drop span.from next ≡ added = rw (from, is) (drop-append_seam last added) in (
        record { block = omega (arith, block, count_blocks full next); ordered = omega (arith, from, to, long); within = omega (arith, to, ap length here) },
        ap (λ (xs : List Sight). slice_range xs span.from span.to) here ∙ rw left (take_all (span.to - span.from) added (omega (arith, from, to, long))),
      )

-- a span has the same sights where blocks grow
same_span : (old new : List (List Sight)) (span : Span) → Grows old new → LiesWithin old span → LiesWithin new span × (seen_at new span ≡ seen_at old span)
same_span old new span grows lies =
    let xs = sights_in old span.block in
    let more = grows.more span.block lies.block in
    let long : length (sights_in new span.block) ≡ length xs + length more.0 = ap length more.1 ∙ length-append xs more.0 in
    let shorter : length (drop span.from xs) ≡ length xs - span.from = length-drop span.from xs in
    let same : slice_range (sights_in new span.block) span.from span.to ≡ slice_range xs span.from span.to =
    rw (more.1, drop-append-le span.from xs more.0 (omega (arith, lies.ordered, lies.within))) (take-append-le (span.to - span.from) (drop span.from xs) more.0 (omega (arith, lies.within, shorter))) in
    (record { block = omega (arith, lies.block, grows.none_lost); ordered = lies.ordered; within = omega (arith, lies.within, long) }, ap (seen_of span.is_leaf span.count) same)

-- more sights change nothing that is kept
module _ (before after : Kept) (spans : after.spans ≡ before.spans) (grows : Grows (blocks_of before) (blocks_of after)) (fit : SpansFit before) where
  spans_same : (page : ℕ) (above : Option ℕ) → kept_span after page above ≡ kept_span before page above
  spans_same page above = ap (λ s. kept_span (record { full = before.full; last = before.last; spans = s }) page above) spans

  pub still_fit : SpansFit after
  still_fit page above span is = (same_span (blocks_of before) (blocks_of after) span grows (fit page above span (sym (spans_same page above) ∙ is))).0

  pub seen_same : (page : ℕ) (above : Option ℕ) → kept_seen after page above ≡ kept_seen before page above
  seen_same page above = rw (spans_same page above) (cases (kept_span before page above) refl)
    where
      cases : (o : Option Span) → kept_span before page above ≡ o → option_map (seen_at (blocks_of after)) o ≡ option_map (seen_at (blocks_of before)) o
      cases None is = refl
      cases (Some span) is = ap Some (same_span (blocks_of before) (blocks_of after) span grows (fit page above span is)).1
