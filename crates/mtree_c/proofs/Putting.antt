-- Hits that are put one after another.
use Rattle.std.proofs.Common.{◌≡◌, ℕ, ◌+◌, ◌<◌, ◌≤◌, List, [], ◌∷◌, ◌++◌, length, take, drop, set, slice_index_or, refl, sym, ◌∙◌, ap, arith}
use Rattle.std.proofs.lemmas.List.{append_assoc, take_more, drop_more, set_at, length-take-le, take_all}
use Rattle.scan_model.specs.declared.hit.Hit.{Hit}
use Rattle.mtree_c.specs.declared.answering.TaggedHit.{TaggedHit}
use Rattle.mtree_c.specs.Answers.{tagged}

abbrev tag_of : Hit → ℕ → TaggedHit
tag_of h tag = record { id = h.id; distance = h.dist; tag = tag }

tagged-append : (a b : List Hit) (s t : List ℕ) → length s ≡ length a → tagged (a ++ b) (s ++ t) ≡ tagged a s ++ tagged b t
tagged-append [] b [] t same = refl
tagged-append [] b (x ∷ s) t same = absurd (omega (arith, same))
tagged-append (h ∷ a) b [] t same = absurd (omega (arith, same))
tagged-append (h ∷ a) b (x ∷ s) t same = ap (λ (more : List TaggedHit). tag_of h x ∷ more) (tagged-append a b s t (omega (arith, same)))

pub length-tagged : (hits : List Hit) (tags : List ℕ) → length tags ≡ length hits → length (tagged hits tags) ≡ length hits
length-tagged [] tags same = refl
length-tagged (h ∷ hits) [] same = same
length-tagged (h ∷ hits) (tag ∷ tags) same = omega (arith, length-tagged hits tags (omega (arith, same)))

-- the hits before the next one, and that one
next_tagged : (hits : List Hit) (tags : List ℕ) (i : ℕ) (d : Hit) → length tags ≡ length hits → i < length hits
    → tagged (take (i + 1) hits) (take (i + 1) tags) ≡ tagged (take i hits) (take i tags) ++ tag_of (slice_index_or hits i d) (slice_index_or tags i 0) ∷ []
next_tagged hits tags i d same within =
    let h = slice_index_or hits i d in
    let t = slice_index_or tags i 0 in
    let long_hits : length (take i hits) ≡ i = length-take-le i hits (omega arith) in
    let long_tags : length (take i tags) ≡ i = length-take-le i tags (omega (arith, same)) in
    ap (λ (a : List Hit). tagged a (take (i + 1) tags)) (take_more hits i d within)
    ∙ ap (λ (s : List ℕ). tagged (take i hits ++ h ∷ []) s) (take_more tags i 0 (omega (arith, same)))
    ∙ tagged-append (take i hits) (h ∷ []) (take i tags) (t ∷ []) (long_tags ∙ sym long_hits)

-- one hit more behind others
pub push_more : (hits : List Hit) (tags : List ℕ) (first before : List TaggedHit) (i : ℕ) (d : Hit) → length tags ≡ length hits → i < length hits
    → before ≡ first ++ tagged (take i hits) (take i tags)
    → before ++ tag_of (slice_index_or hits i d) (slice_index_or tags i 0) ∷ [] ≡ first ++ tagged (take (i + 1) hits) (take (i + 1) tags)
push_more hits tags first before i d same within is =
    let e = tag_of (slice_index_or hits i d) (slice_index_or tags i 0) in
    ap (λ (x : List TaggedHit). x ++ e ∷ []) is
    ∙ append_assoc first (tagged (take i hits) (take i tags)) (e ∷ [])
    ∙ ap (λ (x : List TaggedHit). first ++ x) (sym (next_tagged hits tags i d same within))

-- all hits behind others
pub pushed_all : (hits : List Hit) (tags : List ℕ) (first before : List TaggedHit) (i : ℕ) → length tags ≡ length hits → length hits ≤ i
    → before ≡ first ++ tagged (take i hits) (take i tags) → before ≡ first ++ tagged hits tags
pushed_all hits tags first before i same le is =
    is ∙ ap (λ (a : List Hit). first ++ tagged a (take i tags)) (take_all i hits le) ∙ ap (λ (s : List ℕ). first ++ tagged hits s) (take_all i tags (omega (arith, same)))

-- one hit more
pub put_more : (hits : List Hit) (tags : List ℕ) (room before : List TaggedHit) (i : ℕ) (d : Hit) → length tags ≡ length hits → i < length hits → length hits ≤ length room
    → before ≡ tagged (take i hits) (take i tags) ++ drop i room
    → set before i (tag_of (slice_index_or hits i d) (slice_index_or tags i 0)) ≡ tagged (take (i + 1) hits) (take (i + 1) tags) ++ drop (i + 1) room
put_more hits tags room before i d same within enough is =
    let h = slice_index_or hits i d in
    let t = slice_index_or tags i 0 in
    let e = tag_of h t in
    let front = tagged (take i hits) (take i tags) in
    let long_hits : length (take i hits) ≡ i = length-take-le i hits (omega arith) in
    let long_tags : length (take i tags) ≡ i = length-take-le i tags (omega (arith, same)) in
    let long : length front ≡ i = length-tagged (take i hits) (take i tags) (long_tags ∙ sym long_hits) ∙ long_hits in
    let more : tagged (take (i + 1) hits) (take (i + 1) tags) ≡ front ++ e ∷ [] = next_tagged hits tags i d same within in
    ap (λ (x : List TaggedHit). set x i e) (is ∙ ap (λ (x : List TaggedHit). front ++ x) (drop_more room i e (omega arith)))
    ∙ set_at front (slice_index_or room i e) (drop (i + 1) room) e i long
    ∙ sym (ap (λ (x : List TaggedHit). x ++ drop (i + 1) room) more ∙ append_assoc front (e ∷ []) (drop (i + 1) room))
