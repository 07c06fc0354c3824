-- The pairs that an opened node leaves.
use Rattle.std.proofs.Common.{◌≡◌, Bool, true, false, List, ◌++◌, map, refl, ap, ◌∙◌}
use Rattle.std.specs.Prelude.{if◌then◌else◌, filter}
use Rattle.std.proofs.lemmas.List.{map-append}
use Rattle.std.proofs.lemmas.List.Elements.{filter-append}
use Rattle.metric_laws.specs.Space.{Space}
use Rattle.log_model.specs.declared.pairs.JoinNeed.{JoinNeed}
use Rattle.log_model.specs.JoinWalk.{Entry, opens_right, apart_of, centre_of, with_entry, is_hit, is_need, pair_of}
use Rattle.log_model.specs.JoinSteps.{paired, hits_among, needs_among}

-- an entry's item in the place of the opened one is the entry's pair
pub paired_same : (s : Space) (n : JoinNeed) (e : Entry) → paired n e.item (with_entry s n e).apart ≡ with_entry s n e
paired_same s n e = cases (opens_right n)
  where
    right : JoinNeed
    right = record { left = n.left; right = e.item; apart = apart_of s (centre_of n.left) (centre_of e.item) }

    left : JoinNeed
    left = record { left = e.item; right = n.right; apart = apart_of s (centre_of e.item) (centre_of n.right) }

    cases : (b : Bool) → (if b then record { left = n.left; right = e.item; apart = (if b then right else left).apart } else record { left = e.item; right = n.right; apart = (if b then right else left).apart })
        ≡ (if b then right else left)
    cases true = refl
    cases false = refl

-- pairs one after the other
pub hits_append : (ps qs : List JoinNeed) → hits_among (ps ++ qs) ≡ hits_among ps ++ hits_among qs
hits_append ps qs = ap (λ (l : List JoinNeed). map pair_of l) (filter-append is_hit ps qs) ∙ map-append pair_of (filter is_hit ps) (filter is_hit qs)

pub needs_append : (ps qs : List JoinNeed) → needs_among (ps ++ qs) ≡ needs_among ps ++ needs_among qs
needs_append ps qs = filter-append is_need ps qs
