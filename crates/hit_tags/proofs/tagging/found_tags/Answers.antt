use Rattle.std.proofs.Common.{◌≡◌, ◌∙◌, ◌∷◌, [], ap, arith, map, length, List, Some, None, subst}
use Rattle.std.specs.List.{AllByRecursion}
use Rattle.std.proofs.lemmas.List.{take_all}
use Rattle.scan_model.specs.declared.hit.Hit.{Hit}
use Rattle.log_model.specs.declared.tagged.TaggedHit.{TaggedHit}
use Rattle.log_model.specs.Met.{met}
use Rattle.hit_tags.specs.Tags.{tag_among}
use Rattle.hit_tags.specs.Wanted.{held, tag_held, hit_tag, TakesIn}
use Rattle.hit_tags.proofs.Following.{if_ok}
use Rattle.hit_tags.proofs.Taking.{hit_tags_held, same_tags}
use Rattle.hit_tags.proofs.tagging.found_tags.Goals as goal

pub returns-clause-first : goal.returns-clause-first
returns-clause-first c =
    let start = c.in_ok-wanted.wanted in
    let now = c.loop-one.wanted in
    let tagged = c.args.found.now.tagged in
    let wanted : AllByRecursion (λ h. held start h.id ≡ Some None) c.args.found.now.hits = subst (AllByRecursion (λ h. held start h.id ≡ Some None)) c.as_slice-hits.ensures c.in_ok-wanted.ensures in
    let taken : TakesIn start (map hit_tag tagged) now =
    subst (λ (ts : List TaggedHit). TakesIn start (map hit_tag ts) now) (take_all c.loop-one.one-index tagged (omega (arith, c.loop-one-test.false, ap length c.as_slice-one-items.ensures))) c.loop-one.invariant in
    if_ok c.tags.result
    (λ tags are. are ∙ ap (λ (hs : List Hit). map (λ h. tag_held (held now h.id)) hs) c.as_slice-hits.ensures ∙ hit_tags_held c.args.found.now.hits start now tagged wanted taken) c.tags.ensures

pub returns-clause-met : goal.returns-clause-met
returns-clause-met c =
    if_ok c.tags.result
    (λ tags first s q nodes live met_are.
    first ∙ ap (λ (ts : List TaggedHit). map (λ h. tag_among h.id ts) c.args.found.now.hits) met_are ∙ same_tags s q (met nodes (live.root ∷ []) c.args.found.now.log.records) c.args.found.now.hits)
    (returns-clause-first c)
