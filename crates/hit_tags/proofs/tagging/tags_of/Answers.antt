use Rattle.std.proofs.Common.{◌≡◌, ◌∙◌, ◌∷◌, [], List, ℕ, reverse, sym, ap, subst, map, Some, None}
use Rattle.std.specs.List.{AllByRecursion, AllZip}
use Rattle.std.proofs.lemmas.Result.{err_from_is_err_and}
use Rattle.scan_model.specs.declared.hit.Hit.{Hit}
use Rattle.page_store.specs.declared.pages.PageFault.{PageFault}
use Rattle.page_store.specs.Reading.{nodes_of}
use Rattle.page_store.specs.Shelf.{Shelf}
use Rattle.log_model.specs.declared.marks.Record.{Record}
use Rattle.log_model.specs.Met.{met}
use Rattle.hit_tags.specs.Tags.{IsOwnTag, HasTagsCause}
use Rattle.hit_tags.specs.Wanted.{held, tag_held, leaf_tag, TakesIn}
use Rattle.hit_tags.proofs.Taking.{leaf_tags_held}
use Rattle.hit_tags.proofs.Showing.{passes, shown_tags, own_tags}
use Rattle.hit_tags.proofs.tagging.tags_of.Goals as goal

pub returns-clause-met : goal.returns-clause-met
returns-clause-met g c = λ is_known.
    let nodes = nodes_of (g.P.Pages.shelf c.args.pages.now).read in
    let stack : reverse c.in_ok-walk.walk.stack.items ≡ c.args.live.now.root ∷ [] = ap reverse c.in_ok-walk.ensures.stack in
    let objects = met nodes (c.args.live.now.root ∷ []) c.args.found.now.log.records in
    let wanted : AllByRecursion (λ h. held c.in_ok-walk.walk.wanted h.id ≡ Some None) c.args.found.now.hits = subst (AllByRecursion (λ h. held c.in_ok-walk.walk.wanted h.id ≡ Some None)) c.as_slice-hits.ensures c.in_ok-walk.ensures.wanted in
    let taken : TakesIn c.in_ok-walk.walk.wanted (map leaf_tag objects) c.follow_all.new.self.wanted =
    subst (λ (rs : List Record). TakesIn c.in_ok-walk.walk.wanted (map leaf_tag (met nodes (c.args.live.now.root ∷ []) rs)) c.follow_all.new.self.wanted) c.as_slice.ensures
    (subst (λ (ns : List ℕ). TakesIn c.in_ok-walk.walk.wanted (map leaf_tag (met nodes ns c.as_slice.result.now)) c.follow_all.new.self.wanted) stack (c.in_ok-follow_all.ensures.ok is_known)) in
    c.in_ok-tags.ensures ∙ ap (λ (hs : List Hit). map (λ h. tag_held (held c.follow_all.new.self.wanted h.id)) hs) c.as_slice-hits.ensures
    ∙ leaf_tags_held c.args.found.now.hits c.in_ok-walk.walk.wanted c.follow_all.new.self.wanted objects wanted taken

pub returns-clause-objects : goal.returns-clause-objects
returns-clause-objects g c = λ is_known s shown. returns-clause-met g c is_known ∙ shown_tags s (nodes_of (g.P.Pages.shelf c.args.pages.now).read) c.args.live.now c.args.found.now shown

pub returns-clause-own : goal.returns-clause-own
returns-clause-own g c = λ is_known s sound.
    let nodes = nodes_of (g.P.Pages.shelf c.args.pages.now).read in
    subst (AllZip (IsOwnTag nodes c.args.live.now) c.args.found.now.hits) (sym (returns-clause-met g c is_known)) (own_tags s nodes c.args.live.now sound c.args.found.now.log.records c.args.found.now.hits)

pub returns-in_err-follow_all-clause-sound : goal.returns-in_err-follow_all-clause-sound
returns-in_err-follow_all-clause-sound g c =
    let old : Shelf = g.P.Pages.shelf c.args.pages.now in
    let new : Shelf = g.P.Pages.shelf c.follow_all.new.pages in
    let fault : PageFault = c.in_err-follow_all.field-0.0 in
    let stack : reverse c.in_ok-walk.walk.stack.items ≡ c.args.live.now.root ∷ [] = ap reverse c.in_ok-walk.ensures.stack in
    let cause : HasTagsCause old new (c.args.live.now.root ∷ []) c.args.found.now.log.records fault =
    subst (λ (rs : List Record). HasTagsCause old new (c.args.live.now.root ∷ []) rs fault) c.as_slice.ensures
    (subst (λ (ns : List ℕ). HasTagsCause old new ns c.as_slice.result.now fault) stack c.in_err-follow_all.ensures.cause) in
    let p = err_from_is_err_and c.from_residual-in_err-follow_all.result c.from_residual-in_err-follow_all.ensures.1 in
    rw (p.1, p.2) (λ is_known s sound. passes s old new c.args.live.now c.args.found.now.log.records fault is_known sound cause)
