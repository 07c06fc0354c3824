use Rattle.std.proofs.Common.{◌≡◌, ◌/◌, ◌%◌, List, [], ℕ, get_or, sym, ◌∙◌, ap, arith}
use Rattle.std.proofs.lemmas.List.{get_or_default, get_or_past}
use Rattle.node_page.specs.Opening.{page_of}
use Rattle.page_store.proofs.InParts.{page_in_part, past_end}
use Rattle.page_store.proofs.parts.Parts.place.Goals as goal

pub returns-then-part-len : goal.returns-then-part-len
returns-then-part-len c =
    let m = c.self.inside.pages in
    let parts = c.self.inside.parts.items in
    let page = c.args.page in
    let here : c.as_slice.result.now ≡ get_or parts (page / m) [] =
    c.as_slice.ensures ∙ c.index.ensures ∙ get_or_default parts (page / m) c.index.result.now [] (omega (arith, c.if-part-len.true, c.len.ensures)) in
    ap (λ (bytes : List ℕ). page_of bytes (page % m)) here ∙ page_in_part m c.self.invariant.0 parts c.self.invariant.1 page ∙ ap (λ (bytes : List ℕ). page_of bytes page) c.self.view_is

pub returns-else-part-len : goal.returns-else-part-len
returns-else-part-len c =
    let m = c.self.inside.pages in
    let parts = c.self.inside.parts.items in
    let page = c.args.page in
    let none : get_or parts (page / m) [] ≡ [] = get_or_past parts (page / m) [] (omega (arith, c.if-part-len.false, c.len.ensures)) in
    past_end [] (page % m) page (omega arith) ∙ ap (λ (bytes : List ℕ). page_of bytes (page % m)) (sym none) ∙ page_in_part m c.self.invariant.0 parts c.self.invariant.1 page
    ∙ ap (λ (bytes : List ℕ). page_of bytes page) c.self.view_is
