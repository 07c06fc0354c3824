-- What the lines hold agrees with the pages behind.
use Rattle.std.proofs.Common.{◌≡◌, ℕ, true, false, nat_eq, length, slice_index_or, Option, Some, None, IfSome, refl, sym, subst, inl, inr}
use Rattle.std.proofs.Math.ListN.{get_or-eq_default}
use Rattle.std.proofs.lemmas.Bool.{cases_lt, eqb-true}
use Rattle.std.proofs.lemmas.List.Elements.{All-get_or}
use Rattle.tree_shape.specs.declared.entry.Node.{Node}
use Rattle.page_store.specs.Reading.{is_within}
use Rattle.page_store.specs.Shelf.{Shelf, IsNodeOf}
use Rattle.page_cache.specs.Lines.{Lines, line_of, node_on_line, held_node, LinesAgree}
use Rattle.page_cache.proofs.Agreement.{none_outside}

-- what a line holds for a page is its node
line_is_node : (shelf : Shelf) (page : ℕ) (node : Node) (line : Option (ℕ × Node)) → IfSome line (λ held. IsNodeOf shelf held.0 held.1) → node_on_line page line ≡ Some node → IsNodeOf shelf page node
line_is_node shelf page node None agrees found = cc
line_is_node shelf page node (Some held) agrees found = (elim (nat_eq page held.0) as (λ b. nat_eq page held.0 ≡ b → IsNodeOf shelf page node) [
  | true ↦ λ same. (let found' = rw same at found in let is : held.1 ≡ node = cc in
      subst (λ (k : ℕ). IsNodeOf shelf k node) (sym (eqb-true page held.0 same)) (subst (λ (n : Node). IsNodeOf shelf held.0 n) is agrees))
  | false ↦ λ other. (let found' = rw other at found in cc)
]) refl

-- what a line holds agrees, and so does what is past the lines
line_agrees : (lines : Lines) (shelf : Shelf) (at : ℕ) → LinesAgree lines shelf → IfSome (slice_index_or lines at None) (λ held. IsNodeOf shelf held.0 held.1)
line_agrees lines shelf at agrees =
    let P : Option (ℕ × Node) → Type 0 = λ line. IfSome line (λ held. IsNodeOf shelf held.0 held.1) in
    elim (cases_lt at (length lines)) [
      | inl within ↦ All-get_or P lines at None within agrees
      | inr past ↦ subst P (sym (get_or-eq_default lines None past)) tt
    ]

-- what is held for a page is its node
pub held_is_node : (lines : Lines) (shelf : Shelf) (page : ℕ) (node : Node) → LinesAgree lines shelf → held_node lines page ≡ Some node → IsNodeOf shelf page node
held_is_node lines shelf page node agrees found = line_is_node shelf page node (slice_index_or lines (line_of lines page) None) (line_agrees lines shelf (line_of lines page) agrees) found

-- so no page outside is held
pub unheld_outside : (lines : Lines) (shelf : Shelf) (page : ℕ) → LinesAgree lines shelf → is_within shelf.pages page ≡ false → held_node lines page ≡ None
unheld_outside lines shelf page agrees out = (elim (held_node lines page) as (λ o. held_node lines page ≡ o → held_node lines page ≡ None) [
  | None ↦ λ none. none
  | Some node ↦ λ some. absurd (none_outside shelf page node (held_is_node lines shelf page node agrees some) out)
]) refl
