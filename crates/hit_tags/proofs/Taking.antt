-- What is held of the ids, and the marks of one entry.
use Rattle.std.proofs.Common.{◌≡◌, ℕ, zero, suc, take, min, ◌+◌, ◌-◌, ◌<◌, ◌≤◌, add-one, Bool, true, false, cond, List, [], ◌∷◌, ◌++◌, map, length, drop, get_or, Option, Some, None, refl, sym, ap, ◌∙◌, arith, drop-cons, append_assoc}
use Rattle.std.specs.Prelude.{if◌then◌else◌, ◌==◌}
use Rattle.std.specs.Option.{option_or}
use Rattle.std.specs.Ordering.{nat_cmp}
use Rattle.std.specs.BTreeMap.{is_at}
use Rattle.std.proofs.lemmas.List.{append-nil}
use Rattle.std.proofs.lemmas.Grind.{common_steps}
use Rattle.std.proofs.lemmas.Bool.Decides.{nat_tests}
use Rattle.std.specs.List.{AllByRecursion}
use Rattle.scan_model.specs.declared.hit.Hit.{Hit}
use Rattle.tree_shape.specs.declared.entry.LeafEntry.{LeafEntry}
use Rattle.log_model.specs.declared.marks.Mark.{Mark}
use Rattle.log_model.specs.declared.marks.Mark.TheVariants.{Skip, Far, Near}
use Rattle.log_model.specs.contracts.marks.Mark.{the_type}
use denote.Enum.Bare.{sameb}
use Rattle.log_model.specs.Walk.{near_ones}
use Rattle.tree_shape.specs.Tree.{tag_of}
use Rattle.log_model.specs.declared.tagged.TaggedHit.{TaggedHit}
use Rattle.log_model.specs.Met.{tagged_of}
use Rattle.metric_laws.specs.Space.{Space}
use Rattle.hit_tags.specs.Tags.{tag_among, tags_among}
use Rattle.hit_tags.specs.Wanted.{Tagging, held, tag_held, leaf_tag, hit_tag, first_tag, TakesIn}

-- ---- what is held

pub first_append : (id : ℕ) (xs ys : List (ℕ × ℕ)) → first_tag id (xs ++ ys) ≡ option_or (first_tag id xs) (first_tag id ys)
first_append id [] ys = refl
first_append id (x ∷ xs) ys = cases (x.0 == id) (first_append id xs ys)
  where
    cases : (b : Bool) → first_tag id (xs ++ ys) ≡ option_or (first_tag id xs) (first_tag id ys) →
        (if b then Some x.1 else first_tag id (xs ++ ys)) ≡ option_or (if b then Some x.1 else first_tag id xs) (first_tag id ys)
    cases true ih = refl
    cases false ih = ih

or_none : (o : Option ℕ) → option_or o None ≡ o
or_none None = refl
or_none (Some x) = refl

is_at_same : (k q : ℕ) → is_at (nat_cmp k) q ≡ (k == q)
is_at_same k q = grind (arith, common_steps, nat_tests)

-- an id that is wanted is held with its first tag; no other
pub noted : (e : ℕ × ℕ) (old new : Tagging) (t : Option ℕ) → held old e.0 ≡ Some t →
    ((q : ℕ) → held new q ≡ cond (is_at (nat_cmp e.0) q) (Some (option_or t (Some e.1))) (held old q)) → TakesIn old (e ∷ []) new
noted e old new t here each id ts was = each id ∙ rw is_at_same (cases (e.0 == id) refl) ∙ ap Some (sym (first_append id ts (e ∷ [])))
  where
    cases : (b : Bool) → (e.0 == id) ≡ b → cond b (Some (option_or t (Some e.1))) (held old id) ≡ Some (option_or (first_tag id ts) (if b then Some e.1 else None))
    cases true is =
        let same : e.0 ≡ id = grind (arith, nat_tests) in
        let one : Some t ≡ Some (first_tag id ts) = sym here ∙ ap (held old) same ∙ was in
        let both : t ≡ first_tag id ts = cc in
        ap (λ (o : Option ℕ). Some (option_or o (Some e.1))) both
    cases false is = was ∙ ap Some (sym (or_none (first_tag id ts)))

pub not_noted : (e : ℕ × ℕ) (old : Tagging) → held old e.0 ≡ None → TakesIn old (e ∷ []) old
not_noted e old none id ts was = was ∙ ap Some (sym (or_none (first_tag id ts))) ∙ ap (λ (o : Option ℕ). Some (option_or (first_tag id ts) o)) (sym (cases (e.0 == id) refl)) ∙ ap Some (sym (first_append id ts (e ∷ [])))
  where
    cases : (b : Bool) → (e.0 == id) ≡ b → (if b then Some e.1 else None) ≡ None
    cases true is =
        let same : e.0 ≡ id = grind (arith, nat_tests) in
        let one : None ≡ Some (first_tag id ts) = sym none ∙ ap (held old) same ∙ was in
        absurd (cc)
    cases false is = refl

pub takes_none : (old : Tagging) → TakesIn old [] old
takes_none old id ts was = was ∙ ap (λ (us : List (ℕ × ℕ)). Some (first_tag id us)) (sym (append-nil ts))

pub takes_both : (old mid new : Tagging) (xs ys : List (ℕ × ℕ)) → TakesIn old xs mid → TakesIn mid ys new → TakesIn old (xs ++ ys) new
takes_both old mid new xs ys one two id ts was = two id (ts ++ xs) (one id ts was) ∙ ap (λ (us : List (ℕ × ℕ)). Some (first_tag id us)) (append_assoc ts xs ys)

-- ---- one entry and its mark

pub near_if : {X : Type 0} (e : X) (es : List X) (m : Mark) (marks : List Mark) (b : Bool) → b ≡ sameb the_type m Near → near_ones (e ∷ es) (m ∷ marks) ≡ (if b then e ∷ near_ones es marks else near_ones es marks)
near_if e es Skip marks b is = rw is refl
near_if e es Far marks b is = rw is refl
near_if e es Near marks b is = rw is refl

-- the entry at a place, and its mark
pub near_at : {X : Type 0} (es : List X) (marks : List Mark) (i : ℕ) (e : X) (b : Bool) → i < length es → i < length marks → e ≡ get_or es i e → b ≡ sameb the_type (get_or marks i Skip) Near →
    near_ones (drop i es) (drop i marks) ≡ (if b then e ∷ near_ones (drop (i + 1) es) (drop (i + 1) marks) else near_ones (drop (i + 1) es) (drop (i + 1) marks))
near_at es marks i e b low mark is near =
    rw (add-one, drop-cons es i e low, drop-cons marks i Skip mark, ← is) (near_if e (drop (suc i) es) (get_or marks i Skip) (drop (suc i) marks) b near)

-- the entry before these, and its mark
pub near_drop : {X : Type 0} (es : List X) (marks : List Mark) (i : ℕ) (e : X) (b : Bool) → length marks ≡ length es → 0 < i → i ≤ length es → e ≡ get_or es (i - 1) e → b ≡ sameb the_type (get_or marks (i - 1) Skip) Near →
    near_ones (drop (i - 1) es) (drop (i - 1) marks) ≡ (if b then e ∷ near_ones (drop i es) (drop i marks) else near_ones (drop i es) (drop i marks))
near_drop es marks i e b long some low is near =
    let one : i - 1 < length es = omega arith in
    let mark : i - 1 < length marks = omega arith in
    let next : i - 1 + 1 ≡ i = omega arith in
    rw next at (near_at es marks (i - 1) e b one mark is near)

-- the entry at a place
pub entry_at : {X : Type 0} (es : List X) (i : ℕ) → i < length es → (e : X) × (e ≡ get_or es i e)
entry_at [] i low = absurd (let f : ⊥ = omega arith in f)
entry_at (x ∷ xs) zero low = (x, refl)
entry_at (x ∷ xs) (suc i) low = entry_at xs i (omega arith)

-- past the shorter list, nothing is marked
pub near_past : {X : Type 0} (es : List X) (marks : List Mark) (i : ℕ) → min (length es) (length marks) ≤ i → near_ones (drop i es) (drop i marks) ≡ []
near_past [] marks zero past = refl
near_past [] marks (suc i) past = refl
near_past (e ∷ es) [] zero past = refl
near_past (e ∷ es) [] (suc i) past = no_marks (drop i es)
  where
    no_marks : {X : Type 0} (xs : List X) → near_ones xs [] ≡ []
    no_marks [] = refl
    no_marks (x ∷ xs) = refl
near_past (e ∷ es) (m ∷ marks) zero past = absurd (let f : ⊥ = omega (arith, past) in f)
near_past (e ∷ es) (m ∷ marks) (suc i) past = near_past es marks i (omega (arith, past))

-- ---- the ids that are wanted

-- one more id is wanted
pub wanted_more : (hits : List Hit) (i : ℕ) (h d : Hit) (old new : Tagging) → i < length hits → h ≡ get_or hits i d → ((q : ℕ) → held new q ≡ cond (is_at (nat_cmp h.id) q) (Some None) (held old q)) →
    AllByRecursion (λ h. held old h.id ≡ Some None) (take i hits) → AllByRecursion (λ h. held new h.id ≡ Some None) (take (i + 1) hits)
wanted_more [] i h d old new low is each all = absurd (let f : ⊥ = omega arith in f)
wanted_more (x ∷ xs) zero h d old new low is each all = (ap (λ (y : Hit). held new y.id) (sym is) ∙ each h.id ∙ rw is_at_same (cases (h.id == h.id) refl), tt)
  where
    cases : (b : Bool) → (h.id == h.id) ≡ b → cond b (Some None) (held old h.id) ≡ Some None
    cases true is = refl
    cases false is = absurd (grind (arith, nat_tests))
wanted_more (x ∷ xs) (suc i) h d old new low is each all =
    let next : suc i + 1 ≡ suc (i + 1) = omega arith in
    rw next (each x.id ∙ kept (is_at (nat_cmp h.id) x.id) all.0, wanted_more xs i h d old new (omega arith) is each all.1)
  where
    kept : (b : Bool) → held old x.id ≡ Some None → cond b (Some None) (held old x.id) ≡ Some None
    kept true was = refl
    kept false was = was

-- the tags that are held at the end

-- where each id's entry gives what is wanted of it, all do
tags_held : (hits : List Hit) (start now : Tagging) (ts : List (ℕ × ℕ)) (tag : ℕ → ℕ) → ((id : ℕ) → tag_held (Some (first_tag id ts)) ≡ tag id) → AllByRecursion (λ h. held start h.id ≡ Some None) hits →
    TakesIn start ts now → map (λ h. tag_held (held now h.id)) hits ≡ map (λ h. tag h.id) hits
tags_held [] start now ts tag same all taken = refl
tags_held (h ∷ hs) start now ts tag same all taken =
    ap (λ (t : ℕ). t ∷ map (λ h. tag_held (held now h.id)) hs) (ap tag_held (taken h.id [] all.0) ∙ same h.id)
    ∙ ap (λ (tags : List ℕ). tag h.id ∷ tags) (tags_held hs start now ts tag same all.1 taken)

leaf_first : (id : ℕ) (es : List LeafEntry) → tag_held (Some (first_tag id (map leaf_tag es))) ≡ tag_of id es
leaf_first id [] = refl
leaf_first id (e ∷ es) = cases (e.id == id) (leaf_first id es)
  where
    cases : (b : Bool) → tag_held (Some (first_tag id (map leaf_tag es))) ≡ tag_of id es → tag_held (Some (if b then Some e.tag else first_tag id (map leaf_tag es))) ≡ (if b then e.tag else tag_of id es)
    cases true ih = refl
    cases false ih = ih

hit_first : (id : ℕ) (ts : List TaggedHit) → tag_held (Some (first_tag id (map hit_tag ts))) ≡ tag_among id ts
hit_first id [] = refl
hit_first id (t ∷ ts) = cases (t.hit.id == id) (hit_first id ts)
  where
    cases : (b : Bool) → tag_held (Some (first_tag id (map hit_tag ts))) ≡ tag_among id ts → tag_held (Some (if b then Some t.tag else first_tag id (map hit_tag ts))) ≡ (if b then t.tag else tag_among id ts)
    cases true ih = refl
    cases false ih = ih

-- the tags of objects, and of hits
pub leaf_tags_held : (hits : List Hit) (start now : Tagging) (es : List LeafEntry) → AllByRecursion (λ h. held start h.id ≡ Some None) hits → TakesIn start (map leaf_tag es) now →
    map (λ h. tag_held (held now h.id)) hits ≡ tags_among es hits
leaf_tags_held hits start now es = tags_held hits start now (map leaf_tag es) (λ id. tag_of id es) (λ id. leaf_first id es)

pub hit_tags_held : (hits : List Hit) (start now : Tagging) (ts : List TaggedHit) → AllByRecursion (λ h. held start h.id ≡ Some None) hits → TakesIn start (map hit_tag ts) now →
    map (λ h. tag_held (held now h.id)) hits ≡ map (λ h. tag_among h.id ts) hits
hit_tags_held hits start now ts = tags_held hits start now (map hit_tag ts) (λ id. tag_among id ts) (λ id. hit_first id ts)

-- hits that were made of objects have their tags
pub same_tags : (s : Space) (q : List ℕ) (es : List LeafEntry) (hits : List Hit) → map (λ h. tag_among h.id (map (tagged_of s q) es)) hits ≡ tags_among es hits
same_tags s q es [] = refl
same_tags s q es (h ∷ hs) =
    ap (λ (tag : ℕ). tag ∷ map (λ h. tag_among h.id (map (tagged_of s q) es)) hs) (same h.id es) ∙ ap (λ (tags : List ℕ). tag_of h.id es ∷ tags) (same_tags s q es hs)
  where
    same : (id : ℕ) (os : List LeafEntry) → tag_among id (map (tagged_of s q) os) ≡ tag_of id os
    same id [] = refl
    same id (o ∷ os) = ap (λ (tag : ℕ). if o.id == id then o.tag else tag) (same id os)
