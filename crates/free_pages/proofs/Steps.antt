-- The steps of a walk over flagged pages.
use Rattle.std.proofs.Common.{◌≡◌, ◌≢◌, ℕ, suc, ◌+◌, ◌-◌, ◌≤◌, ◌<◌, Bool, true, false, List, [], ◌∷◌, ◌++◌, length, length-append, set, slice_index_or, Result, Err, inl, inr, refl, sym, ap, subst, ◌∙◌, arith}
use Rattle.std.specs.Prelude.{◌==◌, not, replicate, if◌then◌else◌, IsTrue}
use Rattle.std.specs.List.{AllByRecursion}
use Rattle.std.proofs.lemmas.Bool.{cases_lt, cases_eq}
use Rattle.std.proofs.lemmas.Bool.Decides.{nat_tests}
use Rattle.std.proofs.lemmas.List.{length-set, get_or-set_same, get_or-set_other, get_or-replicate, get_or_past, length-replicate}
use Rattle.metric_laws.proofs.Published.{all_weaker, all_append}
use Rattle.outside_io.specs.Causes.{Rose}
use Rattle.tree_shape.specs.declared.entry.Node.{Node}
use Rattle.tree_shape.specs.declared.live.Live.{Live}
use Rattle.tree_shape.specs.Tree.{times}
use Rattle.tree_shape.proofs.Published.{times-append, times-past, few}
use Rattle.page_store.specs.declared.pages.PageFault.{PageFault}
use Rattle.page_store.specs.declared.pages.PageFault.TheVariants.{Disk, Bad, Outside, Memory, Repeats, Level}
use Rattle.page_store.specs.Reading.{Read, IsWithin, is_within}
use Rattle.page_store.specs.Shelf.{Shelf, HoldsSame, HasPageCause, IsNodeOf}
use Rattle.free_pages.specs.Keeping.{is_among}
use Rattle.free_pages.specs.Opened.{AreOpened, IsUnderWay}
use Rattle.page_store.specs.Tours.{children}
use Rattle.free_pages.specs.Walk.{walked, tree_walk, IsWalkFault}
use Rattle.free_pages.proofs.SoundWalk.{opens}

-- ---- flags

some_more : (m n : ℕ) → 0 < n → not (m + n == 0) ≡ true
some_more m n lt = grind (arith, nat_tests)

one_is : (n : ℕ) → times n (n ∷ []) ≡ 1
one_is n = let same : (n == n) ≡ true = grind (arith, nat_tests) in rw same refl

none_is : (k n : ℕ) → k ≢ n → times k (n ∷ []) ≡ 0
none_is k n differ = let other : (n == k) ≡ false = grind (arith, nat_tests) in rw other refl

opened_none : (n : ℕ) → AreOpened (replicate n false) []
opened_none n = record { within = tt; once = λ k. omega arith; told = λ k lt. get_or-replicate n k false false (omega (arith, length-replicate n false, lt)) }

opened_more : (flags : List Bool) (opened : List ℕ) (n : ℕ) → IsWithin (length flags) n → times n opened ≡ 0 → AreOpened flags opened → AreOpened (set flags n true) (opened ++ n ∷ [])
opened_more flags opened n within fresh flagged = record {
  within = all_append (IsWithin (length (set flags n true))) opened (n ∷ [])
      (all_weaker (IsWithin (length flags)) (IsWithin (length (set flags n true))) opened (λ k both. (both.0, (let h = both.1 in omega (arith, length-set flags n true)))) flagged.within)
      ((within.0, (let h = within.1 in omega (arith, length-set flags n true))), tt);
  once = λ k. elim (cases_eq k n) [
    | inl same ↦ subst (λ (j : ℕ). times j (opened ++ n ∷ []) ≤ 1) (sym same) (omega (arith, times-append n opened (n ∷ []), one_is n, fresh))
    | inr differ ↦ omega (arith, times-append k opened (n ∷ []), none_is k n differ, flagged.once k)
  ];
  told = λ k lt. elim (cases_eq k n) [
    | inl same ↦
        subst (λ (j : ℕ). slice_index_or (set flags n true) j false ≡ is_among j (opened ++ n ∷ [])) (sym same)
        (get_or-set_same flags n true false within.1 ∙ sym (ap (λ (m : ℕ). not (m == 0)) (times-append n opened (n ∷ []) ∙ ap (λ (m : ℕ). times n opened + m) (one_is n)) ∙ some_more (times n opened) 1 (omega arith)))
    | inr differ ↦
        get_or-set_other flags n k true false differ ∙ flagged.told k (omega (arith, lt, length-set flags n true))
        ∙ ap (λ (m : ℕ). not (m == 0)) (sym (times-append k opened (n ∷ []) ∙ ap (λ (m : ℕ). times k opened + m) (none_is k n differ) ∙ (let e : times k opened + 0 ≡ times k opened = omega arith in e)))
  ];
}

below : (flags : List Bool) (opened : List ℕ) → AreOpened flags opened → AllByRecursion (λ n. n < length flags) opened
below flags opened flagged = all_weaker (IsWithin (length flags)) (λ (n : ℕ). n < length flags) opened (λ n both. both.1) flagged.within

pub few_opened : (flags : List Bool) (opened : List ℕ) → AreOpened flags opened → length opened ≤ length flags
few_opened flags opened flagged = few (length flags) opened (below flags opened flagged) flagged.once

-- page 0 was not opened, so fewer pages are opened than there are
pub fewer_opened : (flags : List Bool) (opened : List ℕ) → AreOpened flags opened → 1 ≤ length flags → length opened + 1 ≤ length flags
fewer_opened flags opened flagged some =
    let more = few (length flags) (opened ++ 0 ∷ []) (all_append (λ (n : ℕ). n < length flags) opened (0 ∷ []) (below flags opened flagged) (omega arith, tt)) once in
    omega (arith, length-append opened (0 ∷ []), more)
  where
    no_zero : (xs : List ℕ) → AllByRecursion (IsWithin (length flags)) xs → times 0 xs ≡ 0
    no_zero [] all = refl
    no_zero (x ∷ xs) all =
        let ih = no_zero xs all.1 in
        let h = all.0.0 in
        let z : ◌≡◌ {A = ℕ} (if x == 0 then 1 else 0) 0 = grind (arith, nat_tests) in
        omega arith

    once : (k : ℕ) → times k (opened ++ 0 ∷ []) ≤ 1
    once k = elim (cases_eq k 0) [
      | inl same ↦ subst (λ (j : ℕ). times j (opened ++ 0 ∷ []) ≤ 1) (sym same) (omega (arith, times-append 0 opened (0 ∷ []), one_is 0, no_zero opened flagged.within))
      | inr differ ↦ omega (arith, times-append k opened (0 ∷ []), none_is k 0 differ, flagged.once k)
    ]

-- a page whose flag isn't set wasn't opened
pub unflagged : (flags : List Bool) (opened : List ℕ) (n : ℕ) → AreOpened flags opened → slice_index_or flags n false ≡ false → times n opened ≡ 0
unflagged flags opened n flagged unset = elim (cases_lt n (length flags)) [
  | inl lt ↦ none (times n opened) (sym (flagged.told n lt) ∙ unset)
  | inr past ↦ times-past opened n (length flags) (below flags opened flagged) past
]
  where
    none : (m : ℕ) → not (m == 0) ≡ false → m ≡ 0
    none m e = grind (arith, nat_tests)

-- a page whose flag is set was opened
flagged_is : (flags : List Bool) (opened : List ℕ) (n : ℕ) → AreOpened flags opened → slice_index_or flags n false ≡ true → (times n opened == 0) ≡ false
flagged_is flags opened n flagged is = elim (cases_lt n (length flags)) [
  | inl lt ↦ some (times n opened) (sym (flagged.told n lt) ∙ is)
  | inr past ↦ let e = get_or_past flags n false past in absurd (cc)
]
  where
    some : (m : ℕ) → not (m == 0) ≡ true → (m == 0) ≡ false
    some m e = grind (arith, nat_tests)

within_from : (pages n : ℕ) (opened : List ℕ) → AllByRecursion (IsWithin pages) opened → (times n opened == 0) ≡ false → IsWithin pages n
within_from pages n [] all some = absurd (cc)
within_from pages n (x ∷ xs) all some = cases (x == n) refl (within_from pages n xs all.1)
  where
    cases : (b : Bool) → (x == n) ≡ b → ((times n xs == 0) ≡ false → IsWithin pages n) → IsWithin pages n
    cases true e ih = let s : x ≡ n = grind (arith, nat_tests) in subst (IsWithin pages) s all.0
    cases false e ih = ih (let z : ◌≡◌ {A = ℕ} (if x == n then 1 else 0) 0 = ap (λ (b : Bool). if b then 1 else 0) e in let s : times n (x ∷ xs) ≡ times n xs = omega arith in sym (ap (λ (m : ℕ). m == 0) s) ∙ some)

-- ---- a walk begins

pub way_begun : (s : Shelf) (t : Live) → IsUnderWay s s t 0 (replicate t.pages false) (t.root ∷ [])
way_begun s t = record {
  opened = [];
  flagged = opened_none t.pages;
  counted = refl;
  pages = length-replicate t.pages false;
  holds = record { dim = refl; pages = refl; is_known = refl; read = refl; faults = omega arith };
  asked = omega arith;
  reads = omega arith;
  walk = λ is_known. let e : suc t.pages - 0 ≡ suc t.pages = omega arith in ap (λ (m : ℕ). walked s.read m [] (t.root ∷ [])) e;
}

-- ---- it opens a page

-- what it may still open
left_is : (flags : List Bool) (opened : List ℕ) (pages : ℕ) → AreOpened flags opened → length flags ≡ pages → suc pages - length opened ≡ suc (pages - length opened)
left_is flags opened pages flagged same = let f = few_opened flags opened flagged in omega arith

pub way_more : (old mid now : Shelf) (t : Live) (count : ℕ) (flags : List Bool) (page : ℕ) (coming : List ℕ) (node : Node) → IsUnderWay old mid t count flags (page ∷ coming) →
    slice_index_or flags page false ≡ false → length flags ≡ mid.pages → IsNodeOf mid page node → HoldsSame mid now → now.asked ≤ mid.asked + 1 → now.reads ≤ mid.reads + 1 →
    IsUnderWay old now t (count + 1) (set flags page true) (children node ++ coming)
way_more old mid now t count flags page coming node way unset limit is same asked reads = record {
  opened = way.opened ++ page ∷ [];
  flagged = more;
  counted = omega (arith, long, way.counted);
  pages = length-set flags page true ∙ way.pages;
  holds = record {
    dim = same.dim ∙ way.holds.dim;
    pages = same.pages ∙ way.holds.pages;
    is_known = same.is_known ∙ way.holds.is_known;
    read = same.read ∙ way.holds.read;
    faults = (let a = same.faults in let b = way.holds.faults in omega arith);
  };
  asked = omega (arith, long, way.asked);
  reads = omega (arith, long, way.reads);
  walk = λ is_known.
      ap (λ (m : ℕ). walked old.read m (way.opened ++ page ∷ []) (children node ++ coming)) after
      ∙ sym (opens old.read (t.pages - length way.opened) way.opened page coming node new
      (ap (λ (r : Read). r page) (sym way.holds.read) ∙ is.told (subst IsTrue (sym way.holds.is_known) is_known)))
      ∙ ap (λ (m : ℕ). walked old.read m way.opened (page ∷ coming)) (sym before) ∙ way.walk is_known;
}
  where
    long : length (way.opened ++ page ∷ []) ≡ length way.opened + 1
    long = length-append way.opened (page ∷ [])

    fresh : times page way.opened ≡ 0
    fresh = unflagged flags way.opened page way.flagged unset

    new : (times page way.opened == 0) ≡ true
    new = let f = fresh in grind (arith, nat_tests)

    more : AreOpened (set flags page true) (way.opened ++ page ∷ [])
    more = opened_more flags way.opened page (subst (λ (n : ℕ). IsWithin n page) (sym limit) is.within) fresh way.flagged

    before : suc t.pages - length way.opened ≡ suc (t.pages - length way.opened)
    before = left_is flags way.opened t.pages way.flagged way.pages

    after : suc t.pages - length (way.opened ++ page ∷ []) ≡ t.pages - length way.opened
    after = omega (arith, long, before)

-- ---- it stops

rose : (a b c : ℕ) → a ≤ b → Rose b c → Rose a c
rose a b c le r = omega arith

module _ (old mid : Shelf) (t : Live) (count : ℕ) (flags : List Bool) (page : ℕ) (coming : List ℕ) (way : IsUnderWay old mid t count flags (page ∷ coming)) where
  before : suc t.pages - length way.opened ≡ suc (t.pages - length way.opened)
  before = left_is flags way.opened t.pages way.flagged way.pages

  abbrev next : Result (List ℕ) PageFault
  next = walked old.read (suc (t.pages - length way.opened)) way.opened (page ∷ coming)

  told : IsTrue old.is_known → next ≡ tree_walk old.read t
  told is_known = ap (λ (m : ℕ). walked old.read m way.opened (page ∷ coming)) (sym before) ∙ way.walk is_known

  pub way_repeats : (now : Shelf) → slice_index_or flags page false ≡ true → length flags ≡ mid.pages → IsWalkFault old now (tree_walk old.read t) (Repeats page)
  way_repeats now set limit =
      let some = flagged_is flags way.opened page way.flagged set in (
        within_from old.pages page way.opened (subst (λ (n : ℕ). AllByRecursion (IsWithin n) way.opened) (limit ∙ way.holds.pages) way.flagged.within) some,
        λ is_known. sym (told is_known) ∙ (rw some refl),
      )

  refused : (fault : PageFault) → slice_index_or flags page false ≡ false → IsTrue old.is_known → (IsTrue mid.is_known → mid.read page ≡ Err fault) → tree_walk old.read t ≡ Err fault
  refused fault unset is_known why =
      let fresh = unflagged flags way.opened page way.flagged unset in
      let new : (times page way.opened == 0) ≡ true = grind (arith, nat_tests) in
      let is : old.read page ≡ Err fault = ap (λ (r : Read). r page) (sym way.holds.read) ∙ why (subst IsTrue (sym way.holds.is_known) is_known) in
      sym (told is_known) ∙ (rw (new, is) refl)

  pub way_refused : (now : Shelf) (fault : PageFault) → slice_index_or flags page false ≡ false → HasPageCause mid now page fault → IsWalkFault old now (tree_walk old.read t) fault
  way_refused now Disk unset cause = rose old.faults mid.faults now.faults way.holds.faults cause
  way_refused now Memory unset cause = tt
  way_refused now (Bad p fault) unset cause = (
    subst (λ (n : ℕ). IsWithin n p) way.holds.pages (subst (IsWithin mid.pages) (sym cause.0) cause.1),
    λ is_known. refused (Bad p fault) unset is_known (λ m. cause.2 m ∙ ap (λ (q : ℕ). Err (Bad q fault)) (sym cause.0)),
  )
  way_refused now (Outside p) unset cause = (
    subst (λ (n : ℕ). is_within n p ≡ false) way.holds.pages (subst (λ (q : ℕ). is_within mid.pages q ≡ false) (sym cause.0) cause.1),
    λ is_known. refused (Outside p) unset is_known (λ m. cause.2 m ∙ ap (λ (q : ℕ). Err (Outside q)) (sym cause.0)),
  )
  way_refused now (Repeats p) unset cause = absurd cause
  way_refused now (Level p) unset cause = absurd cause
