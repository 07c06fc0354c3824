-- What a walk tells of a page to which it comes.
use Rattle.std.proofs.Common.{◌≡◌, ◌≢◌, ℕ, zero, suc, ◌≤◌, ◌==◌, not, Bool, true, false, List, length, Result, Ok, Err, IfErr, IsTrue, refl, sym, ◌∙◌, ap, subst, arith}
use Rattle.std.proofs.lemmas.Bool.{true≢false}
use Rattle.std.proofs.lemmas.Bool.Decides.{nat_tests}
use Rattle.outside_io.specs.Causes.{Rose}
use Rattle.metric_laws.specs.Space.{Space}
use Rattle.tree_shape.specs.declared.entry.LeafEntry.{LeafEntry}
use Rattle.tree_shape.specs.declared.entry.Node.TheVariants.{Leaf}
use Rattle.tree_shape.specs.Tree.{times}
use Rattle.page_store.specs.Reading.{Read}
use Rattle.page_store.specs.Shelf.{Shelf}
use Rattle.page_store.specs.declared.pages.PageFault.{PageFault}
use Rattle.page_store.specs.declared.pages.PageFault.TheVariants.{Disk, Bad, Outside, Memory as NoRoom, Repeats, Level}
use Rattle.tree_audit.specs.declared.faults.AuditFault.{AuditFault}
use Rattle.tree_audit.specs.declared.faults.AuditFault.TheVariants.{Page, Fill, Twice, Unfit, ParentDistance, Radius, Id, Count, Memory}
use Rattle.tree_audit.specs.declared.walking.Step.{Step}
use Rattle.tree_audit.specs.Audited.{Seen, each_entry, check_object, last_point, is_filled, arrived, audited_at, IsWalkFault}
use Rattle.tree_audit.specs.Visits.{leaf_told, IsEntryFault, IsOpenFault}

-- ---- faults that go up

pub walk_same : (old new : Shelf) (told told2 : Result Seen AuditFault) (v : AuditFault) → (IsTrue old.is_known → told ≡ told2) → IsWalkFault old new told v → IsWalkFault old new told2 v
walk_same old new told told2 Memory same fault = tt
walk_same old new told told2 (Page Disk) same fault = fault
walk_same old new told told2 (Page NoRoom) same fault = fault
walk_same old new told told2 (Page (Repeats p)) same fault = fault
walk_same old new told told2 (Page (Level p)) same fault = fault
walk_same old new told told2 (Page (Bad p f)) same fault = λ is_known. sym (same is_known) ∙ fault is_known
walk_same old new told told2 (Page (Outside p)) same fault = λ is_known. sym (same is_known) ∙ fault is_known
walk_same old new told told2 (Fill p) same fault = λ is_known. sym (same is_known) ∙ fault is_known
walk_same old new told told2 (Twice p) same fault = λ is_known. sym (same is_known) ∙ fault is_known
walk_same old new told told2 (Unfit p i) same fault = λ is_known. sym (same is_known) ∙ fault is_known
walk_same old new told told2 (ParentDistance p i) same fault = λ is_known. sym (same is_known) ∙ fault is_known
walk_same old new told told2 (Radius p i o) same fault = λ is_known. sym (same is_known) ∙ fault is_known
walk_same old new told told2 (Id i) same fault = λ is_known. sym (same is_known) ∙ fault is_known
walk_same old new told told2 (Count a b) same fault = λ is_known. sym (same is_known) ∙ fault is_known

-- a fault of an entry is one of the walk
pub of_entry : (old new : Shelf) (told : Result Seen AuditFault) (v : AuditFault) → IsEntryFault told v → IsWalkFault old new told v
of_entry old new told Memory fault = tt
of_entry old new told (Page f) fault = absurd fault
of_entry old new told (Fill p) fault = λ is_known. fault
of_entry old new told (Twice p) fault = λ is_known. fault
of_entry old new told (Unfit p i) fault = λ is_known. fault
of_entry old new told (ParentDistance p i) fault = λ is_known. fault
of_entry old new told (Radius p i o) fault = λ is_known. fault
of_entry old new told (Id i) fault = λ is_known. fault
of_entry old new told (Count a b) fault = λ is_known. fault

-- a fault of a later stretch of the walk, where `up` passes on what is told
pub of_child : (old mid new : Shelf) (told : Result Seen AuditFault) (up : Result Seen AuditFault → Result Seen AuditFault) (v : AuditFault) → mid.is_known ≡ old.is_known → old.faults ≤ mid.faults
    → ((w : AuditFault) → up (Err w) ≡ Err w) → IsWalkFault mid new told v → IsWalkFault old new (up told) v
of_child old mid new told up Memory same later goes fault = tt
of_child old mid new told up (Page Disk) same later goes fault = rose old.faults mid.faults new.faults later fault
  where
    rose : (a b c : ℕ) → a ≤ b → Rose b c → Rose a c
    rose a b c le r = omega arith
of_child old mid new told up (Page NoRoom) same later goes fault = fault
of_child old mid new told up (Page (Repeats p)) same later goes fault = fault
of_child old mid new told up (Page (Level p)) same later goes fault = fault
of_child old mid new told up (Page (Bad p f)) same later goes fault = λ is_known. ap up (fault (subst (λ (b : Bool). IsTrue b) (sym same) is_known)) ∙ goes (Page (Bad p f))
of_child old mid new told up (Page (Outside p)) same later goes fault = λ is_known. ap up (fault (subst (λ (b : Bool). IsTrue b) (sym same) is_known)) ∙ goes (Page (Outside p))
of_child old mid new told up (Fill p) same later goes fault = λ is_known. ap up (fault (subst (λ (b : Bool). IsTrue b) (sym same) is_known)) ∙ goes (Fill p)
of_child old mid new told up (Twice p) same later goes fault = λ is_known. ap up (fault (subst (λ (b : Bool). IsTrue b) (sym same) is_known)) ∙ goes (Twice p)
of_child old mid new told up (Unfit p i) same later goes fault = λ is_known. ap up (fault (subst (λ (b : Bool). IsTrue b) (sym same) is_known)) ∙ goes (Unfit p i)
of_child old mid new told up (ParentDistance p i) same later goes fault = λ is_known. ap up (fault (subst (λ (b : Bool). IsTrue b) (sym same) is_known)) ∙ goes (ParentDistance p i)
of_child old mid new told up (Radius p i o) same later goes fault = λ is_known. ap up (fault (subst (λ (b : Bool). IsTrue b) (sym same) is_known)) ∙ goes (Radius p i o)
of_child old mid new told up (Id i) same later goes fault = λ is_known. ap up (fault (subst (λ (b : Bool). IsTrue b) (sym same) is_known)) ∙ goes (Id i)
of_child old mid new told up (Count a b) same later goes fault = λ is_known. ap up (fault (subst (λ (b : Bool). IsTrue b) (sym same) is_known)) ∙ goes (Count a b)

-- ---- arrivals

none_met : (n : ℕ) → n ≡ 0 → (n == 0) ≡ true
none_met n is = grind (arith, nat_tests)

some_met : (n : ℕ) → not (n == 0) ≡ true → (n == 0) ≡ false
some_met n is = cases (n == 0) is
  where
    cases : (b : Bool) → not b ≡ true → b ≡ false
    cases true is = absurd cc
    cases false is = refl

pub zero_met : (n : ℕ) → not (n == 0) ≡ false → n ≡ 0
zero_met n is = cases (n == 0) refl is
  where
    cases : (b : Bool) → (n == 0) ≡ b → not b ≡ false → n ≡ 0
    cases true test is = grind (arith, nat_tests, test)
    cases false test is = absurd (true≢false is)

high : (h : ℕ) → (suc h == 0) ≡ false
high h = grind (arith, nat_tests)

-- a page that was met
pub met_twice : (s : Space) (read : Read) (count h least : ℕ) (path : List Step) (page : ℕ) (seen : Seen) → not (times page seen.pages == 0) ≡ true → audited_at s read count h least path page seen ≡ Err (Twice page)
met_twice s read count zero least path page seen is = rw (some_met (times page seen.pages) is) refl
met_twice s read count (suc h) least path page seen is = rw (some_met (times page seen.pages) is) refl

-- a page that holds no node
unread : (s : Space) (read : Read) (count h least : ℕ) (path : List Step) (page : ℕ) (seen : Seen) (fault : PageFault) → times page seen.pages ≡ 0 → read page ≡ Err fault
    → audited_at s read count h least path page seen ≡ Err (Page fault)
unread s read count zero least path page seen fault new is = rw (none_met (times page seen.pages) new, is) refl
unread s read count (suc h) least path page seen fault new is = rw (none_met (times page seen.pages) new, is) refl

pub of_open : (old new : Shelf) (s : Space) (count h least : ℕ) (path : List Step) (page : ℕ) (seen : Seen) (v : AuditFault) → times page seen.pages ≡ 0 → IsOpenFault old new page v
    → IsWalkFault old new (audited_at s old.read count h least path page seen) v
of_open old new s count h least path page seen Memory fresh fault = tt
of_open old new s count h least path page seen (Page Disk) fresh fault = fault
of_open old new s count h least path page seen (Page NoRoom) fresh fault = absurd fault
of_open old new s count h least path page seen (Page (Repeats p)) fresh fault = absurd fault
of_open old new s count h least path page seen (Page (Level p)) fresh fault = absurd fault
of_open old new s count h least path page seen (Page (Bad p f)) fresh fault = λ is_known. unread s old.read count h least path page seen (Bad p f) fresh (fault is_known)
of_open old new s count h least path page seen (Page (Outside p)) fresh fault = λ is_known. unread s old.read count h least path page seen (Outside p) fresh (fault is_known)
of_open old new s count h least path page seen (Fill p) fresh fault = absurd fault
of_open old new s count h least path page seen (Twice p) fresh fault = absurd fault
of_open old new s count h least path page seen (Unfit p i) fresh fault = absurd fault
of_open old new s count h least path page seen (ParentDistance p i) fresh fault = absurd fault
of_open old new s count h least path page seen (Radius p i o) fresh fault = absurd fault
of_open old new s count h least path page seen (Id i) fresh fault = absurd fault
of_open old new s count h least path page seen (Count a b) fresh fault = absurd fault

-- ---- leaves

-- a page that holds a leaf
pub leaf_page : (s : Space) (read : Read) (count h least : ℕ) (path : List Step) (page : ℕ) (es : List LeafEntry) (seen : Seen) → times page seen.pages ≡ 0 → read page ≡ Ok (Leaf es)
    → audited_at s read count h least path page seen ≡ leaf_told s count h least path page es (arrived seen page)
leaf_page s read count zero least path page es seen new is = rw (none_met (times page seen.pages) new, is) refl
leaf_page s read count (suc h) least path page es seen new is = rw (none_met (times page seen.pages) new, is, high h) refl

pub leaf_told_fine : (s : Space) (count h least : ℕ) (path : List Step) (page : ℕ) (es : List LeafEntry) (seen : Seen) → h ≡ 0 → is_filled s least (length es) ≡ true
    → each_entry (check_object s count (last_point path) path page) 0 es seen ≡ leaf_told s count h least path page es seen
leaf_told_fine s count zero least path page es seen low full = rw full refl
leaf_told_fine s count (suc h) least path page es seen low full = absurd (omega arith)

pub leaf_told_high : (s : Space) (count h least : ℕ) (path : List Step) (page : ℕ) (es : List LeafEntry) (seen : Seen) → h ≢ 0 → leaf_told s count h least path page es seen ≡ Err (Fill page)
leaf_told_high s count zero least path page es seen above = absurd (above refl)
leaf_told_high s count (suc h) least path page es seen above = rw (high h) refl

pub leaf_told_fill : (s : Space) (count h least : ℕ) (path : List Step) (page : ℕ) (es : List LeafEntry) (seen : Seen) → is_filled s least (length es) ≡ false → leaf_told s count h least path page es seen ≡ Err (Fill page)
leaf_told_fill s count zero least path page es seen full = rw full refl
leaf_told_fill s count (suc h) least path page es seen full = rw (high h) refl

-- what is told of one walk is told of another
pub told_if_err : {T : Type 0} (r : Result T AuditFault) (told told2 : List ℕ → Result Seen AuditFault) → ((ps : List ℕ) → told ps ≡ told2 ps)
    → IfErr r (λ v. (ps : List ℕ) → IsEntryFault (told ps) v) → IfErr r (λ v. (ps : List ℕ) → IsEntryFault (told2 ps) v)
told_if_err (Ok x) told told2 same fault = tt
told_if_err (Err v) told told2 same fault = λ ps. subst (λ (t : Result Seen AuditFault). IsEntryFault t v) (same ps) (fault ps)

-- an entry's fault, as one of the walk that tells the same
pub walk_if_err : {T : Type 0} (r : Result T AuditFault) (old new : Shelf) (told : List ℕ → Result Seen AuditFault) (told2 : Result Seen AuditFault) (met : List ℕ) → (IsTrue old.is_known → told met ≡ told2)
    → IfErr r (λ v. (ps : List ℕ) → IsEntryFault (told ps) v) → IfErr r (IsWalkFault old new told2)
walk_if_err (Ok x) old new told told2 met same fault = tt
walk_if_err (Err v) old new told told2 met same fault = walk_same old new (told met) told2 v same (of_entry old new (told met) v (fault met))
