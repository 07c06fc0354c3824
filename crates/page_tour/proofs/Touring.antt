-- The steps of a walk of the live tree.
use Rattle.std.proofs.Common.{◌≡◌, ℕ, zero, suc, ◌+◌, ◌<◌, ◌≤◌, List, [], ◌∷◌, ◌++◌, length, length-append, refl, sym, ap, ◌∙◌, subst, arith}
use Rattle.std.specs.Prelude.{IsTrue}
use Rattle.metric_laws.specs.Counts.{next_count, count_up}
use Rattle.tree_shape.specs.declared.entry.Node.{Node}
use Rattle.tree_shape.specs.declared.live.Live.{Live}
use Rattle.page_store.specs.declared.pages.PageFault.{PageFault}
use Rattle.page_store.specs.declared.pages.PageFault.TheVariants.{Disk, Bad, Outside, Memory, Repeats, Level}
use Rattle.page_store.specs.Reading.{nodes_of}
use Rattle.page_store.specs.Shelf.{Shelf, HoldsSame, HasPageCause}
use Rattle.page_store.specs.Tours.{Tours, Names, HasTourCause}
use Rattle.page_store.proofs.Published.{tours_more, page_stops, holds_both, holds_none, told_then}
use Rattle.page_tour.specs.Courses.{Course, OpensNext, StopsAtPage, StopsNext, IsOnTour}

-- a walk that has still its root to open
abbrev pub at_root : Live → Course
at_root live = record { coming = live.root ∷ []; opened = 0; most = live.pages }

count_up_more : (count n : ℕ) → next_count (count_up count n) ≡ count_up count (suc n)
count_up_more count zero = refl
count_up_more count (suc n) = count_up_more (next_count count) n

-- a request for a page fails for one of the page's own reasons
pub stops_at : (before after : Shelf) (course : Course) (page : ℕ) (fault : PageFault) → course.opened < course.most → HasPageCause before after page fault → StopsAtPage before after course page fault
stops_at before after course page Disk low cause = (low, cause)
stops_at before after course page (Bad p fault) low cause = (low, cause)
stops_at before after course page (Outside p) low cause = (low, cause)
stops_at before after course page Memory low cause = (low, cause)
stops_at before after course page (Repeats p) low cause = absurd cause
stops_at before after course page (Level p) low cause = absurd cause

module _ (old : Shelf) (live : Live) where
  begun : IsOnTour old old live (at_root live) []
  begun = record {
    same = holds_none old;
    count = refl;
    room = omega arith;
    most = refl;
    asked = refl;
    reads = omega arith;
    walk = λ is_known. refl;
  }

  pub tour_begins : (course : Course) → course ≡ at_root live → IsOnTour old old live course []
  tour_begins course is = subst (λ (x : Course). IsOnTour old old live x []) (sym is) begun

  module _ (now new : Shelf) (course : Course) (opened : List ℕ) (before : IsOnTour old now live course opened) where
    on_tour : (page : ℕ) (left : List ℕ) → course.coming ≡ page ∷ left → IsTrue old.is_known → Tours (nodes_of old.read) (live.root ∷ []) opened (page ∷ left)
    on_tour page left next is_known = subst (λ (c : List ℕ). Tours (nodes_of old.read) (live.root ∷ []) opened c) next (before.walk is_known)

    pub tour_goes_on : (next : Course) (page : ℕ) (node : Node) → OpensNext now new course next page node → HoldsSame now new → new.reads ≤ now.reads + 1 → IsOnTour old new live next (opened ++ page ∷ [])
    tour_goes_on next page node opens same reads =
        let long : length (opened ++ page ∷ []) ≡ suc (length opened) = length-append opened (page ∷ []) ∙ omega arith in
        let count : next.opened ≡ course.opened + 1 = ap (λ (c : Course). c.opened) opens.new_is in
        let most : next.most ≡ course.most = ap (λ (c : Course). c.most) opens.new_is in
        record {
          same = holds_both old now new before.same same;
          count = (let b = before.count in omega arith);
          room = (let r = opens.room in omega arith);
          most = most ∙ before.most;
          asked = opens.asked ∙ ap next_count before.asked ∙ count_up_more old.asked (length opened) ∙ ap (count_up old.asked) (sym long);
          reads = (let b = before.reads in omega arith);
          walk = λ is_known.
              subst (λ (c : List ℕ). Tours (nodes_of old.read) (live.root ∷ []) (opened ++ page ∷ []) c) (sym (ap (λ (c : Course). c.coming) opens.new_is))
              (tours_more (nodes_of old.read) (live.root ∷ []) opened page opens.left node (told_then old now page node before.same opens.is is_known) (on_tour page opens.left opens.next is_known));
        }

    named : (page : ℕ) (left : List ℕ) → course.coming ≡ page ∷ left → IsTrue old.is_known → Names (nodes_of old.read) live.root (length opened) page
    named page left next is_known = record { before = opened; rest = left; walk = on_tour page left next is_known; count = refl }

    -- a page that gives no node
    no_node : (fault : PageFault) (page : ℕ) (left : List ℕ) → course.coming ≡ page ∷ left → course.opened < course.most → HasPageCause now new page fault → HasTourCause live old new fault
    no_node fault page left next low cause =
        page_stops live old now new (length opened) page before.same (let c = before.count in let m = before.most in omega arith) (named page left next) fault cause

    from : (fault : PageFault) (page : ℕ) (left : List ℕ) → course.coming ≡ page ∷ left → StopsAtPage now new course page fault → HasTourCause live old new fault
    from Disk page left next why = no_node Disk page left next why.0 why.1
    from (Bad p fault) page left next why = no_node (Bad p fault) page left next why.0 why.1
    from (Outside p) page left next why = no_node (Outside p) page left next why.0 why.1
    from Memory page left next why = tt
    from (Level p) page left next why = absurd why.1
    from (Repeats p) page left next why =
        let all : length opened ≡ live.pages = sym before.count ∙ why.1 ∙ before.most in (
          ap (λ (s : Shelf). s.asked) why.2 ∙ before.asked ∙ ap (count_up old.asked) all,
          λ is_known.
              subst (λ (p : ℕ). Names (nodes_of old.read) live.root live.pages p) (sym why.0)
              (subst (λ (k : ℕ). Names (nodes_of old.read) live.root k page) all (named page left next is_known)),
        )

    pub tour_stops : (fault : PageFault) → StopsNext now new course fault → HasTourCause live old new fault
    tour_stops fault stop = from fault stop.page stop.left stop.next stop.why

    -- a walk that stops has read at most as many pages as there are
    few_reads : (fault : PageFault) (page : ℕ) → new.reads ≤ now.reads + 1 → StopsAtPage now new course page fault → new.reads ≤ old.reads + live.pages
    few_reads Disk page reads why = (let low = why.0 in let c = before.count in let m = before.most in let b = before.reads in omega arith)
    few_reads (Bad p fault) page reads why = (let low = why.0 in let c = before.count in let m = before.most in let b = before.reads in omega arith)
    few_reads (Outside p) page reads why = (let low = why.0 in let c = before.count in let m = before.most in let b = before.reads in omega arith)
    few_reads Memory page reads why = (let low = why.0 in let c = before.count in let m = before.most in let b = before.reads in omega arith)
    few_reads (Level p) page reads why = absurd why.1
    few_reads (Repeats p) page reads why =
        let same : new.reads ≡ now.reads = ap (λ (s : Shelf). s.reads) why.2 in
        (let r = before.room in let c = before.count in let m = before.most in let b = before.reads in omega arith)

    pub tour_reads : (fault : PageFault) → new.reads ≤ now.reads + 1 → StopsNext now new course fault → new.reads ≤ old.reads + live.pages
    tour_reads fault reads stop = few_reads fault stop.page reads stop.why

    -- a walk that has no page left is whole
    pub tour_ends : course.coming ≡ [] → IsTrue old.is_known → Tours (nodes_of old.read) (live.root ∷ []) opened []
    tour_ends none is_known = subst (λ (c : List ℕ). Tours (nodes_of old.read) (live.root ∷ []) opened c) none (before.walk is_known)
