-- The walk through a whole tree.
use Rattle.std.proofs.Common.{◌≡◌, ℕ, ◌+◌, List, [], refl, ap, ◌∙◌, arith, length}
use Rattle.std.specs.Prelude.{IsTrue}
use Rattle.metric_laws.specs.Counts.{count_up}
use Rattle.tree_shape.specs.declared.live.Live.{Live}
use Rattle.page_store.specs.Reading.{nodes_of}
use Rattle.page_store.specs.Shelf.{Shelf}
use Rattle.page_store.specs.Tours.{IsToured}
use Rattle.page_tour.specs.Courses.{Course, IsOnTour}
use Rattle.page_tour.proofs.Published.{tour_ends}
use Rattle.metric_join.specs.Joined.{IsWalked}

-- nothing is left to open
pub walked_at_end : (live : Live) (old now : Shelf) (course : Course) (opened : List ℕ) → course.coming ≡ [] → IsOnTour old now live course opened → IsWalked live old now 0
walked_at_end live old now course opened none way = record {
  opened = length opened;
  few = (let count = way.count in let room = way.room in let most = way.most in omega arith);
  whole = λ is_known. (opened, tour_ends old live now now course opened way none is_known, refl);
  asked = way.asked ∙ ap (count_up old.asked) (let e : length opened ≡ length opened + 0 = omega arith in e);
}

-- a whole walk as one that has room enough
pub toured_of : (live : Live) (old new : Shelf) (further : ℕ) → IsWalked live old new further → IsTrue old.is_known → IsToured (nodes_of old.read) live
toured_of live old new further walked is_known =
    let w = walked.whole is_known in
    let low = walked.few in
    let long = w.2 in
    record { pages = w.0; walk = w.1; few = omega arith }
