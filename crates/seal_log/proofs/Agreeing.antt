-- A verdict reads only the pages that the log's records name.
use Rattle.std.proofs.Common.{◌≡◌, ℕ, ◌+◌, ◌==◌, ◌&&◌, Bool, true, false, cond, List, [], ◌∷◌, ◌++◌, length, Option, Some, Result, Ok, Err, refl, sym, ap, ◌∙◌}
use Rattle.std.specs.List.{AllByRecursion}
use Rattle.std.proofs.lemmas.Bool.{eqb-true}
use Rattle.metric_laws.specs.Space.{Space}
use Rattle.scan_model.specs.declared.hit.Hit.{Hit}
use Rattle.tree_shape.specs.declared.live.Live.{Live}
use Rattle.tree_shape.specs.declared.entry.Node.{Node}
use Rattle.page_store.specs.declared.pages.PageFault.{PageFault}
use Rattle.page_store.specs.Reading.{Read}
use Rattle.log_model.specs.declared.marks.Mark.{Mark}
use Rattle.log_model.specs.declared.marks.Record.{Record}
use Rattle.log_model.specs.declared.marks.Need.{Need}
use Rattle.log_model.specs.declared.logs.Log.{Log}
use Rattle.log_model.specs.Grammar.{query_point}
use Rattle.log_model.specs.Walk.{Search, needs_of, hits_of, root_need}
use Rattle.log_model.specs.Sound.{search_for}
use Rattle.log_verify.specs.declared.faults.Verdict.{Verdict}
use Rattle.log_verify.specs.declared.faults.Verdict.TheVariants.{WrongCount, WrongPage, Point, OtherState}
use Rattle.log_model.specs.Counts.{entry_count}
use Rattle.log_verify.specs.Judged.{first_wrong_in, after_marks, after_page, walked, after_walk, log_fault}

-- the pages that the records name hold the same
abbrev pub SameOn : Read → Read → List Record → Type 0
SameOn one other records = AllByRecursion (λ (r : Record). one r.page ≡ other r.page) records

same_after : (f : Search) (above : Option ℕ) (marks : List Mark) (i : ℕ) (page : Result Node PageFault) (one other : Node → Result (List Hit) Verdict) → ((node : Node) → one node ≡ other node)
    → after_page f above marks i page one ≡ after_page f above marks i page other
same_after f above marks i (Err fault) one other same = refl
same_after f above marks i (Ok node) one other same =
    ap (λ (r : Result (List Hit) Verdict). cond (length marks == entry_count node) (after_marks i (first_wrong_in f above node marks) r) (Err (WrongCount i))) (same node)

same_record : (b : Bool) (f : Search) (above : Option ℕ) (marks : List Mark) (i : ℕ) (p q : Result Node PageFault) (one other : Node → Result (List Hit) Verdict) → (b ≡ true → p ≡ q) → ((node : Node) → one node ≡ other node)
    → cond b (after_page f above marks i p one) (Err (WrongPage i)) ≡ cond b (after_page f above marks i q other) (Err (WrongPage i))
same_record false f above marks i p q one other page same = refl
same_record true f above marks i p q one other page same = ap (λ (r : Result Node PageFault). after_page f above marks i r one) (page refl) ∙ same_after f above marks i q one other same

same_walk : (f : Search) (one other : Read) (named : List Hit) (needs : List Need) (records : List Record) (i : ℕ) → SameOn one other records → walked f one named needs records i ≡ walked f other named needs records i
same_walk f one other named [] [] i same = refl
same_walk f one other named [] (r ∷ rs) i same = refl
same_walk f one other named (n ∷ ns) [] i same = refl
same_walk f one other named (n ∷ ns) (r ∷ rs) i same =
    same_record (r.page == n.page) f n.above r.marks i (one n.page) (other n.page)
    (λ node. walked f one (named ++ hits_of f node r.marks) (needs_of f node r.marks ++ ns) rs (i + 1))
    (λ node. walked f other (named ++ hits_of f node r.marks) (needs_of f node r.marks ++ ns) rs (i + 1))
    (λ e. let page = eqb-true r.page n.page e in ap one (sym page) ∙ same.0 ∙ ap other page)
    (λ node. same_walk f one other (named ++ hits_of f node r.marks) (needs_of f node r.marks ++ ns) rs (i + 1) same.1)

pub same_verdict : (s : Space) (one other : Read) (live : Live) (log : Log) → SameOn one other log.records → log_fault s one live log ≡ log_fault s other live log
same_verdict s one other live log same =
    ap (λ (w : Result (List Hit) Verdict). cond ((log.generation == live.generation) && (log.root == live.root)) (cond (s.is_point (query_point log.query)) (after_walk log w) (Some Point)) (Some (OtherState (log.generation, log.root) (live.generation, live.root))))
    (same_walk (search_for s log.query log.answers) one other [] (root_need live.root ∷ []) log.records 0 same)
