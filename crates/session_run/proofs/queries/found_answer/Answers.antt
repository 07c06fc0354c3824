use Rattle.std.proofs.Common.{◌≡◌, ap, ◌∙◌, length, refl, ℕ, Vec}
use Rattle.std.specs.declared.alloc.Global.{Global}
use Rattle.std.proofs.lemmas.List.{length-map}
use Rattle.session_run.proofs.queries.found_answer.Goals.{then-show+in_ok-tags, else-show}
use Rattle.session_run.proofs.queries.found_answer.Goals as goal

pub returns : goal.returns
returns g = elim g.if-show.branch [
  | then-show+in_ok-tags w ↦ (
      let are : g.new.result ≡ w.in_ok-tags.tags.items = g.new.ensures ∙ ap (λ (v : Vec ℕ Global). v.items) w.tags-is in
      record {
        tags = g.new.result;
        is = refl;
        each = λ asks. ap length (are ∙ w.in_ok-tags.ensures.first) ∙ length-map _ _;
        met = λ asks s q nodes live tagged. are ∙ w.in_ok-tags.ensures.met s q nodes live tagged;
      })
  | else-show w ↦ record {
    tags = g.new.result;
    is = refl;
    each = λ asks. absurd (let hidden = w.if-show.false in cc);
    met = λ asks s q nodes live tagged. absurd (let hidden = w.if-show.false in cc);
  }
]
