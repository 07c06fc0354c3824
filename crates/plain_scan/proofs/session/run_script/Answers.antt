use Rattle.std.proofs.Common.{rules, ◌≡◌, suc, [], length, ◌∙◌, ap, arith, refl}
use Rattle.std.proofs.lemmas.Result.{err_from_is_err_and}
use Rattle.rows_text.specs.Meaning.{State}
use Rattle.plain_scan.proofs.WrittenLemmas.{written_more, ended, begun, finished, no_items}
use Rattle.plain_scan.proofs.session.run_script.Goals as goal

pub loop-command-init : goal.loop-command-init
loop-command-init g c =
    let empty = c.new-list.ensures.state in
    let points : c.new-list.result.rows.points ≡ [] = ap (λ (s : State). s.objects.points) empty in
    let tags : c.new-list.result.tags.items ≡ [] = ap (λ (s : State). s.objects.tags) empty in
    let next : c.new-list.result.cursors.next ≡ 0 = ap (λ (s : State). s.next) empty in
    let all : c.into_iter-command-iterator.result.rest.items ≡ c.args.commands.items = search rules in
    record {
      wrote = rw (empty, all) (begun _ _);
      list = record { dimension = c.new-list.ensures.dimension ∙ c.dimension.ensures; points = rw points (λ k d low. absurd (omega arith)); few = rw points (omega arith); tagged = rw (points, tags) refl };
      readable = rw all c.requires.readable;
      numbers = rw all (omega (arith, next, c.requires.few));
      puts = rw all refl;
      later = omega arith;
    }

pub loop-command-preserved : goal.loop-command-preserved
loop-command-preserved g c =
    let so_far = rw c.in-Some.ensures.steps.0 at c.loop-command.invariant.wrote in
    record {
      wrote = rw c.in_ok-answer.ensures.state (written_more _ _ _ _ _ _ so_far c.in_ok-answer.ensures.puts);
      list = c.in_ok-answer.ensures.list;
      readable = (let all = rw c.in-Some.ensures.steps.0 at c.loop-command.invariant.readable in λ k d low. all (suc k) d (omega arith));
      puts = (let so_far = rw c.in-Some.ensures.steps.0 at c.loop-command.invariant.puts in rw c.in_ok-answer.ensures.one_put so_far);
      numbers = omega (arith, c.in_ok-answer.ensures.numbers, c.loop-command.invariant.numbers, ap length c.in-Some.ensures.steps.0);
      later = omega (arith, c.in_ok-answer.ensures.later, c.loop-command.invariant.later);
    }

pub returns-in_err-answer-clause-wrote : goal.returns-in_err-answer-clause-wrote
returns-in_err-answer-clause-wrote g c =
    let so_far = rw c.in-Some.ensures.steps.0 at c.loop-command.invariant.wrote in
    let p = err_from_is_err_and c.from_residual.result c.from_residual.ensures.1 in
    rw (p.1, p.2) (ended _ (g.K.Sink.state c.loop-command.out).written _ _ _ _ _ so_far c.in_err-answer.ensures.puts (λ never. let no : ⊥ = cc never in absurd no))

pub returns-clause-wrote : goal.returns-clause-wrote
returns-clause-wrote g c =
    let none : c.loop-command.command-iterator.rest.items ≡ [] = no_items _ (search rules) in
    finished _ _ _ (rw none at c.loop-command.invariant.wrote)
