use Rattle.std.proofs.Common.{inl, inr, refl, subst, ℕ, List, Option}
use Rattle.metric_laws.specs.Rows.{Table}
use Rattle.rows_text.specs.declared.command.Command.{Command}
use Rattle.session_run.specs.GivenRows.{load_of, tags_if}
use Rattle.mtree_c.specs.Handed.{HandsPlan}
use Rattle.mtree_c.specs.Sessions.{IsAsked}
use Rattle.mtree_c.proofs.row_plans.mtree_load_plan.Goals as goal

pub returns-in-Ok-clause-plan : goal.returns-in-Ok-clause-plan
returns-in-Ok-clause-plan c = λ are.
    let Hands : (ℕ → List Command) → Type 0 = λ asked. HandsPlan (IsAsked asked c.args.file.now) c.args.steps.now c.asked_plan.new.steps c.args.written.now c.asked_plan.new.written
    c.args.text.now c.asked_plan.new.text c.args.log.now c.asked_plan.new.log c.asked_plan.new.sizes c.asked_plan.result in
    subst (λ (rows : Table). Hands (load_of rows (tags_if c.args.tagged c.args.tags.now))) c.in-Ok.ensures.rows
    (subst (λ (tags : Option (List ℕ)). Hands (load_of c.in-Ok.given.rows tags)) c.in-Ok.ensures.tags c.asked_plan.ensures)

pub returns-in-Err-clause-no_rows : goal.returns-in-Err-clause-no_rows
returns-in-Err-clause-no_rows c = λ none. elim c.in-Err.ensures.no_rows [ inl two ↦ (two.0, refl, refl, refl, refl) | inr eight ↦ absurd (none eight.1) ]
