use Rattle.std.proofs.Common.{List, [], ◌∷◌, ◌++◌, length, sym, ap, ◌∙◌, arith}
use Rattle.rows_text.specs.Readable.{IsReadable}
use Rattle.rows_text.specs.declared.command.Command.{Command}
use Rattle.node_page.specs.Nodes.{firsts}
use Rattle.session_run.specs.GivenRows.{insert_at}
use Rattle.session_run.proofs.RowLists.{all_with, many_with, none_yet, one_more}
use Rattle.session_run.proofs.given_rows.RowsToInsertRequests.read.Goals as goal

pub loop-i-init : goal.loop-i-init
loop-i-init c =
    (c.in_ok-commands.ensures.items ∙ sym (none_yet (insert_at c.args.self.0.rows c.args.self.0.tags c.args.dimension)), ((λ k d below. absurd (omega (arith, below, ap length c.in_ok-commands.ensures.items))), ap length c.in_ok-commands.ensures.items))

pub loop-i-preserved : goal.loop-i-preserved
loop-i-preserved c =
    let f = insert_at c.args.self.0.rows c.args.self.0.tags c.args.dimension in
    let i = c.loop-i.i in
    let items = c.in_ok-push.ensures.items in
    let holds = c.loop-i.invariant in (
      items ∙ ap (λ (cs : List Command). cs ++ c.in_ok-insert_at.field-0 ∷ []) holds.0 ∙ ap (λ (command : Command). firsts f i ++ command ∷ []) c.in_ok-insert_at.ensures.command ∙ sym (one_more f i),
      (
        all_with (IsReadable c.args.dimension) c.loop-i.commands.items c.in_ok-insert_at.field-0 c.push.new.self.items items holds.1.0 c.in_ok-insert_at.ensures.readable,
        many_with c.loop-i.commands.items c.in_ok-insert_at.field-0 c.push.new.self.items i items holds.1.1,
      ),
    )
