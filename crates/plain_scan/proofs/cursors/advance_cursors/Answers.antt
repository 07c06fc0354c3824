use Rattle.rows_text.specs.Meaning.{advanced}
use Rattle.plain_scan.proofs.Mapped.{changed_more}
use Rattle.plain_scan.proofs.cursors.advance_cursors.Goals as goal

pub loop-cursor-preserved : goal.loop-cursor-preserved
loop-cursor-preserved c =
    changed_more (advanced c.args.number c.args.n) c.args.cursors.now c.loop-cursor.cursors c.loop-cursor.cursor-index c.cursor-item.result c.advance.new.self
    c.loop-cursor-test.true c.loop-cursor.invariant c.advance.ensures
