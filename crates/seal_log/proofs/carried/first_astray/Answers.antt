use Rattle.seal_log.specs.Judged.{path_fault}
use Rattle.seal_log.proofs.Found.{astray-goes_on, astray-here, astray-done}
use Rattle.seal_log.proofs.carried.first_astray.Goals as goal

pub returns-then-not-leads_to : goal.returns-then-not-leads_to
returns-then-not-leads_to c =
    astray-here c.args.root.now c.args.pages c.args.carried.now c.loop-p.p-index c.p-item.result _ (path_fault c.args.root.now c.args.pages c.args.carried.now) c.loop-p-test.true c.p-item.is (cc (c.leads_to.ensures, c.if-not-leads_to.true, c.as_slice.ensures, c.as_slice-in-loop-p.ensures)) c.loop-p.invariant

pub loop-p-preserved : goal.loop-p-preserved
loop-p-preserved c =
    astray-goes_on c.args.root.now c.args.pages c.args.carried.now c.loop-p.p-index c.p-item.result _ (path_fault c.args.root.now c.args.pages c.args.carried.now) c.loop-p-test.true c.p-item.is (cc (c.leads_to.ensures, c.if-not-leads_to.false, c.as_slice.ensures, c.as_slice-in-loop-p.ensures)) c.loop-p.invariant

pub returns : goal.returns
returns c = astray-done c.args.root.now c.args.pages c.args.carried.now c.loop-p.p-index (path_fault c.args.root.now c.args.pages c.args.carried.now) c.loop-p-test.false c.loop-p.invariant
