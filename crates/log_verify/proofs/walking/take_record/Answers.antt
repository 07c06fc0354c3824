use Rattle.log_verify.proofs.Counting.{once_counted}
use Rattle.log_verify.proofs.walking.take_record.Goals as goal

pub returns-in-None-clause-few_asked : goal.returns-in-None-clause-few_asked
returns-in-None-clause-few_asked g c = once_counted _ _ c.node_at.ensures.asked

pub returns-then-marks-entry_count-clause-few_asked : goal.returns-then-marks-entry_count-clause-few_asked
returns-then-marks-entry_count-clause-few_asked g c = once_counted _ _ c.node_at.ensures.asked

pub returns-in_err-check_node-clause-few_asked : goal.returns-in_err-check_node-clause-few_asked
returns-in_err-check_node-clause-few_asked g c = once_counted _ _ c.node_at.ensures.asked

pub returns-clause-few_asked : goal.returns-clause-few_asked
returns-clause-few_asked g c = once_counted _ _ c.node_at.ensures.asked
