use Rattle.job_files.proofs.logs.Texts.{appended}
use Rattle.job_files.proofs.logs.lines.push_verdict.Goals as goal

pub returns-in_ok-push_state-in-OtherState : goal.returns-in_ok-push_state-in-OtherState
returns-in_ok-push_state-in-OtherState c =
    rw c.in-OtherState.is (appended c.push_state-in-OtherState.result _ _ _ _ _ c.in_ok-push_state-in-OtherState.ensures c.push_state-in-OtherState.ensures)
