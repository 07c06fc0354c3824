use Rattle.std.proofs.Common.{◌≡◌, None, subst}
use Rattle.metric_laws.specs.Space.{Space}
use Rattle.tree_shape.specs.Tree.{IsSoundTree}
use Rattle.log_model.specs.declared.logs.JoinLog.{JoinLog}
use Rattle.job_join.specs.Trees.{space_of, read_of, tree_nodes, judge_of}
use Rattle.job_join.specs.Laws.{IsCompleteLog}
use Rattle.job_files.proofs.Published.{nodes_within, show_logs}
use Rattle.job_join.proofs.Spaces.{one_space}
use Rattle.job_join.specs.Lines.{join_words}
use Rattle.job_join.proofs.laws.faultless_is_complete.Goals as goal

pub returns : goal.returns
returns c left right opened other_opened =
    let s = space_of left in
    let judged : (log : JoinLog) → _ = λ log. c.join_faults_are_unsoundness.ensures s (read_of left) (read_of right) left.live right.live log in
    record {
      left_sound = c.audit_faults_are_unsoundness.ensures s (read_of left) left.live (nodes_within left.head.dim left.live.pages left.file);
      right_sound = c.audit_faults_are_unsoundness.ensures (space_of right) (read_of right) right.live (nodes_within right.head.dim right.live.pages right.file);
      says_true = λ one sound other_sound.
          let right_sound : IsSoundTree s (tree_nodes right) right.live = subst (λ (x : Space). IsSoundTree x (tree_nodes right) right.live) (one_space left.head right.head one) other_sound in
          let complete : (log : JoinLog) → judge_of left right log ≡ None → IsCompleteLog left right log = λ log none. record {
            sound = (judged log).0 none;
            scanned = c.sound_join_logs_are_complete.ensures s (tree_nodes left) (tree_nodes right) left.live right.live log (c.heads_have_spaces.ensures left.head opened.opens.spells_head.valid) sound right_sound ((judged log).0 none);
          } in
          record {
            faultless = λ log. (complete log, λ whole. (judged log).1 whole.sound);
            shown = show_logs join_words (judge_of left right) (IsCompleteLog left right) complete;
          };
    }
