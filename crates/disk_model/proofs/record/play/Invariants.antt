use Rattle.std.proofs.Common.{◌≡◌, length, drop}
use Rattle.disk_model.specs.Memory.Record.{past_of, total}
use Rattle.disk_model.specs.Memory.Replay.{IsReplay}
use Rattle.disk_model.specs.Memory.Images.{Kept, replayed, begun}
use Rattle.disk_model.proofs.record.play.Given as goal

-- What is still to be done, from where the replay stands, is what was to be done at first.
abbrev pub invariant-loop-entry : goal.invariant-loop-entry
invariant-loop-entry l = record {
  split : total (drop l.entry-index l.entries) ≡ length l.rest;
  pick : l.replay.pick ≡ l.fn.replay.pick;
  played : (kept : Kept) → IsReplay l.fn.replay kept
      → (now : Kept) × IsReplay l.replay now × (replayed now (begun l.moment (past_of (drop l.entry-index l.entries) l.rest)) ≡ replayed kept (begun l.moment (past_of l.entries l.bytes)));
}
