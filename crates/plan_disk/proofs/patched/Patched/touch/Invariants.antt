use Rattle.std.proofs.Common.{◌≡◌, ◌/◌, ◌<◌, ◌≤◌, List, ℕ, IsSome}
use Rattle.plan_disk.specs.Patches.{Shows, page_at}
use Rattle.plan_disk.proofs.patched.Patched.touch.Given as goal

-- the pages so far are touched
abbrev pub invariant-loop-page : goal.invariant-loop-page
invariant-loop-page l = record {
  base : l.self.base ≡ l.fn.self.base;
  same : (file : List ℕ) → Shows l.fn.self file → Shows l.self file;
  touched : (page : ℕ) → l.fn.at / 4096 ≤ page → page < l.page → IsSome (page_at l.self.pages page);
}
