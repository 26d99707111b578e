use Rattle.std.proofs.Common.{◌≡◌, ◌≤◌}
use Rattle.vbi_whole.specs.Gaps.{since_end}
use Rattle.vbi_whole.proofs.verdict.since_end.Given as goal

abbrev pub invariant-loop-place : goal.invariant-loop-place
invariant-loop-place l = record {
  is : l.since ≡ since_end l.ends l.place;
  few : l.since ≤ l.place;
}
