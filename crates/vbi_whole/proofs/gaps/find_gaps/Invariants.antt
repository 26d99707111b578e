use Rattle.std.proofs.Common.{◌≡◌, ◌≤◌}
use Rattle.vbi_whole.specs.Gaps.{since_end, IsLast, judged_in}
use Rattle.vbi_whole.specs.Tallies.{IsTelling, stage_of}
use Rattle.vbi_whole.proofs.gaps.find_gaps.Given as goal

abbrev pub invariant-loop-field : goal.invariant-loop-field
invariant-loop-field l = record {
  told : IsTelling (judged_in l.side) l.field (stage_of l.telling) l.fn.out l.out;
  last : IsLast l.side.numbers.now l.field l.last;
  since : l.since ≡ since_end l.side.ends.now l.field;
  few : l.since ≤ l.field;
}
