use Rattle.std.proofs.Common.{◌<◌, ◌≤◌}
use Rattle.vbi_whole.specs.Gaps.{IsLast}
use Rattle.vbi_whole.proofs.clock_search.leading.Given as goal

abbrev pub invariant-loop-field : goal.invariant-loop-field
invariant-loop-field l = record {
  last : IsLast l.numbers l.field l.last;
  phase : l.leader.phase < l.period;
  votes : l.leader.votes ≤ l.field;
}
