use Rattle.std.proofs.Common.{◌≤◌}
use Rattle.vbi_whole.specs.Gaps.{IsLast}
use Rattle.vbi_whole.specs.ClockSearch.{ArePairs}
use Rattle.vbi_whole.proofs.clock_search.pairs_by.Given as goal

abbrev pub invariant-loop-field : goal.invariant-loop-field
invariant-loop-field l = record {
  last : IsLast l.numbers l.field l.last;
  value : ArePairs l.clock l.rule l.numbers l.field l.pairs;
  explained : l.pairs.explained ≤ l.field;
  opposed : l.pairs.opposed ≤ l.field;
}
