use Rattle.std.proofs.Common.{◌≤◌}
use Rattle.vbi_side.specs.PaceSearch.{IsCount}
use Rattle.vbi_side.proofs.pace_search.believed_count.Given as goal

abbrev pub invariant-loop-field : goal.invariant-loop-field
invariant-loop-field l = record {
  counted : IsCount l.pace l.fields l.field l.count;
  bound : l.count ≤ l.field;
}
