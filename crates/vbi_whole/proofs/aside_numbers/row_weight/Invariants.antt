use Rattle.std.proofs.Common.{◌≡◌, ◌≤◌}
use Rattle.vbi_whole.specs.AsideNumbers.{row_weight}
use Rattle.vbi_whole.proofs.aside_numbers.row_weight.Given as goal

abbrev pub invariant-loop-field : goal.invariant-loop-field
invariant-loop-field l = record {
  is : l.weight ≡ row_weight l.rule l.numbers l.here l.field;
  few : l.weight ≤ l.field;
}
