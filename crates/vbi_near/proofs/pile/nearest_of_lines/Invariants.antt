use Rattle.std.proofs.Common.{◌≡◌}
use Rattle.vbi_near.proofs.Common.{lines_of}
use Rattle.vbi_near.specs.Pile.{IsPileOf}
use Rattle.vbi_near.proofs.pile.nearest_of_lines.Given as goal

abbrev pub invariant-loop-line : goal.invariant-loop-line
invariant-loop-line l = record {
  pile : IsPileOf l.system l.fn.levels (lines_of l.system l.lines l.line) l.pile;
  count : l.pile.count ≡ l.line;
}
