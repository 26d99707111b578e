use Rattle.std.proofs.Common.{◌≡◌, length}
use Rattle.vbi_near.proofs.{Common.most_of, Counting.IsAdded}
use Rattle.vbi_near.proofs.pile.add_line.Given as goal

abbrev pub invariant-loop-column : goal.invariant-loop-column
invariant-loop-column l = record {
  dark_room : length l.darks ≡ length l.initial.darks;
  light_room : length l.lights ≡ length l.initial.lights;
  dark : IsAdded l.line l.erased (most_of l.levels) l.levels.black l.initial.darks l.darks l.column;
  light : IsAdded l.line l.erased (most_of l.levels) l.levels.white l.initial.lights l.lights l.column;
}
