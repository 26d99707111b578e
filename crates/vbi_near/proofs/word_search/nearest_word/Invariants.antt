use Rattle.std.proofs.Common.{◌≡◌, ◌<◌, length}
use Rattle.vbi_near.proofs.Common.{starts, place_cost, IsFound, AreBounds, shades_of}
use Rattle.vbi_near.proofs.word_search.nearest_word.Given as goal

abbrev pub invariant-loop-start : goal.invariant-loop-start
invariant-loop-start l = record {
  found : IsFound (place_cost (shades_of l.sums) l.sums.system) 0 l.start l.best;
  range : l.best.distance < 2147483648;
  room : length l.bounds ≡ starts l.sums.system;
  bounds : AreBounds (place_cost (shades_of l.sums) l.sums.system) l.start l.bounds;
}
