use Rattle.std.proofs.Common.{ℕ, ◌+◌, ◌<◌}
use Rattle.vbi_seek.specs.StopSearch.{HasStop}
use Rattle.vbi_seek.specs.FieldLines.{side_of}
use Rattle.vbi_seek.proofs.stop_search.next_stop_of.Given as goal

abbrev pub invariant-loop-i : goal.invariant-loop-i
invariant-loop-i l = (j : ℕ) → j < l.i → HasStop (side_of l.side) (l.first + j) → ⊥
