use Rattle.std.proofs.Common.{ℕ, ◌≤◌, ◌+◌, length}
use Rattle.vbi_side.specs.Numbers.{IsMarked}
use Rattle.vbi_side.proofs.place.last_believed.Given as goal

abbrev pub invariant-loop-later : goal.invariant-loop-later
invariant-loop-later l = (i k : ℕ) → length l.numbers ≤ i + l.later → IsMarked l.numbers i k → ⊥
