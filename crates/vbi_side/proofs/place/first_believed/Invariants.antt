use Rattle.std.proofs.Common.{ℕ, ◌<◌}
use Rattle.vbi_side.specs.Numbers.{IsMarked}
use Rattle.vbi_side.proofs.place.first_believed.Given as goal

abbrev pub invariant-loop-field : goal.invariant-loop-field
invariant-loop-field l = (i k : ℕ) → i < l.field → IsMarked l.numbers i k → ⊥
