use Rattle.std.proofs.Common.{◌≡◌, ℕ, ◌<◌, ◌+◌, ◌-◌, true}
use Rattle.vbi_side.specs.Nearest.{are_whole}
use Rattle.vbi_side.specs.Numbers.{IsMarked}
use Rattle.vbi_side.proofs.due_numbers.after.Given as goal

abbrev pub invariant-loop-distance : goal.invariant-loop-distance
invariant-loop-distance l = (j n : ℕ) → l.field < j → j < l.field + l.distance
    → are_whole l.pace (j - l.field) ≡ true → IsMarked l.numbers j n → ⊥
