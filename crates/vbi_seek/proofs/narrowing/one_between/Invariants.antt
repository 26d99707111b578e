use Rattle.std.proofs.Common.{ℕ, ◌<◌}
use Rattle.vbi_seek.specs.NumberSpots.{IsShownBetween}
use Rattle.vbi_seek.proofs.narrowing.one_between.Given as goal

abbrev pub invariant-loop-field : goal.invariant-loop-field
invariant-loop-field l = (i n : ℕ) → i < l.field → IsShownBetween l.seen l.lower l.higher i n → ⊥
