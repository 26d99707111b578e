use Rattle.std.proofs.Common.{ℕ, ◌<◌}
use Rattle.std.specs.Prelude.{slice_get}
use Rattle.vbi_side.specs.Sightings.{Shows}
use Rattle.vbi_seek.specs.Targets.{IsToldBy}
use Rattle.vbi_seek.proofs.spots.told_together.Given as goal

abbrev pub invariant-loop-field : goal.invariant-loop-field
invariant-loop-field l = (i n : ℕ) → i < l.field → Shows (slice_get l.seen i) n → IsToldBy l.kind l.seen i n → ⊥
