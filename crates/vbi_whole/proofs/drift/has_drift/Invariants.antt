use Rattle.std.proofs.Common.{ℕ, ◌<◌}
use Rattle.vbi_whole.specs.Drifts.{IsSpanBefore, IsDrift}
use Rattle.vbi_whole.proofs.drift.has_drift.Given as goal

abbrev pub invariant-loop-field : goal.invariant-loop-field
invariant-loop-field l = record {
  span : IsSpanBefore l.rule l.numbers l.field l.span;
  none : (j : ℕ) → j < l.field → IsDrift l.rule l.numbers j → ⊥;
}
