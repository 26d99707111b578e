use Rattle.std.proofs.Common.{ℕ, ◌<◌}
use Rattle.vbi_whole.specs.BlankFields.{IsBlankTo}
use Rattle.vbi_whole.specs.Gaps.{IsLast}
use Rattle.vbi_whole.proofs.blank_fields.first_blank.Given as goal

abbrev pub invariant-loop-field : goal.invariant-loop-field
invariant-loop-field l = record {
  last : IsLast l.numbers l.field l.last;
  none : (k : ℕ) → k < l.field → (i : ℕ)
      → IsBlankTo l.rule l.numbers i k → ⊥;
}
