use Rattle.std.proofs.Common.{◌≡◌, ℕ, ◌<◌, length, Some}
use Rattle.std.specs.Prelude.{slice_get}
use Rattle.vbi_side.specs.Types.{Number}
use Rattle.vbi_side.specs.Numbers.{IsMark}
use Rattle.vbi_side.proofs.judging.mark.Given as goal

abbrev pub invariant-loop-field : goal.invariant-loop-field
invariant-loop-field l = record {
  count : length l.numbers ≡ length l.fields;
  each : (i : ℕ) (answer : Number) → i < l.field → slice_get l.numbers i ≡ Some answer
      → IsMark l.pace l.fields i answer;
}
