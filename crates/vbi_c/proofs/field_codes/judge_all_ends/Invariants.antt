use Rattle.std.proofs.Common.{◌≡◌, ℕ, ◌<◌, length, Some}
use Rattle.std.specs.Prelude.{slice_get}
use Rattle.vbi_c.specs.Types.{LdvbiFieldReadings}
use Rattle.vbi_c.specs.FieldCodes.{IsEndOf}
use Rattle.vbi_c.proofs.field_codes.judge_all_ends.Given as goal

abbrev pub invariant-loop-i : goal.invariant-loop-i
invariant-loop-i l = record {
  count : length l.ends ≡ length l.readings;
  each : (j answer : ℕ) (field : LdvbiFieldReadings) → j < l.i → slice_get l.readings j ≡ Some field
      → slice_get l.ends j ≡ Some answer → IsEndOf field.lines answer;
}
