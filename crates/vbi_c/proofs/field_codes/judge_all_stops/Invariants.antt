use Rattle.std.proofs.Common.{◌≡◌, ℕ, ◌<◌, length, Some}
use Rattle.std.specs.Prelude.{slice_get}
use Rattle.vbi_c.specs.Types.{LdvbiFieldReadings}
use Rattle.vbi_c.specs.FieldCodes.{IsStopOf}
use Rattle.vbi_c.proofs.field_codes.judge_all_stops.Given as goal

abbrev pub invariant-loop-i : goal.invariant-loop-i
invariant-loop-i l = record {
  count : length l.stops ≡ length l.readings;
  each : (j answer : ℕ) (field : LdvbiFieldReadings) → j < l.i → slice_get l.readings j ≡ Some field
      → slice_get l.stops j ≡ Some answer → IsStopOf field.lines answer;
}
