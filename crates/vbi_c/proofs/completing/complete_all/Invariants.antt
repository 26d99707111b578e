use Rattle.std.proofs.Common.{◌≡◌, ℕ, ◌<◌, length, Some}
use Rattle.std.specs.Prelude.{slice_get}
use Rattle.vbi_c.specs.Types.{LdvbiFieldReadings}
use Rattle.vbi_c.specs.Completing.{IsCompletedField}
use Rattle.vbi_c.proofs.completing.complete_all.Given as goal

abbrev pub invariant-loop-i : goal.invariant-loop-i
invariant-loop-i l = record {
  count : length l.completed ≡ length l.readings;
  each : (j : ℕ) (before after : LdvbiFieldReadings) → j < l.i → slice_get l.readings j ≡ Some before
      → slice_get l.completed j ≡ Some after → IsCompletedField l.system l.seen j before after;
}
