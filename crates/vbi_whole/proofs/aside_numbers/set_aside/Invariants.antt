use Rattle.std.proofs.Common.{◌≡◌, ℕ, length}
use Rattle.std.specs.Prelude.{slice_get, Some}
use Rattle.vbi_whole.specs.Types.{Number}
use Rattle.vbi_whole.specs.AsideNumbers.{run_before, is_aside, left_of}
use Rattle.vbi_whole.proofs.aside_numbers.set_aside.Given as goal

abbrev pub invariant-loop-index : goal.invariant-loop-index
invariant-loop-index l = record {
  first : l.first ≡ run_before l.gaps l.index;
  count : length l.left ≡ length l.numbers;
  each : (i : ℕ) (answer : Number) → slice_get l.numbers i ≡ Some answer → slice_get l.left i
      ≡ Some (left_of (is_aside l.rule l.gaps l.numbers i l.index) answer);
}
