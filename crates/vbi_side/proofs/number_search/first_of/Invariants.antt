use Rattle.std.proofs.Common.{◌≡◌, ℕ, ◌<◌, Some}
use Rattle.std.specs.Prelude.{slice_get}
use Rattle.vbi_side.specs.Types.{Number}
use Rattle.vbi_side.specs.Numbers.{IsKnown}
use Rattle.vbi_side.proofs.number_search.first_of.Given as goal

abbrev pub invariant-loop-field : goal.invariant-loop-field
invariant-loop-field l = (i : ℕ) (answer : Number) → i < l.field → slice_get l.numbers i ≡ Some answer
    → IsKnown answer l.number → ⊥
