use Rattle.std.proofs.Common.{◌≡◌, ℕ, ◌<◌, Some}
use Rattle.std.specs.Prelude.{slice_get}
use Rattle.vbi_plan.specs.declared.plan.Stretch.{Stretch}
use Rattle.vbi_plan.specs.Plans.{AreApart}
use Rattle.vbi_plan.proofs.plan_check.is_once.Given as goal

abbrev pub invariant-loop-before : goal.invariant-loop-before
invariant-loop-before l = (k : ℕ) (other : Stretch) → k < l.before → slice_get l.plan.stretches.now k ≡ Some other
    → other.padding ≡ 0 → AreApart l.stretch other
