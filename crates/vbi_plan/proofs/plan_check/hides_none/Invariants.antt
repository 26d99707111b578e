use Rattle.std.proofs.Common.{ℕ, ◌<◌}
use Rattle.vbi_side.specs.Numbers.{IsMarked}
use Rattle.vbi_plan.specs.Plans.{StandsFor, plan_of, rank_of}
use Rattle.vbi_plan.proofs.plan_check.hides_none.Given as goal

abbrev pub invariant-loop-field : goal.invariant-loop-field
invariant-loop-field l = (f n : ℕ) → f < l.field → IsMarked l.plan.numbers.now f n
    → StandsFor (plan_of l.plan) l.at (rank_of (plan_of l.plan) n) → ⊥
