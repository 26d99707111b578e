use Rattle.std.proofs.Common.{ℕ, ◌<◌}
use Rattle.vbi_plan.specs.Plans.{Shows, IsInPlace, IsReached, plan_of}
use Rattle.vbi_plan.proofs.plan_check.place_fields.Given as goal

abbrev pub invariant-loop-step : goal.invariant-loop-step
invariant-loop-step l = record {
  placed : (j n : ℕ) → j < l.step → Shows (plan_of l.check.plan) l.check.at j n
      → IsInPlace (plan_of l.check.plan) l.check.at j n;
  reached : IsReached (plan_of l.check.plan) l.check.at l.step l.last.field l.last.rank;
}
