use Rattle.std.proofs.Common.{◌≡◌, ℕ, ◌*◌, ◌^◌, ◌<◌, ◌≤◌}
use Rattle.vbi_plan.specs.Plans.{IsGood, IsReached, out_at, plan_of}
use Rattle.vbi_plan.proofs.plan_check.check_plan.Given as goal

abbrev pub invariant-loop-at : goal.invariant-loop-at
invariant-loop-at l = record {
  good : (k : ℕ) → k < l.at → IsGood (plan_of l.plan) k;
  out : l.out ≡ out_at l.plan.stretches.now l.at;
  few : l.out ≤ l.at * 2 ^ 64;
  reached : IsReached (plan_of l.plan) l.at 0 l.last.field l.last.rank;
}
