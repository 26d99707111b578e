use Rattle.std.proofs.Common.{◌<◌, arith}
use Rattle.vbi_plan.specs.Plans.{plan_of}
use Rattle.vbi_plan.proofs.Checking.{went_past, all_of_it, placed_more, shown_inside}
use Rattle.vbi_plan.proofs.plan_check.place_fields.Goals as goal

pub loop-step-preserved : goal.loop-step-preserved
loop-step-preserved c = record {
  placed = placed_more (plan_of c.args.check.now.plan) c.args.check.now.at c.loop-step.step
      c.loop-step.invariant.placed c.in_ok-last.ensures.some.1;
  reached = c.in_ok-last.ensures.some.0;
}

pub returns-clause-some : goal.returns-clause-some
returns-clause-some c =
    let check = c.args.check.now in
    let plan = plan_of check.plan in (
      λ j n shows.
          let inside : j < c.loop-step.step
          = omega (arith, shown_inside plan check.at j n check.stretch check.there shows) in
          c.loop-step.invariant.placed j n inside shows,
      went_past plan check.at c.loop-step.step c.loop-step.last.field c.loop-step.last.rank
          (all_of_it plan check.at c.loop-step.step check.stretch check.there (omega arith))
          c.loop-step.invariant.reached,
    )
