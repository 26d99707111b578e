use Rattle.std.proofs.Common.{refl, length}
use Rattle.std.specs.Prelude.{slice_get}
use Rattle.vbi_plan.proofs.Checking.{inside_all}
use Rattle.vbi_plan.proofs.plan_check.visit.Goals as goal

pub place_fields-requires-clause-inside : goal.place_fields-requires-clause-inside
place_fields-requires-clause-inside c =
    let check = c.args.check.now in
    let plan = check.plan in
    inside_all (length plan.numbers.now) (slice_get plan.captures.now check.stretch.capture) check.stretch
    (c.if-not-is_given.ensures.0 refl check.stretch check.there c.if-check-eq0.true)
