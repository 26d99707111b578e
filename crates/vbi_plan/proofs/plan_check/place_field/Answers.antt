use Rattle.std.proofs.Common.{◌∙◌, ap}
use Rattle.vbi_plan.specs.Plans.{plan_of}
use Rattle.vbi_plan.proofs.Checking.{counts_if_placed, shows_here, went_on}
use Rattle.vbi_plan.proofs.plan_check.place_field.Goals as goal

pub returns-in_err-here-clause-none : goal.returns-in_err-here-clause-none
returns-in_err-here-clause-none c = λ e placed.
    let check = c.args.check.now in
    let n = c.in-Some.place.number in
    let plan = plan_of check.plan in
    let shows = shows_here plan check.at c.args.step n check.stretch check.there c.requires.taken c.requires.step
    c.in-Some.ensures.some.1 in
    let here = placed c.args.step n shows in
    c.in_place.ensures.none c.in_err-here.was here.own (counts_if_placed plan check.at c.args.step n
    c.args.last.field c.args.last.rank c.requires.reached here)

pub returns-clause-some : goal.returns-clause-some
returns-clause-some c =
    let check = c.args.check.now in
    let n = c.in-Some.place.number in
    let plan = plan_of check.plan in
    let shows = shows_here plan check.at c.args.step n check.stretch check.there c.requires.taken c.requires.step
    c.in-Some.ensures.some.1 in
    let here = c.in_ok-here.ensures.some in
    went_on plan check.at c.args.step n c.args.last.field c.args.last.rank c.next_last.result.field
    c.next_last.result.rank c.requires.reached shows here.0 here.1
    (λ both. (
      ap (λ one. one.field) (c.next_last.ensures.both both),
      ap (λ one. one.rank) (c.next_last.ensures.both both),
    ))
    (λ other. (
      ap (λ one. one.field) (c.next_last.ensures.others other) ∙ here.2,
      ap (λ one. one.rank) (c.next_last.ensures.others other) ∙ here.3,
    ))
