use Rattle.std.proofs.Common.{subst}
use Rattle.vbi_c.specs.Judging.{IsAskedPace}
use Rattle.vbi_side.specs.Numbers.{IsAnswer}
use Rattle.vbi_c.proofs.PartOfReadings.{judged_field}
use Rattle.vbi_c.proofs.judging.answer_of.Goals as goal

pub returns : goal.returns
returns c =
    let judging = c.args.judging.now in
    let field = c.args.field in
    let number = c.judge_one.result in
    let pace = c.pace_for.result in (
      pace,
      judged_field judging c.args.readings.now field number pace
          (subst (λ (s : _). IsAskedPace judging s pace) c.see_all.ensures c.pace_for.ensures)
          (subst (λ (s : _). IsAnswer pace s field number) c.see_all.ensures c.judge_one.ensures),
    )
