use Rattle.std.proofs.Common.{arith, get_or}
use Rattle.std.proofs.lemmas.Option.{slice_get-get_or}
use Rattle.vbi_side.specs.Numbers.{nothing}
use Rattle.vbi_side.proofs.judging.judge_one.Goals as goal

pub returns : goal.returns
returns c =
    let numbers = c.judge.new.numbers in
    let answers = c.judge.ensures in
    answers.each c.args.field (get_or numbers c.args.field nothing)
    (slice_get-get_or numbers c.args.field nothing (omega (arith, answers.count, c.requires.inside)))
