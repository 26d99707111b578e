use Rattle.std.proofs.Common.{arith, ap, ◌≡◌, ◌≤◌, ◌*◌}
use Rattle.vbi_story.specs.declared.reading.NumberReading.{NumberReading}
use Rattle.vbi_story.specs.Story.{reading_at}
use Rattle.vbi_story.proofs.Judging.{worth_few, entered_still, judged_more}
use Rattle.vbi_story.proofs.judge.judge_one.Goals as goal

pub overflow_add-values : goal.overflow_add-values
overflow_add-values c =
    let i = c.args.place in
    let weight : c.reading_at-reading.result.weight ≡ (reading_at c.args.readings.now i).weight
    = ap (λ (r : NumberReading). r.weight) c.reading_at-reading.ensures in
    let light = c.requires.readings.light i c.requires.inside in
    let few : c.best_before-before.result.worth ≤ 4 * i
    = worth_few c.args.readings.now c.args.values.now c.args.entered.count c.reading_at-reading.result.row i
    c.best_before-before.result c.requires.count
    (c.best_before-before.ensures.reached c.args.readings.now c.requires.entered) c.requires.judged.few in
    omega arith

pub returns-clause-entered : goal.returns-clause-entered
returns-clause-entered c =
    entered_still c.args.readings.now c.args.values.now c.args.entered.count c.args.place _ c.args.entered.top
    c.args.best_on.now c.requires.count c.requires.entered

pub returns-clause-judged : goal.returns-clause-judged
returns-clause-judged c =
    let i = c.args.place in
    rw c.reading_at-reading.ensures (
    judged_more c.args.readings.now c.args.values.now c.args.origins.now _ c.args.entered.count i
    c.word_of-word.result c.best_before-before.result c.word_of-word.ensures c.requires.readings c.requires.inside
    (omega arith) (omega arith)
    c.requires.count c.requires.earlier c.requires.later
    (rw c.reading_at-reading.ensures at (c.best_before-before.ensures.reached c.args.readings.now c.requires.entered))
    (rw c.reading_at-reading.ensures at (c.best_before-before.ensures.covers c.args.readings.now c.requires.entered))
    c.requires.judged)

pub best_before-before-requires-clause-inside : goal.best_before-before-requires-clause-inside
best_before-before-requires-clause-inside c = λ other k is.
    omega (arith, (c.requires.entered.on_row other k is).0, c.requires.count, c.requires.inside, c.requires.values_are)

pub word_of-word-requires : goal.word_of-word-requires
word_of-word-requires c = λ k is.
    let reached = c.best_before-before.ensures.reached c.args.readings.now c.requires.entered in
    omega (arith, (reached.some k is).0, c.requires.count, c.requires.inside, c.requires.few)
