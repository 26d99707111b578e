use Rattle.std.proofs.Common.{arith, ◌≡◌, ap, sym, ◌∙◌}
use Rattle.vbi_story.specs.declared.reading.NumberReading.{NumberReading}
use Rattle.vbi_story.specs.Story.{reading_at}
use Rattle.vbi_story.proofs.Tables.{entered_more}
use Rattle.vbi_story.proofs.table.enter.Goals as goal

pub greater-best-requires-clause-old_in : goal.greater-best-requires-clause-old_in
greater-best-requires-clause-old_in c = λ k is.
    omega (arith, (c.requires.entered.on_row _ k (sym c.place_in-old.ensures ∙ is)).0)

pub returns-clause-entered : goal.returns-clause-entered
returns-clause-entered c =
    let n = c.args.entered.count in
    let row : c.reading_at-row.result.row ≡ (reading_at c.args.readings.now n).row
    = ap (λ (r : NumberReading). r.row) c.reading_at-row.ensures in
    rw row (entered_more c.args.readings.now c.args.values.now n c.args.entered.top c.args.best_on.now
    c.greater-best.result c.word_of-word.result c.greater-top.result c.word_of-word.ensures c.requires.entered
    (c.requires.readings.on_rows n c.requires.inside)
    (rw row at (rw c.place_in-old.ensures at c.greater-best.ensures.either))
    (rw row at (rw c.place_in-old.ensures at c.greater-best.ensures.old))
    c.greater-best.ensures.new c.greater-top.ensures.either c.greater-top.ensures.old c.greater-top.ensures.new)

pub word_of-word-requires : goal.word_of-word-requires
word_of-word-requires c = λ k is.
    let same : c.greater-best.result ≡ k = cc in omega (arith, c.greater-best.ensures.inside)
