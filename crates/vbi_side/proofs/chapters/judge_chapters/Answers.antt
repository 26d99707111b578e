use Rattle.std.proofs.Common.{arith}
use Rattle.std.proofs.lemmas.Option.{slice_get_within}
use Rattle.vbi_side.specs.Chapters.{AreChapters}
use Rattle.vbi_side.proofs.ChapterAnswers.{answers_sound}
use Rattle.vbi_side.proofs.chapters.judge_chapters.Goals as goal

pub returns-clause-sound : goal.returns-clause-sound
returns-clause-sound c =
    let chapters = c.loop-field.chapters in
    let fields = c.args.fields.now in
    let are : AreChapters fields chapters = record {
      count = c.loop-field.invariant.count;
      each = λ i answer at. c.loop-field.invariant.each i answer
          (omega (
            arith,
            slice_get_within chapters i answer at,
            c.loop-field.invariant.count,
            c.loop-field-test.false,
          )) at;
    } in
    answers_sound fields chapters are
