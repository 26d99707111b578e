use Rattle.std.proofs.Common.{◌<◌, ◌≤◌, ◌++◌, List, length, arith, ap, sym, ◌∙◌, take}
use Rattle.std.proofs.lemmas.List.{length-set}
use Rattle.vbi_story.specs.declared.reading.NumberReading.{NumberReading}
use Rattle.vbi_story.specs.Story.{picked}
use Rattle.vbi_story.proofs.Telling.{picked_not, room_for, whole_more}
use Rattle.vbi_story.proofs.told.tell.Goals as goal
use Rattle.vbi_story.proofs.told.tell.Goals.{then-marks-place, else-marks-place}

pub loop-place-preserved : goal.loop-place-preserved
loop-place-preserved c =
    let readings = c.args.readings.now in
    let marks = c.args.marks.now in
    let i = c.loop-place.place in
    let told = c.loop-place.told in
    let count = c.loop-place.count in
    let was = c.loop-place.invariant in
    let inside : i < length readings = omega arith in
    let marked : i < length marks = omega arith in
    elim c.if-marks-place.branch [
      | then-marks-place w ↦
          let room : length (picked readings marks) ≤ length told = omega (arith, was.room, c.requires.room) in
          let less : count < length told
          = room_for readings marks i inside marked told count was.count was.whole w.if-marks-place.true room in
          let set = length-set told count w.reading_at.result in
          rw (w.told-is, w.count-is) (record {
            room = omega (arith, set, was.room);
            count = omega (arith, set, less);
            whole = rw w.reading_at.ensures
                (whole_more readings marks i inside marked told count was.count was.whole w.if-marks-place.true less);
          })
      | else-marks-place w ↦ rw (w.told-is, w.count-is) (record {
        room = was.room;
        count = was.count;
        whole = ap (λ (xs : List NumberReading). take count told ++ xs)
            (sym (picked_not readings marks i inside marked w.if-marks-place.false)) ∙ was.whole;
      })
    ]
