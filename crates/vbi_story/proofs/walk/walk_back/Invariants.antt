use Rattle.std.proofs.Common.{◌≡◌, ℕ, ◌≤◌, List, length, drop}
use Rattle.vbi_story.specs.declared.reading.NumberReading.{NumberReading}
use Rattle.vbi_story.specs.Story.{picked}
use Rattle.vbi_story.specs.Working.{AreJudged, IsWay, value_of}
use Rattle.vbi_story.proofs.walk.walk_back.Given as goal

abbrev pub invariant-loop-place : goal.invariant-loop-place
invariant-loop-place l = record {
  inside : l.place ≤ length l.origins;
  way : (readings : List NumberReading) (values : List ℕ) → length readings ≡ length l.origins
      → AreJudged readings values l.origins (length readings)
      → IsWay readings values (value_of values l.fn.last) l.place l.at
      (picked (drop l.place readings) (drop l.place l.marks));
}

abbrev pub decreases-loop-place : goal.decreases-loop-place
decreases-loop-place l = l.place
