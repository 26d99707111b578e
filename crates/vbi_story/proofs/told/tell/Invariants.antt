use Rattle.std.proofs.Common.{◌≡◌, ◌≤◌, ◌++◌, length, take, drop}
use Rattle.vbi_story.specs.Story.{picked}
use Rattle.vbi_story.proofs.told.tell.Given as goal

abbrev pub invariant-loop-place : goal.invariant-loop-place
invariant-loop-place l = record {
  room : length l.told ≡ length l.fn.told;
  count : l.count ≤ length l.told;
  whole : take l.count l.told ++ picked (drop l.place l.readings) (drop l.place l.marks) ≡ picked l.readings l.marks;
}
