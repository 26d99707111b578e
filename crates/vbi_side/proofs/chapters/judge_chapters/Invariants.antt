use Rattle.std.proofs.Common.{◌≡◌, ℕ, ◌<◌, length, Some}
use Rattle.std.specs.Prelude.{slice_get}
use Rattle.vbi_side.specs.Types.{Number}
use Rattle.vbi_side.specs.Chapters.{IsChapter}
use Rattle.vbi_side.proofs.chapters.judge_chapters.Given as goal

abbrev pub invariant-loop-field : goal.invariant-loop-field
invariant-loop-field l = record {
  count : length l.chapters ≡ length l.fields;
  each : (i : ℕ) (answer : Number) → i < l.field → slice_get l.chapters i ≡ Some answer
      → IsChapter l.fields i answer;
}
