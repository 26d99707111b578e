use Rattle.std.proofs.Common.{ℕ, ◌-◌, ◌<◌, ◌≤◌, length}
use Rattle.vbi_story.specs.Story.{reading_at}
use Rattle.vbi_story.proofs.belief.first_of_field.Given as goal

abbrev pub invariant-loop-place : goal.invariant-loop-place
invariant-loop-place l = record {
  inside : l.place ≤ length l.readings;
  earlier : (k : ℕ) → k < l.place → (reading_at l.readings k).field < l.fn.field;
}

abbrev pub decreases-loop-place : goal.decreases-loop-place
decreases-loop-place l = length l.readings - l.place
