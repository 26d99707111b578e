use Rattle.std.proofs.Common.{◌≡◌, ◌↔◌, ℕ, ◌-◌, ◌<◌, ◌≤◌, length, true}
use Rattle.vbi_story.specs.Story.{near}
use Rattle.vbi_story.specs.Beliefs.{mark_at, step_to, IsHeavy}
use Rattle.vbi_story.proofs.belief.mark_groups.Given as goal

abbrev pub invariant-loop-place : goal.invariant-loop-place
invariant-loop-place l = record {
  room : length l.marks ≡ length l.told;
  inside : l.place ≤ length l.told;
  begins : l.place < length l.told → 0 < l.place → near < step_to l.told l.place;
  done : (i : ℕ) → i < l.place → (mark_at l.marks i ≡ true ↔ IsHeavy l.told i);
}

abbrev pub decreases-loop-place : goal.decreases-loop-place
decreases-loop-place l = length l.told - l.place
