use Rattle.std.proofs.Common.{◌≡◌, ◌↔◌, ℕ, ◌-◌, ◌<◌, ◌≤◌, length, true}
use Rattle.vbi_story.specs.Beliefs.{mark_at, step_to, IsHeld}
use Rattle.vbi_story.proofs.belief.unmark_runs.Given as goal

abbrev pub invariant-loop-place : goal.invariant-loop-place
invariant-loop-place l = record {
  room : length l.marks ≡ length l.told;
  inside : l.place ≤ length l.told;
  begins : l.place < length l.told → 0 < l.place → 0 < step_to l.told l.place;
  done : (i : ℕ) → i < l.place
      → (mark_at l.marks i ≡ true ↔ ((mark_at l.fn.marks i ≡ true) × IsHeld l.told i));
  rest : (i : ℕ) → l.place ≤ i → mark_at l.marks i ≡ mark_at l.fn.marks i;
}

abbrev pub decreases-loop-place : goal.decreases-loop-place
decreases-loop-place l = length l.told - l.place
