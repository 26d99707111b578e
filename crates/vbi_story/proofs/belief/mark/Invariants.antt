use Rattle.std.proofs.Common.{◌≡◌, ◌⊎◌, ℕ, ◌<◌, ◌≤◌, length}
use Rattle.vbi_story.specs.Beliefs.{mark_at}
use Rattle.vbi_story.proofs.belief.mark.Given as goal

abbrev pub invariant-loop-place : goal.invariant-loop-place
invariant-loop-place l = record {
  room : length l.marks ≡ length l.fn.marks;
  here : (i : ℕ) → l.fn.begin ≤ i → i < l.place → mark_at l.marks i ≡ l.fn.holds;
  other : (i : ℕ) → (i < l.fn.begin) ⊎ (l.place ≤ i) → mark_at l.marks i ≡ mark_at l.fn.marks i;
}
