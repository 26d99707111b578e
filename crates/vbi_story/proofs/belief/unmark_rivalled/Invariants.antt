use Rattle.std.proofs.Common.{◌≡◌, ◌↔◌, ℕ, ◌<◌, ◌≤◌, length, true}
use Rattle.vbi_story.specs.Story.{reading_at}
use Rattle.vbi_story.specs.Beliefs.{mark_at, IsRivalled}
use Rattle.vbi_story.proofs.belief.unmark_rivalled.Given as goal

abbrev pub invariant-loop-place : goal.invariant-loop-place
invariant-loop-place l = record {
  room : length l.marks ≡ length l.told;
  begin : l.begin ≤ length l.readings;
  earlier : (i k : ℕ) → l.place ≤ i → i < length l.told → k < l.begin
      → (reading_at l.readings k).field < (reading_at l.told i).field;
  done : (i : ℕ) → i < l.place → (mark_at l.marks i ≡ true ↔ ((mark_at l.fn.marks i ≡ true)
      × (IsRivalled l.readings l.bounds l.worth (reading_at l.told i) → ⊥)));
  rest : (i : ℕ) → l.place ≤ i → mark_at l.marks i ≡ mark_at l.fn.marks i;
}
