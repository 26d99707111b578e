use Rattle.std.proofs.Common.{◌≡◌, ℕ, ◌+◌, ◌<◌, ◌≤◌, slice_index, Some, true}
use Rattle.vbi_story.specs.Story.{is_near, near, near_reach}
use Rattle.vbi_story.specs.Working.{place_at, IsNearStep}
use Rattle.vbi_story.proofs.before.better_of_near.Given as goal

abbrev pub invariant-loop-offset : goal.invariant-loop-offset
invariant-loop-offset l = record {
  kept : l.fn.so_far.worth ≤ l.best.worth;
  covers : (other k : ℕ) → is_near other l.row ≡ true → other + near_reach < l.row + l.offset
      → place_at l.best_on other ≡ Some k → slice_index l.values k ≤ l.best.worth + near;
  either : IsNearStep l.values l.best_on l.row l.fn.so_far l.best;
}
