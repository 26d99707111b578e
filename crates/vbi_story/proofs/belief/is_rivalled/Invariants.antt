use Rattle.std.proofs.Common.{ℕ, ◌+◌, ◌<◌, slice_index}
use Rattle.vbi_story.specs.Beliefs.{IsRival, story_margin}
use Rattle.vbi_story.proofs.belief.is_rivalled.Given as goal

abbrev pub invariant-loop-place : goal.invariant-loop-place
invariant-loop-place l = (k : ℕ) → k < l.place → IsRival l.readings l.fn.reading k
    → slice_index l.bounds k + story_margin < l.fn.worth
