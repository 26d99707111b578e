use Rattle.std.proofs.Common.{◌≡◌, ℕ, ◌*◌, ◌-◌, ◌<◌, ◌≤◌, length}
use Rattle.vbi_story.specs.Story.{weight}
use Rattle.vbi_story.specs.Beliefs.{part, step_to}
use Rattle.vbi_story.proofs.chain.chain_from.Given as goal

abbrev pub invariant-loop-end : goal.invariant-loop-end
invariant-loop-end l = record {
  some : l.fn.begin < l.end;
  inside : l.end ≤ length l.told;
  steps : (i : ℕ) → l.fn.begin < i → i < l.end → step_to l.told i ≤ l.fn.most;
  weight : l.weight ≡ weight (part l.told l.fn.begin l.end);
  few : l.weight ≤ 4 * l.end;
}

abbrev pub decreases-loop-end : goal.decreases-loop-end
decreases-loop-end l = length l.told - l.end
