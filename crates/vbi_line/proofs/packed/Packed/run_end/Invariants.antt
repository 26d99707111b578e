use Rattle.vbi_line.proofs.Common.{◌≡◌, ℕ, ◌+◌, ◌-◌, ◌<◌, ◌≤◌, packed_level}
use Rattle.vbi_line.proofs.packed.Packed.run_end.Given as goal

abbrev pub invariant-loop-end : goal.invariant-loop-end
invariant-loop-end l = record {
  from : l.column ≤ l.end;
  each : (i : ℕ) → l.column + i < l.end → packed_level l.self-inside.words (l.column + i) ≡ l.level;
}

abbrev pub decreases-loop-end : goal.decreases-loop-end
decreases-loop-end l = l.self-inside.width - l.end
