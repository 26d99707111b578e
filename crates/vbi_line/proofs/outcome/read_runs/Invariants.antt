use Rattle.vbi_line.proofs.Common.{◌≡◌, ◌-◌, ◌<◌, ◌≤◌, length, level_at, level_of, state_at, state_of, IsSound, run_of}
use Rattle.vbi_line.proofs.outcome.read_runs.Given as goal

abbrev pub invariant-loop-column : goal.invariant-loop-column
invariant-loop-column l = record {
  inside : l.column ≤ length l.packed;
  state : state_of l.decoder ≡ state_at l.system l.packed l.column;
  sound : IsSound l.decoder;
  run : run_of l.decoder ≤ l.column;
  level : l.column < length l.packed → l.level ≡ level_at l.packed l.column;
  turns : 0 < l.column → l.column < length l.packed → level_at l.packed l.column ≡ level_of (state_of l.decoder) → ⊥;
}

abbrev pub decreases-loop-column : goal.decreases-loop-column
decreases-loop-column l = length l.packed - l.column
