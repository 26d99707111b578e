use Rattle.std.proofs.Common.{◌≡◌, ℕ, ◌+◌, ◌<◌, ◌≤◌, get_or, true, false}
use Rattle.vbi_c.proofs.erased.mark.Given as goal

abbrev pub invariant-loop-column : goal.invariant-loop-column
invariant-loop-column l = record {
  reached : l.end ≤ l.initial.column → l.column ≤ l.initial.column;
  within : (k : ℕ) → l.row + l.initial.column ≤ k → k < l.row + l.column → get_or l.marks k false ≡ true;
  before : (k : ℕ) → k < l.row + l.initial.column → get_or l.marks k false ≡ get_or l.fn.marks k false;
  after : (k : ℕ) → l.row + l.column ≤ k → get_or l.marks k false ≡ get_or l.fn.marks k false;
}
