use Rattle.std.proofs.Common.{◌≡◌, ◌-◌, drop}
use Rattle.vbi_c.specs.Erased.{are_sorted}
use Rattle.vbi_c.proofs.erased.are_sorted.Given as goal

abbrev pub invariant-loop-i : goal.invariant-loop-i
invariant-loop-i l = are_sorted l.list ≡ are_sorted (drop (l.i - 1) l.list)
