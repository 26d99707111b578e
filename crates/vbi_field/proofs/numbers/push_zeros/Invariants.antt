use Rattle.std.proofs.Common.{◌≡◌, ◌++◌, replicate}
use Rattle.vbi_field.proofs.numbers.push_zeros.Given as goal

abbrev pub invariant-loop : goal.invariant-loop
invariant-loop g l = l.text.bytes ≡ l.fn.text.bytes ++ replicate l.counter 48
