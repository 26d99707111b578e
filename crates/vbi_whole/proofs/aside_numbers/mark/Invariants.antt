use Rattle.std.specs.Prelude.{nat_le, ◌&&◌}
use Rattle.vbi_whole.specs.AsideNumbers.{left_of}
use Rattle.vbi_whole.proofs.SetAside.{Changing}
use Rattle.vbi_whole.proofs.aside_numbers.mark.Given as goal

abbrev pub invariant-loop-field : goal.invariant-loop-field
invariant-loop-field l =
    Changing (λ i. left_of (nat_le l.from i && nat_le i l.to)) l.initial.left l.left l.field
