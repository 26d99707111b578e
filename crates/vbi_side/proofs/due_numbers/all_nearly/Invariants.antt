use Rattle.vbi_side.specs.DueNumbers.{slack_of}
use Rattle.vbi_side.specs.Nearest.{AllPass}
use Rattle.vbi_side.specs.Numbers.{IsMarked}
use Rattle.vbi_side.specs.Paces.{nearly}
use Rattle.vbi_side.proofs.due_numbers.all_nearly.Given as goal

abbrev pub invariant-loop-field : goal.invariant-loop-field
invariant-loop-field l =
    AllPass (IsMarked l.numbers)
    (nearly l.pace (slack_of l.fn.before.field l.fn.after.field) l.here) l.fn.before.field l.field
