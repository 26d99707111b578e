use Rattle.std.proofs.Common.{get_or}
use Rattle.vbi_near.proofs.Common.{IsChoice}
use Rattle.vbi_near.proofs.codes.choice_of.Given as goal

abbrev pub invariant-loop-value : goal.invariant-loop-value
invariant-loop-value l = IsChoice (λ v. get_or l.costs v 0) l.from l.value l.choice
