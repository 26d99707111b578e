use Rattle.std.proofs.Common.{arith}
use Rattle.vbi_seek.proofs.number_search.begin.Goals as goal

pub returns-else-sweep-4-clause-silent : goal.returns-else-sweep-4-clause-silent
returns-else-sweep-4-clause-silent c = λ none part inside k n few.
    c.sweep-else-sweep-4.ensures.silent none part inside k n (omega (arith, few))
