use Rattle.std.proofs.Common.{arith}
use Rattle.vbi_seek.proofs.narrowing.narrow_by_spare.Goals as goal

pub returns-clause-silent : goal.returns-clause-silent
returns-clause-silent c = λ none many k n few. c.narrow.ensures.silent none k n (omega (arith, few))
