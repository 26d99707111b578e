use Rattle.vbi_side.proofs.Counts.{one_found}
use Rattle.vbi_side.proofs.Filling.{one_answer}
use Rattle.vbi_side.proofs.number_laws.one_of_each.Goals as goal

pub returns-clause-answer : goal.returns-clause-answer
returns-clause-answer c = one_answer

pub returns-clause-pace : goal.returns-clause-pace
returns-clause-pace c = one_found
