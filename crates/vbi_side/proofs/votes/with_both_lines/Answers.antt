use Rattle.std.proofs.Common.{arith}
use Rattle.vbi_side.proofs.Voting.{leads_alike}
use Rattle.vbi_side.proofs.votes.with_both_lines.Goals as goal

pub returns-clause-leads : goal.returns-clause-leads
returns-clause-leads c = λ of leads.
    leads_alike _ _ _ (λ k. omega arith)
    (c.with_sighting.ensures.leads _ (c.with_sighting-first.ensures.leads of leads))
