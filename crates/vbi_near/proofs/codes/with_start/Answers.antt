use Rattle.std.proofs.Common.{ℕ, List, subst}
use Rattle.vbi_near.proofs.Common.{Range, IsSeen, with_ranges, IsLead, code_cost_by}
use Rattle.vbi_near.specs.Prices.{ranges_of}
use Rattle.vbi_near.proofs.codes.with_start.Goals as goal

pub returns-clause-lead : goal.returns-clause-lead
returns-clause-lead c looks is =
    subst (λ (ranges : List Range). IsLead (code_cost_by c.args.sums.now)
    (IsSeen (with_ranges looks c.args.start ranges)) c.with_codes.result) c.codes_on.ensures.codes
    (subst (λ (start : ℕ). IsLead (code_cost_by c.args.sums.now)
    (IsSeen (with_ranges looks start (ranges_of c.codes_on.result.now))) c.with_codes.result) c.at-prices.ensures.start
    (c.with_codes.ensures.lead (code_cost_by c.args.sums.now) looks c.at-prices.ensures.prices is))
