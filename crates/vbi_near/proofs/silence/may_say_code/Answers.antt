use Rattle.std.proofs.Common.{rules}
use Rattle.vbi_near.proofs.Unsaid.{lead_unsaid_by}
use Rattle.vbi_near.proofs.silence.may_say_code.Goals as goal

pub returns-then-from-limit : goal.returns-then-from-limit
returns-then-from-limit c not =
    lead_unsaid_by c.args.sought.now.sums c.args.number c.close_limit-limit.result _ c.nearest_within-found.result
    c.code_or_none-code.result c.args.terms.now.unit c.args.terms.now.margins.now.code.columns
    c.close_limit-limit.ensures c.nearest_within-found.ensures c.code_or_none-code.ensures (search rules)

pub returns-else-from-limit : goal.returns-else-from-limit
returns-else-from-limit c not =
    lead_unsaid_by c.args.sought.now.sums c.args.number c.close_limit-limit.result _ c.nearest_within-found.result
    c.code_or_none-code.result c.args.terms.now.unit c.args.terms.now.margins.now.code.columns
    c.close_limit-limit.ensures c.nearest_within-found.ensures c.code_or_none-code.ensures (search rules)
