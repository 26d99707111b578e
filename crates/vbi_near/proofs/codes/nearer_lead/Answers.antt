use Rattle.std.proofs.Common.{cond, eqb, ℕ}
use Rattle.vbi_near.proofs.{Common.IsSeen, Common.at_start, Looks.turned, Looks.merged_is, Looks.lead-by, Looks.next-by}
use Rattle.vbi_near.proofs.codes.nearer_lead.Goals as goal

pub returns-then-comes_first-clause-lead : goal.returns-then-comes_first-clause-lead
returns-then-comes_first-clause-lead c cost looks at words is are =
    let one = c.args.one in
    let other = c.args.other in
    let behind : ℕ = cond (eqb one.word other.word) one.rival one.distance in
    let e = c.ahead.ensures in
    lead-by cost _ _ _ _ _ c.ahead.result
    (merged_is cost (at_start at words) (IsSeen looks) other one are is
    (c.comes_first.ensures.yes c.if-comes_first.true)
    behind (next-by other one)) e.word e.start e.distance e.rival

pub returns-else-comes_first-clause-lead : goal.returns-else-comes_first-clause-lead
returns-else-comes_first-clause-lead c cost looks at words is are =
    let one = c.args.one in
    let other = c.args.other in
    let behind : ℕ = cond (eqb other.word one.word) other.rival other.distance in
    let e = c.ahead-else-comes_first.ensures in
    turned cost (IsSeen looks) (at_start at words) c.ahead-else-comes_first.result
    (lead-by cost _ _ _ _ _ c.ahead-else-comes_first.result
    (merged_is cost (IsSeen looks) (at_start at words) one other is are
    (c.comes_first.ensures.no c.if-comes_first.false) behind (next-by one other)) e.word e.start e.distance e.rival)
