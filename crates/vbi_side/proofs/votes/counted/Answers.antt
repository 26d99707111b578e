use Rattle.std.proofs.Common.{sym, arith}
use Rattle.vbi_side.specs.Votes.{votes}
use Rattle.vbi_side.specs.VoteCounts.{election_of, votes_by}
use Rattle.vbi_side.proofs.Voting.{first_next, votes_by_near, none_later, leads_alike}
use Rattle.vbi_side.proofs.votes.counted.Goals as goal

pub loop-other-preserved : goal.loop-other-preserved
loop-other-preserved c =
    let election = election_of c.args.election in
    let fields = c.args.fields.now in
    let other = c.loop-other.other in
    let next = first_next (votes election) fields other (omega arith) in
    record {
      all = omega (arith, c.with_both_lines-count.ensures.all, c.loop-other.invariant.all, next);
      within = c.with_both_lines-count.ensures.within;
      few = omega (arith, c.with_both_lines-count.ensures.few, c.loop-other.invariant.few);
      leads = leads_alike _ _ _ (λ k. sym (first_next (votes_by election k) fields other (omega arith)))
          (c.with_both_lines-count.ensures.leads _ c.loop-other.invariant.leads);
    }

pub returns-clause-leads : goal.returns-clause-leads
returns-clause-leads c =
    let election = election_of c.args.election in
    leads_alike _ _ _ (λ k. none_later (votes_by election k) c.args.fields.now election.field c.min-end.result
    c.loop-other.other (votes_by_near election k) c.min-end.ensures (omega arith)) c.loop-other.invariant.leads
