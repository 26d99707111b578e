use Rattle.std.proofs.Common.{◌≡◌, ◌*◌, ◌≤◌}
use Rattle.vbi_side.specs.Votes.{votes, weight_of_first}
use Rattle.vbi_side.specs.VoteCounts.{election_of, votes_by, Leads}
use Rattle.vbi_side.proofs.votes.counted.Given as goal

abbrev pub invariant-loop-other : goal.invariant-loop-other
invariant-loop-other l = record {
  all : l.count.all ≡ weight_of_first (votes (election_of l.election)) l.fields l.other;
  within : l.count.ahead ≤ l.count.all;
  few : l.count.all ≤ 4 * l.other;
  leads : Leads (λ k. weight_of_first (votes_by (election_of l.election) k) l.fields l.other) l.count;
}
