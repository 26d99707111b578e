use Rattle.std.proofs.Common.{◌≡◌, ◌*◌, ◌≤◌}
use Rattle.vbi_side.specs.Votes.{weight_of_first}
use Rattle.vbi_side.specs.VoteCounts.{election_of, votes_by}
use Rattle.vbi_side.proofs.votes.votes_by.Given as goal

abbrev pub invariant-loop-other : goal.invariant-loop-other
invariant-loop-other l = record {
  value : l.weight ≡ weight_of_first (votes_by (election_of l.election) l.key) l.fields l.other;
  few : l.weight ≤ 4 * l.other;
}
