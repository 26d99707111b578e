-- How an election is counted: for whom a vote is, and who is in the lead.
use Rattle.std.specs.Prelude.{◌≢◌, ℕ, ◌+◌, ◌-◌, ◌*◌, ◌≤◌, ◌==◌, ◌&&◌, Bool}
use Rattle.vbi_side.specs.declared.election.Election as elections
use Rattle.vbi_side.specs.declared.votes.Count.{Count}
use Rattle.vbi_side.specs.Votes.{Election, minute_of, vote_reach, votes}

-- an election that is counted, on a disc of its system
abbrev pub election_of : elections.Election → Election
election_of counted =
    record { minute = minute_of counted.system; field = counted.field; part = counted.part }

-- the key of number n of field j in an election of field i: a number of field i fits it whose double is less by the
-- reach
abbrev pub key_of : ℕ → ℕ → ℕ → ℕ
key_of i j n = 2 * n + (i + vote_reach - j)

-- number n of field j votes, and has this key
abbrev pub votes_by : Election → ℕ → ℕ → ℕ → Bool
votes_by election key j n = votes election j n && (key_of election.field j n == key)

-- if each key has this many votes, no other has half of all than the leading one: it may have as many more than half
-- of all as it is ahead, and another one as many less
pub record Leads (of : ℕ → ℕ) (count : Count) : Type 0 where
  pub leading : 2 * of count.key ≤ count.all + count.ahead
  pub others : (key : ℕ) → key ≢ count.key → 2 * of key + count.ahead ≤ count.all
