-- The nearest words of lines 17 and 18, and what these say.
use Rattle.std.specs.Prelude.{◌≡◌, ℕ, Option}
use Rattle.vbi_near.specs.Candidates.{Line, HasNearIf, given_line, given_pair, levelled_line, levelled_pair, has_swing}
use Rattle.vbi_near.specs.Candidates.{are_alike}
use Rattle.vbi_near.specs.{declared.margins.MarginSet.MarginSet, declared.pair_rule.AskedLines.AskedLines}
use Rattle.vbi_near.specs.{declared.word_rule.PairNears.PairNears, WordRule.said_in, WordRule.stand_of}

-- the nearest words of line 17, of line 18 and of both together, each if there may be such
pub record HaveNear (line other : Line) (asked : AskedLines) (near : PairNears) : Type 0 where
  pub line_17 : HasNearIf (given_line line) asked.second near.second
  pub line_18 : HasNearIf (given_line other) asked.third near.third
  pub pair : HasNearIf (given_pair line other.row) asked.both near.both

-- the nearest words of lines 17 and 18 levelled, each if the line swings as one with a word does, and of both together
-- if they swing alike
pub record HaveLevelled (line other : Line) (near : PairNears) : Type 0 where
  pub line_17 : HasNearIf (levelled_line line) (has_swing line.system line.slicing line.row) near.second
  pub line_18 : HasNearIf (levelled_line other) (has_swing other.system other.slicing other.row) near.third
  pub pair : HasNearIf (levelled_pair line other.row) (are_alike line.system line.slicing line.row other.row) near.both

-- by these nearest words the two lines say these words
abbrev pub SayInPair : MarginSet → ℕ → PairNears → Option ℕ × Option ℕ → Type 0
SayInPair margins unit near said =
    (said.0 ≡ said_in margins (stand_of margins unit near) unit near.second near.both)
    × (said.1 ≡ said_in margins (stand_of margins unit near) unit near.third near.both)
