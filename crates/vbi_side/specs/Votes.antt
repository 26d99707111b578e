-- A time's minute by vote. A CLV disc has the second and the picture on line 16, hours and minutes on lines 17 and 18.
-- Of a field that shows line 16 alone the minute is the one for which more than half of the weight speaks of those
-- times nearby that go on with its second and picture, whatever their minute, and 4 of it or more: two lines of pass 1.
-- The rule is this project's own.
use Rattle.std.specs.Prelude.{◌≡◌, ℕ, zero, suc, ◌+◌, ◌*◌, ◌/◌, ◌%◌, ◌<◌, ◌≤◌, ◌==◌, nat_le, nat_lt, not, ◌&&◌, ◌⊎◌}
use Rattle.std.specs.Prelude.{Bool, true, if◌then◌else◌, List, length, slice_get, Option, Some, None}
use Rattle.vbi_side.specs.Types.{System, Code, ClvPicture, Shown, Sightings, Video, Clock}
use Rattle.vbi_side.specs.Sightings.{Shows}
use Rattle.vbi_side.specs.Lines.{rate_of, code_in}
use Rattle.vbi_side.specs.Paces.{fits}
use Rattle.vbi_side.specs.Clocks.{left_out, clock_fits}
use Rattle.vbi_side.specs.Beliefs.{field_most, field_weight}
use Rattle.vbi_side.specs.Truth.{is_recorded}

-- the fields on either side of one whose times vote
abbrev pub vote_reach : ℕ
vote_reach = 240

-- field j is field i or within the reach of its votes
abbrev pub IsVoter : ℕ → ℕ → Type 0
IsVoter i j = (i ≤ j + vote_reach) × (j ≤ i + vote_reach)

-- the pictures of a minute
abbrev pub minute_of : System → ℕ
minute_of system = 60 * rate_of system

-- the second and picture of this code of line 16, as pictures from the beginning of their minute
abbrev pub part_from : System → Option Code → Option ℕ
part_from system (Some (ClvPicture seconds picture)) =
    if nat_lt picture (rate_of system) then Some (seconds * rate_of system + picture) else None
part_from system _ = None

-- the second and picture that line 16 shows, as pictures from the beginning of their minute
abbrev pub part_of : System → Shown → Option ℕ
part_of system line_16 = part_from system (code_in line_16)

-- an election: the pictures of a minute, the field in which it is, and the part of a minute that the field shows
pub record Election : Type 0 where
  pub minute : ℕ
  pub field : ℕ
  pub part : ℕ

-- number n of field j votes in the field of the election, which shows a part of a minute: it is within reach, and goes
-- on with the part of some minute
abbrev pub votes : Election → ℕ → ℕ → Bool
votes election j n =
    nat_le election.field (j + vote_reach) && nat_le j (election.field + vote_reach)
    && ((2 * n + election.field) % (2 * election.minute) == (2 * election.part + j) % (2 * election.minute))

-- the weight of the sightings of the first k fields that pass the test, which is told the field and the number
unfoldable pub weight_of_first : (ℕ → ℕ → Bool) → List Sightings → ℕ → ℕ
weight_of_first test fields zero = 0
weight_of_first test fields (suc k) = weight_of_first test fields k + field_weight (test k) (slice_get fields k)

-- the weight of all votes
abbrev pub votes_cast : Election → List Sightings → ℕ
votes_cast election fields = weight_of_first (votes election) fields (length fields)

-- number n of field j votes, and for number m in the election's field
abbrev pub votes_as : Election → ℕ → ℕ → ℕ → Bool
votes_as election m j n = votes election j n && fits Video election.field m j n

-- the weight of the votes for number m there
abbrev pub votes_for : Election → List Sightings → ℕ → ℕ
votes_for election fields m = weight_of_first (votes_as election m) fields (length fields)

-- number m is elected: it has the part of a minute, more than half of the votes, and at least the weight that both
-- lines of one field have in pass 1
pub record IsElected (election : Election) (fields : List Sightings) (m : ℕ) : Type 0 where
  pub part_is : m % election.minute ≡ election.part
  pub majority : votes_cast election fields < 2 * votes_for election fields m
  pub some : field_most ≤ votes_for election fields m

-- ---- the word that this makes

-- the word by which lines 17 and 18 tell this minute, counted from the disc's beginning: the hours, two D's and the
-- minutes, in digits
abbrev pub time_word : ℕ → ℕ
time_word minute = 0xF0DD00 + minute / 60 * 65536 + minute % 60 / 10 * 16 + minute % 60 % 10

-- the election's field, of which no line shows a time, is completed by this word: it tells the minute of number m,
-- which is elected, and has an hour of one digit
pub record IsCompletedBy (election : Election) (fields : List Sightings) (m word : ℕ) : Type 0 where
  pub unseen : (n : ℕ) → Shows (slice_get fields election.field) n → ⊥
  pub elected : IsElected election fields m
  pub early : m / election.minute < 600
  pub word_is : word ≡ time_word (m / election.minute)

-- field i is so completed by some number that is elected with the second and the picture of line 16
abbrev pub IsCompleted : System → Shown → List Sightings → ℕ → ℕ → Type 0
IsCompleted system line_16 fields i word = (part : ℕ) × (m : ℕ) × (part_of system line_16 ≡ Some part)
    × IsCompletedBy (record { minute = minute_of system; field = i; part = part }) fields m word

-- ---- when it is right

-- the disc ran on around field i, where it counts number m: all numbers that it has within reach fit that one
abbrev pub RunsFrom : (ℕ → Option ℕ) → ℕ → ℕ → Type 0
RunsFrom recorded i m = (j n : ℕ) → IsVoter i j → recorded j ≡ Some n → fits Video i m j n ≡ true

-- the disc counted by the clock around field i, where it counts number m: the numbers that it has within reach fit that
-- one by the clock, which leaves out fewer between than a minute has
abbrev pub RunsFromBy : Clock → ℕ → (ℕ → Option ℕ) → ℕ → ℕ → Type 0
RunsFromBy clock minute recorded i m = (j n : ℕ) → IsVoter i j → recorded j ≡ Some n
    → (clock_fits clock i m j n ≡ true) × (left_out clock n < left_out clock m + minute)
    × (left_out clock m < left_out clock n + minute)

-- around the election's field it ran on, or it counted by some clock, and its number m there has the part of a minute
abbrev pub RanAround : (ℕ → Option ℕ) → Election → ℕ → Type 0
RanAround recorded election m = RunsFrom recorded election.field m
    ⊎ ((m % election.minute ≡ election.part)
    × ((clock : Clock) × RunsFromBy clock election.minute recorded election.field m))

-- the weight of the votes that were read rightly
abbrev pub right_votes : (ℕ → Option ℕ) → Election → List Sightings → ℕ
right_votes recorded election fields =
    weight_of_first (λ j n. votes election j n && is_recorded (recorded j) n) fields (length fields)

-- the weight of those that were misread
abbrev pub wrong_votes : (ℕ → Option ℕ) → Election → List Sightings → ℕ
wrong_votes recorded election fields =
    weight_of_first (λ j n. votes election j n && not (is_recorded (recorded j) n)) fields (length fields)

-- around the election's field, where the disc counts number m, it ran on, maybe by a clock, and the wrong votes weigh
-- less than the right ones, or less than a number needs to be elected
pub record IsVotedSoundly (recorded : ℕ → Option ℕ) (election : Election) (fields : List Sightings) (m : ℕ)
    : Type 0 where
  pub runs : RanAround recorded election m
  pub few : (wrong_votes recorded election fields < right_votes recorded election fields)
      ⊎ (wrong_votes recorded election fields < field_most)

-- around the election's field, where the disc counts number m with this part of a minute, it ran on, and the wrong
-- votes weigh less than the right ones, which weigh at least what a number needs
pub record IsVotedRightly (recorded : ℕ → Option ℕ) (election : Election) (fields : List Sightings) (m : ℕ)
    : Type 0 where
  pub runs : RanAround recorded election m
  pub part_is : m % election.minute ≡ election.part
  pub most : wrong_votes recorded election fields < right_votes recorded election fields
  pub some : field_most ≤ right_votes recorded election fields
