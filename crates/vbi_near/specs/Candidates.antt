-- The words that lines may have: those that are nearest to their samples, as they are and levelled.
use Rattle.std.specs.Prelude.{◌≡◌, ℕ, ◌*◌, ◌&&◌, Bool, true, false, nat_le, List, [], ◌∷◌, Option, Some, None, take}
use Rattle.std.specs.Prelude.{drop}
use Rattle.vbi_near.specs.Common.{System, width_of, Slicing, samples_of, Samples, unit_of, known_but}
use Rattle.vbi_near.specs.Nearest.{IsNearest, IsFirst, IsNearestCode, IsFirstCode, far_from}
use Rattle.vbi_near.specs.HalvedSignal.{IsHalved}
use Rattle.vbi_near.specs.LevelledLines.{filled, swing_of, is_swing, levelled, levelled_slicing}
use Rattle.vbi_near.specs.{declared.near.Nears.Nears, LongerSignal.IsLonger, ShorterSignal.IsShorter}

-- ---- nearest words

-- some lines that have one word: their system and their number, the levels on which words are drawn for them, and the
-- samples of each
pub record Lines : Type 0 where
  pub system : System
  pub number : ℕ
  pub slicing : Slicing
  pub samples : List Samples

abbrev pub some_lines : System → ℕ → Slicing → List Samples → Lines
some_lines system number slicing samples =
    record { system = system; number = number; slicing = slicing; samples = samples }

-- the nearest word of some lines, the nearest of the codes that may stand on a line of their number, and how far the
-- lines are from half of each, and from the row of no word
pub record HasNear (of : Lines) (near : Nears) : Type 0 where
  pub nearest : IsNearest of.system of.slicing of.samples near.word
  pub first : IsFirst of.system of.slicing of.samples near.word
  pub longer : IsLonger of.system of.slicing of.samples near.word
  pub shorter : IsShorter of.system of.slicing of.samples near.word
  pub code : IsNearestCode of.system of.number of.slicing of.samples near.code
  pub code_first : IsFirstCode of.system of.number of.slicing of.samples near.code
  pub code_longer : IsLonger of.system of.slicing of.samples near.code
  pub code_shorter : IsShorter of.system of.slicing of.samples near.code
  pub blank : near.blank ≡ far_from of.system of.slicing of.samples None 0
  pub word_halved : IsHalved of.system of.slicing of.samples near.word near.word_halved
  pub code_halved : IsHalved of.system of.slicing of.samples near.code near.code_halved

-- there are nearest words of the lines if they can have them, and else none
abbrev pub HasNearIf : Lines → Bool → Option Nears → Type 0
HasNearIf of can None = can ≡ false
HasNearIf of can (Some near) = (can ≡ true) × HasNear of near

-- ---- a line, as it is and levelled

-- the bytes of a line, and which of its columns are erased
pub record Row : Type 0 where
  pub bytes : List ℕ
  pub erased : List Bool

abbrev pub row_of : List ℕ → List Bool → Row
row_of bytes erased = record { bytes = bytes; erased = erased }

-- the marks of the erased columns of a line, counted from 0, if those of some lines lie one line after the other
abbrev pub marks_at : System → List Bool → ℕ → List Bool
marks_at system marks line = take (width_of system) (drop (width_of system * line) marks)

-- the samples of a line, but those that are erased
abbrev pub given_samples : Row → Samples
given_samples row = known_but row.erased (samples_of row.bytes)

-- all samples of a line, for means: an erased one counts as half way between black and white
abbrev pub filled_samples : Slicing → Row → List ℕ
filled_samples slicing row = filled slicing row.erased (samples_of row.bytes)

-- the samples of the line levelled, but those that are erased
abbrev pub levelled_samples : System → Slicing → Row → Samples
levelled_samples system slicing row = known_but row.erased (levelled system (filled_samples slicing row))

-- the swing of a line
abbrev pub swing_in : System → Slicing → Row → ℕ
swing_in system slicing row = swing_of system (filled_samples slicing row)

-- the line's swing is one of a line with a word: it may be levelled
abbrev pub has_swing : System → Slicing → Row → Bool
has_swing system slicing row = is_swing (unit_of slicing) (swing_in system slicing row)

-- two lines that swing so may be levelled together: neither swings more than twice as much as the other
abbrev pub are_alike_by : ℕ → ℕ → ℕ → Bool
are_alike_by unit swing other =
    is_swing unit swing && is_swing unit other && nat_le swing (2 * other) && nat_le other (2 * swing)

abbrev pub are_alike : System → Slicing → Row → Row → Bool
are_alike system slicing row other =
    are_alike_by (unit_of slicing) (swing_in system slicing row) (swing_in system slicing other)

-- ---- candidates

-- the nearest words of lines levelled, if they can be, and as they are
pub record Candidates : Type 0 where
  pub levelled : Option Nears
  pub given : Nears

abbrev pub candidates : Option Nears → Nears → Candidates
candidates levelled given = record { levelled = levelled; given = given }

-- a line in which a word is sought: its system and its number, its levels, and its bytes with the erased columns
pub record Line : Type 0 where
  pub system : System
  pub number : ℕ
  pub slicing : Slicing
  pub row : Row

abbrev pub line_of : System → ℕ → Slicing → Row → Line
line_of system number slicing row = record { system = system; number = number; slicing = slicing; row = row }

-- the samples of a line levelled, and those of another of its system and levels
abbrev pub levelled_in : Line → Row → Samples
levelled_in line row = levelled_samples line.system line.slicing row

-- one line as it is, and levelled
abbrev pub given_line : Line → Lines
given_line line = some_lines line.system line.number line.slicing (given_samples line.row ∷ [])

abbrev pub levelled_line : Line → Lines
levelled_line line = some_lines line.system line.number levelled_slicing (levelled_in line line.row ∷ [])

-- two lines that have one word, as they are, and levelled: of the system, the number and the levels of the first
abbrev pub given_pair : Line → Row → Lines
given_pair line other =
    some_lines line.system line.number line.slicing (given_samples line.row ∷ given_samples other ∷ [])

abbrev pub levelled_pair : Line → Row → Lines
levelled_pair line other =
    some_lines line.system line.number levelled_slicing (levelled_in line line.row ∷ levelled_in line other ∷ [])

-- the candidates of one line
pub record AreOf (line : Line) (candidates : Candidates) : Type 0 where
  pub levelled : HasNearIf (levelled_line line) (has_swing line.system line.slicing line.row) candidates.levelled
  pub given : HasNear (given_line line) candidates.given

-- the candidates of two lines that have one word
pub record AreOfBoth (line : Line) (other : Row) (candidates : Candidates) : Type 0 where
  pub levelled : HasNearIf (levelled_pair line other) (are_alike line.system line.slicing line.row other)
      candidates.levelled
  pub given : HasNear (given_pair line other) candidates.given
