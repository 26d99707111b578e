-- How far some lines are from a drawn row: the sum, over all their samples, of how far each is from the drawn one, or
-- of the most that a sample counts if that is less. So a column counts once at most in each line, whatever a dropout
-- leaves there.
use Rattle.std.specs.Prelude.{◌≡◌, ◌≤◌, ◌<◌, ℕ, suc, ◌+◌, ◌-◌, ◌*◌, ◌/◌, min, Bool, true, false, List, [], ◌∷◌, length}
use Rattle.std.specs.Prelude.{map, slice_index_or, Option, Some, None}
use Rattle.std.specs.{List.All, List.range_with_len, Int.abs_diff}
use Rattle.vbi_words.specs.Levels.{Slicing, samples_of}
use Rattle.vbi_words.specs.{declared.system.System.System, Geometry.width_of, Geometry.line_at}
use Rattle.vbi_near.specs.Pictures.{sample_of}

-- the samples of a line, of which none is known if it is erased
abbrev pub Samples : Type 0
Samples = List (Option ℕ)

-- how far white is from black
abbrev pub unit_of : Slicing → ℕ
unit_of slicing = slicing.white - slicing.black

-- as far as a sample counts at most: seven tenths of how far white is from black, rounded up. So a spike counts for
-- little more than a sample that noise puts half way between them.
unfoldable pub most_of : Slicing → ℕ
most_of slicing = (7 * unit_of slicing + 9) / 10

-- how far a sample is from a drawn one, or `most` if that is less; an erased one is as far from any
abbrev pub off_by : ℕ → Option ℕ → ℕ → ℕ
off_by most None drawn = 0
off_by most (Some sample) drawn = min (abs_diff sample drawn) most

-- how far the samples of a line are from those of a row, in sum, each by `most` at most
unfoldable pub row_distance : ℕ → Samples → List ℕ → ℕ
row_distance most [] row = 0
row_distance most (sample ∷ line) [] = 0
row_distance most (sample ∷ line) (drawn ∷ row) = off_by most sample drawn + row_distance most line row

-- how far the samples of all the lines are from those of a row, in sum
unfoldable pub distance_of : ℕ → List Samples → List ℕ → ℕ
distance_of most [] row = 0
distance_of most (line ∷ lines) row = row_distance most line row + distance_of most lines row

-- samples that are all known
abbrev pub known : List ℕ → Samples
known samples = map Some samples

-- samples but those of the erased columns
abbrev pub known_but : List Bool → List ℕ → Samples
known_but (true ∷ erased) (sample ∷ samples) = None ∷ known_but erased samples
known_but (false ∷ erased) (sample ∷ samples) = Some sample ∷ known_but erased samples
known_but erased samples = []

-- the samples of this many lines, whose bytes lie one line after the other
abbrev pub lines_of : System → List ℕ → ℕ → List Samples
lines_of system bytes count = map (λ i. known (samples_of (line_at system bytes 0 i))) (range_with_len 0 count)

-- ---- by columns

-- two numbers for each column, or sums of them: of how far the samples there are from black, and from white
pub record Shades : Type 0 where
  pub dark : List ℕ
  pub light : List ℕ

abbrev pub shades : List ℕ → List ℕ → Shades
shades dark light = record { dark = dark; light = light }

-- the numbers of each column for the sample of this level
abbrev pub shade : Shades → Bool → List ℕ
shade of true = of.light
shade of false = of.dark

-- how far the lines' samples of a column are from that of this level
unfoldable pub column_cost : Slicing → List Samples → ℕ → Bool → ℕ
column_cost slicing [] column level = 0
column_cost slicing (line ∷ lines) column level =
    off_by (most_of slicing) (slice_index_or line column None) (sample_of slicing level)
    + column_cost slicing lines column level

-- lines of the system, of which `costs` says for each column how far they are from black there, and from white
pub record IsPile (system : System) (slicing : Slicing) (lines : List Samples) (costs : Shades) : Type 0 where
  pub whole : All (λ line. length line ≡ width_of system) lines
  pub exact : (column : ℕ) (level : Bool) → column < width_of system
      → slice_index_or (shade costs level) column 0 ≡ column_cost slicing lines column level

-- in no column more than this many lines can be off, each by 65,535 at most
abbrev pub AreFew : ℕ → List ℕ → Type 0
AreFew lines costs = (column : ℕ) → slice_index_or costs column 0 ≤ 65535 * lines

-- how far the lines are from these levels, of which the first is that of the column, by the columns' costs alone
unfoldable pub distance_from : Shades → ℕ → List Bool → ℕ
distance_from costs column [] = 0
distance_from costs column (level ∷ levels) =
    slice_index_or (shade costs level) column 0 + distance_from costs (suc column) levels
