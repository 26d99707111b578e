-- How a word is drawn on a row: 48 half cells of one microsecond each (IEC 60857 and IEC 60856), from the start column
-- on; and what the row is read as.
use Rattle.std.specs.Prelude.{◌≡◌, ◌≤◌, ◌<◌, ℕ, ◌+◌, ◌*◌, ◌/◌, ◌%◌, ◌&&◌, nat_le, nat_lt, if◌then◌else◌}
use Rattle.std.specs.Prelude.{Bool, true, false, List, [], ◌∷◌, length, map, slice_index_or, Option, Some, None}
use Rattle.std.specs.List.{flat_map, list_any, range_with_len}
use Rattle.vbi_words.specs.declared.system.System.{System}
use Rattle.vbi_words.specs.declared.system.System.TheVariants.{Ntsc, Pal}
use Rattle.vbi_words.specs.declared.outcome.Outcome.TheVariants.{Word, Blank}
use Rattle.vbi_words.specs.declared.outcome.Reading.{Reading}
use Rattle.vbi_words.specs.Geometry.{width_of, start_of}
use Rattle.vbi_words.specs.Levels.{Slicing}
use Rattle.vbi_words.specs.Words.{halves_of}

-- the column at which half cell j begins, counted from 0: a microsecond is 315/22 samples, or 709379/40000
abbrev pub boundary : System → ℕ → ℕ
boundary Ntsc j = start_of Ntsc + j * 315 / 22
boundary Pal j = start_of Pal + j * 709379 / 40000

-- whether the column lies in half cell j of the word, counted from 0, and that half cell is high
abbrev pub is_drawn_in : System → ℕ → ℕ → ℕ → Bool
is_drawn_in system word column j =
    nat_le (boundary system j) column && nat_lt column (boundary system (j + 1)) && slice_index_or (halves_of word) j
    false

-- whether a column of the drawn word is high
unfoldable pub is_drawn_high : System → ℕ → ℕ → Bool
is_drawn_high system word column = list_any (is_drawn_in system word column) (range_with_len 0 48)

-- the sample drawn at a column: white where the word is high, else black
unfoldable pub drawn_sample_of : System → Slicing → Option ℕ → ℕ → ℕ
drawn_sample_of system slicing None column = slicing.black
drawn_sample_of system slicing (Some word) column =
    if is_drawn_high system word column then slicing.white else slicing.black

-- the samples of the drawn row of a word, or of none
unfoldable pub drawn_row_of : System → Slicing → Option ℕ → List ℕ
drawn_row_of system slicing word = map (drawn_sample_of system slicing word) (range_with_len 0 (width_of system))

-- a sample's two bytes, the low one first
abbrev pub sample_bytes : ℕ → List ℕ
sample_bytes sample = sample % 256 ∷ sample / 256 ∷ []

-- the bytes of the drawn row
unfoldable pub drawn_line_of : System → Slicing → Option ℕ → List ℕ
drawn_line_of system slicing word = flat_map sample_bytes (drawn_row_of system slicing word)

-- ---- as a relation, which `laws::one_drawn_row` shows to hold of the drawn row and of no other

-- the column lies in a half cell of the word that is high
abbrev pub IsDrawnHigh : System → ℕ → ℕ → Type 0
IsDrawnHigh system word column =
    (j : ℕ) × (j < 48) × (boundary system j ≤ column) × (column < boundary system (j + 1))
    × (slice_index_or (halves_of word) j false ≡ true)

-- the sample of a column: white in a high half cell of the word, black elsewhere and where there is no word
abbrev pub IsDrawnSample : System → Slicing → Option ℕ → ℕ → ℕ → Type 0
IsDrawnSample system slicing None column sample = sample ≡ slicing.black
IsDrawnSample system slicing (Some word) column sample =
    (IsDrawnHigh system word column → sample ≡ slicing.white)
    × ((IsDrawnHigh system word column → ⊥) → sample ≡ slicing.black)

-- the samples are a row, each of them that of its column
pub record IsDrawnRow (system : System) (slicing : Slicing) (word : Option ℕ) (samples : List ℕ) : Type 0 where
  pub whole : length samples ≡ width_of system
  pub each : (column : ℕ) → column < width_of system
      → IsDrawnSample system slicing word column (slice_index_or samples column 0)

-- ---- readings

-- what the drawn row is read as: the word in the first pass, or blank if there is none
abbrev pub drawn_reading : Option ℕ → Reading
drawn_reading None = record { outcome = Blank; pass = 0 }
drawn_reading (Some word) = record { outcome = Word word; pass = 1 }
