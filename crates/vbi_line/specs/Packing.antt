-- Levels packed into words of 64 bits: the level of column k is bit k mod 64 of word k div 64.
use Rattle.std.specs.Prelude.{ℕ, ◌≡◌, ◌≢◌, ◌<◌, ◌≤◌, ◌+◌, ◌/◌, ◌%◌, Bool, false, List, length, map, nat_eq, nat_lt}
use Rattle.std.specs.Prelude.{slice_index}
use Rattle.std.specs.List.{range_with_len}
use Rattle.std.specs.Int.{bit_at}
use Rattle.vbi_words.specs.Levels.{level_at}
use Rattle.vbi_line.specs.declared.packed.Packed.TheInside.{Inside}
use Rattle.vbi_line.specs.Line.{sample_at}

-- the level that a bit of a word stands for
abbrev pub level_of_bit : ℕ → ℕ → Bool
level_of_bit word place = nat_eq (bit_at word place) 1

-- the levels in the lowest bits of a word, the lowest bit first
abbrev pub levels_in : ℕ → ℕ → List Bool
levels_in count word = map (level_of_bit word) (range_with_len 0 count)

-- the level of a column
abbrev pub packed_level : List ℕ → ℕ → Bool
packed_level words column = level_of_bit (slice_index words (column / 64)) (column % 64)

-- the levels of the first columns
abbrev pub unpacked : List ℕ → ℕ → List Bool
unpacked words width = map (packed_level words) (range_with_len 0 width)

-- the levels of the line's columns
abbrev pub packed_levels : Inside → List Bool
packed_levels p = unpacked p.words p.width

-- packed words have room for the longest line, and no bit past the width is set
pub record IsPacked (p : Inside) : Type 0 where
  pub words : length p.words ≡ 18
  pub width : p.width ≤ 1152
  pub rest : (column : ℕ) → p.width ≤ column → column < 1152 → packed_level p.words column ≡ false

-- from the column on there are exactly count levels like this one
pub record IsRun (levels : List Bool) (column : ℕ) (level : Bool) (count : ℕ) : Type 0 where
  pub some : 0 < count
  pub inside : column + count ≤ length levels
  pub each : (i : ℕ) → i < count → level_at levels (column + i) ≡ level
  pub ends : column + count < length levels → level_at levels (column + count) ≢ level

-- count bits of the word from a place on have this level, and the next bit, if there is one, has the other
pub record EqualBits (word place : ℕ) (level : Bool) (count : ℕ) : Type 0 where
  pub inside : place + count ≤ 64
  pub each : (i : ℕ) → i < count → level_of_bit word (place + i) ≡ level
  pub ends : place + count < 64 → level_of_bit word (place + count) ≢ level

-- each of count bits of the word, the lowest first, tells whether the sample is above this one: those of a row's bytes
-- from a column on
abbrev pub TellsAbove : ℕ → List ℕ → ℕ → ℕ → ℕ → Type 0
TellsAbove low bytes column count word =
    (i : ℕ) → i < count → level_of_bit word i ≡ nat_lt low (sample_at bytes (column + i))
