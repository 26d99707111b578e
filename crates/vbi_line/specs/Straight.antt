-- A line that is read cell by cell, from the middle of each to the middle of the next. Only private contracts cite this
-- file.
use Rattle.std.specs.Prelude.{◌≡◌, ◌≢◌, ℕ, ◌+◌, ◌-◌, ◌*◌, ◌<◌, ◌≤◌, ◌⊎◌, Bool, List, length}
use Rattle.vbi_words.specs.declared.system.System.{System}
use Rattle.vbi_words.specs.Geometry.{half_min, half_max}
use Rattle.vbi_words.specs.Levels.{level_at}
use Rattle.vbi_words.proofs.Machine.{second}
use Rattle.vbi_words.proofs.SystemMachine.{next_of, state_at}
use Rattle.vbi_line.specs.Packing.{level_of_bit}

-- from a place on there are exactly count bits with one level
pub record IsBitRun (word place count : ℕ) : Type 0 where
  pub some : 0 < count
  pub each : (i : ℕ) → i < count → level_of_bit word (place + i) ≡ level_of_bit word place
  pub ends : level_of_bit word (place + count) ≢ level_of_bit word place

-- as many columns as a half cell may have
abbrev pub IsHalf : System → ℕ → Type 0
IsHalf system count = (half_min system ≤ count) × (count ≤ half_max system)

-- a run of two half cells
abbrev pub IsOneRun : System → ℕ → ℕ → Type 0
IsOneRun system word columns =
    IsBitRun word 0 columns × (2 * half_min system ≤ columns) × (columns ≤ 2 * half_max system)

-- two runs of one half cell each, the first of which is this long
abbrev pub IsTwoRuns : System → ℕ → ℕ → ℕ → Type 0
IsTwoRuns system word first columns =
    IsBitRun word 0 first × IsHalf system first
    × IsBitRun word first (columns - first) × IsHalf system (columns - first)

-- the word's first bit is the first after the middle of a cell, and after so many comes the middle of the next
abbrev pub ReachesMiddle : System → ℕ → ℕ → Type 0
ReachesMiddle system word columns =
    IsOneRun system word columns ⊎ ((first : ℕ) × (first < columns) × IsTwoRuns system word first columns)

-- a run begins at the column, in the middle of a cell; these are the bits of the cells up to that one
pub record IsMiddle (system : System) (levels : List Bool) (column : ℕ) (bits : List Bool) : Type 0 where
  pub inside : column < length levels
  pub turned : next_of system (state_at system levels column) (level_at levels column)
      ≡ second (level_at levels column) 1 bits
